use Rattle.std.proofs.Common.{pos, ◌<ℤ◌, Option, Bool, cond, Some, None, ap}
use Rattle.std.proofs.Common.{sym, subst, ◌∙◌, ◌≡◌, rules, w64, to_z, of_z}
use Rattle.std.proofs.lemmas.Int.{to_z-of_z}
use Rattle.std.specs.Prelude.{IfSome, filter}
use Rattle.clock_margins.specs.declared.margin.Between.{Between}
use Rattle.clock_margins.specs.Sums.{behind, before, costly, least_to_greatest, lies_below_0, lies_above_0}
use Rattle.margin_text.proofs.Signs.{all-below, all-above}
use Rattle.margin_text.proofs.fold.SweepFold.free.Goals as goal

pub least_free-requires-clause-below : goal.least_free-requires-clause-below
least_free-requires-clause-below c =
    let tolds = c.requires.fold.0 in
    subst (λ (o : Option Between). IfSome o (λ b. b.greatest <ℤ pos 0)) (sym c.requires.fold.1.costs_below)
    (all-below (costly c.args.self.now.node tolds))

pub greatest_free-requires-clause-above : goal.greatest_free-requires-clause-above
greatest_free-requires-clause-above c =
    let tolds = c.requires.fold.0 in
    subst (λ (o : Option Between). IfSome o (λ b. pos 0 <ℤ b.least)) (sym c.requires.fold.1.costs_above)
    (all-above (costly c.args.self.now.node tolds))

pub returns : goal.returns
returns c = λ tolds fold.
    let reach = c.args.reach in
    let least : to_z w64 (of_z w64 c.least_free.result) ≡ c.least_free.result = search (rules, to_z-of_z) in
    let greatest : to_z w64 (of_z w64 c.greatest_free.result) ≡ c.greatest_free.result = search (rules, to_z-of_z) in
    (λ i. Some (record {
      least = (least ∙ c.least_free.ensures ∙ ap (behind reach) fold.costs_below) i;
      greatest = (greatest ∙ c.greatest_free.ensures ∙ ap (before reach) fold.costs_above) i;
    }))
    ∙ ap (λ (b : Bool). cond b None (Some (record {
      least = behind reach (least_to_greatest (filter lies_below_0 (costly c.args.self.now.node tolds)));
      greatest = before reach (least_to_greatest (filter lies_above_0 (costly c.args.self.now.node tolds)));
    }))) (sym c.if-self.false ∙ fold.zero_costs)
