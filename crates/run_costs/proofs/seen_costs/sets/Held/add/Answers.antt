use Rattle.std.proofs.Common.{Bool, true, false, refl, ap, sym, ◌∙◌, ◌||◌, not, ◌≡◌}
use Rattle.std.specs.Str.{bytes_eq}
use Rattle.std.proofs.lemmas.Bool.{false≢true}
use Rattle.run_costs.proofs.Distinct.{held-first, held-next}
use Rattle.run_costs.proofs.seen_costs.sets.Held.add.Goals as goal
use Rattle.run_costs.proofs.seen_costs.sets.Held.add.Goals.{then-self, else-self}

true_either : (a b : Bool) → a ≡ true → a ≡ (a || b)
true_either true b is = refl
true_either false b is = absurd (false≢true is)

pub returns-after-self : goal.returns-after-self
returns-after-self c = λ sets is.
    let other = not (bytes_eq c.in-Some.first c.args.set) in
    let two : c.if-self.self ≡ (c.args.self.now.are_two || other) = elim c.if-self.branch [
      | then-self w ↦ w.self-is ∙ true_either c.args.self.now.are_two other w.if-self.true
      | else-self w ↦ w.self-is ∙ ap not w.are_same.ensures ∙ sym (ap (λ (b : Bool). b || other) w.if-self.false)
    ] in
    held-next c.args.self.now c.in-Some.first c.args.set sets c.if-self.self c.in-Some.is two is

pub returns-in-None : goal.returns-in-None
returns-in-None c = λ sets is. held-first c.args.self.now c.args.set sets c.in-None.is is
