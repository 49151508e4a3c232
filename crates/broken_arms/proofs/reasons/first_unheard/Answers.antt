use Rattle.std.proofs.Common.{◌≡◌, ◌+◌, ◌-◌, min, inl, inr, ap, sym, ◌∙◌, rules, arith}
use Rattle.std.proofs.lemmas.Bool.{cases_lt}
use Rattle.ttp_world.specs.Returning.{four_rounds}
use Rattle.hypothesis.specs.Standing.{told_start}
use Rattle.broken_arms.specs.Arms.{unheard_in}
use Rattle.broken_arms.proofs.FromBelow.{nothing-found}
use Rattle.broken_arms.proofs.Heard.{all-heard, first-unheard}
use Rattle.broken_arms.proofs.reasons.first_unheard.Goals as goal

pub loop-at-init : goal.loop-at-init
loop-at-init c = record { walk = c.walk_to-walk.ensures; heard = λ t from less. absurd (omega (arith, from, less)) }

pub loop-at-preserved : goal.loop-at-preserved
loop-at-preserved c =
    let list = c.args.list.now in
    let script = c.args.script.now in
    let start = told_start c.args.start in
    let none = sym c.unheard_in-unheard.ensures ∙ nothing-found c.unheard_in-unheard.result (search rules) in
    record {
      walk = c.step_faults-faults.ensures.at;
      heard = λ t from less. elim (cases_lt t c.loop-at.at) [
        | inl before ↦ c.loop-at.invariant.heard t from before
        | inr last ↦
            let same : c.loop-at.at ≡ t = omega (arith, less, last) in
            ap (unheard_in list script start c.args.node) (sym same) ∙ none
      ];
    }

pub returns-then-is_some : goal.returns-then-is_some
returns-then-is_some c =
    let list = c.args.list.now in
    let script = c.args.script.now in
    let start = told_start c.args.start in
    let end : c.end_of-at-end.result ≡ min (c.args.slot + four_rounds list) script.slots = search rules in
    sym (first-unheard list script start c.args.node c.args.slot
    (min (c.args.slot + four_rounds list) script.slots - c.args.slot) c.loop-at.at c.unheard_in-unheard.result
    (omega arith) (omega (arith, end)) c.loop-at.invariant.heard (sym c.unheard_in-unheard.ensures) (search rules))

pub returns : goal.returns
returns c =
    let list = c.args.list.now in
    let script = c.args.script.now in
    let start = told_start c.args.start in
    let end : c.end_of-at-end.result ≡ min (c.args.slot + four_rounds list) script.slots = search rules in
    sym (all-heard list script start c.args.node c.args.slot
    (min (c.args.slot + four_rounds list) script.slots - c.args.slot)
    (λ t from less. c.loop-at.invariant.heard t from (omega (arith, end, from, less))))
