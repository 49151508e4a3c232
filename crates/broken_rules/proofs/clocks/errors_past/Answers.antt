use Rattle.std.proofs.Common.{◌≡◌, true, length, Some, ap, sym, ◌∙◌, rules, arith, w64, of_z, to_z}
use Rattle.std.proofs.Common.{FitsSigned, below_more, option_map}
use Rattle.std.proofs.lemmas.Int.{to_z-of_z}
use Rattle.broken_rules.proofs.FromBelow.{first-below, none-below}
use Rattle.ttp_world.specs.Script.{reading_error}
use Rattle.broken_rules.specs.declared.clocks.PastBound.TheVariants as past
use Rattle.broken_rules.specs.Clocks.{is_past}
use Rattle.broken_rules.proofs.clocks.errors_past.Goals as goal

pub returns-then-is_past : goal.returns-then-is_past
returns-then-is_past c =
    let script = c.args.script.now in
    let slot = c.args.slot in
    let node = c.loop-node.node in
    let fits : FitsSigned w64 c.incidents-sum.result.error = search rules in
    let same : to_z w64 (of_z w64 c.incidents-sum.result.error) ≡ reading_error script node slot =
    to_z-of_z w64 c.incidents-sum.result.error fits ∙ ap (λ i. i.error) c.incidents-sum.ensures.value in
    let passes : is_past c.args.list.now.error (reading_error script node slot) ≡ true = search rules in
    ap (λ sum. Some (past.Errors slot node sum)) same
    ∙ sym (ap (option_map (λ k. past.Errors slot k (reading_error script k slot)))
    (first-below (λ k. is_past c.args.list.now.error (reading_error script k slot)) (length c.args.list.now.slots) node
    (omega arith) c.loop-node.invariant passes))

pub loop-node-preserved : goal.loop-node-preserved
loop-node-preserved c = below_more _ _ c.loop-node.invariant (search rules)

pub returns : goal.returns
returns c =
    let script = c.args.script.now in
    let slot = c.args.slot in
    sym (ap (option_map (λ k. past.Errors slot k (reading_error script k slot)))
    (none-below (λ k. is_past c.args.list.now.error (reading_error script k slot)) (length c.args.list.now.slots)
    (λ k less. c.loop-node.invariant k (omega arith))))
