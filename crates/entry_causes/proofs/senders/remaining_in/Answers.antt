use Rattle.std.proofs.Common.{◌≡◌, ℕ, ◌<◌, List, length, ap, subst, sym, ◌∙◌, arith}
use Rattle.entry_causes.proofs.Sieves.{sieve-end, sieve-in, sieve-out, sieve-start}
use Rattle.entry_causes.proofs.WhoSends.{remaining-slot_in}
use Rattle.entry_causes.specs.Senders.{is_left_on}
use Rattle.run_rows.specs.Rows.{run_slot}
use Rattle.std.specs.Prelude.{filter}
use Rattle.ttp_base.specs.NodeSet.{below, with_node}
use Rattle.ttp_world.proofs.WorldFacts.{AreNodes-filter}
use Rattle.ttp_world.specs.Membership.{AreNodes}
use Rattle.ttp_world.proofs.Lists.{nodes-most}
use Rattle.ttp_world.specs.declared.medl.Medl.{Medl}
use Rattle.entry_causes.proofs.senders.remaining_in.Goals as goal
use Rattle.entry_causes.proofs.senders.remaining_in.Goals.{then-is_remaining, else-is_remaining}

pub loop-node-preserved : goal.loop-node-preserved
loop-node-preserved c =
    let run = c.args.run.now in
    let left = is_left_on c.args.channel (run_slot run c.args.slot) in
    let n = length run.list.slots in
    let k = c.loop-node.node in
    let same = ap (λ (l : Medl). length l.slots) c.list.ensures.value in
    let less : k < n = omega (arith, c.loop-node-test.true, c.nodes-node-end.ensures, same) in
    elim c.if-is_remaining.branch [
      | then-is_remaining w ↦
          w.remaining-is ∙ w.with-remaining.ensures ∙ ap (λ (set : List ℕ). with_node set k) c.loop-node.invariant
          ∙ sieve-in left n k less (nodes-most run.list c.list.ensures.valid)
          (sym c.is_remaining.ensures ∙ w.if-is_remaining.true)
      | else-is_remaining w ↦
          w.remaining-is ∙ c.loop-node.invariant
          ∙ sieve-out left n k (sym c.is_remaining.ensures ∙ w.if-is_remaining.false)
    ]

pub loop-node-init : goal.loop-node-init
loop-node-init c =
    let run = c.args.run.now in
    c.empty-remaining.ensures
    ∙ sieve-start (is_left_on c.args.channel (run_slot run c.args.slot)) (length run.list.slots)

-- those of all nodes
gathered : (c : goal.After-loop-node)
    → c.loop-node.remaining ≡ filter (is_left_on c.args.channel (run_slot c.args.run.now c.args.slot))
    (below (length c.args.run.now.list.slots))
gathered c =
    let run = c.args.run.now in
    let same = ap (λ (l : Medl). length l.slots) c.list.ensures.value in
    c.loop-node.invariant
    ∙ sieve-end (is_left_on c.args.channel (run_slot run c.args.slot)) (length run.list.slots) c.loop-node.node
    (omega (arith, c.loop-node-test.false, c.loop-node.auto.node-end, c.nodes-node-end.ensures, same))

pub returns-clause-value : goal.returns-clause-value
returns-clause-value c =
    let run = c.args.run.now in
    gathered c ∙ remaining-slot_in run.list run.script c.args.slot c.args.channel

pub returns-clause-nodes : goal.returns-clause-nodes
returns-clause-nodes c =
    let run = c.args.run.now in
    subst (AreNodes run.list) (sym (gathered c))
    (AreNodes-filter run.list (is_left_on c.args.channel (run_slot run c.args.slot)))
