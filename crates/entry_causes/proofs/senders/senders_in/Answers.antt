use Rattle.std.proofs.Common.{◌≡◌, ℕ, ◌<◌, List, length, ap, subst, sym, ◌∙◌, arith}
use Rattle.entry_causes.proofs.Sieves.{sieve-end, sieve-in, sieve-out, sieve-start}
use Rattle.entry_causes.proofs.WhoSends.{senders-slot_in}
use Rattle.entry_causes.specs.Senders.{sends_in}
use Rattle.run_rows.specs.Rows.{run_slot}
use Rattle.run_rows.specs.declared.row.NodeRow.{NodeRow}
use Rattle.std.specs.Prelude.{filter}
use Rattle.ttp_base.specs.NodeSet.{below, with_node}
use Rattle.ttp_world.proofs.WorldFacts.{AreNodes-filter}
use Rattle.ttp_world.specs.Membership.{AreNodes}
use Rattle.ttp_world.proofs.Lists.{nodes-most}
use Rattle.ttp_world.specs.Medium.{is_sending}
use Rattle.ttp_world.specs.declared.medl.Medl.{Medl}
use Rattle.entry_causes.proofs.senders.senders_in.Goals as goal
use Rattle.entry_causes.proofs.senders.senders_in.Goals.{then-is_sending, else-is_sending}

pub loop-node-preserved : goal.loop-node-preserved
loop-node-preserved c =
    let run = c.args.run.now in
    let s = run_slot run c.args.slot in
    let n = length run.list.slots in
    let k = c.loop-node.node in
    let same = ap (λ (l : Medl). length l.slots) c.list.ensures.value in
    let less : k < n = omega (arith, c.loop-node-test.true, c.nodes-node-end.ensures, same) in
    let told : sends_in s k ≡ c.is_sending.result =
    ap (λ (r : NodeRow). is_sending r.entry) (sym c.row.ensures) ∙ sym c.is_sending.ensures in
    elim c.if-is_sending.branch [
      | then-is_sending w ↦
          w.senders-is ∙ w.with-senders.ensures ∙ ap (λ (set : List ℕ). with_node set k) c.loop-node.invariant
          ∙ sieve-in (sends_in s) n k less (nodes-most run.list c.list.ensures.valid) (told ∙ w.if-is_sending.true)
      | else-is_sending w ↦
          w.senders-is ∙ c.loop-node.invariant ∙ sieve-out (sends_in s) n k (told ∙ w.if-is_sending.false)
    ]

pub loop-node-init : goal.loop-node-init
loop-node-init c =
    let run = c.args.run.now in
    c.empty-senders.ensures ∙ sieve-start (sends_in (run_slot run c.args.slot)) (length run.list.slots)

-- those of all nodes
gathered : (c : goal.After-loop-node)
    → c.loop-node.senders ≡ filter (sends_in (run_slot c.args.run.now c.args.slot))
    (below (length c.args.run.now.list.slots))
gathered c =
    let run = c.args.run.now in
    let same = ap (λ (l : Medl). length l.slots) c.list.ensures.value in
    c.loop-node.invariant
    ∙ sieve-end (sends_in (run_slot run c.args.slot)) (length run.list.slots) c.loop-node.node
    (omega (arith, c.loop-node-test.false, c.loop-node.auto.node-end, c.nodes-node-end.ensures, same))

pub returns-clause-value : goal.returns-clause-value
returns-clause-value c =
    let run = c.args.run.now in
    gathered c ∙ senders-slot_in run.list run.script c.args.slot

pub returns-clause-nodes : goal.returns-clause-nodes
returns-clause-nodes c =
    let run = c.args.run.now in
    subst (AreNodes run.list) (sym (gathered c)) (AreNodes-filter run.list (sends_in (run_slot run c.args.slot)))
