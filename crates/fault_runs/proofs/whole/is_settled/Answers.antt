use Rattle.fault_runs.proofs.Words.{◌+◌, true, ap, sym, ◌∙◌, arith, length}
use Rattle.ttp_base.proofs.NodeSets.{has_node-sieve}
use Rattle.ttp_base.specs.NodeSet.{has_node}
use Rattle.std.proofs.lemmas.Bool.{not-true}
use Rattle.fault_runs.proofs.SameRuns.{settled-shown}
use Rattle.fault_runs.proofs.whole.is_settled.Goals as goal

pub returns : goal.returns
returns c = λ script slot seen is.
    let list = c.args.list.now in
    let shown = c.states.ensures script (slot + 1) seen (omega arith) in
    settled-shown list script slot c.states.result.now shown
    (sym c.has_leave.ensures ∙ c.if-has_leave.false)
    (sym (c.are_split.ensures script (slot + 1) (λ k. true) seen (omega arith)
    (λ k node. ap (λ s. has_node s k) c.everyone.ensures ∙ has_node-sieve (λ _. true) (length list.slots) k node))
    ∙ not-true c.are_split.result is)

pub are_split-requires-clause-run : goal.are_split-requires-clause-run
are_split-requires-clause-run c =
    let run = c.requires.run in
    (run.0, run.1 + 1, run.2, omega arith)
