use Rattle.std.proofs.Common.{ap, ◌∙◌, arith}
use Rattle.ttp_world.proofs.ZerosWorlds.{length-zeros_world}
use Rattle.run_rows.specs.declared.row.NodeRow.{NodeRow}
use Rattle.why_answers.proofs.RunSpots.{entry-at}
use Rattle.why_answers.proofs.told.RunCausesCauses.entry.Goals as goal

pub row-requires-clause-slot : goal.row-requires-clause-slot
row-requires-clause-slot c =
    let run = c.args.self.now.run.now in
    omega (arith, c.requires.slot, length-zeros_world run.list run.script run.slots)

pub returns : goal.returns
returns c =
    let run = c.args.self.now.run.now in
    ap (λ (row : NodeRow). row.entry) c.row.ensures
    ∙ entry-at run.list run.script run.slots c.args.slot c.args.node
    (omega (arith, c.requires.slot, length-zeros_world run.list run.script run.slots))
