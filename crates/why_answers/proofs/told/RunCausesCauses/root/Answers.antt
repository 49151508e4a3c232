use Rattle.std.proofs.Common.{ap, ◌∙◌, arith}
use Rattle.causes.specs.declared.cause.Spot.{Spot}
use Rattle.ttp_world.proofs.ZerosWorlds.{length-zeros_world}
use Rattle.why_answers.proofs.RunSpots.{root-at, root-slot}
use Rattle.why_answers.proofs.told.RunCausesCauses.root.Goals as goal

pub root-requires-clause-before : goal.root-requires-clause-before
root-requires-clause-before c =
    let run = c.args.self.now.run.now in
    omega (arith, c.requires.slot, length-zeros_world run.list run.script run.slots)

pub returns-clause-value : goal.returns-clause-value
returns-clause-value c =
    let run = c.args.self.now.run.now in
    c.root.ensures.value
    ∙ root-at run.list run.script run.slots c.args.slot c.args.node
    (omega (arith, c.requires.slot, length-zeros_world run.list run.script run.slots))

pub returns-clause-within : goal.returns-clause-within
returns-clause-within c =
    let run = c.args.self.now.run.now in
    let slot = ap (λ (s : Spot). s.slot) c.root.ensures.value in (
      omega (arith, c.requires.slot, slot, root-slot run.list run.script c.args.slot c.args.node),
      c.root.ensures.node,
    )
