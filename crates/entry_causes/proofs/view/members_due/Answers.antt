use Rattle.std.proofs.Common.{ap}
use Rattle.ttp_world.specs.Reception.{Candidates}
use Rattle.ttp_world.specs.declared.node.CState.{CState}
use Rattle.entry_causes.proofs.view.members_due.Goals as goal

pub candidates_at-first-requires-clause-place : goal.candidates_at-first-requires-clause-place
candidates_at-first-requires-clause-place c = ap (λ (s : CState). s.slot) c.cstate_in-place.ensures.value

pub returns : goal.returns
returns c = ap (λ (some : Candidates). some.first) c.candidates_at-first.ensures.value
