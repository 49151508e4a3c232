use Rattle.safety_laws.proofs.Words.{◌∙◌}
use Rattle.safety_laws.proofs.Listening.{listens-armed, listens-early, left-world, around-silent, silence-silent}
use Rattle.safety_laws.proofs.Listening.{frame-silent, frames_made-listening, waited-none, waited-passing, joined-place}
use Rattle.safety_laws.proofs.OneSender.{place-alone, no_place-alone}
use Rattle.safety_laws.proofs.slots.listening.Goals as goal

pub returns-clause-armed : goal.returns-clause-armed
returns-clause-armed c = listens-armed

pub returns-clause-early : goal.returns-clause-early
returns-clause-early c = listens-early

pub returns-clause-left : goal.returns-clause-left
returns-clause-left c = left-world

pub returns-clause-quiet : goal.returns-clause-quiet
returns-clause-quiet c = frames_made-listening

pub returns-clause-waits : goal.returns-clause-waits
returns-clause-waits c = waited-none

pub returns-clause-passes : goal.returns-clause-passes
returns-clause-passes c = waited-passing

pub returns-clause-silence : goal.returns-clause-silence
returns-clause-silence c = λ list script history chosen k silent.
    around-silent list script history chosen k ∙ silence-silent _ silent

pub returns-clause-frame : goal.returns-clause-frame
returns-clause-frame c = λ list script history chosen k sent hears.
    around-silent list script history chosen k ∙ frame-silent _ sent hears

pub returns-clause-joins : goal.returns-clause-joins
returns-clause-joins c = joined-place

pub returns-clause-place : goal.returns-clause-place
returns-clause-place c = λ list script numbers chosen p r valid sends. place-alone numbers r valid sends

pub returns-clause-no_place : goal.returns-clause-no_place
returns-clause-no_place c = λ list script numbers chosen p r valid sends. no_place-alone numbers r valid sends
