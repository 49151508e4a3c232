use Rattle.safety_laws.proofs.Words.{refl, ◌∷◌, [], cold_start_cstate}
use Rattle.safety_laws.proofs.Hearing.{heard-uncovered, heard-covered, HearsFrame-kept}
use Rattle.safety_laws.proofs.Joins.{joinable-cold_start, listening_entry-joins}
use Rattle.safety_laws.proofs.Senders.{frames_in-none, frames_in-one}
use Rattle.safety_laws.proofs.slots.hearing.Goals as goal

pub returns-clause-none_sends : goal.returns-clause-none_sends
returns-clause-none_sends c = frames_in-none

pub returns-clause-one_sends : goal.returns-clause-one_sends
returns-clause-one_sends c = frames_in-one

pub returns-clause-kept : goal.returns-clause-kept
returns-clause-kept c = λ s sent r unflipped kept. HearsFrame-kept s (sent ∷ []) sent r refl unflipped kept

pub returns-clause-joins : goal.returns-clause-joins
returns-clause-joins c = λ list h p valid node may heard.
    listening_entry-joins list h _ (cold_start_cstate p) heard (joinable-cold_start list p valid node may)

pub returns-clause-uncovered : goal.returns-clause-uncovered
returns-clause-uncovered c = heard-uncovered

pub returns-clause-covered : goal.returns-clause-covered
returns-clause-covered c = heard-covered
