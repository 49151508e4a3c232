use Rattle.safety_laws.proofs.Words.{ℕ, ◌≡◌, ◌≢◌, ◌<◌, false, IsTrue, length, refl, members_in, with_node, loses, is_on}
use Rattle.safety_laws.proofs.Words.{four_kinds, faultless}
use Rattle.safety_laws.proofs.worked_slots.a_start.Goals as goal

kept : (k : ℕ) → k < length four_kinds.slots → k ≢ 0 → IsTrue (is_on faultless k 8) → loses faultless 0 8 k ≡ false
kept k node other on = refl

pub returns-clause-known : goal.returns-clause-known
unfolding members_in with_node
returns-clause-known c = refl

pub returns-clause-heard : goal.returns-clause-heard
unfolding members_in with_node
returns-clause-heard c = record { unflipped = λ c. refl; kept = kept }
