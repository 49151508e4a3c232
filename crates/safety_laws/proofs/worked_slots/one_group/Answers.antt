use Rattle.safety_laws.proofs.Words.{◌≡◌, ◌≢◌, ◌<◌, ℕ, zero, suc, [], ◌∷◌, length, refl, arith, members_in, with_node}
use Rattle.safety_laws.proofs.Words.{Lacks, frames_made, four_kinds, faultless, first_frame_lost, at}
use Rattle.ttp_world.specs.declared.node.Ack.TheVariants as ack
use Rattle.safety_laws.proofs.FourNodes.{own-at, hears-at}
use Rattle.safety_laws.proofs.Groups.{holds-by}
use Rattle.safety_laws.proofs.worked_slots.one_group.Goals as goal

members-starter : (at faultless 9 0).past.members ≡ 0 ∷ []
unfolding members_in with_node
members-starter = refl

ack-starter : (at faultless 9 0).past.ack ≡ ack.First
unfolding members_in with_node
ack-starter = refl

members-doubting : (at first_frame_lost 11 1).past.members ≡ with_node (0 ∷ 1 ∷ []) 2
unfolding members_in with_node
members-doubting = refl

ack-doubting : (at first_frame_lost 11 1).past.ack ≡ ack.Doubt 2
unfolding members_in with_node
ack-doubting = refl

others : (k : ℕ) → k < length four_kinds.slots → k ≢ 1 → frames_made (at faultless 9 k) ≡ []
unfolding members_in with_node
others zero node other = refl
others (suc zero) node other = absurd (other refl)
others (suc (suc zero)) node other = refl
others (suc (suc (suc zero))) node other = refl
others (suc (suc (suc (suc k)))) node other = absurd (omega arith)

pub returns-clause-sends : goal.returns-clause-sends
unfolding members_in with_node
returns-clause-sends c = record {
  own = own-at faultless 9 1 (0 ∷ []) (omega arith) refl refl refl refl;
  closed = refl;
  accepted = omega arith;
  payload = λ carries. refl;
  unflipped = λ c. refl;
  others = others;
}

pub returns-clause-holds : goal.returns-clause-holds
unfolding members_in with_node
returns-clause-holds c =
    holds-by four_kinds 0 (0 ∷ []) (at faultless 9 0).past ack.First ack-starter refl members-starter
    (λ opened. refl) tt

pub returns-clause-no_answer : goal.returns-clause-no_answer
unfolding members_in with_node
returns-clause-no_answer c =
    Lacks 2 (0 ∷ 2 ∷ []) (hears-at first_frame_lost 10 1 2 (0 ∷ 2 ∷ []) (0 ∷ []) refl refl refl refl refl) refl

pub returns-clause-unacknowledged : goal.returns-clause-unacknowledged
unfolding members_in with_node
returns-clause-unacknowledged c = tt

pub returns-clause-in_doubt : goal.returns-clause-in_doubt
unfolding members_in with_node
returns-clause-in_doubt c =
    holds-by four_kinds 1 (0 ∷ 1 ∷ []) (at first_frame_lost 11 1).past (ack.Doubt 2) ack-doubting refl members-doubting
    (λ opened. refl) refl
