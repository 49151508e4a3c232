-- What a slot makes of the faulty nodes is told by any set that has the same nodes.
use Rattle.hypothesis.proofs.Words.{◌≡◌, ℕ, ◌+◌, ◌<◌, ◌≤◌, not, ◌&&◌, List, [], ◌∷◌, ◌++◌, length, refl, ap, sym, ◌∙◌}
use Rattle.hypothesis.proofs.Words.{arith, ◌≢◌, zero, suc, ◌-◌, ◌%◌, get_or, set, subst, inl, inr, ◌==◌, map, nat_lt}
use Rattle.hypothesis.proofs.Words.{if◌then◌else◌, length-append, length-set, get_or-set_same, get_or-set_other}
use Rattle.hypothesis.proofs.Words.{length-range_with_len, most_nodes, has_node, below, same_sieve, Medl, Script}
use Rattle.hypothesis.proofs.Words.{ClusterStart, FaultyNode, Harmless, numbers_of, nodes_made, is_other, others_in}
use Rattle.hypothesis.proofs.Words.{loss_in, expected_sender, jumps_now, jumpers_in, is_steady, is_on, is_ever_on}
use Rattle.hypothesis.proofs.Words.{has_jump, is_armed, HaveSameNodes, back_course, AreFaultsIn, cases_eq, slots_before}
use Rattle.hypothesis.proofs.Words.{faulty_since, faulty_then, faulty_at, four_rounds, AreNewest}
use Rattle.std.proofs.Common.{filter}
use Rattle.std.specs.List.{filter}
use Rattle.std.proofs.lemmas.List.{append_assoc}
use Rattle.ttp_world.specs.Hypothesis.{Loss}
use Rattle.ttp_world.specs.Hypothesis.{faulty_nodes_in, sender_loss}
use Rattle.ttp_world.specs.Medl.{plan_at}
use Rattle.hypothesis.specs.Walks.{made_in, AreFaultsOf}
use Rattle.ttp_world.proofs.WorldFacts.{has_node-append}
use Rattle.ttp_world.proofs.ListFacts.{few-left as few_left}
use Rattle.ttp_world.specs.Returning.{no_slot}
use Rattle.hypothesis.specs.declared.newest.FaultySlot.{FaultySlot}
use Rattle.hypothesis.specs.declared.newest.NewestSlots.{NewestSlots}
use Rattle.hypothesis.specs.declared.walk.SlotFaults.{SlotFaults}
use Rattle.hypothesis.specs.FaultySlots.{kept_slots, IsFaultySlot}

pub same_jumpers : (list : Medl) (script : Script) (s t : List ℕ) (slot : ℕ) → length list.slots ≤ most_nodes
    → HaveSameNodes s t → jumpers_in list script s slot ≡ jumpers_in list script t slot
same_jumpers list script s t slot few same =
    same_sieve (jumps_now script s slot) (jumps_now script t slot) (length list.slots)
    (λ j less. ap (λ b. is_on script j slot && (not b && has_jump script j slot)) (same j (omega arith)))

same_others : (list : Medl) (script : Script) (s t : List ℕ) (sender slot : ℕ) → length list.slots ≤ most_nodes
    → HaveSameNodes s t → others_in list script s sender slot ≡ others_in list script t sender slot
same_others list script s t sender slot few same =
    same_sieve (is_other script s sender slot) (is_other script t sender slot) (length list.slots)
    (λ j less. ap (λ b. is_on script j slot && (not b && not (j == sender))) (same j (omega arith)))

same_sender_loss : (list : Medl) (script : Script) (s t : List ℕ) (slot sender : ℕ) → length list.slots ≤ most_nodes
    → sender < most_nodes → HaveSameNodes s t
    → sender_loss list script s slot sender ≡ sender_loss list script t slot sender
same_sender_loss list script s t slot sender few small same =
    rw (same sender small, same_others list script s t sender slot few same) refl

same-append : (s t xs ys : List ℕ) → s ≡ t → HaveSameNodes xs ys → HaveSameNodes (s ++ xs) (t ++ ys)
same-append s t xs ys is same k small = rw (has_node-append s xs k, has_node-append t ys k, is, same k small) refl

numbers-of_slot : (slot : ℕ) (ks : List ℕ) (faulty : List FaultyNode)
    → numbers_of (map (λ k. record { slot = slot; node = k }) ks ++ faulty) ≡ ks ++ numbers_of faulty
numbers-of_slot slot [] faulty = refl
numbers-of_slot slot (k ∷ ks) faulty = ap (λ rest. k ∷ rest) (numbers-of_slot slot ks faulty)

-- those of a slot come before the others
numbers-next : (list : Medl) (script : Script) (start : ClusterStart) (slot : ℕ) (faulty : List FaultyNode)
    → numbers_of (faulty_nodes_in list script start slot faulty ++ faulty)
    ≡ (nodes_made (loss_in list script start (numbers_of faulty) slot)
    ++ jumpers_in list script (numbers_of faulty) slot) ++ numbers_of faulty
numbers-next list script start slot faulty =
    numbers-of_slot slot (nodes_made (loss_in list script start (numbers_of faulty) slot)
    ++ jumpers_in list script (numbers_of faulty) slot) faulty

-- the faulty nodes once their clocks have jumped
pub fallen-same : (list : Medl) (script : Script) (s t jumpers fallen : List ℕ) (slot : ℕ)
    → length list.slots ≤ most_nodes → HaveSameNodes s t → jumpers ≡ jumpers_in list script s slot
    → HaveSameNodes fallen (jumpers ++ s) → HaveSameNodes fallen (jumpers_in list script t slot ++ t)
fallen-same list script s t jumpers fallen slot few same is fell k small =
    fell k small ∙ same-append jumpers (jumpers_in list script t slot) s t
    (is ∙ same_jumpers list script s t slot few same) same k small

pub same_loss : (list : Medl) (script : Script) (start : ClusterStart) (t fallen : List ℕ) (slot : ℕ)
    → length list.slots ≤ most_nodes
    → expected_sender list start slot < most_nodes → HaveSameNodes fallen (jumpers_in list script t slot ++ t)
    → (if nat_lt slot start.slot then Harmless
    else sender_loss list script fallen slot (expected_sender list start slot)) ≡ loss_in list script start t slot
same_loss list script start t fallen slot few small same =
    rw (same_sender_loss list script fallen (jumpers_in list script t slot ++ t) slot
    (expected_sender list start slot) few small same) refl

pub faulty-next : (list : Medl) (script : Script) (start : ClusterStart) (slot : ℕ) (faulty : List FaultyNode)
    (made fallen all : List ℕ) → made ≡ nodes_made (loss_in list script start (numbers_of faulty) slot)
    → HaveSameNodes fallen (jumpers_in list script (numbers_of faulty) slot ++ numbers_of faulty)
    → HaveSameNodes all (made ++ fallen)
    → HaveSameNodes all (numbers_of (faulty_nodes_in list script start slot faulty ++ faulty))
faulty-next list script start slot faulty made fallen all is fell union k small =
    let M = nodes_made (loss_in list script start (numbers_of faulty) slot) in
    let J = jumpers_in list script (numbers_of faulty) slot in
    union k small ∙ same-append made M fallen (J ++ numbers_of faulty) is fell k small
    ∙ ap (λ members. has_node members k)
    (sym (append_assoc M J (numbers_of faulty)) ∙ sym (numbers-next list script start slot faulty))

pub count-next : (list : Medl) (script : Script) (start : ClusterStart) (slot : ℕ) (faulty : List FaultyNode)
    (made jumpers : List ℕ) → made ≡ nodes_made (loss_in list script start (numbers_of faulty) slot)
    → jumpers ≡ jumpers_in list script (numbers_of faulty) slot
    → length made + length jumpers ≡ length (made_in list script start slot faulty)
count-next list script start slot faulty made jumpers is jump =
    rw (is, jump) (sym (length-append (nodes_made (loss_in list script start (numbers_of faulty) slot)) _))

few_made : (loss : Loss) → length (nodes_made loss) ≤ 1
few_made Harmless = omega arith
few_made _ = omega arith

pub count-fits : (list : Medl) (script : Script) (s made jumpers : List ℕ) (slot : ℕ) (loss : Loss)
    → length list.slots ≤ most_nodes → made ≡ nodes_made loss
    → jumpers ≡ jumpers_in list script s slot → length made + length jumpers ≤ 25
count-fits list script s made jumpers slot loss few is jump =
    let one : length made ≤ 1 = rw is (few_made loss) in
    let left = few_left (jumps_now script s slot) (below (length list.slots)) in
    let size = length-range_with_len 0 (length list.slots) in
    let others : length jumpers ≤ 24 = rw jump (omega (arith, left, size)) in
    omega arith

-- as many nodes to measure
pub same_steady : (list : Medl) (script : Script) (s t : List ℕ) → length list.slots ≤ most_nodes → HaveSameNodes s t
    → filter (is_steady list script s) (below (length list.slots))
    ≡ filter (is_steady list script t) (below (length list.slots))
same_steady list script s t few same =
    same_sieve (is_steady list script s) (is_steady list script t) (length list.slots)
    (λ j less. ap (λ b. (plan_at list j).sync && (is_ever_on script j && not b)) (same j (omega arith)))

-- The slots of a run in which nodes come back, the newest first.

-- a slot that has come
pub slots_before-at : (list : Medl) (script : Script) (start : ClusterStart) (slot i t : ℕ) → suc (t + i) ≡ slot
    → (get_or (slots_before list script start slot) i no_slot).stayed ≡ faulty_at list script start t
slots_before-at list script start zero i t is = absurd (omega arith)
slots_before-at list script start (suc slot) zero t is =
    let same : slot ≡ t = omega arith in
    ap (faulty_at list script start) same
slots_before-at list script start (suc slot) (suc i) t is = slots_before-at list script start slot i t (omega arith)

-- one slot more is kept
pub newest-more : (list : Medl) (script : Script) (start : ClusterStart) (newest next : NewestSlots) (s : FaultySlot)
    → AreNewest list script start newest → IsFaultySlot list script start newest.end s → next.end ≡ newest.end + 1
    → next.slots ≡ set newest.slots (newest.end % kept_slots) s → AreNewest list script start next
newest-more list script start newest next s are is end slots =
    record {
      room = ap length slots ∙ length-set newest.slots (newest.end % kept_slots) s ∙ are.room;
      told = λ t nothing less near. elim (cases_eq t newest.end) [
        | inl same ↦
            let place : newest.end % kept_slots < length newest.slots = omega (arith, are.room) in
            rw (same, slots, get_or-set_same newest.slots (newest.end % kept_slots) s nothing place) is
        | inr other ↦
            let apart : t % kept_slots ≢ newest.end % kept_slots = λ same. omega (arith, same, other) in
            rw (slots, get_or-set_other newest.slots (newest.end % kept_slots) (t % kept_slots) s nothing apart)
            (are.told t nothing (omega (arith, end, other)) (omega (arith, end)))
      ];
    }

-- those that stayed are faulty at the beginning of the slot
pub stayed-at : (list : Medl) (script : Script) (start : ClusterStart) (slot then_slot : ℕ) (stayed : List ℕ)
    → then_slot ≡ slot - four_rounds list → HaveSameNodes stayed (numbers_of (filter (λ (f : FaultyNode).
    not (has_node (faulty_then list (slots_before list script start slot)) f.node && is_armed script f.node then_slot))
    (faulty_since (slots_before list script start slot))))
    → HaveSameNodes stayed (numbers_of (faulty_at list script start slot))
stayed-at list script start slot then_slot stayed is same =
    let before = slots_before list script start slot in
    subst (λ t. HaveSameNodes stayed (numbers_of (filter (λ (f : FaultyNode).
    not (has_node (faulty_then list before) f.node && is_armed script f.node t)) (faulty_since before)))) is same

-- and what the slot makes of them is what it does in the course of the run
pub back-faults : (list : Medl) (script : Script) (start : ClusterStart) (slot : ℕ) (faults : SlotFaults)
    → AreFaultsIn list script start slot (faulty_at list script start slot) faults
    → AreFaultsOf (back_course list script start) slot faults
back-faults list script start slot faults made =
    let next : slot + 1 ≡ suc slot = omega arith in
    record {
      faulty = subst (λ t. HaveSameNodes faults.faulty
          (numbers_of (faulty_since (slots_before list script start t)))) (sym next) made.faulty;
      count = made.count;
      breaks = made.breaks;
    }
