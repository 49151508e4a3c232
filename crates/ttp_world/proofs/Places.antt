-- In a history of entries that speak of slots of the list, each node stands in the list's cycle.
use Rattle.ttp_world.proofs.Words.{◌≡◌, ℕ, zero, suc, ◌<◌, ℤ, true, ◌&&◌, List, [], ◌∷◌, length, get_or, Option, Some}
use Rattle.ttp_world.proofs.Words.{None, IfSome, arith, nat_lt, AllByRecursion, and_parts, cond_both, ltb-true, Medl}
use Rattle.ttp_world.proofs.Words.{Chosen, CState, Delivered, Entry, Script, coming_place, is_correct, carries_payload}
use Rattle.ttp_world.proofs.Words.{delivery, Diary, History, entry_of, diary_of, is_active, Place, no_place, next_place}
use Rattle.ttp_world.proofs.Words.{stint_place, joinable, member_width, IsValid, messages_of, delivered_of, NodePast}
use Rattle.ttp_world.proofs.Words.{Hearing, node_past, slot_after, node_of, frames_in, hearing_in, row_in}
use Rattle.ttp_world.specs.declared.node.Entry.TheVariants as entry
use Rattle.ttp_world.specs.Diary.{joined_place, place_of}
use Rattle.ttp_world.specs.Fitting.{is_joinable_state, carried}
use Rattle.ttp_world.proofs.Lists.{IsPlaceOf, IsPlaceOf-none, IsPlaceOf-next}
use Rattle.ttp_world.proofs.Pasts.{elim_both}
use Rattle.ttp_world.proofs.Slots.{length-row_in, entry_of-row_after-holds}

-- Entries that speak of slots of the list.

abbrev pub IsOfList : Medl → Entry → Type 0
IsOfList list (entry.Joined sender c deviation) = (sender < length list.slots) × IsPlaceOf list (joined_place c)
IsOfList list (entry.Judged sender v deviation) = sender < length list.slots
IsOfList list _ = Unit {0}

abbrev pub AreOfList : Medl → History → Type 0
AreOfList list history = AllByRecursion (AllByRecursion (IsOfList list)) history

-- what is so of each item of a list is so of the one at a place, if it is so of the default
get_or-each : {X : Type 0} (P : X → Type 0) (xs : List X) (k : ℕ) (d : X) → P d → AllByRecursion P xs
    → P (get_or xs k d)
get_or-each P [] k d none all = none
get_or-each P (x ∷ xs) zero d none all = all.0
get_or-each P (x ∷ xs) (suc k) d none all = get_or-each P xs k d none all.1

pub entry_of-of_list : (list : Medl) (row : List Entry) (k : ℕ) → AllByRecursion (IsOfList list) row
    → IsOfList list (entry_of row k)
entry_of-of_list list row k all = get_or-each (IsOfList list) row k entry.Off tt all

diary_of-of_list : (list : Medl) (history : History) (k : ℕ) → AreOfList list history
    → AllByRecursion (IsOfList list) (diary_of history k)
diary_of-of_list list [] k all = tt
diary_of-of_list list (row ∷ history) k all =
    (entry_of-of_list list row k all.0, diary_of-of_list list history k all.1)

-- Places.

later : (list : Medl) (place : Place) → IsValid list → IsPlaceOf list place → IsPlaceOf list (next_place list place)
later list place valid at = IsPlaceOf-next list place valid at.round at.slot

stint_place-of_list : (list : Medl) (k : ℕ) (diary : Diary) → IsValid list → k < length list.slots
    → AllByRecursion (IsOfList list) diary
    → IsPlaceOf list (stint_place list k diary)
stint_place-of_list list k [] valid node all = IsPlaceOf-none list valid
stint_place-of_list list k (entry.Started ∷ diary) valid node all =
    record { round = (IsPlaceOf-none list valid).round; slot = node }
stint_place-of_list list k (entry.Joined sender c deviation ∷ diary) valid node all = all.0.1
stint_place-of_list list k (entry.Off ∷ diary) valid node all =
    later list (stint_place list k diary) valid (stint_place-of_list list k diary valid node all.1)
stint_place-of_list list k (entry.Waited ∷ diary) valid node all =
    later list (stint_place list k diary) valid (stint_place-of_list list k diary valid node all.1)
stint_place-of_list list k (entry.Retried ∷ diary) valid node all =
    later list (stint_place list k diary) valid (stint_place-of_list list k diary valid node all.1)
stint_place-of_list list k (entry.Gone ∷ diary) valid node all =
    later list (stint_place list k diary) valid (stint_place-of_list list k diary valid node all.1)
stint_place-of_list list k (entry.Sent message ∷ diary) valid node all =
    later list (stint_place list k diary) valid (stint_place-of_list list k diary valid node all.1)
stint_place-of_list list k (entry.Judged sender v deviation ∷ diary) valid node all =
    later list (stint_place list k diary) valid (stint_place-of_list list k diary valid node all.1)
stint_place-of_list list k (entry.Left why peer ∷ diary) valid node all =
    later list (stint_place list k diary) valid (stint_place-of_list list k diary valid node all.1)

-- the place of the slot that comes, by node k's own C-state
pub coming_place-of_list : (list : Medl) (script : Script) (history : History) (k : ℕ) → IsValid list
    → k < length list.slots → AreOfList list history
    → IsPlaceOf list (coming_place list (node_past list script history k))
coming_place-of_list list script history k valid node all =
    let diary = diary_of history k in
    later list (place_of list k diary) valid
    (elim_both (is_active diary) (stint_place list k diary) no_place (IsPlaceOf list)
    (stint_place-of_list list k diary valid node (diary_of-of_list list history k all)) (IsPlaceOf-none list valid))

-- Joins.

joinable_state-of_list : (list : Medl) (c : CState) → is_joinable_state list c ≡ true
    → IsPlaceOf list (joined_place c)
joinable_state-of_list list c is =
    let round = and_parts (nat_lt c.round list.rounds) _ is in
    let slot = and_parts (nat_lt c.slot (length list.slots)) _ round.1 in
    record { round = ltb-true c.round list.rounds round.0; slot = ltb-true c.slot (length list.slots) slot.0 }

joinable-of_list : (list : Medl) (bytes : List ℕ)
    → IfSome (joinable list bytes) (λ c. (d : ℤ) → IsOfList list (entry.Joined c.slot c d))
joinable-of_list list bytes =
    let c = carried (member_width list) bytes in
    cond_both (is_joinable_state list c && _) (Some c) None
    (λ o. IfSome o (λ c. (d : ℤ) → IsOfList list (entry.Joined c.slot c d)))
    (λ is. λ d. let at = joinable_state-of_list list c (and_parts (is_joinable_state list c) _ is).0 in (at.slot, at))
    (λ other. tt)

-- The slot after such a history has entries that do so too.

pub entry_of-row_after-of_list : (list : Medl) (script : Script) (history : History) (chosen : List Chosen) (k : ℕ)
    → IsValid list → k < length list.slots → AreOfList list history
    → IsOfList list (entry_of (row_in (slot_after list script history) chosen) k)
entry_of-row_after-of_list list script history chosen k valid node all =
    entry_of-row_after-holds (IsOfList list) list script history chosen k node (record {
      off = tt;
      gone = tt;
      waited = tt;
      started = tt;
      retried = tt;
      left = λ why peer. tt;
      sent = λ carries. tt;
      joined = joinable-of_list list;
      judged = λ v d. (coming_place-of_list list script history k valid node all).slot;
    })

each-from_places : {X : Type 0} (P : X → Type 0) (xs : List X) (d : X) → ((k : ℕ) → k < length xs → P (get_or xs k d))
    → AllByRecursion P xs
each-from_places P [] d each = tt
each-from_places P (x ∷ xs) d each =
    (each 0 (omega arith), each-from_places P xs d (λ k less. each (suc k) (omega arith)))

pub row_after-of_list : (list : Medl) (script : Script) (history : History) (chosen : List Chosen) → IsValid list
    → AreOfList list history
    → AllByRecursion (IsOfList list) (row_in (slot_after list script history) chosen)
row_after-of_list list script history chosen valid all =
    let s = slot_after list script history in
    each-from_places (IsOfList list) (row_in s chosen) entry.Off
    (λ k less.
    entry_of-row_after-of_list list script history chosen k valid (omega (arith, length-row_in s chosen)) all)

-- Senders of what is delivered.

abbrev pub IsSentInList : Medl → Option Delivered → Type 0
IsSentInList list delivered = IfSome delivered (λ d. d.sender < length list.slots)

delivery-sender : (list : Medl) (k : ℕ) (past : NodePast) (h : Hearing) (e : Entry) → IsOfList list e
    → IsSentInList list (delivery list k past h e)
delivery-sender list k past h (entry.Judged sender v deviation) of_list =
    cond_both (is_correct v && carries_payload list (coming_place list past)) (Some _) None (IsSentInList list)
    (λ is. of_list) (λ other. tt)
delivery-sender list k past h entry.Off of_list = tt
delivery-sender list k past h e of_list = tt

pub delivered_of-sender : (list : Medl) (script : Script) (history : History) (row : List Entry) (r : ℕ)
    → IsOfList list (entry_of row r)
    → IsSentInList list (delivered_of list script history row r)
delivered_of-sender list script history row r of_list =
    let s = slot_after list script history in
    let frames = frames_in s (messages_of list script (length history) row) in
    delivery-sender list r (node_of s r).past (hearing_in s frames r) (entry_of row r) of_list
