-- What is kept of a node after one more slot.
use Rattle.std.proofs.Common.{◌≡◌, ℕ, zero, suc, ◌+◌, ◌<◌, Bool, true, false, cond, ◌&&◌, List, [], ◌++◌, length, min}
use Rattle.std.proofs.Common.{ℤ, Option, Some, None, is_some, refl, ap, sym, ◌∙◌, add-one, arith, subst}
use Rattle.std.specs.Option.{option_to_list}
use Rattle.ttp_world.specs.ZerosWorld.{all_zeros, zeros_world}
use Rattle.run_rows.proofs.FromBelow.{next_row, zeros-next}
use Rattle.run_costs.specs.States.{AreShown, state_at}
use Rattle.run_rows.specs.Kept.{kept_next, kept_of, kept_with, notes_counted}
use Rattle.run_rows.specs.declared.row.Kept.{Kept}
use Rattle.ttp_world.proofs.Entries.{new_entry-follows}
use Rattle.ttp_world.proofs.Lists.{IsPlaceOf, IsPlaceOf-next, IsPlaceOf-none}
use Rattle.ttp_world.proofs.Pasts.{past_of-cons}
use Rattle.ttp_world.proofs.Places.{AreOfList, IsOfList, entry_of-of_list, row_after-of_list}
use Rattle.ttp_world.proofs.Slots.{entry_of-row_after}
use Rattle.ttp_world.specs.After.{is_active_entry, limit_after, notes_after, past_after, place_after}
use Rattle.ttp_world.specs.Clock.{begins_round, deviation_noted}
use Rattle.ttp_world.specs.Diary.{History, Place, SlotSurroundings, diary_of, entry_of, may_follow}
use Rattle.ttp_world.specs.Medium.{surroundings_in, surroundings_of}
use Rattle.ttp_world.specs.Medl.{IsValid, plan_at}
use Rattle.ttp_world.specs.Past.{NodePast}
use Rattle.ttp_world.specs.Script.{is_armed, is_on}
use Rattle.ttp_world.specs.World.{chosen_of, frames_in, hearing_in, node_past, slot_after}
use Rattle.ttp_world.specs.declared.medl.Medl.{Medl}
use Rattle.ttp_world.specs.declared.node.Entry.{Entry}
use Rattle.ttp_world.specs.declared.node.Entry.TheVariants as entry
use Rattle.ttp_world.specs.declared.node.NodeState.{NodeState}
use Rattle.ttp_world.specs.declared.script.Script.{Script}

-- The notes.

-- How many notes an entry leaves, by the place and by how many there were.
length-notes : (active begins sync : Bool) (d : Option ℤ) (notes : List ℤ)
    → length (cond active (cond sync (option_to_list d) [] ++ cond begins [] notes) [])
    ≡ cond active (cond (sync && is_some d) 1 0 + cond begins 0 (length notes)) 0
length-notes false begins sync d notes = refl
length-notes true true true (Some z) notes = omega arith
length-notes true true true None notes = omega arith
length-notes true true false d notes = omega arith
length-notes true false true (Some z) notes = omega arith
length-notes true false true None notes = omega arith
length-notes true false false d notes = omega arith

-- of four or more it is known that they are
counted-few : (active begins : Bool) (added m : ℕ)
    → min (cond active (added + cond begins 0 (min m 4)) 0) 4 ≡ min (cond active (added + cond begins 0 m) 0) 4
counted-few false begins added m = refl
counted-few true true added m = refl
counted-few true false added m = omega arith

-- One more entry.

-- what is kept, where so many notes are few
abbrev kept_with_few : Place → ℕ → ℕ → Kept
kept_with_few place notes limit = record (kept_with place 0 limit) { notes = notes }

pub kept_of-after : (list : Medl) (k : ℕ) (past : NodePast) (e : Entry) (s : SlotSurroundings)
    → kept_of (past_after list k past e s) ≡ kept_next list k (kept_of past) e
kept_of-after list k past e s =
    let place : Place = place_after list k past.place e in
    let active : Bool = is_active_entry e in
    let begins : Bool = begins_round place e in
    let sync : Bool = (plan_at list place.slot).sync in
    let added : ℕ = cond (sync && is_some (deviation_noted e)) 1 0 in
    let many : min (length (notes_after list past.notes place e)) 4
    ≡ min (notes_counted list (min (length past.notes) 4) place e) 4 =
    ap (λ (n : ℕ). min n 4) (length-notes active begins sync (deviation_noted e) past.notes)
    ∙ sym (counted-few active begins added (length past.notes)) in
    ap (λ (n : ℕ). kept_with_few place n (limit_after list k past.limit e)) many

-- the past after one more slot of the run
past-suc : (list : Medl) (script : Script) (slot k : ℕ) → k < length list.slots
    → node_past list script (zeros_world list script (suc slot)) k
    ≡ past_after list k (node_past list script (zeros_world list script slot) k)
    (entry_of (next_row list script slot) k)
    (surroundings_in script (length (zeros_world list script slot)) (next_row list script slot) k)
past-suc list script slot k node =
    let h = zeros_world list script slot in
    let s = slot_after list script h in
    let row = next_row list script slot in
    let follows : may_follow (diary_of h k) (entry_of row k) ≡ true =
    ap (may_follow (diary_of h k)) (entry_of-row_after list script h (all_zeros list) k node)
    ∙ new_entry-follows list k (is_on script k (length h)) (is_armed script k (length h)) (diary_of h k)
    (surroundings_of script h k) (chosen_of (all_zeros list) k) (hearing_in s (frames_in s (all_zeros list)) k) in
    past_of-cons list k (diary_of h k) (surroundings_of script h k) (entry_of row k)
    (surroundings_in script (length h) row k) follows

kept-suc : (list : Medl) (script : Script) (slot k : ℕ) → k < length list.slots
    → kept_of (node_past list script (zeros_world list script (suc slot)) k)
    ≡ kept_next list k (kept_of (node_past list script (zeros_world list script slot) k))
    (entry_of (next_row list script slot) k)
kept-suc list script slot k node =
    ap kept_of (past-suc list script slot k node)
    ∙ kept_of-after list k (node_past list script (zeros_world list script slot) k)
    (entry_of (next_row list script slot) k)
    (surroundings_in script (length (zeros_world list script slot)) (next_row list script slot) k)

pub kept-next : (list : Medl) (script : Script) (slot k : ℕ) → k < length list.slots
    → kept_of (node_past list script (zeros_world list script (slot + 1)) k)
    ≡ kept_next list k (kept_of (node_past list script (zeros_world list script slot) k))
    (entry_of (next_row list script slot) k)
kept-next list script slot k node =
    ap (λ (n : ℕ). kept_of (node_past list script (zeros_world list script n) k)) (add-one slot)
    ∙ kept-suc list script slot k node

-- what is shown of a node's entry is that of the newest row
pub shown-entry : (list : Medl) (script : Script) (slot k : ℕ) (states : List NodeState)
    → AreShown list script (zeros_world list script (slot + 1)) states → k < length list.slots
    → (state_at states k).entry ≡ entry_of (next_row list script slot) k
shown-entry list script slot k states shown node =
    ap (λ (s : NodeState). s.entry) (shown.nodes k node)
    ∙ ap (λ (history : History). (node_past list script history k).entry) (zeros-next list script slot)

-- Places are those of the list.

zeros-of_list : (list : Medl) (script : Script) (slots : ℕ) → IsValid list
    → AreOfList list (zeros_world list script slots)
zeros-of_list list script zero valid = tt
zeros-of_list list script (suc slots) valid =
    let rest = zeros-of_list list script slots valid in
    (row_after-of_list list script (zeros_world list script slots) (all_zeros list) valid rest, rest)

place_after-of_list : (list : Medl) (k : ℕ) (place : Place) (e : Entry) → IsValid list → k < length list.slots
    → IsPlaceOf list place → IsOfList list e
    → IsPlaceOf list (place_after list k place e)
place_after-of_list list k place entry.Started valid node at of =
    record { round = (IsPlaceOf-none list valid).round; slot = node }
place_after-of_list list k place (entry.Joined sender c deviation) valid node at of = of.1
place_after-of_list list k place (entry.Sent message) valid node at of =
    IsPlaceOf-next list place valid at.round at.slot
place_after-of_list list k place (entry.Judged sender v deviation) valid node at of =
    IsPlaceOf-next list place valid at.round at.slot
place_after-of_list list k place _ valid node at of = IsPlaceOf-none list valid

-- that of a node after so many slots
pub place-of_list : (list : Medl) (script : Script) (slots k : ℕ) → IsValid list → k < length list.slots
    → IsPlaceOf list (node_past list script (zeros_world list script slots) k).place
place-of_list list script zero k valid node = IsPlaceOf-none list valid
place-of_list list script (suc slot) k valid node =
    subst (λ (past : NodePast). IsPlaceOf list past.place) (sym (past-suc list script slot k node))
    (place_after-of_list list k (node_past list script (zeros_world list script slot) k).place
    (entry_of (next_row list script slot) k) valid node (place-of_list list script slot k valid node)
    (entry_of-of_list list (next_row list script slot) k
    (row_after-of_list list script (zeros_world list script slot) (all_zeros list) valid
    (zeros-of_list list script slot valid))))

-- The place of a node after one slot more is a place of the list.
pub next-of_list : (list : Medl) (script : Script) (slot k : ℕ) → IsValid list → k < length list.slots
    → IsPlaceOf list
    (place_after list k (node_past list script (zeros_world list script slot) k).place
    (entry_of (next_row list script slot) k))
next-of_list list script slot k valid node =
    place_after-of_list list k (node_past list script (zeros_world list script slot) k).place
    (entry_of (next_row list script slot) k) valid node (place-of_list list script slot k valid node)
    (entry_of-of_list list (next_row list script slot) k
    (row_after-of_list list script (zeros_world list script slot) (all_zeros list) valid
    (zeros-of_list list script slot valid)))
