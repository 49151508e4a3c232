-- The members of a node as a slot begins, and the node that it doubts, are nodes of the list.
use Rattle.std.proofs.Common.{◌≡◌, ℕ, zero, suc, ◌<◌, Bool, true, false, cond, [], length, subst, sym, ap, ◌∙◌}
use Rattle.std.specs.Prelude.{filter}
use Rattle.ttp_world.specs.ZerosWorld.{all_zeros, zeros_world}
use Rattle.causes.specs.RunSlots.{entry_in_slot, past_in}
use Rattle.entry_causes.specs.Differences.{IfDoubted}
use Rattle.entry_causes.proofs.FromBelow.{next_row}
use Rattle.run_rows.specs.Rows.{slot_in}
use Rattle.ttp_base.specs.NodeSet.{below}
use Rattle.ttp_world.proofs.Entries.{new_entry-follows}
use Rattle.ttp_world.proofs.Pasts.{past_of-cons}
use Rattle.ttp_world.proofs.Places.{AreOfList, IsOfList, entry_of-of_list, row_after-of_list}
use Rattle.ttp_world.proofs.Slots.{entry_of-row_after, node_of-slot_after}
use Rattle.ttp_world.proofs.WorldFacts.{AreNodes-filter, AreNodes-nil}
use Rattle.ttp_world.specs.After.{ack_after, ack_answered, is_active_entry, past_after}
use Rattle.ttp_world.specs.Diary.{diary_of, entry_of, may_follow}
use Rattle.ttp_world.specs.Medium.{surroundings_in, surroundings_of}
use Rattle.ttp_world.specs.Medl.{IsValid}
use Rattle.ttp_world.specs.Membership.{AreNodes}
use Rattle.ttp_world.specs.Past.{NodePast}
use Rattle.ttp_world.specs.Script.{is_armed, is_on}
use Rattle.ttp_world.specs.World.{BegunNode, chosen_of, frames_in, hearing_in, node_past, slot_after}
use Rattle.ttp_world.specs.declared.medl.Medl.{Medl}
use Rattle.ttp_world.specs.declared.node.Ack.{Ack}
use Rattle.ttp_world.specs.declared.node.Ack.TheVariants as ack
use Rattle.ttp_world.specs.declared.node.Entry.{Entry}
use Rattle.ttp_world.specs.declared.node.Entry.TheVariants as entry
use Rattle.ttp_world.specs.declared.node.Verdict.{Verdict}
use Rattle.ttp_world.specs.declared.node.Verdict.TheVariants as verdict
use Rattle.ttp_world.specs.declared.script.Script.{Script}

-- the past after one more slot of the run
past-suc : (list : Medl) (script : Script) (slot k : ℕ) → k < length list.slots
    → node_past list script (zeros_world list script (suc slot)) k
    ≡ past_after list k (node_past list script (zeros_world list script slot) k)
    (entry_of (next_row list script slot) k)
    (surroundings_in script (length (zeros_world list script slot)) (next_row list script slot) k)
past-suc list script slot k node =
    let h = zeros_world list script slot in
    let s = slot_after list script h in
    let row = next_row list script slot in
    let follows : may_follow (diary_of h k) (entry_of row k) ≡ true =
    ap (may_follow (diary_of h k)) (entry_of-row_after list script h (all_zeros list) k node)
    ∙ new_entry-follows list k (is_on script k (length h)) (is_armed script k (length h)) (diary_of h k)
    (surroundings_of script h k) (chosen_of (all_zeros list) k) (hearing_in s (frames_in s (all_zeros list)) k) in
    past_of-cons list k (diary_of h k) (surroundings_of script h k) (entry_of row k)
    (surroundings_in script (length h) row k) follows

-- Members.

nodes-if : (list : Medl) (active : Bool) (p : ℕ → Bool)
    → AreNodes list (cond active (filter p (below (length list.slots))) [])
nodes-if list true p = AreNodes-filter list p
nodes-if list false p = AreNodes-nil list

members-after : (list : Medl) (script : Script) (slots k : ℕ) → k < length list.slots
    → AreNodes list (node_past list script (zeros_world list script slots) k).members
members-after list script zero k node = AreNodes-nil list
members-after list script (suc slot) k node =
    let before = node_past list script (zeros_world list script slot) k in
    let e = entry_of (next_row list script slot) k in
    subst (λ (past : NodePast). AreNodes list past.members) (sym (past-suc list script slot k node))
    (nodes-if list (is_active_entry e) _)

pub members-in : (list : Medl) (script : Script) (slot k : ℕ) → k < length list.slots
    → AreNodes list (past_in k (slot_in list script slot)).members
unfolding slot_in
members-in list script slot k node =
    subst (λ (n : BegunNode). AreNodes list n.past.members)
    (sym (node_of-slot_after list script (zeros_world list script slot) k node))
    (members-after list script slot k node)

-- Doubts.

answered-doubt : (n : ℕ) (a : Ack) (v : Verdict) (sender : ℕ) → sender < n → IfDoubted a (λ x. x < n)
    → IfDoubted (ack_answered a v sender) (λ x. x < n)
answered-doubt n ack.Closed v sender sends before = tt
answered-doubt n ack.First verdict.Tentative sender sends before = sends
answered-doubt n ack.First _ sender sends before = tt
answered-doubt n (ack.Doubt x) verdict.Correct sender sends before = tt
answered-doubt n (ack.Doubt x) verdict.Tentative sender sends before = sends
answered-doubt n (ack.Doubt x) _ sender sends before = before

doubt-after : (list : Medl) (a : Ack) (e : Entry) → IsOfList list e → IfDoubted a (λ x. x < length list.slots)
    → IfDoubted (ack_after a e) (λ x. x < length list.slots)
doubt-after list a (entry.Judged sender v deviation) of before = answered-doubt (length list.slots) a v sender of before
doubt-after list a _ of before = tt

zeros-of_list : (list : Medl) (script : Script) (slots : ℕ) → IsValid list
    → AreOfList list (zeros_world list script slots)
zeros-of_list list script zero valid = tt
zeros-of_list list script (suc slots) valid =
    let rest = zeros-of_list list script slots valid in
    (row_after-of_list list script (zeros_world list script slots) (all_zeros list) valid rest, rest)

doubt-of_list : (list : Medl) (script : Script) (slots k : ℕ) → IsValid list → k < length list.slots
    → IfDoubted (node_past list script (zeros_world list script slots) k).ack (λ x. x < length list.slots)
doubt-of_list list script zero k valid node = tt
doubt-of_list list script (suc slot) k valid node =
    subst (λ (past : NodePast). IfDoubted past.ack (λ x. x < length list.slots))
    (sym (past-suc list script slot k node))
    (doubt-after list (node_past list script (zeros_world list script slot) k).ack
    (entry_of (next_row list script slot) k)
    (entry_of-of_list list (next_row list script slot) k
    (row_after-of_list list script (zeros_world list script slot) (all_zeros list) valid
    (zeros-of_list list script slot valid)))
    (doubt-of_list list script slot k valid node))

pub doubt-in : (list : Medl) (script : Script) (slot k : ℕ) → IsValid list → k < length list.slots
    → IfDoubted (past_in k (slot_in list script slot)).ack (λ x. x < length list.slots)
unfolding slot_in
doubt-in list script slot k valid node =
    subst (λ (n : BegunNode). IfDoubted n.past.ack (λ x. x < length list.slots))
    (sym (node_of-slot_after list script (zeros_world list script slot) k node))
    (doubt-of_list list script slot k valid node)

-- The node x of an acknowledgement that doubts x is below what is known of any node that is doubted.
pub doubt-of : (a : Ack) (n : ℕ) → IfDoubted a (λ x. x < n) → (x : ℕ) → a ≡ ack.Doubt x → x < n
doubt-of a n is x doubts = subst (λ (b : Ack). IfDoubted b (λ x. x < n)) doubts is

-- Entries speak of nodes of the list.

pub entry-in : (list : Medl) (script : Script) (slot k : ℕ) → IsValid list
    → IsOfList list (entry_in_slot k (slot_in list script slot))
unfolding slot_in
entry-in list script slot k valid =
    entry_of-of_list list (next_row list script slot) k
    (row_after-of_list list script (zeros_world list script slot) (all_zeros list) valid
    (zeros-of_list list script slot valid))
