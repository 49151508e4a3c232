-- What one slot more makes of a node's past: it counts one frame more at most, doubts a node of the list, notes only
-- what is within the window, and its clock comes no further from 0 than a slot may take it.
use Rattle.std.proofs.Common.{ℕ, ◌+◌, ◌*◌, ◌^◌, ◌<◌, ◌≤◌, ℤ, pos, neg_ℤ, ◌+ℤ◌, Bool, true, false, cond, List, []}
use Rattle.std.proofs.Common.{◌++◌, Option, Some, None, IfSome, unsigned_abs, arith}
use Rattle.std.specs.Prelude.{All}
use Rattle.std.specs.Option.{option_to_list}
use Rattle.std.proofs.lemmas.Bool.{cond_both}
use Rattle.std.proofs.lemmas.Int.{ints}
use Rattle.std.proofs.lemmas.List.Elements.{All-nil, All-cons, All-append}
use Rattle.ttp_world.specs.declared.medl.Medl.{Medl}
use Rattle.ttp_world.specs.declared.node.Ack.{Ack}
use Rattle.ttp_world.specs.declared.node.Ack.TheVariants as ack
use Rattle.ttp_world.specs.declared.node.Entry.{Entry}
use Rattle.ttp_world.specs.declared.node.Entry.TheVariants as entry
use Rattle.ttp_world.specs.declared.node.Verdict.{Verdict}
use Rattle.ttp_world.specs.declared.node.Verdict.TheVariants as verdict
use Rattle.ttp_world.specs.declared.script.TheConstants.{EVENT_LIMIT, DRIFT_LIMIT, ERROR_LIMIT, JUMP_LIMIT}
use Rattle.ttp_world.specs.Acknowledgement.{is_correct}
use Rattle.ttp_world.specs.After.{is_active_entry, accepted_after, rejected_after, ack_answered, ack_after, notes_after}
use Rattle.ttp_world.specs.After.{correction_after, past_after}
use Rattle.ttp_world.specs.Clock.{deviation_noted, notes_in, begins_round, fta, is_corrected, slot_change}
use Rattle.ttp_world.specs.Counts.{is_rejection}
use Rattle.ttp_world.specs.Diary.{SlotSurroundings, Place, phase_after}
use Rattle.ttp_world.specs.Medl.{plan_at, IsValid}
use Rattle.ttp_world.specs.Past.{NodePast}
use Rattle.ttp_world.specs.Trace.{peer_of}
use Rattle.ttp_world.proofs.Averages.{fta-between}
use Rattle.ttp_world.proofs.Lists.{nodes-most}
use Rattle.ttp_world.proofs.Places.{IsOfList}
use Rattle.theorems.proofs.SmallEntries.{IsNear, IsEntryNear}
use Rattle.ttp_world.proofs.ListFacts.{IfSome-cond as if-noted}

-- A slot takes a clock no further than this, in microticks: its jumps and reading errors are within theirs, and with a
-- drift and a correction they come to less.

abbrev pub slot_reach : ℕ
slot_reach = 2 ^ 38

abbrev pub most_jump : ℕ
most_jump = EVENT_LIMIT * JUMP_LIMIT

abbrev pub most_error : ℕ
most_error = EVENT_LIMIT * ERROR_LIMIT

-- the node that is doubted, if one is, is one of few
abbrev pub IsDoubtSmall : Ack → Type 0
IsDoubtSmall ack.Closed = Unit {0}
IsDoubtSmall ack.First = Unit {0}
IsDoubtSmall (ack.Doubt x) = x < 256

-- a node's past after so many slots
pub record IsSmallPast (list : Medl) (slots : ℕ) (past : NodePast) : Type 0 where
  pub peer : (k : ℕ) → k < 256 → IfSome (peer_of k past.entry) (λ p. p < 256)
  pub accepted : past.accepted ≤ slots
  pub rejected : past.rejected ≤ slots
  pub doubt : IsDoubtSmall past.ack
  pub notes : All (IsNear list) past.notes
  pub offset : unsigned_abs past.offset ≤ slots * slot_reach

-- Peers.

peer-small : (list : Medl) (own : ℤ) (reach k : ℕ) (e : Entry) → IsValid list → k < 256 → IsOfList list e
    → IsEntryNear list own reach e
    → IfSome (peer_of k e) (λ p. p < 256)
peer-small list own reach k entry.Started valid few of_list near = few
peer-small list own reach k (entry.Sent message) valid few of_list near = few
peer-small list own reach k (entry.Joined sender cstate deviation) valid few of_list near =
    omega (arith, nodes-most list valid, of_list.0)
peer-small list own reach k (entry.Judged sender v deviation) valid few of_list near =
    omega (arith, nodes-most list valid, of_list)
peer-small list own reach k (entry.Left why peer) valid few of_list near =
    omega (arith, nodes-most list valid, near)
peer-small list own reach k _ valid few of_list near = tt

-- Counts.

one_more : (b : Bool) (count slots : ℕ) → count ≤ slots → cond b 1 0 + count ≤ slots + 1
one_more true count slots few = omega arith
one_more false count slots few = omega arith

accepted-small : (count slots : ℕ) (e : Entry) → count ≤ slots → accepted_after count e ≤ slots + 1
accepted-small count slots (entry.Judged sender v deviation) few = one_more (is_correct v) count slots few
accepted-small count slots _ few = omega arith

rejected-small : (count slots : ℕ) (a : Ack) (e : Entry) → count ≤ slots → rejected_after count a e ≤ slots + 1
rejected-small count slots a (entry.Judged sender v deviation) few = one_more (is_rejection a v) count slots few
rejected-small count slots a _ few = omega arith

-- Doubts.

answered-small : (a : Ack) (v : Verdict) (sender : ℕ) → sender < 256 → IsDoubtSmall a
    → IsDoubtSmall (ack_answered a v sender)
answered-small ack.Closed v sender few small = tt
answered-small a verdict.Correct sender few small = tt
answered-small a verdict.Tentative sender few small = few
answered-small a _ sender few small = small

ack-small : (list : Medl) (a : Ack) (e : Entry) → IsValid list → IsOfList list e → IsDoubtSmall a
    → IsDoubtSmall (ack_after a e)
ack-small list a (entry.Judged sender v deviation) valid of_list small =
    answered-small a v sender (omega (arith, nodes-most list valid, of_list)) small
ack-small list a _ valid of_list small = tt

-- Notes.

zero-near : (list : Medl) → IsValid list → IsNear list (pos 0)
zero-near list valid = omega (arith, ints, valid.window.0)

noted-near : (list : Medl) (own : ℤ) (reach : ℕ) (e : Entry) → IsValid list → IsEntryNear list own reach e
    → IfSome (deviation_noted e) (IsNear list)
noted-near list own reach entry.Started valid near = zero-near list valid
noted-near list own reach (entry.Sent message) valid near = zero-near list valid
noted-near list own reach (entry.Joined sender cstate deviation) valid near = zero-near list valid
noted-near list own reach (entry.Judged sender v deviation) valid near =
    if-noted (IsNear list) (is_correct v) deviation near
noted-near list own reach _ valid near = tt

listed : (P : ℤ → Type 0) (o : Option ℤ) → IfSome o P → All P (option_to_list o)
listed P None holds = All-nil P
listed P (Some z) holds = All-cons P z [] holds (All-nil P)

notes-near : (list : Medl) (own : ℤ) (reach : ℕ) (notes : List ℤ) (place : Place) (e : Entry) → IsValid list
    → IsEntryNear list own reach e → All (IsNear list) notes
    → All (IsNear list) (notes_after list notes place e)
notes-near list own reach notes place e valid near all =
    let P = IsNear list in
    cond_both (is_active_entry e) (notes_in list place e ++ cond (begins_round place e) [] notes) [] (All P)
    (λ active. All-append P (notes_in list place e) (cond (begins_round place e) [] notes)
    (cond_both (plan_at list place.slot).sync (option_to_list (deviation_noted e)) [] (All P)
    (λ sync. listed P (deviation_noted e) (noted-near list own reach e valid near)) (λ not. All-nil P))
    (cond_both (begins_round place e) [] notes (All P) (λ begins. All-nil P) (λ goes. all)))
    (λ idle. All-nil P)

-- what a slot corrects is small
correction-near : (list : Medl) (place : Place) (notes : List ℤ) (e : Entry) → IsValid list → All (IsNear list) notes
    → IsNear list (correction_after list place notes e)
correction-near list place notes e valid all =
    let zero = zero-near list valid in
    cond_both (is_corrected list (phase_after e) place) (fta notes) (pos 0) (IsNear list)
    (λ is. fta-between (neg_ℤ list.window) list.window notes zero.0 zero.1 all) (λ not. zero)

-- Clocks.

-- what comes to a node from outside in a slot is within the script's limits
pub record AreSmall (s : SlotSurroundings) : Type 0 where
  pub jump : unsigned_abs s.jump ≤ most_jump
  pub drift : unsigned_abs s.drift ≤ DRIFT_LIMIT

-- the furthest that a node joins to after so many slots: a clock with its jumps, read with errors
abbrev pub joined_reach : ℕ → ℕ
joined_reach slots = slots * slot_reach + most_jump + most_error

change-small : (list : Medl) (offset corrected : ℤ) (s : SlotSurroundings) (slots : ℕ) (e : Entry)
    → IsValid list → AreSmall s → IsNear list corrected → unsigned_abs offset ≤ slots * slot_reach
    → IsEntryNear list (offset +ℤ s.jump) (joined_reach slots) e
    → unsigned_abs (offset +ℤ slot_change e s corrected) ≤ (slots + 1) * slot_reach
change-small list offset corrected s slots entry.Off valid change near before joined = omega (arith, ints)
change-small list offset corrected s slots (entry.Joined sender cstate deviation) valid change near before joined =
    omega (arith, ints, valid.window.0, valid.window.1, near.0, near.1, joined)
change-small list offset corrected s slots _ valid change near before joined =
    omega (arith, ints, valid.window.0, valid.window.1, near.0, near.1)

-- The whole past.

pub past_after-small : (list : Medl) (k slots : ℕ) (past : NodePast) (e : Entry) (s : SlotSurroundings)
    → IsValid list → IsSmallPast list slots past → IsOfList list e → AreSmall s
    → IsEntryNear list (past.offset +ℤ s.jump) (joined_reach slots) e
    → IsSmallPast list (slots + 1) (past_after list k past e s)
past_after-small list k slots past e s valid small of_list change near =
    let own = past.offset +ℤ s.jump in
    let reach = joined_reach slots in
    let after = past_after list k past e s in
    let notes = notes-near list own reach past.notes after.place e valid near small.notes in
    record {
      peer = λ j few. peer-small list own reach j e valid few of_list near;
      accepted = accepted-small past.accepted slots e small.accepted;
      rejected = rejected-small past.rejected slots past.ack e small.rejected;
      doubt = ack-small list past.ack e valid of_list small.doubt;
      notes = notes;
      offset = change-small list past.offset (correction_after list after.place after.notes e) s slots e valid change
          (correction-near list after.place after.notes e valid notes) small.offset near;
    }
