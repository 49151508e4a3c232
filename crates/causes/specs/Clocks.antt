-- The causes of a frame that came outside the window.
use Rattle.std.specs.Prelude.{Bool, List, None, Option, Some, [], drop, false, filter, flat_map, if◌then◌else◌, int_le}
use Rattle.std.specs.Prelude.{length, map, nat_le, nat_lt, neg_ℤ, not, pos, take, true, ℕ, ℤ, ◌&&◌, ◌++◌, ◌==◌, ◌||◌}
use Rattle.std.specs.Prelude.{◌∷◌}
use Rattle.causes.specs.LinesOf.{lines_where}
use Rattle.causes.specs.Listening.{join_cause}
use Rattle.causes.specs.RunSlots.{RunSlot, RunSlots, back_to, entry_in_slot, is_joined, is_miss_or_tentative, past_in}
use Rattle.causes.specs.RunSlots.{place_of_node, spots_at_node}
use Rattle.causes.specs.Said.{JoinedFrame, frame_joined}
use Rattle.causes.specs.Sources.{ChannelReason, has_sources, sources_of}
use Rattle.causes.specs.declared.cause.ClockNote.{ClockNote}
use Rattle.causes.specs.declared.cause.ScriptLine.{ScriptLine}
use Rattle.causes.specs.declared.cause.Spot.{Spot}
use Rattle.ttp_world.specs.Clock.{is_corrected}
use Rattle.ttp_world.specs.Diary.{begins_stint}
use Rattle.ttp_world.specs.Events.{error_in, jump_in}
use Rattle.ttp_world.specs.Medl.{plan_at}
use Rattle.ttp_world.specs.Script.{drift_of, on_slot, reading_error}
use Rattle.ttp_world.specs.World.{deviation_in}
use Rattle.ttp_world.specs.declared.medl.Medl.{Medl}
use Rattle.ttp_world.specs.declared.node.Entry.{Entry}
use Rattle.ttp_world.specs.declared.script.Event.{Event}
use Rattle.ttp_world.specs.declared.node.Entry.TheVariants as entry
use Rattle.causes.specs.declared.cause.ScriptLine.TheVariants as line
use Rattle.causes.specs.declared.cause.Miss.TheVariants as miss

-- Jumps.

-- a jump of node x's clock in a slot, other than by nothing
abbrev pub is_other_than_zero : Option ℤ → Bool
is_other_than_zero None = false
is_other_than_zero (Some z) = not (int_le z (pos 0) && int_le (pos 0) z)

abbrev pub jumps_clock : ℕ → ℕ → Event → Bool
jumps_clock x slot e = is_other_than_zero (jump_in x slot e)

-- the slot before this one ended with four or more clocks averaged by node x
abbrev pub was_averaged : ℕ → RunSlot → Bool
was_averaged x s =
    let past = past_in x s in
    is_corrected s.begun.list past.phase past.place && nat_le 4 (length past.notes)

-- node x comes on in a slot
abbrev pub is_that_slot : ℕ → Option ℕ → Bool
is_that_slot slot None = false
is_that_slot slot (Some on) = on == slot

abbrev pub comes_on : ℕ → RunSlot → Bool
comes_on x s = is_that_slot s.begun.number (on_slot s.begun.script x)

-- the node whose clock node x has from a slot on: where it joins in it, that on whose frame it does
abbrev pub sender_or : ℕ → Option JoinedFrame → ℕ
sender_or x None = x
sender_or x (Some joined) = joined.sender

abbrev pub clock_taken : ℕ → RunSlot → ℕ
clock_taken x s = elim (is_joined (entry_in_slot x s)) [ true ↦ sender_or x (frame_joined x s) | false ↦ x ]

-- the jumps that node x's clock bears in the newest of these slots, where later ones have ended with an average or not:
-- those back to where it came on, or to the newest average but one
abbrev pub jumps_borne_since : ℕ → Bool → RunSlots → List ScriptLine
jumps_borne_since x averaged [] = []
jumps_borne_since x averaged (s ∷ before) =
    let y = clock_taken x s in
    lines_where (jumps_clock y s.begun.number) s.begun.script
    ++ elim (comes_on y s || (averaged && was_averaged y s)) [
      | true ↦ []
      | false ↦ jumps_borne_since y (averaged || was_averaged y s) before
    ]

abbrev pub jumps_borne : ℕ → RunSlots → List ScriptLine
jumps_borne x run = jumps_borne_since x false run

-- Reading errors and drifts that are out of specification.

-- a number lies outside plus or minus a bound
abbrev pub is_outside : ℤ → ℤ → Bool
is_outside bound z = not (int_le (neg_ℤ bound) z && int_le z bound)

abbrev pub errs : ℕ → ℕ → Event → Bool
errs k slot e = is_other_than_zero (error_in k slot e)

abbrev pub error_lines : ℕ → RunSlot → List ScriptLine
error_lines k s =
    elim (is_outside s.begun.list.error (reading_error s.begun.script k s.begun.number)) [
      | true ↦ lines_where (errs k s.begun.number) s.begun.script
      | false ↦ []
    ]

abbrev pub outside_drift_lines : ℕ → RunSlot → List ScriptLine
outside_drift_lines x s = if is_outside s.begun.list.drift (drift_of s.begun.script x) then line.Drift x ∷ [] else []

-- Clocks that were not corrected.

-- a judgement of a node with sync that gave no clock, or of which it is not known
abbrev pub is_unread : Medl → Entry → Bool
is_unread list (entry.Judged sender v deviation) = is_miss_or_tentative v && (plan_at list sender).sync
is_unread list _ = false

-- node x's entries of its newest whole round, before the first slot of the round in which it is, that gave no clock,
-- where it was not corrected at the end of that round; its stint has so many slots before it
abbrev pub unread_before : ℕ → ℕ → RunSlots → List Spot
unread_before x stint [] = []
unread_before x stint (first ∷ before) = elim (was_averaged x first) [
  | true ↦ []
  | false ↦
      spots_at_node x (filter (λ s. nat_le stint s.begun.number && is_unread first.begun.list (entry_in_slot x s))
      (take (length first.begun.list.slots) before))
]

abbrev pub unread_entries : ℕ → RunSlot → RunSlots → List Spot
unread_entries x s before =
    unread_before x (length (back_to begins_stint x before)) (drop (place_of_node x s).slot (s ∷ before))

-- the slot in which node x's stint began, where it is a join with causes
abbrev pub stint_join : ℕ → RunSlots → Option ℕ
stint_join x [] = None
stint_join x (s ∷ before) =
    elim (is_joined (entry_in_slot x s) && has_sources (sources_of (join_cause x s before))) [
      | true ↦ Some s.begun.number
      | false ↦ None
    ]

-- what is said of node x beside the deviation, with its entries
pub record NotedClock : Type 0 where
  pub note : ClockNote
  pub entries : List Spot

abbrev pub spots_joined : ℕ → Option ℕ → List Spot
spots_joined x None = []
spots_joined x (Some slot) = record { slot = slot; node = x } ∷ []

abbrev pub noted_clock : ℕ → RunSlot → RunSlots → NotedClock
noted_clock x s before =
    let unread = unread_entries x s before in
    let joined = stint_join x (back_to begins_stint x before) in
    record {
      note = record { node = x; is_uncorrected = not (length unread == 0); joined = joined };
      entries = unread ++ spots_joined x joined;
    }

-- those of sender p and receiver k, of the lower first, where neither clock bears a jump
abbrev pub lower_first : ℕ → ℕ → List ℕ
lower_first p k = if nat_lt p k then p ∷ k ∷ [] else k ∷ p ∷ []

abbrev pub noted_clocks : ℕ → ℕ → RunSlot → RunSlots → List ScriptLine → List NotedClock
noted_clocks p k s before [] = map (λ x. noted_clock x s before) (lower_first p k)
noted_clocks p k s before (jump ∷ jumps) = []

-- why a frame of node p came so late to node k
abbrev pub clock_reason : ℕ → ℕ → RunSlot → RunSlots → ChannelReason
clock_reason p k s before =
    let jumps = jumps_borne p (s ∷ before) ++ jumps_borne k (s ∷ before) in
    let noted = noted_clocks p k s before jumps in
    record {
      miss = miss.Clock (deviation_in s.begun k p) (map (λ n. n.note) noted);
      sources = record {
        lines = jumps ++ (error_lines k s ++ (outside_drift_lines p s ++ outside_drift_lines k s));
        entries = flat_map (λ n. n.entries) noted;
      };
    }
