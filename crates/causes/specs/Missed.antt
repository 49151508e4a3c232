-- The causes of null, invalid and incorrect.
use Rattle.std.specs.Prelude.{Bool, None, Option, Some, [], false, length, true, ℕ, ◌&&◌, ◌++◌, ◌==◌, ◌∷◌}
use Rattle.causes.specs.Clocks.{clock_reason}
use Rattle.causes.specs.LinesOf.{bytes_sent, first_line, flipping_lines, has_frames, heard_in, is_on_both, lines_where}
use Rattle.causes.specs.LinesOf.{noisy_in, remaining_in, silencing_in, spots_in}
use Rattle.causes.specs.Members.{members_reason}
use Rattle.causes.specs.RunSlots.{RunSlot, RunSlots, entry_in_slot, is_started, newest_departure, node_spot, past_in}
use Rattle.causes.specs.RunSlots.{place_of_node}
use Rattle.causes.specs.Said.{path}
use Rattle.causes.specs.Sources.{ChannelReason, by_entries, by_line, by_lines, cause_by, with_sources}
use Rattle.causes.specs.declared.cause.Cause.{Cause}
use Rattle.causes.specs.declared.cause.ScriptLine.{ScriptLine}
use Rattle.causes.specs.declared.cause.Spot.{Spot}
use Rattle.ttp_world.specs.Diary.{Place}
use Rattle.ttp_world.specs.Events.{is_receive_fault}
use Rattle.ttp_world.specs.Medium.{Bits, Noise, Signal, Silence}
use Rattle.ttp_world.specs.Reception.{expected_of, is_within_window, rank_of, view_of}
use Rattle.ttp_world.specs.World.{deviation_in}
use Rattle.ttp_world.specs.declared.node.ChannelView.{ChannelView}
use Rattle.ttp_world.specs.declared.node.Entry.{Entry}
use Rattle.ttp_world.specs.declared.node.Verdict.{Verdict}
use Rattle.ttp_world.specs.declared.script.Channel.{Channel}
use Rattle.ttp_world.specs.declared.script.Event.{Event}
use Rattle.causes.specs.declared.cause.Because.TheVariants as because
use Rattle.ttp_world.specs.declared.script.Channel.TheVariants as channel
use Rattle.ttp_world.specs.declared.node.Entry.TheVariants as entry
use Rattle.ttp_world.specs.declared.script.Fault.TheVariants as fault
use Rattle.causes.specs.declared.cause.Miss.TheVariants as miss
use Rattle.ttp_world.specs.declared.node.Reason.TheVariants as reason
use Rattle.ttp_world.specs.declared.node.Verdict.TheVariants as verdict
use Rattle.ttp_world.specs.declared.node.ChannelView.TheVariants as view

-- Views.

-- how node k sees what comes on a channel
abbrev pub view_of_signal : ℕ → RunSlot → Signal → ChannelView
view_of_signal k s signal =
    view_of s.begun.list (expected_of s.begun.list k (past_in k s)) (deviation_in s.begun k) signal

-- a frame as it was sent
abbrev pub signal_sent : RunSlot → Signal → Signal
signal_sent s (Bits p bytes) = Bits p (bytes_sent s.frames p)
signal_sent s signal = signal

abbrev pub is_same_view : ChannelView → ChannelView → Bool
is_same_view a b = rank_of a == rank_of b

-- Reasons.

-- nodes p and k are at different places of the cluster cycle
abbrev pub elsewhere : ℕ → ℕ → RunSlots → ChannelReason
elsewhere p k before = by_entries (miss.Elsewhere p) (path k before ++ path p before)

-- two places are the same
abbrev pub is_same_place : Place → Place → Bool
is_same_place a b = (a.time == b.time) && ((a.round == b.round) && (a.slot == b.slot))

-- of a channel that brings a frame of node p as it was sent, or one that is seen as that would be
abbrev pub frame_reason : ℕ → ℕ → RunSlot → RunSlots → ChannelReason
frame_reason p k s before = elim (is_started (entry_in_slot p s)) [
  | true ↦ by_entries (miss.ColdStart p) (node_spot p s ∷ [])
  | false ↦ elim (is_within_window s.begun.list (deviation_in s.begun k p)) [
    | false ↦ clock_reason p k s before
    | true ↦ elim (is_same_place (place_of_node p s) (place_of_node k s)) [
      | false ↦ elsewhere p k before
      | true ↦ members_reason p k s before
    ]
  ]
]

-- and of one whose flips may change the view
abbrev pub bits_reason : ℕ → RunSlot → RunSlots → Channel → ℕ → Signal → ChannelReason
bits_reason k s before c p signal =
    elim (is_same_view (view_of_signal k s signal) (view_of_signal k s (signal_sent s signal))) [
      | true ↦ frame_reason p k s before
      | false ↦
          by_lines miss.Flipped
          (flipping_lines s.begun.script p c s.begun.number (length (bytes_sent s.frames p)))
    ]

-- of noise: a line, or else the nodes whose frames meet
abbrev pub noise_reason : RunSlot → Channel → Option ScriptLine → ChannelReason
noise_reason s c (Some l) = by_line miss.Noisy l
noise_reason s c None = by_entries (miss.Collision (remaining_in c s)) (spots_in s (remaining_in c s))

-- of a channel on which node k hears this in a slot in which somebody sent
abbrev pub reason_of_signal : ℕ → RunSlot → RunSlots → Channel → Signal → ChannelReason
reason_of_signal k s before c Silence = by_lines miss.Silenced (silencing_in k s c)
reason_of_signal k s before c Noise = noise_reason s c (noisy_in k s c)
reason_of_signal k s before c (Bits p bytes) = bits_reason k s before c p (Bits p bytes)

abbrev pub channel_reason : ℕ → RunSlot → RunSlots → Channel → ChannelReason
channel_reason k s before c = reason_of_signal k s before c (heard_in k s c)

-- Nobody sent.

-- since that departure
abbrev pub absence_since : ℕ → Spot → ChannelReason
absence_since p left = by_entries (miss.Left p left.slot) (left ∷ [])

-- by what the peer did
abbrev pub absence_reason : ℕ → ℕ → RunSlot → RunSlots → Entry → ChannelReason
absence_reason p k s before entry.Off = by_entries (miss.Off p) []
absence_reason p k s before entry.Gone = absence_since p (newest_departure p before)
absence_reason p k s before (entry.Left reason.Denied peer) = elsewhere p k before
absence_reason p k s before (entry.Left why peer) = absence_since p (node_spot p s)
absence_reason p k s before entry.Waited = by_entries (miss.Listens p) (node_spot p s ∷ [])
absence_reason p k s before entry.Retried = by_entries (miss.Retries p) (node_spot p s ∷ [])
absence_reason p k s before _ = elsewhere p k before

-- a line that silences both channels of node k in a slot
abbrev pub deafens : ℕ → ℕ → Event → Bool
deafens k slot e = is_receive_fault fault.Silence k channel.A slot e && is_on_both e

abbrev pub nobody_reason_by : ℕ → RunSlot → RunSlots → Option ScriptLine → ChannelReason
nobody_reason_by k s before (Some l) = by_line miss.Deaf l
nobody_reason_by k s before None =
    let p = (place_of_node k s).slot in
    absence_reason p k s before (entry_in_slot p s)

abbrev pub nobody_reason : ℕ → RunSlot → RunSlots → ChannelReason
nobody_reason k s before =
    nobody_reason_by k s before (first_line (lines_where (deafens k s.begun.number) s.begun.script))

-- The entry.

-- a channel brings a frame that is seen as the verdict says, and would be so as it was sent
abbrev pub is_seen_as : Verdict → ChannelView → Bool
is_seen_as verdict.Invalid view.Bad = true
is_seen_as verdict.Incorrect view.Other = true
is_seen_as v w = false

abbrev pub decides_by : ℕ → RunSlot → Verdict → Signal → Bool
decides_by k s v (Bits p bytes) =
    is_seen_as v (view_of_signal k s (Bits p bytes))
    && is_seen_as v (view_of_signal k s (Bits p (bytes_sent s.frames p)))
decides_by k s v _ = false

abbrev pub decides : ℕ → RunSlot → Verdict → Channel → Bool
decides k s v c = decides_by k s v (heard_in k s c)

abbrev pub missed_by : ChannelReason → Cause
missed_by r = cause_by (because.Missed r.miss) r.sources

abbrev pub missed_by_each : ChannelReason → ChannelReason → Cause
missed_by_each a b = cause_by (because.MissedOnEach a.miss b.miss) (with_sources a.sources b.sources)

-- the cause of node k's null, invalid or incorrect entry in a slot
abbrev pub missed_cause : ℕ → RunSlot → RunSlots → Verdict → Cause
missed_cause k s before v = elim (has_frames s.frames) [
  | false ↦ missed_by (nobody_reason k s before)
  | true ↦ elim (decides k s v channel.A) [
    | true ↦ missed_by (channel_reason k s before channel.A)
    | false ↦ elim (decides k s v channel.B) [
      | true ↦ missed_by (channel_reason k s before channel.B)
      | false ↦ missed_by_each (channel_reason k s before channel.A) (channel_reason k s before channel.B)
    ]
  ]
]
