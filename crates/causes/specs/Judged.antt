-- The causes of frames that are due, and of answers to a node's own frame.
use Rattle.std.specs.Prelude.{Bool, List, None, Option, Some, [], false, if◌then◌else◌, true, ℕ, ◌∷◌}
use Rattle.causes.specs.LinesOf.{heard_in, is_as_sent, spoilt_in}
use Rattle.causes.specs.Missed.{view_of_signal}
use Rattle.causes.specs.RunSlots.{RunSlot, RunSlots, doubted_in, entry_in_slot, is_judged_so, is_miss, is_tentative}
use Rattle.causes.specs.RunSlots.{judged_since_own, node_spot, place_of_node}
use Rattle.causes.specs.Said.{said}
use Rattle.causes.specs.Sources.{Sources, cause_by, no_sources, only_entries, with_sources}
use Rattle.causes.specs.declared.cause.Cause.{Cause}
use Rattle.causes.specs.declared.cause.Spot.{Spot}
use Rattle.ttp_world.specs.Medium.{Bits, Signal}
use Rattle.ttp_world.specs.declared.node.ChannelView.{ChannelView}
use Rattle.ttp_world.specs.declared.script.Channel.{Channel}
use Rattle.causes.specs.declared.cause.Because.TheVariants as because
use Rattle.ttp_world.specs.declared.script.Channel.TheVariants as channel
use Rattle.ttp_world.specs.declared.node.ChannelView.TheVariants as view

-- the entries since the newest tentative one, and this one
abbrev pub doubt_entries : ℕ → RunSlots → List Spot
doubt_entries k [] = []
doubt_entries k (s ∷ before) = elim (is_judged_so is_tentative (entry_in_slot k s)) [
  | true ↦ node_spot k s ∷ []
  | false ↦ elim (is_judged_so is_miss (entry_in_slot k s)) [
    | true ↦ node_spot k s ∷ doubt_entries k before
    | false ↦ doubt_entries k before
  ]
]

-- Correct.

abbrev pub correct_by : ℕ → RunSlot → RunSlots → Option ℕ → Cause
correct_by k s before None = cause_by because.DueFrame no_sources
correct_by k s before (Some x) =
    cause_by (because.HoldsOne (place_of_node k s).slot k x) (only_entries (doubt_entries k before))

abbrev pub correct_cause : ℕ → RunSlot → RunSlots → Cause
correct_cause k s before = correct_by k s before (doubted_in k s)

-- Tentative and denied: the frame of the second candidate, on channel A or else on B.

-- the channel
abbrev pub sees_second : ChannelView → Bool
sees_second view.Second = true
sees_second _ = false

abbrev pub second_channel : ℕ → RunSlot → Channel
second_channel k s = if sees_second (view_of_signal k s (heard_in k s channel.A)) then channel.A else channel.B

-- the node that sent a frame that is heard
abbrev pub sender_heard : Signal → ℕ
sender_heard (Bits p bytes) = p
sender_heard _ = 0

-- it came as it was sent
abbrev pub came_as_sent : RunSlot → Signal → Bool
came_as_sent s (Bits p bytes) = is_as_sent s p bytes
came_as_sent s _ = true

-- what node p said of node k, or what flips made of its frame
abbrev pub against_sources : ℕ → RunSlot → RunSlots → Signal → Sources
against_sources k s before signal = elim (came_as_sent s signal) [
  | true ↦ only_entries (said (sender_heard signal) k before ∷ [])
  | false ↦ spoilt_in k s
]

abbrev pub tentative_cause : ℕ → RunSlot → RunSlots → Cause
tentative_cause k s before =
    let signal = heard_in k s (second_channel k s) in
    cause_by (because.HoldsNot (sender_heard signal) k)
    (with_sources (against_sources k s before signal) (only_entries (judged_since_own is_miss k before)))

-- about the node that it doubts
abbrev pub or_itself : ℕ → Option ℕ → ℕ
or_itself k None = k
or_itself k (Some x) = x

abbrev pub denied_cause : ℕ → RunSlot → RunSlots → Cause
denied_cause k s before =
    let signal = heard_in k s (second_channel k s) in
    cause_by (because.HoldsOne (sender_heard signal) (or_itself k (doubted_in k s)) k)
    (with_sources (against_sources k s before signal) (only_entries (doubt_entries k before)))
