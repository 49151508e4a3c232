-- The causes of what a node does that listens, or is off.
use Rattle.std.specs.List.{list_any}
use Rattle.std.specs.Prelude.{Bool, List, None, Option, Some, [], false, filter, flat_map, if◌then◌else◌, is_some}
use Rattle.std.specs.Prelude.{length, map, nat_le, not, suc, take, true, ℕ, ◌%◌, ◌&&◌, ◌++◌, ◌+◌, ◌-◌, ◌==◌, ◌||◌, ◌∷◌}
use Rattle.causes.specs.LinesOf.{has_frames, lines_where, silencing_in, spoilt_in}
use Rattle.causes.specs.RunSlots.{RunSlot, RunSlots, back_to, entry_in_slot, is_gone_entry, is_left, is_retried}
use Rattle.causes.specs.RunSlots.{is_waited, newest_departure, node_spot, past_in, place_of_node}
use Rattle.causes.specs.Said.{JoinedFrame, frame_joined}
use Rattle.causes.specs.Sources.{Sources, all_sources, cause_by, no_sources, only_entries, only_lines, with_sources}
use Rattle.causes.specs.declared.cause.Cause.{Cause}
use Rattle.causes.specs.declared.cause.Spot.{Spot}
use Rattle.ttp_base.specs.NodeSet.{below}
use Rattle.ttp_world.specs.Events.{arms}
use Rattle.ttp_world.specs.Fitting.{joinable}
use Rattle.ttp_world.specs.Script.{has_receive_fault}
use Rattle.ttp_world.specs.declared.node.Entry.{Entry}
use Rattle.causes.specs.declared.cause.Because.TheVariants as because
use Rattle.ttp_world.specs.declared.script.Channel.TheVariants as channel
use Rattle.ttp_world.specs.declared.node.Entry.TheVariants as entry
use Rattle.ttp_world.specs.declared.script.Fault.TheVariants as fault
use Rattle.causes.specs.declared.cause.ScriptLine.TheVariants as line

-- the slots up to the newest in which node k did not wait
abbrev pub back_to_listening : ℕ → RunSlots → RunSlots
back_to_listening k run = back_to (λ e. not (is_waited e)) k run

-- its newest departure, and the first line that arms it in the slot behind
abbrev pub left_and_armed : ℕ → RunSlots → RunSlot → Sources
left_and_armed k run s = record {
  lines = take 1 (lines_where (arms k (length run)) s.begun.script);
  entries = newest_departure k run ∷ [];
}

-- why it listens, by that entry and the slots up to it
abbrev pub listening_by : ℕ → RunSlots → RunSlot → Entry → Sources
listening_by k run s entry.Retried = only_entries (node_spot k s ∷ [])
listening_by k run s (entry.Left why peer) = left_and_armed k run s
listening_by k run s entry.Gone = left_and_armed k run s
listening_by k run s _ = no_sources

abbrev pub listening_since : ℕ → RunSlots → Sources
listening_since k [] = no_sources
listening_since k (s ∷ before) = listening_by k (s ∷ before) s (entry_in_slot k s)

-- why node k listens in the slot behind these
abbrev pub listening_sources : ℕ → RunSlots → Sources
listening_sources k before = listening_since k (back_to_listening k before)

-- the slot from which on it does
abbrev pub listening_from : ℕ → RunSlots → ℕ
listening_from k before = length (back_to_listening k before)

-- a frame was sent on which, as it was sent, a node can join
abbrev pub has_joinable : RunSlot → Bool
has_joinable s = list_any (λ sent. is_some (joinable s.begun.list sent.bytes)) s.frames

-- what kept node k from joining in a slot
abbrev pub kept_from_joining : ℕ → RunSlot → Sources
kept_from_joining k s = elim (has_joinable s) [ true ↦ spoilt_in k s | false ↦ no_sources ]

-- the sources of a wait of node k in the newest of these slots
abbrev pub wait_sources : ℕ → RunSlots → Sources
wait_sources k [] = no_sources
wait_sources k (s ∷ before) =
    with_sources (listening_sources k before)
    (all_sources (map (kept_from_joining k) (take (suc (length before) - listening_from k before) (s ∷ before))))

-- Off.

-- its `on` line, if there is one
abbrev pub off_cause : ℕ → Option ℕ → Cause
off_cause k (Some slot) = cause_by (because.SwitchedOn slot) (only_lines (line.On k ∷ []))
off_cause k None = cause_by because.NeverOn no_sources

-- Wait.

abbrev pub wait_cause : ℕ → RunSlot → RunSlots → Cause
wait_cause k s before = cause_by (because.NothingToJoin (listening_from k before)) (wait_sources k (s ∷ before))

-- Join.

-- those of the wait in the slot before, or else why it listens
abbrev pub sources_before_join : ℕ → RunSlots → Sources
sources_before_join k [] = no_sources
sources_before_join k (s ∷ before) =
    elim (is_waited (entry_in_slot k s)) [
      | true ↦ wait_sources k (s ∷ before)
      | false ↦ listening_sources k (s ∷ before)
    ]

-- and what spoils both channels, where flips changed the frame
abbrev pub join_cause_on : ℕ → RunSlot → RunSlots → Option JoinedFrame → Cause
join_cause_on k s before None = cause_by (because.TakesOver k) no_sources
join_cause_on k s before (Some joined) =
    cause_by (because.TakesOver joined.sender)
    (with_sources (sources_before_join k before)
    (elim joined.is_as_sent [ true ↦ no_sources | false ↦ spoilt_in k s ]))

abbrev pub join_cause : ℕ → RunSlot → RunSlots → Cause
join_cause k s before = join_cause_on k s before (frame_joined k s)

-- Start.

-- node k is deaf in a slot: receive lines silence both of its channels
abbrev pub hears_nothing : ℕ → RunSlot → Bool
hears_nothing k s =
    has_receive_fault s.begun.script fault.Silence k channel.A s.begun.number
    && has_receive_fault s.begun.script fault.Silence k channel.B s.begun.number

-- what silenced a slot to node k in which somebody sent
abbrev pub silenced_in : ℕ → RunSlot → Sources
silenced_in k s = elim (has_frames s.frames) [
  | true ↦ only_lines (silencing_in k s channel.A ++ silencing_in k s channel.B)
  | false ↦ no_sources
]

-- a node that left in a slot by this place would have sent in a later one
abbrev pub would_send : ℕ → RunSlot → RunSlot → Bool
would_send q left later =
    nat_le left.begun.number later.begun.number
    && (((place_of_node q left).slot + (later.begun.number - left.begun.number)) % length left.begun.list.slots == q)

-- the newest departure of node q, where it would have been heard in one of these slots
abbrev pub missing_by : ℕ → RunSlots → RunSlots → List Spot
missing_by q audible [] = []
missing_by q audible (left ∷ before) = if list_any (would_send q left) audible then node_spot q left ∷ [] else []

abbrev pub missing_node : ℕ → RunSlot → RunSlots → RunSlots → List Spot
missing_node q s before audible = elim (is_gone_entry (entry_in_slot q s)) [
  | true ↦ missing_by q audible (back_to is_left q before)
  | false ↦ []
]

-- the entry of a node that listened in the newest of these slots
abbrev pub listening_node : ℕ → RunSlots → List Spot
listening_node q [] = []
listening_node q (s ∷ before) =
    if is_waited (entry_in_slot q s) || is_retried (entry_in_slot q s) then node_spot q s ∷ [] else []

abbrev pub is_empty : RunSlots → Bool
is_empty [] = true
is_empty (s ∷ before) = false

-- the other nodes that did not send in the silent slots, of which node k could have heard these
abbrev pub silent_node : ℕ → RunSlot → RunSlots → RunSlots → ℕ → List Spot
silent_node k s before audible q =
    elim (q == k) [
      | true ↦ []
      | false ↦ missing_node q s before audible
          ++ (elim (is_empty audible) [ true ↦ [] | false ↦ listening_node q before ])
    ]

-- its `on` line, where nothing else made it listen
abbrev pub on_line_unless : ℕ → Sources → Sources
on_line_unless k sources = if length sources.entries == 0 then only_lines (line.On k ∷ []) else no_sources

abbrev pub start_cause : ℕ → RunSlot → RunSlots → Cause
start_cause k s before =
    let limit = (past_in k s).limit in
    let silent = take limit before in
    let audible = filter (λ u. not (hears_nothing k u)) silent in
    cause_by (because.Silence limit)
    (with_sources (wait_sources k before)
    (with_sources (on_line_unless k (listening_sources k before))
    (with_sources (all_sources (map (silenced_in k) silent))
    (only_entries (flat_map (silent_node k s before audible) (below (length s.begun.list.slots)))))))
