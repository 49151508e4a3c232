-- The story of an entry: all that had a part in it, in the order in which it happened.
use Rattle.std.specs.List.{list_any}
use Rattle.std.specs.Prelude.{Bool, List, [], drop, false, filter, flat_map, if◌then◌else◌, length, option_map}
use Rattle.std.specs.Prelude.{reverse, slice_get, true, unwrap_or, ℕ, ◌&&◌, ◌++◌, ◌==◌, ◌||◌, ◌∷◌}
use Rattle.causes.specs.Causes.{cause_at}
use Rattle.causes.specs.LinesOf.{spots_in}
use Rattle.causes.specs.RunSlots.{RunSlot, RunSlots, entry_in_slot, newest_spot}
use Rattle.causes.specs.Said.{root}
use Rattle.causes.specs.declared.cause.Because.{Because}
use Rattle.causes.specs.declared.cause.Cause.{Cause}
use Rattle.causes.specs.declared.cause.Miss.{Miss}
use Rattle.causes.specs.declared.cause.ScriptLine.{ScriptLine}
use Rattle.causes.specs.declared.cause.Spot.{Spot}
use Rattle.causes.specs.declared.cause.Story.{Story}
use Rattle.causes.specs.declared.cause.Told.{Told}
use Rattle.ttp_base.specs.NodeSet.{below}
use Rattle.ttp_world.specs.After.{is_active_entry}
use Rattle.ttp_world.specs.declared.node.Entry.{Entry}
use Rattle.ttp_world.specs.declared.script.Event.{Event}
use Rattle.ttp_world.specs.declared.script.Script.{Script}
use Rattle.causes.specs.declared.cause.Because.TheVariants as because
use Rattle.ttp_world.specs.declared.node.Entry.TheVariants as entry
use Rattle.ttp_world.specs.declared.script.Event.TheVariants as event
use Rattle.causes.specs.declared.cause.ScriptLine.TheVariants as line
use Rattle.causes.specs.declared.cause.Miss.TheVariants as miss
use Rattle.ttp_world.specs.declared.node.Reason.TheVariants as reason

-- Order: by slot; in a slot first what does not hang on what is heard in it, then who listens, then who judges; and
-- among these by node. So a cause stands before what it causes.
abbrev pub rank_of_entry : Entry → ℕ
rank_of_entry entry.Waited = 1
rank_of_entry (entry.Joined sender cstate deviation) = 1
rank_of_entry (entry.Judged sender v deviation) = 2
rank_of_entry (entry.Left reason.Denied peer) = 2
rank_of_entry _ = 0

-- the spots of a slot whose entries have this rank
abbrev pub spots_of_rank : RunSlot → ℕ → List Spot
spots_of_rank s rank =
    spots_in s (filter (λ k. rank_of_entry (entry_in_slot k s) == rank) (below (length s.begun.list.slots)))

-- the spots of a slot and of a run in the order turned round, the newest first
abbrev pub spots_back_in : RunSlot → List Spot
spots_back_in s = reverse (flat_map (spots_of_rank s) (below 3))

abbrev pub spots_back : RunSlots → List Spot
spots_back run = flat_map spots_back_in run

-- Marks.

abbrev pub is_spot : Spot → Spot → Bool
is_spot a b = (a.slot == b.slot) && (a.node == b.node)

abbrev pub has_spot : List Spot → Spot → Bool
has_spot spots spot = list_any (is_spot spot) spots

-- an entry that is told, with its cause
abbrev pub told_spot : RunSlots → Spot → Told
told_spot run spot = record { spot = spot; cause = cause_at run spot }

-- What is reached from marked entries by causes, the newest first: in one pass back the causes of each marked entry are
-- marked in their turn.
abbrev pub reached : RunSlots → List Spot → List Spot → List Told
reached run marks [] = []
reached run marks (spot ∷ older) = elim (has_spot marks spot) [
  | false ↦ reached run marks older
  | true ↦ let told = told_spot run spot in told ∷ reached run (told.cause.entries ++ marks) older
]

-- What leads back to a line, or to a clock past the window.

abbrev pub is_clock_miss : Miss → Bool
is_clock_miss (miss.Clock deviation notes) = true
is_clock_miss _ = false

abbrev pub is_past_window : Because → Bool
is_past_window (because.Missed why) = is_clock_miss why
is_past_window (because.MissedOnEach a b) = is_clock_miss a || is_clock_miss b
is_past_window _ = false

abbrev pub has_lines : List ScriptLine → Bool
has_lines [] = false
has_lines (l ∷ lines) = true

abbrev pub leads_back : List Spot → Cause → Bool
leads_back back cause =
    has_lines cause.lines || (is_past_window cause.because || list_any (has_spot back) cause.entries)

-- the spots of those that do, of some that are told, the newest first
abbrev pub leading : List Told → List Spot
leading [] = []
leading (told ∷ older) =
    let back = leading older in if leads_back back told.cause then told.spot ∷ back else back

-- What is kept: what is marked, with those of its entries that lead back, which are marked in their turn.

abbrev pub with_entries : Told → List Spot → Told
with_entries told entries = record { spot = told.spot; cause = record told.cause { entries = entries } }

abbrev pub kept_of_told : List Spot → List Spot → List Told → List Told
kept_of_told back marks [] = []
kept_of_told back marks (told ∷ older) = elim (has_spot marks told.spot) [
  | false ↦ kept_of_told back marks older
  | true ↦
      let named = filter (has_spot back) told.cause.entries in
      with_entries told named ∷ kept_of_told back (named ++ marks) older
]

-- The root: the cluster would run at other times without what leads back from it.

-- a fault line is one of a loss, a flip or a jump
abbrev pub is_fault_event : Event → Bool
is_fault_event (event.Send node channels kind from to) = true
is_fault_event (event.Receive node channels kind from to) = true
is_fault_event (event.Flip node channels bit slot) = true
is_fault_event (event.Jump node value slot) = true
is_fault_event _ = false

abbrev pub states_fault : Script → ScriptLine → Bool
states_fault script (line.Event place) = unwrap_or (option_map is_fault_event (slice_get script.events place)) false
states_fault script _ = false

abbrev pub has_fault_line : Script → Told → Bool
has_fault_line script told = list_any (states_fault script) told.cause.lines

-- one of what is reached from a spot names a fault line
abbrev pub leads_to_fault : Script → RunSlots → Spot → Bool
leads_to_fault script run spot = list_any (has_fault_line script) (reached run (spot ∷ []) (spots_back run))

-- a node was active in the newest of some slots
abbrev pub was_active : ℕ → RunSlots → Bool
was_active k [] = false
was_active k (s ∷ before) = is_active_entry (entry_in_slot k s)

-- the root that is added to what an entry of node k behind these slots names, where it names these
abbrev pub added_root : Script → ℕ → RunSlots → List Spot → List Spot
added_root script k before entries = elim (was_active k before) [
  | false ↦ []
  | true ↦
      let origin = root k before in
      elim (has_spot entries origin) [
        | true ↦ []
        | false ↦ if leads_to_fault script before origin then origin ∷ [] else []
      ]
]

-- The whole.

-- by what is reached from the entry that was asked for and the root, which it names too
abbrev pub with_root : List Spot → List Told → List Told
with_root origin [] = []
with_root origin (told ∷ older) = with_entries told (origin ++ told.cause.entries) ∷ older

abbrev pub kept_from : Spot → List Told → List Told
kept_from asked told = kept_of_told (leading told) (asked ∷ []) told

-- the story of node k's entry in the newest slot of a run
abbrev pub story : Script → RunSlots → ℕ → Story
story script run k =
    let asked = newest_spot k run in
    let origin = added_root script k (drop 1 run) (cause_at run asked).entries in
    record {
      root = origin;
      told = kept_from asked (with_root origin (reached run (asked ∷ origin) (spots_back run)));
    }

-- the lines that a story names, each as often as it is named
abbrev pub lines_told : Story → List ScriptLine
lines_told s = flat_map (λ told. told.cause.lines) s.told
