-- The lists and scripts of the rows, and what the rows look at in a run.
use Rattle.std.specs.Prelude.{ℕ, suc, ◌-◌, nat_lt, ℤ, pos, Bool, true, false, ◌&&◌, ◌||◌, List, [], ◌∷◌, ◌++◌}
use Rattle.std.specs.Prelude.{map, replicate, length, drop, get_or, flat_map, Option, Some, None}
use Rattle.std.specs.List.{list_all}
use Rattle.std.specs.Str.{bytes_eq}
use Rattle.ttp_base.specs.NodeSet.{below, has_node}
use Rattle.ttp_world.specs.declared.medl.Kind.TheVariants as kind
use Rattle.ttp_world.specs.declared.medl.SlotPlan.{SlotPlan}
use Rattle.ttp_world.specs.declared.medl.Medl.{Medl}
use Rattle.ttp_world.specs.declared.node.Entry.{Entry}
use Rattle.ttp_world.specs.declared.script.Channels.{Channels}
use Rattle.ttp_world.specs.declared.script.Event.{Event}
use Rattle.ttp_world.specs.declared.script.Script.{Script}
use Rattle.ttp_world.specs.Diary.{History, entry_of, diary_of}
use Rattle.ttp_world.specs.Membership.{members_of}
use Rattle.ttp_world.specs.Safety.{members_agree, senders_are_members, none_has_left, faulty_are_gone}
use Rattle.ttp_world.specs.Trace.{node_line_of}
use Rattle.ttp_world.specs.World.{SlotNumbers, Numbers, node_past, world}

-- Lists: n slots of bare frames in one round, of which these may start.

abbrev pub bare_slot_with : List ℕ → ℕ → SlotPlan
bare_slot_with starters k =
    record { kinds = kind.I ∷ []; payload = 0; sync = true; start = has_node starters k; requests = false; live = 1 }

-- drift, error, window
abbrev pub list_with : ℤ → ℤ → ℤ → List SlotPlan → Medl
list_with drift error window slots = record {
  version = 1;
  rounds = 1;
  schedule = 0;
  buffers = 2;
  drift = drift;
  error = error;
  window = window;
  modes = 1;
  slots = slots;
}

abbrev pub bare_list : ℕ → Medl
bare_list n = list_with (pos 0) (pos 0) (pos 1) (map (bare_slot_with (0 ∷ [])) (below n))

abbrev pub bare_list_of : ℕ → List ℕ → Medl
bare_list_of n starters = list_with (pos 0) (pos 0) (pos 1) (map (bare_slot_with starters) (below n))

-- four nodes whose clocks drift by at most one microtick a slot
abbrev pub drifting_list : ℤ → Medl
drifting_list window = list_with (pos 1) (pos 0) window (map (bare_slot_with (0 ∷ [])) (below 4))

-- five nodes, of which node 2 sends eight bytes of payload in frames with implicit C-state
abbrev pub loaded_slot : SlotPlan
loaded_slot = record { kinds = kind.N ∷ []; payload = 8; sync = true; start = false; requests = false; live = 1 }

abbrev pub loaded_list : Medl
loaded_list = list_with (pos 0) (pos 0) (pos 1)
    (bare_slot_with (0 ∷ []) 0 ∷ bare_slot_with [] 1 ∷ loaded_slot ∷ bare_slot_with [] 3 ∷ bare_slot_with [] 4 ∷ [])

-- Scripts: so many slots, nodes switched on at these slots, events.

abbrev pub script_on : ℕ → List (Option ℕ) → List Event → Script
script_on slots on events = record { slots = slots; on = on; drift = map (λ o. pos 0) on; events = events }

-- n nodes, all on from slot 0
abbrev pub all_on_script : ℕ → ℕ → List Event → Script
all_on_script n slots events = script_on slots (replicate n (Some 0)) events

-- four nodes, all on from slot 0, of which node 0 drifts by one microtick a slot
abbrev pub drifting_script : ℕ → List Event → Script
drifting_script slots events =
    record { slots = slots; on = replicate 4 (Some 0); drift = pos 1 ∷ pos 0 ∷ pos 0 ∷ pos 0 ∷ []; events = events }

abbrev pub both : Channels
both = record { a = true; b = true }

abbrev pub only_a : Channels
only_a = record { a = true; b = false }

abbrev pub only_b : Channels
only_b = record { a = false; b = true }

-- Numbers: none for frames without payload and slots without reads.

abbrev pub no_slot_numbers : ℕ → SlotNumbers
no_slot_numbers n = record { sent = replicate n None; read = [] }

abbrev pub bare_numbers : Medl → ℕ → Numbers
bare_numbers list slots = replicate slots (no_slot_numbers (length list.slots))

-- the first slots of a run, so many, in which no frame has payload and no host reads
abbrev pub bare_run : Medl → Script → ℕ → History
bare_run list script slots = world list script (bare_numbers list slots)

-- What the rows look at.

-- the history as it stood after a slot
abbrev pub after_slot : History → ℕ → History
after_slot history slot = drop (length history - suc slot) history

abbrev pub newest_row : History → List Entry
newest_row [] = []
newest_row (row ∷ history) = row

-- what a node did in a slot
abbrev pub entry_at : History → ℕ → ℕ → Entry
entry_at history slot k = entry_of (newest_row (after_slot history slot)) k

-- the line of a node after the newest slot
abbrev pub newest_node_line : Medl → Script → History → ℕ → List ℕ
newest_node_line list script [] k = []
newest_node_line list script (row ∷ history) k = node_line_of list script row history k

-- the lines of nodes after slots, each given as the slot and the node, one after another
abbrev pub lines_in : Medl → Script → History → List (ℕ × ℕ) → List ℕ
lines_in list script history places = flat_map (λ p. newest_node_line list script (after_slot history p.0) p.1) places

abbrev pub bare_lines : Medl → Script → ℕ → List (ℕ × ℕ) → List ℕ
bare_lines list script slots places = lines_in list script (bare_run list script slots) places

-- the lines with these numbers, counted from 1
abbrev pub picked_lines : List (List ℕ) → List ℕ → List (List ℕ)
picked_lines lines numbers = map (λ n. get_or lines (n - 1) []) numbers

-- from a slot on these nodes hold these members
abbrev pub hold_now : Medl → History → List ℕ → List ℕ → Bool
hold_now list history nodes members = list_all (λ k. bytes_eq (members_of list k (diary_of history k)) members) nodes

abbrev pub hold_from : ℕ → Medl → History → List ℕ → List ℕ → Bool
hold_from slot list [] nodes members = true
hold_from slot list (row ∷ history) nodes members =
    (nat_lt (length history) slot || hold_now list (row ∷ history) nodes members)
    && hold_from slot list history nodes members

-- from a slot on every slot is safe
abbrev pub is_safe_now : Medl → Script → History → Bool
is_safe_now list script history =
    members_agree list script history
    && (senders_are_members list script history
    && (none_has_left list script history && faulty_are_gone list script history))

-- the four tests after a history, in this order
abbrev pub four_tests : Medl → Script → History → List Bool
four_tests list script history =
    members_agree list script history
    ∷ senders_are_members list script history
    ∷ none_has_left list script history
    ∷ faulty_are_gone list script history
    ∷ []

abbrev pub is_safe_from : ℕ → Medl → Script → History → Bool
is_safe_from slot list script [] = true
is_safe_from slot list script (row ∷ history) =
    (nat_lt (length history) slot || is_safe_now list script (row ∷ history)) && is_safe_from slot list script history

-- Payload and reads.

-- a slot in which node 2 of five sends the message of this number, and the reads in it got these
abbrev pub sending_slot : ℕ → List ℕ → SlotNumbers
sending_slot i read = record { sent = None ∷ None ∷ Some i ∷ None ∷ None ∷ []; read = read }

-- node 2 sends in slots 12 and 17, and one read is made in slot 17
abbrev pub loaded_numbers : ℕ → ℕ → Numbers
loaded_numbers i j =
    sending_slot i (j ∷ []) ∷ replicate 4 (no_slot_numbers 5) ++ sending_slot 0 [] ∷ replicate 12 (no_slot_numbers 5)

-- twelve slots of five nodes, with one read in the last
abbrev pub reading_numbers : ℕ → Numbers
reading_numbers j = record { sent = replicate 5 None; read = j ∷ [] } ∷ replicate 11 (no_slot_numbers 5)

-- the clocks of all nodes after a slot, and the notes of a node's round
abbrev pub clocks_in_history : Medl → Script → History → List ℤ
clocks_in_history list script history =
    map (λ k. (node_past list script history k).offset) (below (length list.slots))

abbrev pub clocks_after : Medl → Script → ℕ → List ℤ
clocks_after list script slot = clocks_in_history list script (bare_run list script (suc slot))

abbrev pub notes_at : Medl → Script → ℕ → ℕ → List ℤ
notes_at list script slot k = (node_past list script (bare_run list script (suc slot)) k).notes
