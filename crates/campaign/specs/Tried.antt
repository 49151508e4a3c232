-- The single faults that a campaign tries, and a script with one of them more.
--
-- What is tried in a slot depends on what each node does there in the run of the script as it is: a fault that changes
-- nothing is not tried.
use Rattle.std.specs.Prelude.{ℕ, suc, ◌-◌, nat_le, ℤ, pos, neg_ℤ, Bool, true, false, ◌&&◌, List, [], ◌∷◌}
use Rattle.std.specs.Prelude.{◌++◌, map, length, get_or, filter, flat_map, if◌then◌else◌}
use Rattle.std.specs.Int.{int_min}
use Rattle.std.specs.List.{list_any}
use Rattle.ttp_base.specs.NodeSet.{below}
use Rattle.ttp_world.specs.declared.medl.Medl.{Medl}
use Rattle.ttp_world.specs.declared.node.Entry.{Entry}
use Rattle.ttp_world.specs.declared.node.Entry.TheVariants as entry
use Rattle.ttp_world.specs.declared.node.Reason.{Reason}
use Rattle.ttp_world.specs.declared.node.Reason.TheVariants as reason
use Rattle.ttp_world.specs.declared.script.Channels.{Channels}
use Rattle.ttp_world.specs.declared.script.Event.{Event}
use Rattle.ttp_world.specs.declared.script.Event.TheVariants as event
use Rattle.ttp_world.specs.declared.script.Fault.{Fault}
use Rattle.ttp_world.specs.declared.script.Fault.TheVariants as fault
use Rattle.ttp_world.specs.declared.script.Script.{Script}
use Rattle.ttp_world.specs.declared.script.TheConstants.{JUMP_LIMIT}
use Rattle.ttp_world.specs.Diary.{History, entry_of}
use Rattle.ttp_world.specs.Hypothesis.{nodes_of, four_windows}
use Rattle.ttp_world.specs.Medium.{is_sending}

-- the script with one event more, as the last of its lines
abbrev pub with_fault : Script → Event → Script
with_fault script fault = record script { events = script.events ++ fault ∷ [] }

-- What a node does in a slot.

-- a node that left was denied by the sender that it heard, and else left in its own slot
abbrev pub is_denied : Reason → Bool
is_denied reason.Denied = true
is_denied reason.Unacknowledged = false
is_denied reason.Clique = false

-- it hears what is sent
abbrev pub is_hearing : Entry → Bool
is_hearing entry.Waited = true
is_hearing (entry.Joined sender cstate deviation) = true
is_hearing (entry.Judged sender verdict deviation) = true
is_hearing (entry.Left reason peer) = is_denied reason
is_hearing _ = false

-- others hold their clocks against its own, or it holds its own against theirs
abbrev pub is_timed : Entry → Bool
is_timed (entry.Sent message) = true
is_timed (entry.Judged sender verdict deviation) = true
is_timed (entry.Left reason peer) = is_denied reason
is_timed _ = false

-- Losses: of what the node sends, or of what it hears where somebody sends; in the slot alone, and then from it to the
-- last one.

-- channels A and B
abbrev pub both_channels : Channels
both_channels = record { a = true; b = true }

-- channel A alone
abbrev pub only_a : Channels
only_a = record { a = true; b = false }

-- channel B alone
abbrev pub only_b : Channels
only_b = record { a = false; b = true }

-- the faults of one kind in these slots, on which channels and what becomes of a frame
abbrev pub losses_between : (Channels → Fault → ℕ → ℕ → Event) → ℕ → ℕ → List Event
losses_between kind from to =
    kind both_channels fault.Silence from to ∷ kind both_channels fault.Noise from to
    ∷ kind only_a fault.Silence from to ∷ kind only_a fault.Noise from to
    ∷ kind only_b fault.Silence from to ∷ kind only_b fault.Noise from to ∷ []

-- those of a slot alone, and those from it to the last one
abbrev pub losses_from : (Channels → Fault → ℕ → ℕ → Event) → Script → ℕ → List Event
losses_from kind script slot = losses_between kind slot slot ++ losses_between kind slot (script.slots - 1)

-- by the entries of all nodes in the slot
abbrev pub losses_of : Script → List Entry → ℕ → ℕ → List Event
losses_of script row slot k =
    if is_sending (entry_of row k) then losses_from (event.Send k) script slot
    else if is_hearing (entry_of row k) && list_any is_sending row then losses_from (event.Receive k) script slot
    else []

-- Jumps: by four windows and by one, either way, and by the most that a line may say where that is less.

-- so many microticks, or the most that a line may say
abbrev pub sized : ℤ → ℤ
sized z = int_min z (pos JUMP_LIMIT)

-- the jumps that are tried: by four windows and by one, either way, in microticks
abbrev pub jump_sizes : Medl → List ℤ
jump_sizes list =
    sized (four_windows list) ∷ neg_ℤ (sized (four_windows list)) ∷ sized list.window ∷ neg_ℤ (sized list.window) ∷ []

-- those of node k in a slot in which others hold their clocks against its own, or it holds its own against theirs
abbrev pub jumps_of : Medl → List Entry → ℕ → ℕ → List Event
jumps_of list row slot k = if is_timed (entry_of row k) then map (λ z. event.Jump k z slot) (jump_sizes list) else []

-- The faults of a slot, by the entries of all nodes in it, and of the slots of a range that the script has.

-- the faults of node k that are tried in a slot, by the entries of all nodes in it
abbrev pub faults_of : Medl → Script → List Entry → ℕ → ℕ → List Event
faults_of list script row slot k = losses_of script row slot k ++ jumps_of list row slot k

-- those of all nodes
abbrev pub faults_in : Medl → Script → List Entry → ℕ → List Event
faults_in list script row slot = flat_map (faults_of list script row slot) (nodes_of list)

-- the row of a slot that a history has
abbrev pub row_of : History → ℕ → List Entry
row_of history slot = get_or history (length history - suc slot) []

-- the slots of a range that a script has
abbrev pub slots_between : Script → ℕ → ℕ → List ℕ
slots_between script first last = filter (λ slot. nat_le first slot && nat_le slot last) (below script.slots)

-- by the history of the script's own run
abbrev pub faults_from : Medl → Script → History → ℕ → ℕ → List Event
faults_from list script history first last =
    flat_map (λ slot. faults_in list script (row_of history slot) slot) (slots_between script first last)
