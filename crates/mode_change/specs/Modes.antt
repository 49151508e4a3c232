-- The mode that a node runs, and the mode that it runs next.
--
-- A frame asks for a mode by the first byte of its payload. A node that sends it or accepts it keeps that mode as its
-- next one, and goes over to it when the cluster cycle ends. All is read from the newest stint of its diary.
--
-- A history has its newest slot first, and its length is the number of the slot after it.
use Rattle.std.specs.Prelude.{ℕ, suc, ◌-◌, ◌/◌, ◌%◌, ◌^◌, Bool, ◌&&◌, ◌==◌, List, [], ◌∷◌, length, get_or, Option, Some}
use Rattle.std.specs.Prelude.{None, if◌then◌else◌}
use Rattle.std.specs.Option.{option_or}
use Rattle.ttp_world.specs.declared.medl.Medl.{Medl}
use Rattle.ttp_world.specs.declared.node.Delivered.{Delivered}
use Rattle.ttp_world.specs.declared.node.Entry.{Entry}
use Rattle.ttp_world.specs.declared.node.Entry.TheVariants as entry
use Rattle.ttp_world.specs.declared.script.Script.{Script}
use Rattle.ttp_world.specs.Diary.{History, entry_of, diary_of, Place, place_of, ends_round}
use Rattle.ttp_world.specs.Legal.{is_between}
use Rattle.ttp_world.specs.Medl.{plan_at}
use Rattle.ttp_world.specs.Messages.{delivered_of}
use Rattle.ttp_world.specs.Outgoing.{message_chosen}
use Rattle.mode_change.specs.declared.node.Modes.{Modes}

-- What a frame asks for.

-- the mode for which a payload of node p asks: its first byte b asks for mode b - 1, where the list has that mode and
-- lets the node's slot ask
abbrev pub mode_asked : Medl → ℕ → List ℕ → Option ℕ
mode_asked list p payload =
    let b = get_or payload 0 0 in
    if (plan_at list p).requests && is_between 1 list.modes b then Some (b - 1) else None

-- by the payload that node k sent in a slot, if its entry says that it sent one
abbrev pub mode_sent : Medl → Script → ℕ → ℕ → Entry → Option ℕ
mode_sent list script slot k (entry.Sent message) =
    mode_asked list k (message_chosen list script slot k message).payload
mode_sent list script slot k _ = None

-- by the payload that it delivered
abbrev pub mode_delivered : Medl → Option Delivered → Option ℕ
mode_delivered list None = None
mode_delivered list (Some delivered) = mode_asked list delivered.sender delivered.payload

-- what node k was asked for in the slot of a row: a node that sends delivers nothing
abbrev pub mode_requested : Medl → Script → List Entry → History → ℕ → Option ℕ
mode_requested list script row before k =
    option_or (mode_sent list script (length before) k (entry_of row k))
    (mode_delivered list (delivered_of list script before row k))

-- What a node knows.

-- `Modes`, a type of the code, is the mode that it runs, where it knows that, and the one that it runs next, where it
-- was asked for one.

-- those of a node that knows no mode and was asked for none
abbrev pub no_modes : Modes
no_modes = record { mode = None; next = None }

-- who begins when the cluster starts runs mode 0, and who joins later can't know which mode the others run
abbrev pub mode_at_begin : ℕ → Option ℕ
mode_at_begin time = if time == 0 then Some 0 else None

-- with the entry of a slot: a stint begins, goes on or ends
abbrev pub modes_with : Entry → Modes → Modes
modes_with entry.Started modes = record { mode = mode_at_begin 0; next = None }
modes_with (entry.Joined sender cstate deviation) modes = record { mode = mode_at_begin cstate.time; next = None }
modes_with (entry.Sent message) modes = modes
modes_with (entry.Judged sender v deviation) modes = modes
modes_with _ modes = no_modes

-- with what it was asked for, in place of what it was asked for before
abbrev pub with_request : Option ℕ → Modes → Modes
with_request request modes = record { mode = modes.mode; next = option_or request modes.next }

-- it is the last slot of a cluster cycle
abbrev pub ends_cycle : Medl → Place → Bool
ends_cycle list place = ends_round list place && (suc place.round == list.rounds)

-- the next mode, if there is one, becomes the mode
abbrev pub switched : Modes → Modes
switched modes = record { mode = option_or modes.next modes.mode; next = None }

-- at the end of the cluster cycle the next mode becomes the mode; else nothing changes
abbrev pub switched_at : Bool → Modes → Modes
switched_at ends modes = if ends then switched modes else modes

-- what node k knows after a history
abbrev pub modes_of : Medl → Script → History → ℕ → Modes
modes_of list script [] k = no_modes
modes_of list script (row ∷ history) k =
    switched_at (ends_cycle list (place_of list k (diary_of (row ∷ history) k)))
    (with_request (mode_requested list script row history k)
    (modes_with (entry_of row k) (modes_of list script history k)))

-- the mode that node k runs, if it knows that
abbrev pub mode_of : Medl → Script → History → ℕ → Option ℕ
mode_of list script history k = (modes_of list script history k).mode

-- the mode that it runs next, if it was asked for one
abbrev pub next_of : Medl → Script → History → ℕ → Option ℕ
next_of list script history k = (modes_of list script history k).next

-- Whether a payload is live.

-- in this mode that of node p is: bit m of `live`, the least significant first, is mode m
abbrev pub is_live : Medl → ℕ → ℕ → Bool
is_live list p mode = (plan_at list p).live / 2 ^ mode % 2 == 1

-- the payload that was delivered is live in the mode that is known, where both are
abbrev pub is_delivery_live : Medl → Option Delivered → Option ℕ → Option Bool
is_delivery_live list None mode = None
is_delivery_live list (Some delivered) None = None
is_delivery_live list (Some delivered) (Some mode) = Some (is_live list delivered.sender mode)

-- what node k delivered in the slot of a row, by the mode that it knew before the slot's end
abbrev pub live_in : Medl → Script → List Entry → History → ℕ → Option Bool
live_in list script row before k =
    is_delivery_live list (delivered_of list script before row k) (mode_of list script before k)
