-- What hosts do, with the slots as keys: their reads, and the places of their writes among the events.
use Rattle.std.specs.Prelude.{ℕ, suc, List, [], ◌∷◌, Option, Some, None}
use Rattle.std.specs.List.{cons_option}
use Rattle.ttp_world.specs.declared.host_lines.HostRead.{HostRead}
use Rattle.ttp_world.specs.declared.script.Event.{Event}
use Rattle.ttp_world.specs.declared.script.Event.TheVariants as event
use Rattle.ttp_world.specs.declared.sorted.Keyed.{Keyed}

-- what a host reads, with its slot as the key; of another event nothing
abbrev pub keyed_read : Event → Option (Keyed HostRead)
keyed_read (event.Read node slot from) =
    Some (record { key = slot; value = record { host = node; source = from } })
keyed_read _ = None

-- the place of a write among the events, with its slot as the key; of another event nothing
abbrev pub keyed_write : ℕ → Event → Option (Keyed ℕ)
keyed_write place (event.Write node slot payload) = Some (record { key = slot; value = place })
keyed_write place _ = None

-- the places of the writes among events of which the first has this place
abbrev pub keyed_writes : ℕ → List Event → List (Keyed ℕ)
keyed_writes place [] = []
keyed_writes place (e ∷ events) = cons_option (keyed_write place e) (keyed_writes (suc place) events)
