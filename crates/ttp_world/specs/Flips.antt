-- Flipped bits with the keys of their nodes and slots.
use Rattle.std.specs.Prelude.{◌<◌, Option, Some, None}
use Rattle.ttp_world.specs.declared.events.FlippedBit.{FlippedBit}
use Rattle.ttp_world.specs.declared.index.TheConstants.{NODE_KEYS}
use Rattle.ttp_world.specs.declared.script.Event.{Event}
use Rattle.ttp_world.specs.declared.script.Event.TheVariants as event
use Rattle.ttp_world.specs.declared.sorted.Keyed.{Keyed}
use Rattle.ttp_world.specs.Sorted.{key_of}

-- a flip with the key of its node and slot; of another event nothing
abbrev pub keyed_flip : Event → Option (Keyed FlippedBit)
keyed_flip (event.Flip node channels bit slot) =
    Some (record { key = key_of node slot; value = record { channels = channels; bit = bit } })
keyed_flip _ = None

-- the slot of a flip has a key
abbrev pub HasFlipKey : Event → Type 0
HasFlipKey (event.Flip node channels bit slot) = slot < NODE_KEYS
HasFlipKey _ = Unit {0}
