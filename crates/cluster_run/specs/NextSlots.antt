-- The slot after the world of some message numbers.
use Rattle.std.specs.Prelude.{List, length}
use Rattle.ttp_world.specs.declared.medl.Medl.{Medl}
use Rattle.ttp_world.specs.declared.node.Entry.{Entry}
use Rattle.ttp_world.specs.declared.script.Script.{Script}
use Rattle.ttp_world.specs.World.{SlotNumbers, Numbers, slot_after, messages_chosen, row_in, world}

-- its row, by the slot's own numbers
abbrev pub next_row : Medl → Script → SlotNumbers → Numbers → List Entry
next_row list script new numbers =
    row_in (slot_after list script (world list script numbers)) (messages_chosen list script (length numbers) new.sent)
