-- The text of modes: for each slot and each node the mode that it runs after the slot, the mode that it runs next, and
-- whether what it delivered was live.
use Rattle.std.specs.Prelude.{ℕ, Bool, true, false, List, [], ◌∷◌, ◌++◌, map}
use Rattle.std.specs.Prelude.{length, Option, Some, None, codes, decimal}
use Rattle.ttp_base.specs.NodeSet.{below}
use Rattle.ttp_base.specs.Text.{Lines, newline}
use Rattle.ttp_world.specs.declared.medl.Medl.{Medl}
use Rattle.ttp_world.specs.declared.node.Entry.{Entry}
use Rattle.ttp_world.specs.declared.script.Script.{Script}
use Rattle.ttp_world.specs.Diary.{History}
use Rattle.ttp_world.specs.Trace.{number_or_dash}
use Rattle.ttp_world.specs.World.{Numbers, world}
use Rattle.mode_change.specs.declared.node.Modes.{Modes}
use Rattle.mode_change.specs.Modes.{modes_of, live_in}

-- the first line of a text of modes
abbrev pub mode_head : Medl → Script → List ℕ
mode_head list script =
    codes "ttpbench modes 1 nodes " ++ decimal (length list.slots) ++ codes " slots " ++ decimal script.slots ++ newline

-- the word for whether a delivered payload is live, or a dash where none is or the node knew no mode
abbrev pub live_word : Option Bool → List ℕ
live_word None = codes "-"
live_word (Some true) = codes "yes"
live_word (Some false) = codes "no"

-- the line of node k after a slot: the mode that it runs, the next one, and whether what it delivered is live
abbrev pub mode_line : ℕ → ℕ → Modes → Option Bool → List ℕ
mode_line slot k modes live =
    codes "slot " ++ decimal slot ++ codes " node " ++ decimal k
    ++ codes " mode " ++ number_or_dash modes.mode ++ codes " next " ++ number_or_dash modes.next
    ++ codes " live " ++ live_word live ++ newline

-- the line of node k after the slot of a row
abbrev pub mode_line_of : Medl → Script → List Entry → History → ℕ → List ℕ
mode_line_of list script row before k =
    mode_line (length before) k (modes_of list script (row ∷ before) k) (live_in list script row before k)

-- a slot
abbrev pub mode_slot_lines : Medl → Script → List Entry → History → Lines
mode_slot_lines list script row before = map (mode_line_of list script row before) (below (length list.slots))

-- the oldest slot first
abbrev pub mode_history_lines : Medl → Script → History → Lines
mode_history_lines list script [] = []
mode_history_lines list script (row ∷ history) =
    mode_history_lines list script history ++ mode_slot_lines list script row history

-- the text of modes of a run
abbrev pub mode_lines : Medl → Script → Numbers → Lines
mode_lines list script numbers = mode_head list script ∷ mode_history_lines list script (world list script numbers)
