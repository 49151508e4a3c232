-- Nodes of small slots.
use Rattle.std.specs.Prelude.{ℕ, ℤ, pos, [], ◌∷◌, Option, Some, None}
use Rattle.ttp_world.specs.declared.node.Ack.TheVariants as ack
use Rattle.line_reader.specs.declared.trace_line.Word.{Word}
use Rattle.line_reader.specs.declared.trace_line.Word.TheVariants as word
use Rattle.whole_trace.specs.declared.shown.NodeShown.{NodeShown}
use Rattle.whole_trace.specs.Whole.{SlotLines}
use Rattle.lab_rows.specs.Small.{shown}

-- a node with this word and clock, for which this node is due
abbrev pub node_with : Word → Option ℕ → ℤ → NodeShown
node_with w due clock = shown w due None [] 0 0 ack.Closed clock

-- an active node with this clock
abbrev pub correct_at : ℤ → NodeShown
correct_at clock = node_with word.Correct (Some 1) clock

-- one with this word
abbrev pub that : Word → NodeShown
that w = node_with w (Some 1) (pos 0)

-- a slot in which nobody does anything
abbrev pub idle : SlotLines
idle = record { nodes = that word.Wait ∷ that word.Off ∷ []; hosts = [] }
