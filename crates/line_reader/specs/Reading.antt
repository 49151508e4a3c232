-- How a line of a trace is read: by its form, and then as the value of its words.
use Rattle.std.specs.Prelude.{ℕ, List, Option, Some, None}
use Rattle.line_form.specs.Forms.{line_values}
pub use Rattle.line_form.specs.Kinds.{◌>>=◌}
use Rattle.line_reader.specs.declared.trace_line.TraceLine.{TraceLine}
use Rattle.line_reader.specs.TraceForms.{head_form, node_form, write_form, read_form, kept_form, broken_form, owed_form}
use Rattle.line_reader.specs.TraceForms.{refused_form, head_meaning, node_meaning, write_meaning}
use Rattle.line_reader.specs.TraceForms.{read_meaning, kept_meaning}
use Rattle.line_reader.specs.TraceForms.{broken_meaning, owed_meaning, refused_meaning}

-- Lines.

-- the first line that bytes are
unfoldable pub head_in : List ℕ → Option TraceLine
head_in bytes = line_values head_form bytes >>= head_meaning

-- the line of a node that they are
unfoldable pub node_in : List ℕ → Option TraceLine
node_in bytes = line_values node_form bytes >>= node_meaning

-- that of a message that a host wrote
unfoldable pub write_line_in : List ℕ → Option TraceLine
write_line_in bytes = line_values write_form bytes >>= write_meaning

-- that of one that a host read
unfoldable pub read_line_in : List ℕ → Option TraceLine
read_line_in bytes = line_values read_form bytes >>= read_meaning

-- that of the hypothesis test, where it says yes
unfoldable pub kept_in : List ℕ → Option TraceLine
kept_in bytes = line_values kept_form bytes >>= kept_meaning

-- where it says no
unfoldable pub broken_in : List ℕ → Option TraceLine
broken_in bytes = line_values broken_form bytes >>= broken_meaning

-- that on armed nodes, where it says yes
unfoldable pub owed_in : List ℕ → Option TraceLine
owed_in bytes = line_values owed_form bytes >>= owed_meaning

-- where it says no
unfoldable pub refused_in : List ℕ → Option TraceLine
refused_in bytes = line_values refused_form bytes >>= refused_meaning

-- what is read by one form, or else by another
abbrev pub or_else : Option TraceLine → Option TraceLine → Option TraceLine
or_else None other = other
or_else (Some v) other = Some v

-- the value of a line, if it is one
unfoldable pub line_in : List ℕ → Option TraceLine
line_in bytes =
    or_else (node_in bytes) (or_else (read_line_in bytes) (or_else (write_line_in bytes) (
    or_else (head_in bytes) (or_else (kept_in bytes) (or_else (broken_in bytes) (
    or_else (owed_in bytes) (refused_in bytes)))))))
