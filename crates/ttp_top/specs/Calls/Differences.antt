-- The line that says that a text is the trace of a run.
use Rattle.std.specs.Prelude.{ℕ, List, codes}

-- the line on a text that is a trace of its list and script
abbrev pub same_line : List ℕ
same_line = codes "same\n"
