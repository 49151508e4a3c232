-- Whether a text is the trace of a run, and where it is none, which of its lines is the first wrong one.
use Rattle.std.specs.Prelude.{◌≡◌, ℕ, ◌-◌, ◌≤◌, Bool, ◌&&◌, List, take}
use Rattle.std.specs.List.{concat}
use Rattle.std.specs.Str.{bytes_eq}
use Rattle.ttp_base.specs.Text.{lines_of}
use Rattle.ttp_world.specs.declared.medl.Medl.{Medl}
use Rattle.ttp_world.specs.declared.script.Script.{Script}
use Rattle.ttp_world.specs.Legal.{is_legal, IsLegalRun}
use Rattle.ttp_world.specs.Trace.{trace_lines}
use Rattle.ttp_world.specs.TraceNumbers.{numbers_in}
use Rattle.ttp_world.specs.World.{Numbers}

-- a text is the trace of the run with these message numbers, and they are legal
abbrev pub is_trace_by : Medl → Script → Numbers → List ℕ → Bool
is_trace_by list script numbers text =
    is_legal list script numbers && bytes_eq text (concat (trace_lines list script numbers))

-- it is that of the run with the numbers that its own lines name
unfoldable pub is_trace : Medl → Script → List ℕ → Bool
is_trace list script text = is_trace_by list script (numbers_in list script (lines_of text)) text

-- The first lines of a text, so many, are those of the trace of the run with some legal message numbers. A text is
-- cut into lines at its line feeds, and a rest without a line feed is a line too, which no trace has. Where there are
-- fewer lines in one of the two, there are as few in the other.
pub record BeginsAsTrace (list : Medl) (script : Script) (text : List ℕ) (count : ℕ) : Type 0 where
  pub numbers : Numbers
  pub legal : IsLegalRun list script numbers
  pub lines : take count (lines_of text) ≡ take count (trace_lines list script numbers)

-- Some legal numbers give all lines of a text before the line of this number, counted from 1, and none give these and
-- that line too. It may be a line that the text lacks, or one that it has behind a whole trace.
pub record IsFirstWrong (list : Medl) (script : Script) (text : List ℕ) (line : ℕ) : Type 0 where
  pub counted : 1 ≤ line
  pub before : BeginsAsTrace list script text (line - 1)
  pub wrong : ¬ (BeginsAsTrace list script text line)
