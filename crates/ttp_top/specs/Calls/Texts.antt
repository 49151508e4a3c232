-- The sets of texts that a call may write, beside single texts.
use Rattle.std.specs.Prelude.{◌≡◌, ◌⊎◌, ℕ, List, [], ◌∷◌, ◌++◌}
use Rattle.ttp_base.specs.Text.{Lines}
use Rattle.ttp_world.specs.declared.medl.Medl.{Medl}
use Rattle.ttp_world.specs.declared.script.Script.{Script}
use Rattle.ttp_world.specs.Legal.{IsLegalRun}
use Rattle.ttp_world.specs.Medl.{IsValid}
use Rattle.ttp_world.specs.Script.{IsValidScript}
use Rattle.ttp_world.specs.Trace.{trace_lines}
use Rattle.ttp_world.specs.World.{Numbers}
use Rattle.script_gen.specs.Generator.{generated}
use Rattle.trace_check.specs.Difference.{IsDifference}
use Rattle.ttp_top.specs.Calls.Precision.{precision_line}
use Rattle.ttp_top.specs.Samples.Lines.{sample_lines}

-- A set of texts.
pub data Sets : Type 0 where
  -- the traces of a list and a script: one for each choice of message numbers that is legal
  traces : (list : Medl) (script : Script) → Sets
  -- no lines, or the first lines of a trace of them, but not all
  fronts : (list : Medl) (script : Script) → Sets
  -- the line that names the first wrong one of a text that is no trace of them
  differences : (list : Medl) (script : Script) (text : List ℕ) → Sets
  -- the one line on a node that may be two-faced, which is the same for each legal choice
  precisions : (list : Medl) (script : Script) (node : ℕ) → Sets
  -- the four lines on a generated run, which are the same for each legal choice
  samples : (list : Medl) (slots number : ℕ) → Sets

-- the trace of the world's run for some legal numbers, of a valid list and a valid script
pub record IsTrace (list : Medl) (script : Script) (lines : Lines) : Type 0 where
  pub valid : IsValid list
  pub valid_script : IsValidScript list script
  pub numbers : Numbers
  pub legal : IsLegalRun list script numbers
  pub text : lines ≡ trace_lines list script numbers

-- some first lines of a trace, but not all
pub record IsFront (list : Medl) (script : Script) (lines : Lines) : Type 0 where
  pub whole : Lines
  pub trace : IsTrace list script whole
  pub next : List ℕ
  pub rest : Lines
  pub text : whole ≡ lines ++ next ∷ rest

-- the line on a node, whatever legal numbers a run has
abbrev pub IsPrecision : Medl → Script → ℕ → Lines → Type 0
IsPrecision list script node lines =
    (numbers : Numbers) → IsLegalRun list script numbers → lines ≡ precision_line list script node numbers ∷ []

-- the lines on a generated run, whatever legal numbers it has
abbrev pub IsSample : Medl → ℕ → ℕ → Lines → Type 0
IsSample list slots number lines =
    (numbers : Numbers) → IsLegalRun list (generated list slots number) numbers
    → lines ≡ sample_lines list slots number numbers

-- these lines are a text of a set
abbrev pub IsOf : Sets → Lines → Type 0
IsOf (traces list script) lines = IsTrace list script lines
IsOf (fronts list script) lines = (lines ≡ []) ⊎ IsFront list script lines
IsOf (differences list script text) lines = IsDifference list script text lines
IsOf (precisions list script node) lines = IsPrecision list script node lines
IsOf (samples list slots number) lines = IsSample list slots number lines
