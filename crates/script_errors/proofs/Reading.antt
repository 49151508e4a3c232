-- A script that is read line by line.
use Rattle.std.proofs.Common.{◌≡◌, ℕ, ◌+◌, ◌≤◌, Bool, false, List, ◌++◌, length, Option}
use Rattle.std.proofs.Common.{arith, refl}
use Rattle.ttp_world.specs.declared.medl.Medl.{Medl}
use Rattle.script_text.specs.Lines.{lines_of_file}
use Rattle.script_errors.specs.declared.error.ScriptError.{ScriptError}
use Rattle.script_errors.specs.declared.so_far.SoFar.{SoFar}
use Rattle.script_errors.specs.Errors.{Before, no_line_before, lines_errors}
use Rattle.script_errors.specs.Errors.{list_errors}
use Rattle.script_errors.specs.SoFar.{StandsFor}

-- the errors so far and those of what is left are all
pub record IsReading (list : Option Medl) (text : List ℕ) (first : List ScriptError) (so_far : SoFar) (said : Bool)
    (number : ℕ) (rest : List ℕ) (found : List ScriptError) : Type 0 where
  pub before : Before
  pub stands : StandsFor list so_far before
  pub errors : found ++ lines_errors list before said number (lines_of_file rest)
      ≡ first ++ lines_errors list no_line_before false 1 (lines_of_file text)
  pub counted : 1 ≤ number
  pub count : number + length rest ≤ length text + 1

pub reading_none : (list : Option Medl) (text : List ℕ) (first : List ScriptError) (so_far : SoFar)
    → StandsFor list so_far no_line_before → IsReading list text first so_far false 1 text first
reading_none list text first so_far stands =
    record { before = no_line_before; stands = stands; errors = refl; counted = omega arith; count = omega arith }

-- no line so far says anything
pub record IsLooking (text : List ℕ) (number : ℕ) (rest : List ℕ) : Type 0 where
  pub errors : list_errors number (lines_of_file rest) ≡ list_errors 1 (lines_of_file text)
  pub counted : 1 ≤ number
  pub count : number + length rest ≤ length text + 1
