-- The lines of the tests, and a text that ends with another.
use Rattle.std.specs.Prelude.{◌≡◌, ◌++◌, ℕ, List}
use Rattle.std.specs.List.{concat}
use Rattle.ttp_world.specs.declared.medl.Medl.{Medl}
use Rattle.ttp_world.specs.declared.script.Script.{Script}
use Rattle.ttp_world.specs.Trace.{test_lines}
use Rattle.commands.specs.Right.{AreRight}

-- the bytes are a list and a script for it, and the text is the lines of its tests
pub record AreTested (list_bytes script_bytes text : List ℕ) : Type 0 where
  pub list : Medl
  pub script : Script
  pub are : AreRight list_bytes script_bytes list script
  pub whole : text ≡ concat (test_lines list script)

-- a text ends with these bytes
abbrev pub EndsWith : List ℕ → List ℕ → Type 0
EndsWith text end = (front : List ℕ) × (text ≡ front ++ end)
