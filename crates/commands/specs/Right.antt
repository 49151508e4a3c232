-- What files are that a command takes.
use Rattle.std.specs.Prelude.{◌≡◌, ◌≤◌, ℕ, List, length, Ok}
use Rattle.ttp_base.specs.Outside.{Held, untold, absent, holds, HasRisen}
use Rattle.ttp_world.specs.declared.medl.Medl.{Medl}
use Rattle.ttp_world.specs.declared.script.Script.{Script}
use Rattle.medl_text.specs.ListFile.{medl_of}
use Rattle.script_text.specs.ScriptFile.{script_of}
use Rattle.commands.specs.Plan.{Outside}
use Rattle.commands.specs.Read.{list_limit, script_limit}

-- these may be the bytes that are held
abbrev pub MayBe : Held → List ℕ → Type 0
MayBe untold bytes = Unit {0}
MayBe absent bytes = ⊥
MayBe (holds all) bytes = bytes ≡ all

-- bytes that are a list, and a script for it
pub record AreRight (bytes script_bytes : List ℕ) (medl : Medl) (right : Script) : Type 0 where
  pub size : length bytes ≤ list_limit
  pub list : medl_of bytes ≡ Ok medl
  pub script_size : length script_bytes ≤ script_limit
  pub script : script_of medl script_bytes ≡ Ok right

-- the files of these names hold a right list and a right script, and no count of a name rose
pub record AreTold (list script : List ℕ) (before now : Outside) (medl : Medl) (right : Script) : Type 0 where
  pub bytes : List ℕ
  pub script_bytes : List ℕ
  pub list_file : before.files.held list ≡ holds bytes
  pub script_file : before.files.held script ≡ holds script_bytes
  pub are : AreRight bytes script_bytes medl right
  pub list_quiet : ¬ HasRisen (before.files.faults list) (now.files.faults list)
  pub script_quiet : ¬ HasRisen (before.files.faults script) (now.files.faults script)
