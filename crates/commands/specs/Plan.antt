-- How a command goes on: which file it asks for next, and how it ends, by what the files hold.
use Rattle.std.specs.Prelude.{◌≡◌, ℕ, ◌+◌, List, [], ◌∷◌, take, Option, Some, None, Result, Ok, Err}
use Rattle.ttp_base.specs.Outside.{Held, untold, absent, holds, Load, Files, Gives, Output}
use Rattle.commands.specs.Lines.{Notice, notice}
use Rattle.commands.specs.Texts.{Texts, one, no_texts}

-- what a call sees of the outside, and leaves of it
pub record Outside : Type 0 where
  pub files : Files
  pub output : Output

-- the outside of these parts
abbrev pub outside : Files → Output → Outside
outside files output = record { files = files; output = output }

-- the status, the texts of which one is due with it, and those of which one may stand where memory is refused
pub record Ending (Sets : Type 0) : Type 0 where
  pub status : ℕ
  pub texts : Texts Sets
  pub unfinished : Texts Sets

-- an ending for which all memory is taken before anything is written
abbrev pub whole_ending : {Sets : Type 0} → ℕ → Texts Sets → Ending Sets
whole_ending status texts = record { status = status; texts = texts; unfinished = no_texts }

-- one with this line alone
abbrev pub line_ending : {Sets : Type 0} → ℕ → List ℕ → Ending Sets
line_ending status line = whole_ending status (one (line ∷ []))

-- an ending by a notice
abbrev pub said_ending : {Sets : Type 0} → Notice → Ending Sets
said_ending said = line_ending said.status said.line

-- a file that is asked for: its name, how many bytes it may have, and the line that says that it could not be loaded
pub record File : Type 0 where
  pub name : List ℕ
  pub limit : ℕ
  pub missing : List ℕ

-- A command ends, or it asks for a file and goes on by the bytes that a load gives.
pub data Plan (Sets : Type 0) : Type 0 where
  ends : (ending : Ending Sets) → Plan Sets
  asks : (file : File) (next : List ℕ → Plan Sets) → Plan Sets

-- the load that asks for a file, and what is said where nothing is loaded
abbrev pub load_of : File → Load
load_of file = record { name = file.name; limit = file.limit }

abbrev pub missed : File → Notice
missed file = notice 5 file.missing

-- the ending of a command whose file is not loaded, with status 5
abbrev pub unloaded : {Sets : Type 0} → File → Ending Sets
unloaded file = said_ending (missed file)

-- what follows bytes that are taken for a value, or what is said of those that are not
abbrev pub after : {X F Sets : Type 0} → (F → Notice) → (X → Plan Sets) → Result X F → Plan Sets
after refused next (Ok value) = next value
after refused next (Err fault) = ends (said_ending (refused fault))

-- a file that is read as a value
abbrev pub read_plan : {X F Sets : Type 0} → File → (List ℕ → Result X F) → (F → Notice) → (X → Plan Sets) → Plan Sets
read_plan file read refused next = asks file (λ bytes. after refused next (read bytes))

-- after these loads, of files that may hold what is told of them, this is left of a plan
abbrev pub Comes : {Sets : Type 0} → (List ℕ → Held) → Plan Sets → List Load → Plan Sets → Type 0
Comes held plan [] rest = plan ≡ rest
Comes held (ends ending) (load ∷ loads) rest = ⊥
Comes held (asks file next) (load ∷ loads) rest =
    (load ≡ load_of file)
    × ((bytes : List ℕ) × Gives (held file.name) file.limit bytes × Comes held (next bytes) loads rest)

-- these are the first loads of a plan, in its order: the last of them may have given nothing
abbrev pub AsksFirst : {Sets : Type 0} → (List ℕ → Held) → Plan Sets → List Load → Type 0
AsksFirst held plan [] = Unit {0}
AsksFirst held (ends ending) (load ∷ loads) = ⊥
AsksFirst held (asks file next) (load ∷ []) = load ≡ load_of file
AsksFirst held (asks file next) (load ∷ (other ∷ loads)) =
    (load ≡ load_of file)
    × ((bytes : List ℕ) × Gives (held file.name) file.limit bytes × AsksFirst held (next bytes) (other ∷ loads))

-- the ending of a plan whose files are all told, and hold something
abbrev pub told_ending : {Sets : Type 0} → (List ℕ → Held) → Plan Sets → Option (Ending Sets)
told_ending held (ends ending) = Some ending
told_ending held (asks file next) =
    elim (held file.name) [
      | untold ↦ None
      | absent ↦ None
      | holds bytes ↦ told_ending held (next (take (file.limit + 1) bytes))
    ]
