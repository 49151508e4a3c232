-- What a call has loaded, and how it ended where a file gave it nothing that it takes.
use Rattle.std.specs.Prelude.{◌≡◌, ◌⊎◌, ℕ, List, Result, Ok, Err}
use Rattle.ttp_base.specs.Outside.{Gives}
use Rattle.commands.specs.Lines.{Notice, HasSaid}
use Rattle.commands.specs.Outcome.{Asked, Failed}
use Rattle.commands.specs.Plan.{Outside, File, missed}

-- a file was asked for and gave these bytes, and nothing was written
pub record Loaded (file : File) (before now : Outside) (bytes : List ℕ) : Type 0 where
  pub asked : Asked file before.files now.files
  pub gives : Gives (before.files.held file.name) file.limit bytes
  pub silent : now.output ≡ before.output

-- it gave none: it could not be loaded, and that was said, or memory was refused, which is status 7, and nothing was
-- written
abbrev pub GaveNone : File → Outside → Outside → ℕ → Type 0
GaveNone file before now status =
    (Failed file before.files now.files × HasSaid (missed file) before.output now.output status)
    ⊎ (Asked file before.files now.files × ((status ≡ 7) × (now.output ≡ before.output)))

-- it gave bytes that are read as this value
pub record Took {X F : Type 0} (file : File) (read : List ℕ → Result X F) (before now : Outside) (value : X) : Type 0
  where
    pub bytes : List ℕ
    pub loaded : Loaded file before now bytes
    pub taken : read bytes ≡ Ok value

-- it gave bytes that are refused, and what is wrong with them was said
pub record Denied {X F : Type 0} (file : File) (read : List ℕ → Result X F)
    (refused : F → Notice) (before now : Outside)
    (status : ℕ) : Type 0 where
  pub bytes : List ℕ
  pub asked : Asked file before.files now.files
  pub gives : Gives (before.files.held file.name) file.limit bytes
  pub fault : F
  pub wrong : read bytes ≡ Err fault
  pub said : HasSaid (refused fault) before.output now.output status

-- the call ended without a value, with this status
abbrev pub TookNone : {X F : Type 0} → File → (List ℕ → Result X F) → (F → Notice) → Outside → Outside → ℕ → Type 0
TookNone file read refused before now status =
    GaveNone file before now status ⊎ Denied file read refused before now status
