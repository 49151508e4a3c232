-- The texts that a call may write, what it keeps beside them, and what it answers.
use Rattle.std.specs.Prelude.{◌≡◌, ℕ, [], Option, None}
use Rattle.ttp_base.specs.Outside.{Output, WroteLines, CutShort}
use Rattle.ttp_base.specs.Text.{Lines}

-- What is a program's own in all of this: names for sets of texts, which texts are of a set, what a call may keep for
-- its caller, and what it keeps beside a text of a set that is written whole.
pub record Program : Type 1 where
  pub Sets : Type 0
  pub Kept : Type 0
  pub IsOf : Sets → Lines → Type 0
  pub Beside : Sets → Lines → Option Kept → Type 0

-- A set of texts: one text alone, or a set that a program has a name for.
pub data Texts (Sets : Type 0) : Type 0 where
  one : (lines : Lines) → Texts Sets
  those : (set : Sets) → Texts Sets

-- no lines
abbrev pub no_texts : {Sets : Type 0} → Texts Sets
no_texts = one []

-- some lines are one of the texts
abbrev pub IsAmong : (p : Program) → Texts p.Sets → Lines → Type 0
IsAmong p (one text) lines = lines ≡ text
IsAmong p (those set) lines = p.IsOf set lines

-- nothing is kept beside one text
abbrev pub IsKeptBeside : (p : Program) → Texts p.Sets → Lines → Option p.Kept → Type 0
IsKeptBeside p (one text) lines kept = kept ≡ None
IsKeptBeside p (those set) lines kept = p.Beside set lines kept

-- one of these texts was written, each of its lines as one piece
pub record WroteAmong (p : Program) (texts : Texts p.Sets) (before now : Output) : Type 0 where
  pub lines : Lines
  pub among : IsAmong p texts lines
  pub wrote : WroteLines before now lines

-- a fault of the sink cut one of these texts short
pub record CutAmong (p : Program) (texts : Texts p.Sets) (before now : Output) : Type 0 where
  pub lines : Lines
  pub among : IsAmong p texts lines
  pub cut : CutShort before now lines

-- What a call answers: its status, and what it keeps.
pub record Answer (Kept : Type 0) : Type 0 where
  pub status : ℕ
  pub kept : Option Kept

-- an answer of these parts
abbrev pub answer : {Kept : Type 0} → ℕ → Option Kept → Answer Kept
answer status kept = record { status = status; kept = kept }

-- a status, and nothing kept
abbrev pub alone : {Kept : Type 0} → ℕ → Answer Kept
alone status = answer status None
