-- What the outside tells, and what a call of it leaves: files that are held and asked for, bytes that are written, and
-- counts of faults.
use Rattle.std.specs.Prelude.{◌≡◌, ◌==◌, ℕ, ◌+◌, ◌-◌, ◌^◌, ◌≤◌, min, Bool, false, true, Option}
use Rattle.std.specs.Prelude.{List, [], ◌∷◌, ◌++◌, length, take}
use Rattle.std.specs.List.{concat, list_any}
use Rattle.std.specs.Io.KnownBytes.{Appends}
use Rattle.ttp_base.specs.Text.{Lines}

-- ---- counts

-- the last number that a count reaches, where it stands still
abbrev pub count_end : ℕ
count_end = 2 ^ 64 - 1

-- the count rose, or it stands at its end
abbrev pub HasRisen : ℕ → ℕ → Type 0
HasRisen before now = min (before + 1) count_end ≤ now

-- whether the call of this number is one of those that are to fail
abbrev pub comes_up : List ℕ → ℕ → Bool
comes_up fail call = list_any (λ number. number == call) fail

-- whether no call is to fail
abbrev pub never_fails : List ℕ → Bool
never_fails [] = true
never_fails (number ∷ numbers) = false

-- ---- files

-- What a library tells of a name: nothing at all, that it holds nothing under it, or the bytes that it holds.
pub data Held : Type 0 where
  untold : Held
  absent : Held
  holds : (bytes : List ℕ) → Held

-- a load of these bytes: the name that is asked for, and how many bytes are taken, less one
pub record Load : Type 0 where
  pub name : List ℕ
  pub limit : ℕ

-- what a library tells of the names, whether it is sure of each, its counts of faults with them, its count of all
-- faults, and the loads that it was asked for so far, the first one first. Of a name that it is sure of no load fails
-- but for want of memory.
pub record Files : Type 0 where
  pub held : List ℕ → Held
  pub sure : List ℕ → Bool
  pub faults : List ℕ → ℕ
  pub all_faults : ℕ
  pub loads : List Load

-- what a load with this limit may give: the first bytes of those that are held, one more than the limit
abbrev pub Gives : Held → ℕ → List ℕ → Type 0
Gives untold limit given = length given ≤ limit + 1
Gives absent limit given = ⊥
Gives (holds all) limit given = given ≡ take (limit + 1) all

-- one load more was asked for: this one
abbrev pub AskedFor : Files → Files → List ℕ → ℕ → Type 0
AskedFor before now name limit = now.loads ≡ before.loads ++ record { name = name; limit = limit } ∷ []

-- under each name the same is held, and told, as before; it is as sure of each, and counted no fault of those that it
-- is sure of
pub record HoldsTheSame (before now : Files) : Type 0 where
  pub held : (name : List ℕ) → now.held name ≡ before.held name
  pub sure : (name : List ℕ) → now.sure name ≡ before.sure name
  pub calm : (name : List ℕ) → before.sure name ≡ true → now.faults name ≡ before.faults name

-- no count fell: that of no name, nor that of all faults
pub record NoneFell (before now : Files) : Type 0 where
  pub names : (name : List ℕ) → before.faults name ≤ now.faults name
  pub all : before.all_faults ≤ now.all_faults

-- no count changed: that of no name, nor that of all faults
pub record NoneRose (before now : Files) : Type 0 where
  pub names : (name : List ℕ) → now.faults name ≡ before.faults name
  pub all : now.all_faults ≡ before.all_faults

-- no fault was counted so far
pub record NoneCounted (files : Files) : Type 0 where
  pub names : (name : List ℕ) → files.faults name ≡ 0
  pub all : files.all_faults ≡ 0

-- ---- output

-- The bytes that were written so far, where the sink tells them, the pieces that it took whole, the first one first,
-- and the count of faults. It is sure to take what is shorter than `takes`, in whatever pieces it comes; 0 where it is
-- sure of nothing.
pub record Output : Type 0 where
  pub written : Option (List ℕ)
  pub pieces : List (List ℕ)
  pub faults : ℕ
  pub takes : ℕ

-- known bytes grow by the first bytes of a text, by none of them or by all
abbrev pub AppendsFront : Option (List ℕ) → Option (List ℕ) → List ℕ → Type 0
AppendsFront before now text = (n : ℕ) × Appends before now (take n text)

-- these pieces were written, one after another, and there was no fault; what it was sure to take it still is, but for
-- them
pub record Wrote (before now : Output) (pieces : List (List ℕ)) : Type 0 where
  pub bytes : Appends before.written now.written (concat pieces)
  pub given : now.pieces ≡ before.pieces ++ pieces
  pub quiet : now.faults ≡ before.faults
  pub left : before.takes ≤ now.takes + length (concat pieces)

-- a text was written, each of its lines as one piece
abbrev pub WroteLines : Output → Output → Lines → Type 0
WroteLines before now lines = Wrote before now lines

-- A fault cut a text short: some of its first lines, or none, were written as a piece each, and then some first bytes
-- of the next line, or none, or all of them where it failed after them. The count of faults rose. The sink was not sure
-- to take the whole text.
pub record CutShort (before now : Output) (lines : Lines) : Type 0 where
  pub whole : Lines
  pub next : List ℕ
  pub rest : Lines
  pub text : lines ≡ whole ++ next ∷ rest
  pub given : now.pieces ≡ before.pieces ++ whole
  pub front : (n : ℕ) × Appends before.written now.written (concat whole ++ take n next)
  pub risen : HasRisen before.faults now.faults
  pub count : before.faults ≤ now.faults
  pub short : before.takes ≤ length (concat lines)
