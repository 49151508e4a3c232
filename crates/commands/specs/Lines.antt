-- Pieces that are lines, and a line that a call says as it ends.
use Rattle.std.specs.Prelude.{◌≡◌, ◌⊎◌, ℕ, true, List, [], ◌∷◌, ◌++◌}
use Rattle.std.specs.List.{AllByRecursion}
use Rattle.ttp_base.specs.Outside.{Output, WroteLines, CutShort}
use Rattle.ttp_base.specs.Text.{is_line}

-- each of these pieces is one line
abbrev pub AreLines : List (List ℕ) → Type 0
AreLines pieces = AllByRecursion (λ piece. is_line piece ≡ true) pieces

-- the pieces that were given whole are lines
pub record GaveLines (before now : Output) : Type 0 where
  pub pieces : List (List ℕ)
  pub given : now.pieces ≡ before.pieces ++ pieces
  pub lines : AreLines pieces

-- a line that a call says as it ends, and the status that it answers then
pub record Notice : Type 0 where
  pub status : ℕ
  pub line : List ℕ

-- such a line with its status
abbrev pub notice : ℕ → List ℕ → Notice
notice status line = record { status = status; line = line }

-- it was said: the line was written, as one piece, and the status answered, or a fault of the sink cut the line short,
-- which is status 6
abbrev pub HasSaid : Notice → Output → Output → ℕ → Type 0
HasSaid said before now status =
    ((status ≡ said.status) × WroteLines before now (said.line ∷ []))
    ⊎ ((status ≡ 6) × CutShort before now (said.line ∷ []))
