-- What a `yes` is worth, in the words of the lines.
use Rattle.std.specs.Prelude.{◌≡◌, ℕ, List, ◌++◌, codes}

-- these words stand in a line
pub record StandIn (words line : List ℕ) : Type 0 where
  pub front : List ℕ
  pub rest : List ℕ
  pub whole : line ≡ front ++ words ++ rest

-- A line whose test says yes tells that nobody was hurt, and that memberships were never split; and the line of counts
-- of such runs counts none in which that was otherwise.
pub record IsSafeLine (line : List ℕ) : Type 0 where
  pub yes : StandIn (codes " yes start ") line → StandIn (codes " hurt - split - - end ") line
  pub kept : (rest : List ℕ) → line ≡ codes "kept " ++ rest → StandIn (codes " hurt 0 split 0 torn ") line
