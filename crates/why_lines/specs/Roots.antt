-- What the root adds to a story's lines.
use Rattle.std.specs.Prelude.{ℕ, zero, suc, List, []}
use Rattle.causes.specs.declared.cause.Spot.{Spot}

-- the entry at the first place of a story names the root, which no other does
abbrev pub root_at : ℕ → List Spot → List Spot
root_at zero root = root
root_at (suc place) root = []
