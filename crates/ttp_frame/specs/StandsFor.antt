-- What a check stands for.
use Rattle.std.specs.Prelude.{◌≡◌, ℕ, List}
use Rattle.ttp_world.specs.CheckWord.{check_word}

-- a check, which contracts see as its word, has the word of these bytes from this start
abbrev pub CheckStandsFor : ℕ → ℕ → List ℕ → Type 0
CheckStandsFor check start fed = check ≡ check_word start fed
