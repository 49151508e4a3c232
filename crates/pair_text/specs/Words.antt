-- The words of a line, by its numbers.
use Rattle.std.specs.Prelude.{ℕ, List, ◌++◌, codes, decimal}
use Rattle.ttp_base.specs.Text.{newline}

-- the first line, by its first words and its numbers
abbrev pub pairs_head_words : List ℕ → ℕ → ℕ → ℕ → ℕ → ℕ → List ℕ
pairs_head_words name nodes slots first last within =
    name ++ decimal nodes ++ codes " slots " ++ decimal slots
    ++ codes " from " ++ decimal first ++ codes " to " ++ decimal last ++ codes " within " ++ decimal within ++ newline
