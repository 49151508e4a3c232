-- The table of the check words of single bytes.
use Rattle.std.proofs.Common.{◌≡◌, ℕ, ◌<◌, [], ◌∷◌, get_or, map, refl, ap, ◌∙◌, zero-add}
use Rattle.std.specs.List.{range_with_len}
use Rattle.std.proofs.lemmas.List.FromFn.{get_or-map-range_with_len}
use Rattle.ttp_world.specs.CheckWord.{check_word}
use Rattle.ttp_frame.specs.declared.check_word.table.TheConstants.{WORDS}

-- the check word of a byte alone
abbrev word_alone : ℕ → ℕ
word_alone byte = check_word 0 (byte ∷ [])

-- each entry is computed, bit by bit
WORDS_are : WORDS ≡ map word_alone (range_with_len 0 256)
WORDS_are = refl

pub get_or-WORDS : (byte : ℕ) → byte < 256 → get_or WORDS byte 0 ≡ check_word 0 (byte ∷ [])
get_or-WORDS byte fits =
    ap (λ words. get_or words byte 0) WORDS_are
    ∙ get_or-map-range_with_len word_alone 0 256 byte byte 0 fits (zero-add byte)
