use Rattle.std.proofs.Common.{◌≡◌, take}
use Rattle.std.specs.Prelude.{map}
use Rattle.check_words.specs.Shown.{small_letter}
use Rattle.check_words.proofs.nearest.small_word.Given as goal

-- the letters so far
abbrev pub invariant-loop-byte : goal.invariant-loop-byte
invariant-loop-byte l = l.letters.items ≡ map small_letter (take l.byte-index l.word)
