use Rattle.std.proofs.Common.{◌≡◌, ◌++◌, take}
use Rattle.std.specs.Prelude.{map}
use Rattle.causes.specs.WhyText.{number_word}
use Rattle.why_words.proofs.FromBelow.{joined}
use Rattle.why_words.proofs.lists.put_numbers_of.Given as goal

-- the words so far
abbrev pub invariant-loop-place : goal.invariant-loop-place
invariant-loop-place l = l.text ≡ l.initial.text ++ joined (map (number_word l.numbers) (take l.place l.lines))
