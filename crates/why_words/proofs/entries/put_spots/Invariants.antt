use Rattle.std.proofs.Common.{◌≡◌, ◌++◌, take}
use Rattle.std.specs.Prelude.{map}
use Rattle.causes.specs.WhyText.{spot_word}
use Rattle.why_words.proofs.FromBelow.{joined}
use Rattle.why_words.proofs.entries.put_spots.Given as goal

-- the words so far
abbrev pub invariant-loop-place : goal.invariant-loop-place
invariant-loop-place l = l.text ≡ l.initial.text ++ joined (map spot_word (take l.place l.spots))
