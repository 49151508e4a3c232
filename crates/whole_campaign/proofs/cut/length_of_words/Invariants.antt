use Rattle.std.proofs.Common.{◌≡◌, ◌+◌, drop}
use Rattle.whole_campaign.specs.Words.{length_of_words}
use Rattle.whole_campaign.proofs.cut.length_of_words.Given as goal

-- the words that are left end where all of them do
abbrev pub invariant-loop-i : goal.invariant-loop-i
invariant-loop-i l = l.i + length_of_words l.left (drop l.i l.bytes) ≡ length_of_words l.count l.bytes
