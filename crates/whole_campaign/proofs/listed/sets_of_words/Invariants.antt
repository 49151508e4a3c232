use Rattle.std.proofs.Common.{◌≡◌, ◌+◌, ◌≤◌, Some, fold, length}
use Rattle.std.specs.Prelude.{IfSome}
use Rattle.whole_campaign.specs.Words.{with_set_word, no_sets_yet, words_listed, words_left}
use Rattle.whole_campaign.proofs.CommaLists.{length_left, bytes_left}
use Rattle.whole_campaign.proofs.listed.sets_of_words.Given as goal

-- the memberships so far, and those of the words that are left
abbrev pub invariant-loop-left : goal.invariant-loop-left
invariant-loop-left l = record {
  words :
      fold (with_set_word l.nodes) l.so_far (words_left (bytes_left l.left))
      ≡ fold (with_set_word l.nodes) (Some no_sets_yet) (words_listed l.list);
  room : IfSome l.so_far (λ s. s.count + length_left (bytes_left l.left) ≤ length l.list + 1);
}

abbrev pub decreases-loop-left : goal.decreases-loop-left
decreases-loop-left l = length_left (bytes_left l.left)
