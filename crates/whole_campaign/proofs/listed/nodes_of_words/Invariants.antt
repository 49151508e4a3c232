use Rattle.std.proofs.Common.{◌≡◌, ◌≤◌, Some, fold}
use Rattle.std.specs.Prelude.{IfSome}
use Rattle.whole_campaign.specs.Words.{with_node_word, no_nodes_yet, words_listed, words_left}
use Rattle.whole_campaign.proofs.CommaLists.{length_left, bytes_left}
use Rattle.whole_campaign.proofs.listed.nodes_of_words.Given as goal

-- the nodes so far, and those of the words that are left
abbrev pub invariant-loop-left : goal.invariant-loop-left
invariant-loop-left l = record {
  words :
      fold (with_node_word l.kind l.nodes) l.so_far (words_left (bytes_left l.left))
      ≡ fold (with_node_word l.kind l.nodes) (Some no_nodes_yet) (words_listed l.list);
  few : IfSome l.so_far (λ s. s.count ≤ s.least);
}

abbrev pub decreases-loop-left : goal.decreases-loop-left
decreases-loop-left l = length_left (bytes_left l.left)
