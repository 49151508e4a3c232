-- Of the numbers below one more number those that pass a test.
use Rattle.picture_text.proofs.Words.{◌≡◌, ℕ, ◌+◌, Bool, true, List, [], ◌∷◌, ◌++◌, length, sym, ap, ◌∙◌, ◌<◌}
use Rattle.picture_text.proofs.Words.{codes, get_or, filter, append-nil, flat_map-append, below}
use Rattle.picture_text.proofs.Words.{NodeShown, SlotLines, node_at, each_node}
use Rattle.std.proofs.Common.{decimal}
use Rattle.std.proofs.lemmas.List.{get_or_default}
use Rattle.shown_slot.specs.Trace.{no_shown_node}
use Rattle.ttp_world.proofs.ListFacts.{one-more as passes}

-- their numbers as a text
pub text-passes : (p : ℕ → Bool) (n : ℕ) → p n ≡ true
    → each_node (filter p (below (n + 1))) ≡ each_node (filter p (below n)) ++ (codes " " ++ decimal n)
text-passes p n good =
    ap each_node (passes p n good) ∙ flat_map-append (λ k. codes " " ++ decimal k) (filter p (below n)) (n ∷ [])
    ∙ ap (λ (ys : List ℕ). each_node (filter p (below n)) ++ ys) (append-nil (codes " " ++ decimal n))

-- a node that was read is that of the slot
pub read_node : (slot : SlotLines) (nodes : List NodeShown) (k : ℕ) (node : NodeShown) → nodes ≡ slot.nodes
    → node ≡ get_or nodes k node → k < length nodes → node_at slot k ≡ node
read_node slot nodes k node same at inside =
    ap (λ (ns : List NodeShown). get_or ns k no_shown_node) (sym same)
    ∙ get_or_default nodes k no_shown_node node inside ∙ sym at
