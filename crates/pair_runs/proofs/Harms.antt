-- Nodes that left, as a set of them.
use Rattle.std.proofs.Common.{◌≡◌, ℕ, ◌+◌, ◌<◌, Bool, true, false, ◌||◌, List, [], ◌∷◌, ◌++◌, length, get_or, take}
use Rattle.std.proofs.Common.{refl, sym, ap, subst, ◌∙◌, arith}
use Rattle.std.specs.Prelude.{◌==◌, All, filter, is_some}
use Rattle.std.proofs.lemmas.List.{map-append, take_more, length-map, get_or-map}
use Rattle.std.proofs.lemmas.List.Elements.{All-filter, All-from_recursion}
use Rattle.ttp_base.specs.NodeSet.{most_nodes, below, has_node, with_node}
use Rattle.ttp_base.proofs.Below.{below-lt}
use Rattle.ttp_base.proofs.NodeLists.{with_node-filter}
use Rattle.ttp_base.proofs.NodeSets.{same_sieve}
use Rattle.ttp_world.specs.declared.medl.Medl.{Medl}
use Rattle.ttp_world.specs.declared.script.Script.{Script}
use Rattle.ttp_world.specs.Hypothesis.{nodes_of}
use Rattle.ttp_world.specs.Medl.{IsValid}
use Rattle.ttp_world.proofs.Lists.{nodes-most}
use Rattle.ttp_world.proofs.MemberSets.{eqb_comm}
use Rattle.campaign.specs.declared.cost.Cost.{Cost}
use Rattle.campaign.specs.declared.cost.Leave.{Leave}
use Rattle.campaign.specs.Cost.{newest_leave}
use Rattle.campaign.specs.Lines.{summary}
use Rattle.ttp_world.specs.ZerosWorld.{zeros_world}
use Rattle.pair_runs.proofs.FromBelow.{nodes-left, in_order-sieve}
use Rattle.fault_pairs.specs.declared.pair.Harm.{Harm}
use Rattle.fault_pairs.specs.Classes.{left_nodes, harm_of}
use Rattle.pair_classes.specs.Ordered.{IsOrdered}

-- those of a run stand in their order
summary-ordered : (list : Medl) (script : Script) → IsValid list
    → IsOrdered (left_nodes (summary list script).cost.left)
summary-ordered list script valid =
    let history = zeros_world list script script.slots in
    subst IsOrdered (sym (nodes-left history (nodes_of list)))
    (in_order-sieve (λ k. is_some (newest_leave history k)) (length list.slots) (nodes-most list valid))

pub cost-ordered : (list : Medl) (script : Script) (cost : Cost) → IsValid list → cost ≡ (summary list script).cost
    → IsOrdered (left_nodes cost.left)
cost-ordered list script cost valid is =
    subst (λ (c : Cost). IsOrdered (left_nodes c.left)) (sym is) (summary-ordered list script valid)

pub harm-ordered : (list : Medl) (script : Script) (harm : Harm) → IsValid list
    → harm ≡ harm_of (summary list script).cost
    → IsOrdered harm.left
harm-ordered list script harm valid is =
    subst (λ (h : Harm). IsOrdered h.left) (sym is) (summary-ordered list script valid)

-- each is below the number of nodes
pub ordered-small : (nodes : List ℕ) → IsOrdered nodes → All (λ k. k < most_nodes) nodes
ordered-small nodes ordered =
    subst (λ (ks : List ℕ). All (λ k. k < most_nodes) ks) ordered
    (All-filter (has_node nodes) (λ k. k < most_nodes) (below most_nodes)
    (All-from_recursion (λ k. k < most_nodes) (below most_nodes) (below-lt most_nodes)))

-- One more.

or-true : (a : Bool) → (a || true) ≡ true
or-true true = refl
or-true false = refl

between : (a b c d : Bool) → (a || c) ≡ d → (a || (b || c)) ≡ (b || d)
between a true c d same = or-true a
between a false c d same = same

put-behind : (nodes : List ℕ) (k j : ℕ) → ((j == k) || has_node nodes j) ≡ has_node (nodes ++ k ∷ []) j
put-behind [] k j = ap (λ b. b || false) (eqb_comm j k)
put-behind (node ∷ nodes) k j =
    between (j == k) (node == j) (has_node nodes j) (has_node (nodes ++ k ∷ []) j) (put-behind nodes k j)

pub leave-small : (leaves : List Leave) (i : ℕ) (d : Leave) → IsOrdered (left_nodes leaves) → i < length leaves
    → (get_or leaves i d).node < most_nodes
leave-small leaves i d ordered inside =
    let small = ordered-small (left_nodes leaves) ordered i d.node
    (omega (arith, inside, length-map leaves (λ (l : Leave). l.node))) in
    subst (λ k. k < most_nodes) (get_or-map (λ (l : Leave). l.node) leaves i d d.node inside) small

pub left-more : (leaves : List Leave) (i : ℕ) (d : Leave) → IsOrdered (left_nodes leaves) → i < length leaves
    → with_node (filter (has_node (left_nodes (take i leaves))) (below most_nodes)) (get_or leaves i d).node
    ≡ filter (has_node (left_nodes (take (i + 1) leaves))) (below most_nodes)
left-more leaves i d ordered inside =
    let nodes = left_nodes (take i leaves) in
    let k = (get_or leaves i d).node in
    let more : nodes ++ k ∷ [] ≡ left_nodes (take (i + 1) leaves) =
    sym (ap left_nodes (take_more leaves i d inside)
    ∙ map-append (λ (l : Leave). l.node) (take i leaves) (get_or leaves i d ∷ [])) in
    with_node-filter (has_node nodes) most_nodes k (leave-small leaves i d ordered inside) (omega arith)
    ∙ same_sieve (λ j. (j == k) || has_node nodes j) (has_node (nodes ++ k ∷ []))
    most_nodes (λ j less. put-behind nodes k j)
    ∙ ap (λ (ks : List ℕ). filter (has_node ks) (below most_nodes)) more
