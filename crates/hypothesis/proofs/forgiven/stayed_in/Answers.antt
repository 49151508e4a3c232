use Rattle.hypothesis.proofs.Words.{◌≡◌, ℕ, ◌<◌, Bool, ◌&&◌, not, [], ap, sym, ◌∙◌, rules, arith, most_nodes, has_node}
use Rattle.hypothesis.proofs.Words.{with_node, below, with_node-next, filter-next, numbers_of, is_armed}
use Rattle.std.proofs.Common.{filter}
use Rattle.ttp_base.proofs.NodeSets.{has_node-filter, has_node-sieve}
use Rattle.hypothesis.proofs.Stayers.{numbers-filter}
use Rattle.hypothesis.proofs.forgiven.stayed_in.Goals as goal
use Rattle.hypothesis.proofs.forgiven.stayed_in.Goals.{then-stays, else-stays}

pub loop-node-preserved : goal.loop-node-preserved
loop-node-preserved c =
    let is_in : ℕ → Bool =
    λ k. not (has_node c.args.then k && is_armed c.args.script.now k c.args.slot) && has_node c.args.faulty k in
    let node = c.loop-node.node in
    let small : node < most_nodes = search rules in
    elim c.if-stays.branch [
      | then-stays w ↦
          w.stayed-is ∙ w.with-stayed.ensures ∙ ap (λ s. with_node s node) c.loop-node.invariant
          ∙ with_node-next is_in node small (search rules)
      | else-stays w ↦ w.stayed-is ∙ c.loop-node.invariant ∙ filter-next is_in node small (search rules)
    ]

pub returns : goal.returns
returns c = λ thens before then are k small.
    let script = c.args.script.now in
    let slot = c.args.slot in
    let is_in : ℕ → Bool = λ j. not (has_node c.args.then j && is_armed script j slot) && has_node c.args.faulty j in
    let stays : ℕ → Bool = λ j. not (has_node thens j && is_armed script j slot) in
    let all : c.loop-node.node ≡ most_nodes = omega arith in
    ap (λ s. has_node s k) c.loop-node.invariant ∙ ap (λ n. has_node (filter is_in (below n)) k) all
    ∙ has_node-sieve is_in most_nodes k small ∙ (λ i. not (then k small i && is_armed script k slot) && are k small i)
    ∙ sym (has_node-filter stays (numbers_of before) k)
    ∙ ap (λ nodes. has_node nodes k) (sym (numbers-filter stays before))

pub returns-then-is_none : goal.returns-then-is_none
returns-then-is_none c = λ thens before then are k small.
    let script = c.args.script.now in
    let slot = c.args.slot in
    let stays : ℕ → Bool = λ j. not (has_node thens j && is_armed script j slot) in
    let none : c.args.then ≡ [] = search rules in
    are k small
    ∙ ap (λ nodes. not (has_node nodes k && is_armed script k slot) && has_node (numbers_of before) k) (sym none)
    ∙ (λ i. not (then k small i && is_armed script k slot) && has_node (numbers_of before) k)
    ∙ sym (has_node-filter stays (numbers_of before) k)
    ∙ ap (λ nodes. has_node nodes k) (sym (numbers-filter stays before))
