use Rattle.hypothesis.proofs.Words.{◌≡◌, ℕ, ◌<◌, Bool, true, false, ◌&&◌, ap, sym, subst, ◌≤◌, ◌∙◌, length, rules}
use Rattle.hypothesis.proofs.Words.{arith, and-false, most_nodes, below, with_node, with_node-next, filter-next}
use Rattle.hypothesis.proofs.Words.{filter-filter, is_other, loses}
use Rattle.std.specs.Prelude.{filter, All}
use Rattle.hypothesis.proofs.Ranges.{small-sieve}
use Rattle.hypothesis.proofs.losses.losers_in.Goals as goal
use Rattle.hypothesis.proofs.losses.losers_in.Goals.{then-is_lost+then-is_other, else-is_lost}
use Rattle.hypothesis.proofs.losses.losers_in.Goals.{else-is_lost-via-then-is_lost+else-is_other}
use Rattle.hypothesis.proofs.losses.losers_in.Goals.{else-is_lost-via-else-is_lost}

pub loop-node-preserved : goal.loop-node-preserved
loop-node-preserved c =
    let script = c.args.script.now in
    let hears : ℕ → Bool = is_other script c.args.faulty c.args.sender c.args.slot in
    let misses : ℕ → Bool = λ k. hears k && loses script c.args.sender c.args.slot k in
    let node = c.loop-node.node in
    let small : node < most_nodes = search rules in
    let within : node < length c.args.list.now.slots = omega arith in
    let lost =
    c.is_lost.ensures script c.args.sender c.args.slot node (c.requires.incidents c.args.sender _ c.requires.sender)
    (c.requires.incidents node _ within) in
    elim c.if-is_lost.branch [
      | then-is_lost+then-is_other w ↦
          let heard : hears node ≡ true = search rules in
          w.lost-is ∙ w.with-lost.ensures ∙ ap (λ s. with_node s node) c.loop-node.invariant
          ∙ with_node-next misses node small (λ i. heard i && (sym lost ∙ w.if-is_lost.true) i)
      | else-is_lost w ↦
          let fails : misses node ≡ false =
          elim w.else-is_lost.branch [
            | else-is_lost-via-then-is_lost+else-is_other w' ↦
                let out : hears node ≡ false = search rules in
                ap (λ b. b && loses script c.args.sender c.args.slot node) out
            | else-is_lost-via-else-is_lost w' ↦
                ap (λ b. hears node && b) (sym lost ∙ w'.if-is_lost.false) ∙ and-false (hears node)
          ] in
          w.lost-is ∙ c.loop-node.invariant ∙ filter-next misses node small fails
    ]

pub returns-clause-lost : goal.returns-clause-lost
returns-clause-lost c =
    let hears : ℕ → Bool = is_other c.args.script.now c.args.faulty c.args.sender c.args.slot in
    let misses : ℕ → Bool = loses c.args.script.now c.args.sender c.args.slot in
    let all : c.loop-node.node ≡ length c.args.list.now.slots = omega arith in
    c.loop-node.invariant ∙ ap (λ n. filter (λ k. hears k && misses k) (below n)) all
    ∙ sym (filter-filter hears misses (below (length c.args.list.now.slots)))

pub returns-clause-nodes : goal.returns-clause-nodes
returns-clause-nodes c =
    let hears : ℕ → Bool = is_other c.args.script.now c.args.faulty c.args.sender c.args.slot in
    let misses : ℕ → Bool = λ k. hears k && loses c.args.script.now c.args.sender c.args.slot k in
    let few : c.loop-node.node ≤ most_nodes = search rules in
    subst (All (λ k. k < most_nodes)) (sym c.loop-node.invariant) (small-sieve misses c.loop-node.node most_nodes few)
