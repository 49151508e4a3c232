use Rattle.hypothesis.proofs.Words.{◌≡◌, ℕ, ◌+◌, ◌<◌, ◌≤◌, Bool, ap, sym, ◌∙◌, length, rules, arith, most_nodes, below}
use Rattle.hypothesis.proofs.Words.{with_node, with_node-next, filter-next, is_steady}
use Rattle.std.specs.Prelude.{filter}
use Rattle.hypothesis.proofs.Ranges.{no-fewer}
use Rattle.hypothesis.proofs.steady.has_four_steady.Goals as goal
use Rattle.hypothesis.proofs.steady.has_four_steady.Goals.{then-is_steady+else-count-ge4, else-is_steady}

pub loop-node-preserved : goal.loop-node-preserved
loop-node-preserved c =
    let is_in : ℕ → Bool = is_steady c.args.list.now c.args.script.now c.args.faulty in
    let node = c.loop-node.node in
    let small : node < most_nodes = search rules in
    elim c.if-is_steady.branch [
      | then-is_steady+else-count-ge4 w ↦
          let few : length w.with-steady.result < 4 = search rules in (
            w.steady-is ∙ w.with-steady.ensures ∙ ap (λ s. with_node s node) c.loop-node.invariant.0
                ∙ with_node-next is_in node small (search rules),
            rw (sym w.steady-is) at few,
          )
      | else-is_steady w ↦
          let same = w.steady-is in (
            same ∙ c.loop-node.invariant.0 ∙ filter-next is_in node small (search rules),
            rw (sym same) at c.loop-node.invariant.1,
          )
    ]

pub returns-then-count-ge4 : goal.returns-then-count-ge4
returns-then-count-ge4 c =
    let is_in : ℕ → Bool = is_steady c.args.list.now c.args.script.now c.args.faulty in
    let node = c.loop-node.node in
    let small : node < most_nodes = search rules in
    let is =
    ap length (c.with-steady.ensures ∙ ap (λ s. with_node s node) c.loop-node.invariant.0
    ∙ with_node-next is_in node small (search rules)) in
    let four : 4 ≤ length c.with-steady.result = search rules in
    let more = no-fewer is_in (node + 1) (length c.args.list.now.slots) (omega arith) in
    grind (arith, is, four, more)

pub returns : goal.returns
returns c =
    let is_in : ℕ → Bool = is_steady c.args.list.now c.args.script.now c.args.faulty in
    let all : c.loop-node.node ≡ length c.args.list.now.slots = omega arith in
    let few = c.loop-node.invariant.1 in
    let is = ap length (c.loop-node.invariant.0 ∙ ap (λ n. filter is_in (below n)) all) in
    grind (arith, few, is)
