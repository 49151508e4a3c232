use Rattle.std.proofs.Common.{◌≡◌, ℕ, ◌<◌, List, ap, sym, ◌∙◌, arith}
use Rattle.causes.specs.Members.{is_one_of}
use Rattle.entry_causes.proofs.Sieves.{sieve-end, sieve-in, sieve-out, sieve-start}
use Rattle.ttp_base.specs.NodeSet.{has_node, with_node}
use Rattle.entry_causes.proofs.members.differing.Goals as goal
use Rattle.entry_causes.proofs.members.differing.Goals.{then-is_one_of, else-is_one_of}

pub loop-node-init : goal.loop-node-init
loop-node-init c =
    c.empty-differing.ensures
    ∙ sieve-start (λ j. is_one_of (has_node c.args.a j) (has_node c.args.b j)) c.args.nodes

pub loop-node-preserved : goal.loop-node-preserved
loop-node-preserved c =
    let h = λ (j : ℕ). is_one_of (has_node c.args.a j) (has_node c.args.b j) in
    let k = c.loop-node.node in
    let less : k < c.args.nodes = omega (arith, c.loop-node-test.true) in
    let told : h k ≡ c.is_one_of.result =
    (λ i. is_one_of (sym c.has.ensures i) (sym c.has-in-loop-node.ensures i)) ∙ sym c.is_one_of.ensures in
    elim c.if-is_one_of.branch [
      | then-is_one_of w ↦
          w.differing-is ∙ w.with-differing.ensures ∙ ap (λ (set : List ℕ). with_node set k) c.loop-node.invariant
          ∙ sieve-in h c.args.nodes k less (omega (arith, c.requires)) (told ∙ w.if-is_one_of.true)
      | else-is_one_of w ↦
          w.differing-is ∙ c.loop-node.invariant ∙ sieve-out h c.args.nodes k (told ∙ w.if-is_one_of.false)
    ]

pub returns : goal.returns
returns c =
    c.loop-node.invariant
    ∙ sieve-end (λ j. is_one_of (has_node c.args.a j) (has_node c.args.b j)) c.args.nodes c.loop-node.node
    (omega (arith, c.loop-node-test.false, c.loop-node.auto.node-end))
