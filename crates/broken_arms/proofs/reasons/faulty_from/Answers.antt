use Rattle.std.proofs.Common.{◌≡◌, ◌<◌, true, false, refl, sym, subst, ◌∙◌, rules, arith}
use Rattle.ttp_base.specs.NodeSet.{has_node, most_nodes}
use Rattle.hypothesis.specs.FaultyRuns.{IsBackAt}
use Rattle.hypothesis.specs.Standing.{told_start}
use Rattle.broken_arms.specs.Since.{IsSince}
use Rattle.broken_faults.specs.Faults.{faulty_in}
use Rattle.broken_arms.proofs.Since.{still, no-longer}
use Rattle.broken_arms.proofs.reasons.faulty_from.Goals as goal

pub loop-at-init : goal.loop-at-init
loop-at-init c = record {
  walk = search rules;
  since = record { value = refl; bound = tt };
}

pub loop-at-preserved : goal.loop-at-preserved
loop-at-preserved c = record { walk = c.step_faults-faults.ensures.at; since = c.since_with-since.ensures }

pub step_faults-last-requires-clause-at : goal.step_faults-last-requires-clause-at
step_faults-last-requires-clause-at c =
    subst (λ n. IsBackAt c.args.list.now c.args.script.now n c.loop-at.walk) (omega arith) c.loop-at.invariant.walk

pub returns-then-has : goal.returns-then-has
returns-then-has c =
    let list = c.args.list.now in
    let script = c.args.script.now in
    let start = told_start c.args.start in
    let small : c.args.node < most_nodes = search rules in
    let since : IsSince list script start c.args.node c.args.slot c.loop-at.since =
    subst (λ n. IsSince list script start c.args.node n c.loop-at.since) (omega arith) c.loop-at.invariant.since in
    let has : has_node (faulty_in list script start c.args.slot) c.args.node ≡ true =
    sym ((c.step_faults-last.ensures.faults start c.requires.start).before c.args.node small) ∙ sym c.has.ensures
    ∙ search rules in
    record { value = still list script start c.args.node c.args.slot c.loop-at.since since has; bound = since.bound }

pub returns : goal.returns
returns c =
    let list = c.args.list.now in
    let script = c.args.script.now in
    let start = told_start c.args.start in
    let small : c.args.node < most_nodes = search rules in
    let has : has_node (faulty_in list script start c.args.slot) c.args.node ≡ false =
    sym ((c.step_faults-last.ensures.faults start c.requires.start).before c.args.node small) ∙ sym c.has.ensures
    ∙ search rules in
    record { value = no-longer list script start c.args.node c.args.slot has; bound = tt }
