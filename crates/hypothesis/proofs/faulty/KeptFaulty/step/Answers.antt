use Rattle.hypothesis.proofs.Words.{ℕ, Option, ap, sym, subst, ◌∙◌, has_node, ClusterStart, numbers_of}
use Rattle.hypothesis.proofs.Words.{faulty_nodes_before, told_start, HaveSameNodes}
use Rattle.std.proofs.Common.{add-one}
use Rattle.ttp_world.specs.Hypothesis.{started_faulty_nodes}
use Rattle.hypothesis.proofs.faulty.KeptFaulty.step.Goals as goal

pub returns-clause-at : goal.returns-clause-at
returns-clause-at c =
    let list = c.args.list.now in
    let script = c.args.script.now in
    let start = told_start c.args.self.now.start in
    let made = c.faults_in-faults.ensures.faults
    (faulty_nodes_before list script start c.args.slot) c.requires.at.known.faulty in
    record {
      known = record {
        start = c.requires.at.known.start;
        jumps = c.requires.at.known.jumps;
        faulty =
            subst (λ (n : ℕ). HaveSameNodes c.faults_in-faults.result.faulty
            (numbers_of (faulty_nodes_before list script start n))) (sym (add-one c.args.slot)) made.faulty;
      };
      kept = c.faults_in-faults.ensures.kept;
    }

pub returns-clause-faulty : goal.returns-clause-faulty
returns-clause-faulty c = λ k small.
    let list = c.args.list.now in
    let script = c.args.script.now in
    let start = told_start c.args.self.now.start in
    let made = c.faults_in-faults.ensures.faults
    (faulty_nodes_before list script start c.args.slot) c.requires.at.known.faulty in
    made.faulty k small
    ∙ ap (λ (o : Option ClusterStart). has_node (numbers_of (started_faulty_nodes list script c.args.slot o)) k)
    (sym c.requires.at.known.start)
