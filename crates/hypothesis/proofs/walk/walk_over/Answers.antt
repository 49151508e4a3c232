use Rattle.hypothesis.proofs.Words.{◌≡◌, suc, ◌+◌, subst, sym, arith, numbers_of, faulty_nodes_before, told_start}
use Rattle.hypothesis.proofs.Words.{HaveSameNodes, keep_course}
use Rattle.hypothesis.proofs.walk.walk_over.Goals as goal

pub returns-clause-walk : goal.returns-clause-walk
returns-clause-walk c =
    let script = c.args.script.now in
    let start = told_start c.args.start in
    let slot = c.args.slot in
    let walked = c.requires.walked in
    let made =
    c.faults_in-faults.ensures.faults (faulty_nodes_before c.args.list.now script start slot) walked.faulty in
    let next : slot + 1 ≡ suc slot = omega arith in
    c.walk_with.ensures (keep_course c.args.list.now script start) walked (record {
      faulty = subst (λ t. HaveSameNodes c.faults_in-faults.result.faulty
          (numbers_of (faulty_nodes_before c.args.list.now script start t))) (sym next) made.faulty;
      count = made.count;
      breaks = made.breaks;
    })
