use Rattle.hypothesis.proofs.Words.{arith, numbers_of, told_start}
use Rattle.hypothesis.proofs.Kept.{calm-faults}
use Rattle.hypothesis.proofs.walk.faults_in.Goals as goal

pub returns-then-is_calm : goal.returns-then-is_calm
returns-then-is_calm c =
    let list = c.args.list.now in
    let script = c.args.script.now in
    record {
      kept = λ t from. c.go_on.ensures.later t (omega (arith, from));
      faults = λ before same.
          let calm = c.is_calm.ensures script (numbers_of before) c.go_on.ensures.now c.if-is_calm.true in
          calm-faults list script (told_start c.args.start) c.args.slot before c.args.faulty c.empty.result
          c.empty-then-is_calm.result calm.0 calm.1 same c.empty.ensures c.empty-then-is_calm.ensures;
    }

pub returns-clause-kept : goal.returns-clause-kept
returns-clause-kept c = λ t from. c.go_on.ensures.later t (omega (arith, from))
