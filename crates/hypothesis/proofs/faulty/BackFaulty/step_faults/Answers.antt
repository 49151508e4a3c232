use Rattle.hypothesis.proofs.Words.{ℕ, ◌+◌, ap, subst, ◌∙◌, arith, numbers_of, slots_before, faulty_since, AreKeptFrom}
use Rattle.hypothesis.proofs.Words.{told_start, HaveSameNodes}
use Rattle.hypothesis.proofs.faulty.BackFaulty.step_faults.Goals as goal

pub back_faults_in-faults-requires-clause-kept : goal.back_faults_in-faults-requires-clause-kept
back_faults_in-faults-requires-clause-kept c = λ t from. c.requires.at.kept t (omega arith)

pub returns-clause-at : goal.returns-clause-at
returns-clause-at c =
    let list = c.args.list.now in
    let script = c.args.script.now in
    let start = told_start c.args.self.now.start in
    let end = c.requires.at.known.end in
    record {
      known = record {
        start = c.requires.at.known.start;
        jumps = c.requires.at.known.jumps;
        end = c.back_faults_in-faults.ensures.end ∙ ap (λ (n : ℕ). n + 1) end;
        newest = c.back_faults_in-faults.ensures.newest;
        faulty = subst (λ (n : ℕ). HaveSameNodes c.back_faults_in-faults.result.faulty
            (numbers_of (faulty_since (slots_before list script start (n + 1))))) end
            c.back_faults_in-faults.ensures.faults.faulty;
      };
      kept = subst (λ (n : ℕ). AreKeptFrom list script (n + 1) c.back_faults_in-faults.new.kept) end
          c.back_faults_in-faults.ensures.kept;
    }
