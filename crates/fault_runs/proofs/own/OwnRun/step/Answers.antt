use Rattle.fault_runs.proofs.Words.{sym, subst}
use Rattle.run_costs.specs.declared.seen_run.SeenRun.{SeenRun}
use Rattle.run_costs.specs.Standing.{IsSeenAfter}
use Rattle.fault_runs.proofs.own.OwnRun.step.Goals as goal

pub copy_from-requires-clause-own : goal.copy_from-requires-clause-own
copy_from-requires-clause-own c = record {
  same = c.requires.own.before.stands.same;
  zeros = c.requires.own.before.stands.zeros;
}

pub copy_from-requires-clause-other : goal.copy_from-requires-clause-other
copy_from-requires-clause-other c = record {
  same = c.requires.own.run.stands.same;
  zeros = c.requires.own.run.stands.zeros;
}

pub returns-clause-before : goal.returns-clause-before
returns-clause-before c =
    subst (λ (r : SeenRun). IsSeenAfter r c.args.list.now c.args.script.now c.args.slot)
    (sym c.copy_from.ensures) c.requires.own.run
