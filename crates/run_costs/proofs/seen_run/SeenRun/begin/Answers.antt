use Rattle.std.proofs.Common.{◌≤◌, refl, sym, subst, arith}
use Rattle.run_costs.specs.Standing.{IsRunAfter}
use Rattle.run_costs.specs.declared.run.Run.{Run}
use Rattle.run_costs.proofs.seen_run.SeenRun.begin.Goals as goal

pub returns : goal.returns
returns c = record {
  count = refl;
  within = omega arith;
  stands =
      subst (λ (r : Run). IsRunAfter r c.args.list.now c.args.script.now 0) (sym c.copy_from.ensures) c.requires.start;
  seen = c.new-self.ensures;
}
