use Rattle.std.proofs.Common.{◌+◌, ◌-◌, ◌*◌, ◌≤◌}
use Rattle.ttp_base.specs.Outside.{Output}
use Rattle.margin_runs.specs.Written.{IsPutOf, tolds_so_far}
use Rattle.margin_runs.proofs.put.put_ranges.Given as goal

-- the values so far were taken
abbrev pub invariant-loop-done : goal.invariant-loop-done
invariant-loop-done g l =
    record {
      within : l.done ≤ 2 * l.common.reach + 1;
      put : (start : Output)
          → IsPutOf start (g.K.Sink.output l.initial.out) l.common.list.now l.sweep
          (tolds_so_far l.common l.sweep 0) l.initial.swept
          → IsPutOf start (g.K.Sink.output l.out) l.common.list.now l.sweep
          (tolds_so_far l.common l.sweep l.done) l.swept;
    }

abbrev pub decreases-loop-done : goal.decreases-loop-done
decreases-loop-done g l = 2 * l.common.reach + 1 - l.done
