use Rattle.std.proofs.Common.{◌+◌, ◌*◌, ℕ}
use Rattle.pair_runs.specs.Counted.{most_of_first, distances_of, HasFewSums, PutFirsts}
use Rattle.pair_runs.specs.Written.{IsWorkspace, tolds_of_firsts, text_of_firsts}
use Rattle.pair_runs.proofs.Groups.{firsts_before}
use Rattle.pair_runs.proofs.put.put_groups.Given as goal

-- the first faults so far were written
abbrev pub invariant-loop-i : goal.invariant-loop-i
invariant-loop-i g l = record {
  work : IsWorkspace l.common.list.now l.work;
  few : (most : ℕ) → HasFewSums (distances_of l.common) most l.initial.tally.sums
      → HasFewSums (distances_of l.common) (most + most_of_first * l.i) l.tally.sums;
  put : PutFirsts (g.K.Sink.output l.initial.out) (g.K.Sink.output l.out) l.initial.tally l.tally
      (tolds_of_firsts l.common (firsts_before l.slot l.faults l.i))
      (text_of_firsts l.common (firsts_before l.slot l.faults l.i));
}
