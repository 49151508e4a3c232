use Rattle.std.proofs.Common.{◌≡◌, ◌+◌, ℕ, List, take}
use Rattle.std.specs.Prelude.{All, map}
use Rattle.fault_pairs.specs.Sums.{PairTold}
use Rattle.pair_runs.specs.Counted.{HasFewPairs, PutPairs}
use Rattle.pair_runs.specs.Tries.{shortened}
use Rattle.pair_runs.proofs.put.put_tolds.Given as goal

-- those so far were counted, and their lines written
abbrev pub invariant-loop-told : goal.invariant-loop-told
invariant-loop-told g l = record {
  few : (distances most : ℕ) → HasFewPairs distances most l.initial.tally
      → HasFewPairs distances (most + l.told-index) l.tally;
  put : (pairs : List PairTold) → l.all ≡ map shortened pairs → All (λ (pair : PairTold). pair.apart ≡ l.apart) pairs
      → PutPairs (g.K.Sink.output l.initial.out) (g.K.Sink.output l.out)
      l.initial.tally l.tally (take l.told-index pairs);
}
