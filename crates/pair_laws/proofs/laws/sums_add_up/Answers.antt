use Rattle.fault_pairs.specs.Sums.{PairTold}
use Rattle.pair_laws.specs.Ranges.{firsts_of_range, pairs_of_first, pairs_of_range}
use Rattle.pair_laws.proofs.Counted.{counts-flat, counts-parted}
use Rattle.pair_laws.proofs.Distances.{counts-by_distance}
use Rattle.pair_laws.proofs.Firsts.{pairs-near}
use Rattle.pair_laws.proofs.laws.sums_add_up.Goals as goal

pub returns : goal.returns
returns c =
    let list = c.args.list.now in
    let script = c.args.script.now in
    record {
      firsts = λ first last within.
          counts-flat (pairs_of_first list script within) (firsts_of_range list script first last);
      apart = λ first last within.
          counts-by_distance script within (pairs_of_range list script first last within)
          (pairs-near list script first last within);
      tests = λ tolds. counts-parted (λ (told : PairTold). told.yes) tolds;
    }
