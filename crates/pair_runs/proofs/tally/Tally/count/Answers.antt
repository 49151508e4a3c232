use Rattle.std.proofs.Common.{◌^◌, ◌∷◌, [], ◌++◌, arith}
use Rattle.pair_runs.proofs.Counted.{pairs-weaker, sums-weaker}
use Rattle.pair_runs.proofs.tally.Tally.count.Goals as goal

pub with_pair-self-requires : goal.with_pair-self-requires
with_pair-self-requires c =
    let has = c.requires.few.2 in
    pairs-weaker c.requires.few.1 (2 ^ 62) c.args.self.now.counts has.counts (omega (arith, c.requires.few.4))

pub count-requires-clause-room : goal.count-requires-clause-room
count-requires-clause-room c = omega (arith, c.requires.few.2.sums.are.room, c.requires.few.3)

pub count-requires-clause-few : goal.count-requires-clause-few
count-requires-clause-few c =
    (sums-weaker c.requires.few.0 c.requires.few.1 (2 ^ 62) c.args.self.now.sums
    c.requires.few.2.sums (omega (arith, c.requires.few.4))).few

pub returns-clause-sums : goal.returns-clause-sums
returns-clause-sums c = λ told at says class. record {
  few = λ distances most has. record {
    all = has.all ++ told ∷ [];
    are = c.count.ensures.told distances has.all told at says class has.are;
    few = c.count.ensures.few most has.few;
  };
  told = λ distances all are. c.count.ensures.told distances all told at says class are;
}
