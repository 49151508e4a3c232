use Rattle.pair_laws.proofs.Kept.{pair-unharmed, none-divided, pairs-mild}
use Rattle.pair_laws.specs.Ranges.{pairs_of_range}
use Rattle.pair_laws.proofs.laws.yes_costs_nobody_else.Goals as goal

pub returns : goal.returns
returns c =
    let list = c.args.list.now in
    let script = c.args.script.now in
    let unharmed = pair-unharmed list script c.requires.valid c.requires.script c.requires.room in
    record {
      hurt = λ one two may also says. (unharmed one two may also says).hurt;
      split = λ one two may also says. (unharmed one two may also says).split;
      divided = λ first last within.
          none-divided (pairs_of_range list script first last within)
          (pairs-mild list script c.requires.valid c.requires.script c.requires.room first last within);
    }
