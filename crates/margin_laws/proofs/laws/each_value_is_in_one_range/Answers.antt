use Rattle.clock_margins.specs.MarginText.{tolds_of}
use Rattle.margin_laws.proofs.Spread.{sweep-spread, apart-all}
use Rattle.margin_laws.proofs.laws.each_value_is_in_one_range.Goals as goal

pub returns : goal.returns
returns c = record {
  once = λ reach sweep. sweep-spread c.args.list.now c.args.script.now reach sweep;
  apart = λ reach sweep. apart-all (tolds_of c.args.list.now c.args.script.now reach sweep);
}
