use Rattle.chart_text.proofs.Words.{refl, arith, counter_of}
use Rattle.chart_text.proofs.Counting.{counted-start}
use Rattle.chart_text.proofs.survey.Survey.new.Goals as goal

pub returns : goal.returns
returns c = λ all. record {
  long = refl;
  counted = counted-start (λ fault. counter_of c.args.size fault.shown) 252 all;
  longest = omega arith;
  harm = refl;
  most = omega arith;
}
