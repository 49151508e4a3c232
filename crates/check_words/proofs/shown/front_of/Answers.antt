use Rattle.std.proofs.Common.{arith, sym}
use Rattle.std.proofs.lemmas.List.{length-take, take_all}
use Rattle.check_words.proofs.shown.front_of.Goals as goal

pub slice_bounds-result-end : goal.slice_bounds-result-end
slice_bounds-result-end c = omega (arith, length-take 40 c.args.word.now)

pub returns-else-word-gt-SHOWN_MOST : goal.returns-else-word-gt-SHOWN_MOST
returns-else-word-gt-SHOWN_MOST c = sym (take_all 40 c.args.word.now (omega arith))
