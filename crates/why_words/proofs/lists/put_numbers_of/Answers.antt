use Rattle.causes.specs.WhyText.{number_word}
use Rattle.why_words.proofs.FromBelow.{listed-step}
use Rattle.why_words.proofs.lists.put_numbers_of.Goals as goal

pub loop-place-preserved : goal.loop-place-preserved
loop-place-preserved c =
    listed-step (number_word c.args.numbers.now) c.args.text.now c.args.lines.now c.loop-place.place _ c.loop-place.text
    c.put_comma.new.text c.put_number_of.new.text c.loop-place-test.true c.loop-place.invariant
    c.in_ok-put_comma.ensures c.in_ok-put_number_of.ensures
