use Rattle.causes.specs.WhyText.{spot_word}
use Rattle.why_words.proofs.FromBelow.{listed-step}
use Rattle.why_words.proofs.entries.put_spots.Goals as goal

pub loop-place-preserved : goal.loop-place-preserved
loop-place-preserved c =
    listed-step spot_word c.args.text.now c.args.spots.now c.loop-place.place _ c.loop-place.text c.put_comma.new.text
    c.put_spot.new.text c.loop-place-test.true c.loop-place.invariant c.in_ok-put_comma.ensures
    c.in_ok-put_spot.ensures
