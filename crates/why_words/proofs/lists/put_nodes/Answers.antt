use Rattle.std.specs.Fmt.{decimal}
use Rattle.why_words.proofs.FromBelow.{listed-step}
use Rattle.why_words.proofs.lists.put_nodes.Goals as goal

pub loop-place-preserved : goal.loop-place-preserved
loop-place-preserved c =
    listed-step decimal c.args.text.now c.args.nodes.now c.loop-place.place _ c.loop-place.text c.put_comma.new.text
    c.put_number.new.text c.loop-place-test.true c.loop-place.invariant c.in_ok-put_comma.ensures
    c.in_ok-put_number.ensures
