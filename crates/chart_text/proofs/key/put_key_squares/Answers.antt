use Rattle.chart_text.proofs.Words.{one_more, key_square}
use Rattle.chart_text.proofs.key.put_key_squares.Goals as goal

pub loop-place-preserved : goal.loop-place-preserved
loop-place-preserved g c =
    one_more _ _ _ _ _ _ (key_square c.args.top) c.loop-place.place c.make_key_square.new.line c.loop-place.invariant
    c.write.ensures c.make_key_square.ensures
