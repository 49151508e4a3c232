use Rattle.picture_text.proofs.Whole.{picture_put}
use Rattle.picture_text.proofs.picture.put_span.Goals as goal

pub returns : goal.returns
returns g c =
    picture_put c.args.trace.now c.args.shown.span c.head-head.result c.args.shown.is_quiet_before
    c.strange_past-strange.result c.keep.result
    c.keep-2.result
    c.back.result c.back-2.result _ _ _ _ _ _ _ _ c.head-head.ensures.value c.requires.quiet
    c.strange_past-strange.ensures
    c.keep.ensures
    c.keep-2.ensures c.back.ensures c.back-2.ensures c.put_head.ensures c.put_rows.ensures c.put_rest.ensures
