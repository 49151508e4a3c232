use Rattle.picture_text.proofs.Words.{picture_of}
use Rattle.picture_text.proofs.Ending.{from_start, end_ok, end_failed}
use Rattle.picture_text.proofs.picture.put_picture.Goals as goal

pub returns-clause-ok : goal.returns-clause-ok
returns-clause-ok g c =
    end_ok c.end.result c.put_span.new.sheet.failed _ _ _ c.end.ensures
    (from_start c.new-sheet.result.failed c.put_span.new.sheet.failed (g.K.Sink.output c.args.out.now)
    (g.K.Sink.output c.put_span.new.out) (picture_of c.args.trace.now)
    c.span_shown-shown.result.span _ c.new-sheet.ensures
    c.span_shown-shown.ensures.value c.put_span.ensures)

pub returns-clause-failed : goal.returns-clause-failed
returns-clause-failed g c =
    end_failed c.end.result c.put_span.new.sheet.failed _ _ _ c.end.ensures
    (from_start c.new-sheet.result.failed c.put_span.new.sheet.failed (g.K.Sink.output c.args.out.now)
    (g.K.Sink.output c.put_span.new.out) (picture_of c.args.trace.now)
    c.span_shown-shown.result.span _ c.new-sheet.ensures
    c.span_shown-shown.ensures.value c.put_span.ensures)
