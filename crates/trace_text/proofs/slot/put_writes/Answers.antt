use Rattle.std.proofs.Common.{map, get_or, arith}
use Rattle.std.proofs.lemmas.List.{get_or-map, length-map}
use Rattle.std.proofs.lemmas.Result.{err_from_is_err_and}
use Rattle.trace_text.specs.ReportText.{write_text}
use Rattle.trace_text.proofs.ReportTexts.{CutShort-next, WroteLines-next}
use Rattle.trace_text.proofs.slot.put_writes.Goals as goal

pub returns-in_err-put_write_line-clause-failed : goal.returns-in_err-put_write_line-clause-failed
returns-in_err-put_write_line-clause-failed g c =
    let failed = err_from_is_err_and c.from_residual.result c.from_residual.ensures.1 in
    let text = write_text c.args.slot in
    let lines = c.args.writes.now in
    let i = c.loop-write.write-index in
    let line = get_or lines i (record { host = 0; number = 0 }) in
    rw failed.1
    (CutShort-next (g.K.Sink.output c.args.out.now) (g.K.Sink.output c.loop-write.out)
    (g.K.Sink.output c.put_write_line.new.out) (map text lines) i (text line)
    (omega (arith, length-map lines text, c.loop-write-test.true))
    (get_or-map text lines i (record { host = 0; number = 0 }) (text line) c.loop-write-test.true)
    c.loop-write.invariant c.in_err-put_write_line.ensures.failed)

pub loop-write-preserved : goal.loop-write-preserved
loop-write-preserved g c =
    let text = write_text c.args.slot in
    let lines = c.args.writes.now in
    let i = c.loop-write.write-index in
    let line = get_or lines i (record { host = 0; number = 0 }) in
    WroteLines-next (g.K.Sink.output c.args.out.now) (g.K.Sink.output c.loop-write.out)
    (g.K.Sink.output c.put_write_line.new.out) (map text lines) i (text line)
    (omega (arith, length-map lines text, c.loop-write-test.true))
    (get_or-map text lines i (record { host = 0; number = 0 }) (text line) c.loop-write-test.true)
    c.loop-write.invariant c.in_ok-put_write_line.ensures.ok
