use Rattle.std.proofs.Common.{map, sym, ◌∙◌, ap, arith}
use Rattle.std.proofs.lemmas.List.{get_or-map, length-map}
use Rattle.std.proofs.lemmas.Result.{err_from_is_err_and}
use Rattle.trace_text.specs.ReportText.{read_text}
use Rattle.trace_text.proofs.ReportTexts.{CutShort-next, WroteLines-next}
use Rattle.trace_text.proofs.slot.put_reads.Goals as goal

pub returns-in_err-put_read-clause-failed : goal.returns-in_err-put_read-clause-failed
returns-in_err-put_read-clause-failed g c =
    let failed = err_from_is_err_and c.from_residual.result c.from_residual.ensures.1 in
    let text = read_text c.args.list.now c.args.slot in
    let lines = c.args.reads.now in
    let i = c.loop-read.read-index in
    let line = c.read-item.result in
    rw failed.1
    (CutShort-next (g.K.Sink.output c.args.out.now) (g.K.Sink.output c.loop-read.out)
    (g.K.Sink.output c.put_read.new.out) (map text lines) i (text line)
    (omega (arith, length-map lines text, c.loop-read-test.true))
    (get_or-map text lines i line (text line) c.loop-read-test.true ∙ ap text (sym c.read-item.is))
    c.loop-read.invariant c.in_err-put_read.ensures.failed)

pub loop-read-preserved : goal.loop-read-preserved
loop-read-preserved g c =
    let text = read_text c.args.list.now c.args.slot in
    let lines = c.args.reads.now in
    let i = c.loop-read.read-index in
    let line = c.read-item.result in
    WroteLines-next (g.K.Sink.output c.args.out.now) (g.K.Sink.output c.loop-read.out)
    (g.K.Sink.output c.put_read.new.out) (map text lines) i (text line)
    (omega (arith, length-map lines text, c.loop-read-test.true))
    (get_or-map text lines i line (text line) c.loop-read-test.true ∙ ap text (sym c.read-item.is))
    c.loop-read.invariant c.in_ok-put_read.ensures.ok
