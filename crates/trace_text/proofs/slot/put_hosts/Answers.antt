use Rattle.std.proofs.Common.{List, map, subst}
use Rattle.std.proofs.lemmas.Result.{on_ok_weaker, on_err_weaker, err_from_is_err_and}
use Rattle.ttp_base.specs.Outside.{WroteLines, CutShort}
use Rattle.ttp_base.proofs.Outputs.{Wrote-join, CutShort-after, CutShort-more}
use Rattle.host_port.specs.declared.report.ReadLine.{ReadLine}
use Rattle.host_port.specs.declared.report.WriteLine.{WriteLine}
use Rattle.trace_text.specs.ReportText.{write_text, read_text}
use Rattle.trace_text.proofs.slot.put_hosts.Goals as goal

pub returns-clause-ok : goal.returns-clause-ok
returns-clause-ok g c =
    let a = g.K.Sink.output c.args.out.now in
    let b = g.K.Sink.output c.put_writes.new.out in
    let end = g.K.Sink.output c.put_reads.new.out in
    let report = c.args.report.now in
    let writes = map (write_text report.slot) report.writes in
    let reads = map (read_text c.args.list.now report.slot) report.reads in
    let wrote = subst (λ (ws : List WriteLine). WroteLines a b (map (write_text report.slot) ws)) c.as_slice.ensures
    c.in_ok-put_writes.ensures.ok in
    on_ok_weaker c.put_reads.result
    (λ more. Wrote-join a b end writes reads wrote
    (subst (λ (rs : List ReadLine). WroteLines b end (map (read_text c.args.list.now report.slot) rs))
    c.as_slice-2.ensures more)) c.put_reads.ensures.ok

pub returns-clause-failed : goal.returns-clause-failed
returns-clause-failed g c =
    let a = g.K.Sink.output c.args.out.now in
    let b = g.K.Sink.output c.put_writes.new.out in
    let end = g.K.Sink.output c.put_reads.new.out in
    let report = c.args.report.now in
    let writes = map (write_text report.slot) report.writes in
    let reads = map (read_text c.args.list.now report.slot) report.reads in
    let wrote = subst (λ (ws : List WriteLine). WroteLines a b (map (write_text report.slot) ws)) c.as_slice.ensures
    c.in_ok-put_writes.ensures.ok in
    on_err_weaker c.put_reads.result
    (λ cut. CutShort-after a b end writes reads wrote
    (subst (λ (rs : List ReadLine). CutShort b end (map (read_text c.args.list.now report.slot) rs))
    c.as_slice-2.ensures cut)) c.put_reads.ensures.failed

pub returns-in_err-put_writes-clause-failed : goal.returns-in_err-put_writes-clause-failed
returns-in_err-put_writes-clause-failed g c =
    let failed = err_from_is_err_and c.from_residual.result c.from_residual.ensures.1 in
    let a = g.K.Sink.output c.args.out.now in
    let b = g.K.Sink.output c.put_writes.new.out in
    let report = c.args.report.now in
    let cut = subst (λ (ws : List WriteLine). CutShort a b (map (write_text report.slot) ws)) c.as_slice.ensures
    c.in_err-put_writes.ensures.failed in
    rw failed.1
    (CutShort-more a b (map (write_text report.slot) report.writes)
    (map (read_text c.args.list.now report.slot) report.reads)
    cut)
