use Rattle.std.proofs.Common.{List, subst}
use Rattle.std.proofs.lemmas.Result.{on_ok_weaker, on_err_weaker, err_from_is_err_and}
use Rattle.ttp_base.specs.Outside.{WroteLines, CutShort}
use Rattle.ttp_base.proofs.Outputs.{Wrote-join, CutShort-after, CutShort-more}
use Rattle.host_port.specs.declared.report.NodeLine.{NodeLine}
use Rattle.trace_text.specs.ReportText.{node_texts, host_lines}
use Rattle.trace_text.proofs.slot.put_slot.Goals as goal

pub returns-clause-ok : goal.returns-clause-ok
returns-clause-ok g c =
    let a = g.K.Sink.output c.args.out.now in
    let b = g.K.Sink.output c.put_nodes.new.out in
    let end = g.K.Sink.output c.put_hosts.new.out in
    let list = c.args.list.now in
    let report = c.args.report.now in
    let wrote = subst (λ (nodes : List NodeLine). WroteLines a b (node_texts list report.slot 0 nodes))
    c.as_slice.ensures c.in_ok-put_nodes.ensures.ok in
    on_ok_weaker c.put_hosts.result
    (Wrote-join a b end (node_texts list report.slot 0 report.nodes) (host_lines list report) wrote)
    c.put_hosts.ensures.ok

pub returns-clause-failed : goal.returns-clause-failed
returns-clause-failed g c =
    let a = g.K.Sink.output c.args.out.now in
    let b = g.K.Sink.output c.put_nodes.new.out in
    let end = g.K.Sink.output c.put_hosts.new.out in
    let list = c.args.list.now in
    let report = c.args.report.now in
    let wrote = subst (λ (nodes : List NodeLine). WroteLines a b (node_texts list report.slot 0 nodes))
    c.as_slice.ensures c.in_ok-put_nodes.ensures.ok in
    on_err_weaker c.put_hosts.result
    (CutShort-after a b end (node_texts list report.slot 0 report.nodes) (host_lines list report) wrote)
    c.put_hosts.ensures.failed

pub returns-in_err-put_nodes-clause-failed : goal.returns-in_err-put_nodes-clause-failed
returns-in_err-put_nodes-clause-failed g c =
    let failed = err_from_is_err_and c.from_residual.result c.from_residual.ensures.1 in
    let a = g.K.Sink.output c.args.out.now in
    let b = g.K.Sink.output c.put_nodes.new.out in
    let list = c.args.list.now in
    let report = c.args.report.now in
    let cut = subst (λ (nodes : List NodeLine). CutShort a b (node_texts list report.slot 0 nodes)) c.as_slice.ensures
    c.in_err-put_nodes.ensures.failed in
    rw failed.1 (CutShort-more a b (node_texts list report.slot 0 report.nodes) (host_lines list report) cut)
