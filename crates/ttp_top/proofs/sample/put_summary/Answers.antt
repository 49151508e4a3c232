use Rattle.ttp_top.proofs.Terms.{[], ◌∷◌, on_ok_weaker, Wrote-join, CutShort-after, CutShort-more, keep_line}
use Rattle.ttp_top.proofs.Terms.{asked_line, sent_line, hosts_line}
use Rattle.std.proofs.lemmas.Result.{on_err_weaker, err_from_is_err_and}
use Rattle.ttp_world.specs.Hypothesis.{keeps}
use Rattle.ttp_top.proofs.sample.put_summary.Goals as goal

pub returns-clause-ok : goal.returns-clause-ok
returns-clause-ok g c =
    let a = g.K.Sink.output c.args.out.now in
    let b = g.K.Sink.output c.put_asked.new.out in
    let d = g.K.Sink.output c.put_sent.new.out in
    let e = g.K.Sink.output c.put_hosts.new.out in
    let f = g.K.Sink.output c.put_keep.new.out in
    let list = c.args.list.now in
    let script = c.args.script.now in
    let totals = c.args.totals.now in
    let asked = asked_line c.args.slots c.args.number in
    let sent = sent_line list totals in
    let hosts = hosts_line totals in
    let two = Wrote-join a b d (asked ∷ []) (sent ∷ []) c.in_ok-put_asked.ensures.ok c.in_ok-put_sent.ensures.ok in
    let three = Wrote-join a d e (asked ∷ sent ∷ []) (hosts ∷ []) two c.in_ok-put_hosts.ensures.ok in
    on_ok_weaker c.put_keep.result
    (Wrote-join a e f (asked ∷ sent ∷ hosts ∷ []) (keep_line (keeps list script) ∷ []) three)
    (rw c.keeps.ensures at c.put_keep.ensures.ok)

pub returns-clause-failed : goal.returns-clause-failed
returns-clause-failed g c =
    let a = g.K.Sink.output c.args.out.now in
    let b = g.K.Sink.output c.put_asked.new.out in
    let d = g.K.Sink.output c.put_sent.new.out in
    let e = g.K.Sink.output c.put_hosts.new.out in
    let f = g.K.Sink.output c.put_keep.new.out in
    let list = c.args.list.now in
    let script = c.args.script.now in
    let totals = c.args.totals.now in
    let asked = asked_line c.args.slots c.args.number in
    let sent = sent_line list totals in
    let hosts = hosts_line totals in
    let two = Wrote-join a b d (asked ∷ []) (sent ∷ []) c.in_ok-put_asked.ensures.ok c.in_ok-put_sent.ensures.ok in
    let three = Wrote-join a d e (asked ∷ sent ∷ []) (hosts ∷ []) two c.in_ok-put_hosts.ensures.ok in
    on_err_weaker c.put_keep.result
    (CutShort-after a e f (asked ∷ sent ∷ hosts ∷ []) (keep_line (keeps list script) ∷ []) three)
    (rw c.keeps.ensures at c.put_keep.ensures.failed)

pub returns-in_err-put_asked-clause-failed : goal.returns-in_err-put_asked-clause-failed
returns-in_err-put_asked-clause-failed g c =
    let failed = err_from_is_err_and c.from_residual.result c.from_residual.ensures.1 in
    let a = g.K.Sink.output c.args.out.now in
    let b = g.K.Sink.output c.put_asked.new.out in
    let list = c.args.list.now in
    let script = c.args.script.now in
    let totals = c.args.totals.now in
    rw failed.1
    (CutShort-more a b (asked_line c.args.slots c.args.number ∷ [])
    (sent_line list totals ∷ hosts_line totals ∷ keep_line (keeps list script) ∷ [])
    c.in_err-put_asked.ensures.failed)

pub returns-in_err-put_sent-clause-failed : goal.returns-in_err-put_sent-clause-failed
returns-in_err-put_sent-clause-failed g c =
    let failed =
    err_from_is_err_and c.from_residual-in_err-put_sent.result c.from_residual-in_err-put_sent.ensures.1 in
    let a = g.K.Sink.output c.args.out.now in
    let b = g.K.Sink.output c.put_asked.new.out in
    let d = g.K.Sink.output c.put_sent.new.out in
    let list = c.args.list.now in
    let script = c.args.script.now in
    let totals = c.args.totals.now in
    let asked = asked_line c.args.slots c.args.number in
    let sent = sent_line list totals in
    rw failed.1
    (CutShort-more a d (asked ∷ sent ∷ []) (hosts_line totals ∷ keep_line (keeps list script) ∷ [])
    (CutShort-after a b d (asked ∷ []) (sent ∷ []) c.in_ok-put_asked.ensures.ok c.in_err-put_sent.ensures.failed))

pub returns-in_err-put_hosts-clause-failed : goal.returns-in_err-put_hosts-clause-failed
returns-in_err-put_hosts-clause-failed g c =
    let failed =
    err_from_is_err_and c.from_residual-in_err-put_hosts.result c.from_residual-in_err-put_hosts.ensures.1 in
    let a = g.K.Sink.output c.args.out.now in
    let b = g.K.Sink.output c.put_asked.new.out in
    let d = g.K.Sink.output c.put_sent.new.out in
    let e = g.K.Sink.output c.put_hosts.new.out in
    let list = c.args.list.now in
    let script = c.args.script.now in
    let totals = c.args.totals.now in
    let asked = asked_line c.args.slots c.args.number in
    let sent = sent_line list totals in
    let hosts = hosts_line totals in
    let two = Wrote-join a b d (asked ∷ []) (sent ∷ []) c.in_ok-put_asked.ensures.ok c.in_ok-put_sent.ensures.ok in
    rw failed.1
    (CutShort-more a e (asked ∷ sent ∷ hosts ∷ []) (keep_line (keeps list script) ∷ [])
    (CutShort-after a d e (asked ∷ sent ∷ []) (hosts ∷ []) two c.in_err-put_hosts.ensures.failed))
