use Rattle.std.proofs.Common.{◌+◌, ◌-◌, sym, arith}
use Rattle.causes.specs.Listening.{wait_sources}
use Rattle.causes.specs.Sources.{no_sources}
use Rattle.entry_causes.proofs.Adding.{adds-none, on-ok}
use Rattle.entry_causes.proofs.Listens.{wait-back, wait-none}
use Rattle.entry_causes.proofs.Remaining.{adds-same}
use Rattle.run_rows.specs.Rows.{past_slots}
use Rattle.entry_causes.proofs.listening.add_wait_before.Goals as goal

pub returns-then-before-eq0 : goal.returns-then-before-eq0
returns-then-before-eq0 c =
    let run = c.args.run.now in
    adds-same c.args.out.now c.args.out.now no_sources (wait_sources c.args.node (past_slots run c.args.before))
    (sym (wait-none run.list run.script c.args.before c.args.node c.if-before-eq0.true)) (adds-none c.args.out.now)

pub returns : goal.returns
returns c =
    let run = c.args.run.now in
    let k = c.args.node in
    on-ok c.add_wait.result
    (adds-same c.args.out.now c.add_wait.new.out (wait_sources k (past_slots run (c.args.before - 1 + 1)))
    (wait_sources k (past_slots run c.args.before))
    (wait-back run.list run.script c.args.before k (omega (arith, c.if-before-eq0.false))))
    c.add_wait.ensures
