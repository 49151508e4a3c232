use Rattle.std.proofs.Common.{arith, ◌<◌, [], ◌∷◌}
use Rattle.std.proofs.lemmas.Result.{err_from_is_err_and}
use Rattle.ttp_base.specs.Text.{lines_below}
use Rattle.ttp_base.proofs.Outputs.{CutShort-below, CutShort-more, WroteLines-below}
use Rattle.medl_text.specs.Schedule.{table_head, round_lines, slot_table}
use Rattle.medl_text.proofs.schedule.put_schedule.Goals as goal

pub loop-round-init : goal.loop-round-init
loop-round-init g c = rw (← c.head_line.ensures, ← c.bytes.ensures) c.in_ok-write.ensures.ok

pub loop-round-preserved : goal.loop-round-preserved
loop-round-preserved g c =
    let list = c.args.list.now in
    WroteLines-below _ _ _ (table_head list ∷ []) (round_lines list) c.loop-round.round c.loop-round.invariant
    c.in_ok-put_round.ensures.ok

pub returns-in_err-write-clause-failed : goal.returns-in_err-write-clause-failed
unfolding slot_table
returns-in_err-write-clause-failed g c =
    let failed = err_from_is_err_and c.from_residual.result c.from_residual.ensures.1 in
    let list = c.args.list.now in
    rw failed.1 (CutShort-more _ _ (table_head list ∷ []) (lines_below (round_lines list) list.rounds)
    (rw (← c.head_line.ensures, ← c.bytes.ensures) c.in_err-write.ensures.failed))

pub returns-in_err-put_round-clause-failed : goal.returns-in_err-put_round-clause-failed
unfolding slot_table
returns-in_err-put_round-clause-failed g c =
    let failed =
    err_from_is_err_and c.from_residual-in_err-put_round.result c.from_residual-in_err-put_round.ensures.1 in
    let list = c.args.list.now in
    let round = c.loop-round.round in
    let less : round < list.rounds = omega arith in
    rw failed.1 (CutShort-below _ _ _ (table_head list ∷ []) (round_lines list) round list.rounds less
    c.loop-round.invariant c.in_err-put_round.ensures.failed)
