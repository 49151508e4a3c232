use Rattle.std.proofs.Common.{arith}
use Rattle.std.proofs.lemmas.Result.{on_ok_weaker}
use Rattle.script_errors.proofs.Taken.{own_none, takes_full_told, takes_full_kept}
use Rattle.script_errors.proofs.line.take_full.Goals as goal

pub finish-requires-clause-right : goal.finish-requires-clause-right
finish-requires-clause-right c = own_none c.args.found.now _ c.tell_own.new.found c.in_ok-tell_own.ensures (omega arith)

pub returns-then-told-len : goal.returns-then-told-len
returns-then-told-len c = λ before stands.
    takes_full_told c.args.list.now before _ _ _ _ _ _ _ _ _
    (c.slots_or_most-slots.ensures c.args.list.now before stands)
    c.in_ok-tell_own.ensures (omega arith) (c.name.ensures c.args.list.now before stands)

pub returns : goal.returns
returns c = on_ok_weaker c.finish.result (λ finishes before stands.
    takes_full_kept c.args.list.now before _ _ _ _ _ _ _ _ _ _
    (c.slots_or_most-slots.ensures c.args.list.now before stands)
    c.in_ok-tell_own.ensures (own_none c.args.found.now _ c.tell_own.new.found c.in_ok-tell_own.ensures (omega arith))
    (finishes before stands)) c.finish.ensures
