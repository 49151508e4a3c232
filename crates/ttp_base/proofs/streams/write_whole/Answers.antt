use Rattle.std.proofs.lemmas.List.{take_rest}
use Rattle.std.proofs.lemmas.Result.{on_ok_weaker, on_err_weaker, IfErr-weaker}
use Rattle.ttp_base.specs.Errors.{ToldFault}
use Rattle.ttp_base.proofs.Known.{front_after}
use Rattle.ttp_base.proofs.Told.{interrupted, no_fault-join, fault-join}
use Rattle.ttp_base.proofs.streams.write_whole.Goals as goal

pub returns-in-Ok-2-clause-front : goal.returns-in-Ok-2-clause-front
returns-in-Ok-2-clause-front g c =
    let piece = c.args.piece.now in
    let count = c.in-Ok.count in
    on_err_weaker c.write_rest.result (front_after _ _ _ piece count c.in-Ok.ensures.ok)
    (rw (take_rest piece count) at c.write_rest.ensures.front)

pub returns-in-Err-clause-quiet : goal.returns-in-Err-clause-quiet
returns-in-Err-clause-quiet g c =
    on_ok_weaker c.write_rest-in-Err.result
    (no_fault-join _ (g.T.Target.told c.write.new.self) _ (interrupted _ _ c.in-Err.trouble c.if-is_interruption.ensures
    c.in-Err.ensures.tells)) c.write_rest-in-Err.ensures.quiet

pub returns-in-Err-clause-told : goal.returns-in-Err-clause-told
returns-in-Err-clause-told g c =
    let told = g.T.Target.told in
    let rest = c.write_rest-in-Err in
    IfErr-weaker rest.result (ToldFault (told c.write.new.self) (told rest.new.target))
    (ToldFault (told c.args.target.now) (told rest.new.target))
    (λ t. fault-join _ (told c.write.new.self) _ t
    (interrupted _ _ c.in-Err.trouble c.if-is_interruption.ensures c.in-Err.ensures.tells)) rest.ensures.told
