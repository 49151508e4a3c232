use Rattle.std.proofs.Common.{rules, arith, inl, inr, subst}
use Rattle.ttp_base.specs.declared.source.Trouble.{Trouble}
use Rattle.ttp_base.specs.Errors.{ToldFault}
use Rattle.std.proofs.lemmas.Grind.{common_steps}
use Rattle.ttp_base.proofs.Told.{no_fault-join, fault-join}
use Rattle.ttp_base.proofs.streams.read_front.Goals as goal

pub returns-in-Err-clause-failed : goal.returns-in-Err-clause-failed
returns-in-Err-clause-failed g c = λ is. (
  c.in-Err.trouble,
  c.answer.ensures.failed.0 is,
  fault-join _ (g.S.Source.told c.loop-room.source) _ c.in-Err.trouble c.loop-room.invariant.2
      c.in-Err.ensures.told,
)

pub returns-in-Err-clause-memory : goal.returns-in-Err-clause-memory
returns-in-Err-clause-memory g c = λ is.
    let told = g.S.Source.told in
    inr (subst (λ (t : Trouble). ToldFault (told c.args.source.now) (told c.read_some.new.source) t)
    (c.answer.ensures.memory.0 is)
    (fault-join _ (told c.loop-room.source) _ c.in-Err.trouble c.loop-room.invariant.2 c.in-Err.ensures.told))

pub returns-then-given-eq0-clause-quiet : goal.returns-then-given-eq0-clause-quiet
returns-then-given-eq0-clause-quiet g c =
    no_fault-join _ (g.S.Source.told c.loop-room.source) _ c.loop-room.invariant.2 c.in-Ok.ensures.quiet

pub returns-then-is_err-clause-memory : goal.returns-then-is_err-clause-memory
returns-then-is_err-clause-memory g c = λ is.
    inl (no_fault-join _ (g.S.Source.told c.loop-room.source) _ c.loop-room.invariant.2 c.in-Ok.ensures.quiet)

pub loop-room-preserved : goal.loop-room-preserved
loop-room-preserved g c = (
  search rules,
  grind (arith, common_steps),
  no_fault-join _ (g.S.Source.told c.loop-room.source) _ c.loop-room.invariant.2 c.in-Ok.ensures.quiet,
)
