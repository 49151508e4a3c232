use Rattle.std.proofs.Common.{[], ◌∷◌, Bool, true, false, subst, sym}
use Rattle.ttp_base.specs.Sheet.{Puts}
use Rattle.ttp_base.proofs.Puts.{puts_wrote, puts_cut, puts_nothing}
use Rattle.ttp_base.proofs.sheet.put_line.Goals as goal

pub returns-then-failed : goal.returns-then-failed
returns-then-failed g c =
    let a = g.K.Sink.output c.args.out.now in
    subst (λ (f : Bool). Puts f a true a (c.args.line.now ∷ [])) (sym c.if-failed.true)
    (puts_nothing a (c.args.line.now ∷ []))

pub returns-in-Ok : goal.returns-in-Ok
returns-in-Ok g c =
    let a = g.K.Sink.output c.args.out.now in
    let b = g.K.Sink.output c.write.new.self in
    subst (λ (f : Bool). Puts f a false b (c.args.line.now ∷ [])) (sym c.if-failed.false)
    (puts_wrote a b (c.args.line.now ∷ []) c.in-Ok.ensures.ok)

pub returns-in-Err : goal.returns-in-Err
returns-in-Err g c =
    let a = g.K.Sink.output c.args.out.now in
    let b = g.K.Sink.output c.write.new.self in
    subst (λ (f : Bool). Puts f a true b (c.args.line.now ∷ [])) (sym c.if-failed.false)
    (puts_cut a b (c.args.line.now ∷ []) c.in-Err.ensures.failed)
