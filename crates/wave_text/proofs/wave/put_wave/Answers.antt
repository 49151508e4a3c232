use Rattle.wave_text.proofs.Words.{Bool, true, false, subst, wave_lines, Puts}
use Rattle.ttp_base.proofs.Puts.{all_wrote, all_cut}
use Rattle.wave_text.proofs.wave.put_wave.Goals as goal

pub returns-then-page-clause-failed : goal.returns-then-page-clause-failed
returns-then-page-clause-failed g c = λ same.
    let a = g.K.Sink.output c.args.out.now in
    let b = g.K.Sink.output c.put_all.new.out in
    let lines = wave_lines c.args.trace.now in
    all_cut a b lines
    (subst (λ (failed : Bool). Puts failed a true b lines) c.new-page.ensures
    (subst (λ (failed : Bool). Puts c.new-page.result.sheet.failed a failed b lines) c.if-page.true
    c.put_all.ensures))

pub returns-clause-ok : goal.returns-clause-ok
returns-clause-ok g c =
    let a = g.K.Sink.output c.args.out.now in
    let b = g.K.Sink.output c.put_all.new.out in
    let lines = wave_lines c.args.trace.now in
    all_wrote a b lines
    (subst (λ (failed : Bool). Puts failed a false b lines) c.new-page.ensures
    (subst (λ (failed : Bool). Puts c.new-page.result.sheet.failed a failed b lines) c.if-page.false
    c.put_all.ensures))
