use Rattle.std.proofs.Common.{Bool, subst}
use Rattle.ttp_base.specs.Sheet.{Puts}
use Rattle.lab_top.proofs.FromBelow.{end_ok, end_failed}
use Rattle.lab_top.proofs.why.write_texts.Goals as goal

pub returns-clause-ok : goal.returns-clause-ok
returns-clause-ok g c =
    end_ok c.end.result c.put_texts.new.sheet.failed _ _ c.args.lines.now c.end.ensures
    (subst (λ (f : Bool). Puts f (g.K.Sink.output c.args.out.now) c.put_texts.new.sheet.failed
    (g.K.Sink.output c.put_texts.new.out) c.args.lines.now) c.new-sheet.ensures c.put_texts.ensures)

pub returns-clause-failed : goal.returns-clause-failed
returns-clause-failed g c =
    end_failed c.end.result c.put_texts.new.sheet.failed _ _ c.args.lines.now c.end.ensures
    (subst (λ (f : Bool). Puts f (g.K.Sink.output c.args.out.now) c.put_texts.new.sheet.failed
    (g.K.Sink.output c.put_texts.new.out) c.args.lines.now) c.new-sheet.ensures c.put_texts.ensures)
