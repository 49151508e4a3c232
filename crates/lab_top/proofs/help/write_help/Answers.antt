use Rattle.std.proofs.Common.{Bool, subst}
use Rattle.ttp_base.specs.Sheet.{Puts}
use Rattle.lab_top.proofs.FromBelow.{end_ok, end_failed}
use Rattle.lab_top.specs.Help.{help_lines}
use Rattle.lab_top.proofs.help.write_help.Goals as goal

pub returns-clause-ok : goal.returns-clause-ok
returns-clause-ok g c =
    end_ok c.end.result c.put_help.new.sheet.failed _ _ help_lines c.end.ensures
    (subst (λ (f : Bool). Puts f (g.K.Sink.output c.args.out.now) c.put_help.new.sheet.failed
    (g.K.Sink.output c.put_help.new.out) help_lines) c.new-sheet.ensures c.put_help.ensures)

pub returns-clause-failed : goal.returns-clause-failed
returns-clause-failed g c =
    end_failed c.end.result c.put_help.new.sheet.failed _ _ help_lines c.end.ensures
    (subst (λ (f : Bool). Puts f (g.K.Sink.output c.args.out.now) c.put_help.new.sheet.failed
    (g.K.Sink.output c.put_help.new.out) help_lines) c.new-sheet.ensures c.put_help.ensures)
