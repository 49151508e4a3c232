use Rattle.ttp_top.proofs.Terms.{refl, ap, sym, subst, ◌∙◌, inl, alone, outside}
use Rattle.ttp_top.proofs.Terms.{BenchPlan, ttpbench, plan_of, usage_line}
use Rattle.commands.specs.Lines.{notice}
use Rattle.commands.specs.Outcome.{Follows}
use Rattle.ttp_top.proofs.FromBelow.{said}
use Rattle.ttp_top.proofs.Calls.Asked.{plan_of-told}
use Rattle.ttp_top.proofs.call.obey.Goals as goal

pub returns-in-Schedule-clause-follows : goal.returns-in-Schedule-clause-follows
returns-in-Schedule-clause-follows g c =
    rw (sym c.in-Schedule.ensures.form, c.take.ensures.after) c.schedule.ensures

pub returns-in-Run-clause-follows : goal.returns-in-Run-clause-follows
returns-in-Run-clause-follows g c = rw (sym c.in-Run.ensures.form) c.run.ensures

pub returns-in-Sample-clause-follows : goal.returns-in-Sample-clause-follows
returns-in-Sample-clause-follows g c = rw (sym c.in-Sample.ensures.form) c.sample.ensures

pub returns-in-Ask-clause-follows : goal.returns-in-Ask-clause-follows
returns-in-Ask-clause-follows g c =
    let is = sym (plan_of-told c.in-Ask.list.now c.in-Ask.script.now c.in-Ask.question)
    ∙ ap plan_of c.in-Ask.ensures.form in
    rw c.take.ensures.after
    (subst (λ (p : BenchPlan).
    Follows ttpbench p (outside (g.L.Library.files c.args.library.now) (g.K.Sink.output c.args.out.now))
    (outside (g.L.Library.files c.ask.new.library) (g.K.Sink.output c.ask.new.out)) (alone c.ask.result)) is
    c.ask.ensures)

pub returns-in-NoForm-clause-follows : goal.returns-in-NoForm-clause-follows
returns-in-NoForm-clause-follows g c =
    let told = rw c.as_bytes.ensures.value at c.say.ensures in
    rw (sym c.in-NoForm.ensures.form, c.take.ensures.after)
    (refl, inl (said ttpbench (notice 2 usage_line) _ _ c.say.result told))
