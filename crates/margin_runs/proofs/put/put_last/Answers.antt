use Rattle.std.proofs.Common.{ℕ, List, [], ◌∷◌, Option, subst}
use Rattle.std.specs.Prelude.{OnOk, IfErr}
use Rattle.std.specs.List.{cons_option}
use Rattle.ttp_base.specs.Outside.{WroteLines}
use Rattle.ttp_base.proofs.Outputs.{Wrote-none}
use Rattle.clock_margins.specs.Ranges.{Range}
use Rattle.margin_text.specs.Taken.{range_of}
use Rattle.fault_runs.specs.declared.put.CampaignFault.{CampaignFault}
use Rattle.fault_runs.specs.Ends.{LeftBy, LeftFewerBy}
use Rattle.margin_runs.proofs.FromBelow.{err-weaker}
use Rattle.margin_runs.specs.Tries.{range_lines}
use Rattle.margin_runs.proofs.Puts.{fewer-left}
use Rattle.margin_runs.proofs.Writable.{open-writable}
use Rattle.margin_runs.proofs.put.put_last.Goals as goal

pub form_range-requires-clause-outcome : goal.form_range-requires-clause-outcome
form_range-requires-clause-outcome g c =
    let tolds = c.requires.swept.0 in
    open-writable tolds (range_of c.in-Some.range.now) c.requires.swept.2 (c.in-Some.ensures tolds c.requires.swept.1)

pub returns-in-Some-clause-ok : goal.returns-in-Some-clause-ok
returns-in-Some-clause-ok g c = λ tolds is.
    let before = g.K.Sink.output c.args.out.now in
    let now = g.K.Sink.output c.put_line.new.out in
    subst
    (λ (o : Option Range). OnOk c.put_line.result
    (WroteLines before now (range_lines c.args.list.now c.args.sweep (cons_option o []))))
    (c.in-Some.ensures tolds is)
    (subst (λ (text : List ℕ). OnOk c.put_line.result (WroteLines before now (text ∷ []))) c.form_range.ensures
    c.put_line.ensures.ok)

pub returns-in-Some-clause-err : goal.returns-in-Some-clause-err
returns-in-Some-clause-err g c = λ tolds is.
    let before = g.K.Sink.output c.args.out.now in
    let now = g.K.Sink.output c.put_line.new.out in
    let line = c.form_range.new.line in
    subst
    (λ (o : Option Range). IfErr c.put_line.result
    (λ (why : CampaignFault). LeftBy why before now (range_lines c.args.list.now c.args.sweep (cons_option o []))))
    (c.in-Some.ensures tolds is)
    (err-weaker (λ (why : CampaignFault). LeftFewerBy why before now (line ∷ []))
    (λ (why : CampaignFault). LeftBy why before now
    (range_lines c.args.list.now c.args.sweep (range_of c.in-Some.range.now ∷ []))) c.put_line.result
    (λ why few. subst (λ (text : List ℕ). LeftBy why before now (text ∷ [])) c.form_range.ensures
    (fewer-left why before now (line ∷ []) few))
    c.put_line.ensures.err)

pub returns-in-None-clause-ok : goal.returns-in-None-clause-ok
returns-in-None-clause-ok g c = λ tolds is.
    let before = g.K.Sink.output c.args.out.now in
    subst (λ (o : Option Range). WroteLines before before (range_lines c.args.list.now c.args.sweep (cons_option o [])))
    (c.in-None.ensures tolds is) (Wrote-none before)
