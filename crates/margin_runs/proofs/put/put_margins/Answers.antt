use Rattle.std.proofs.Common.{◌≡◌, ℕ, List, [], ◌∷◌, ap, subst, ◌∙◌}
use Rattle.ttp_base.specs.Outside.{WroteLines}
use Rattle.ttp_base.proofs.Outputs.{Wrote-none}
use Rattle.line_form.specs.Forms.{spelled_line}
use Rattle.clock_margins.specs.Forms.{all_form, all_values}
use Rattle.clock_margins.specs.MarginText.{margin_lines}
use Rattle.clock_margins.specs.declared.margin.Total.{Total}
use Rattle.fault_runs.specs.declared.put.CampaignFault.{CampaignFault}
use Rattle.fault_runs.specs.Ends.{LeftFewerBy}
use Rattle.margin_runs.proofs.FromBelow.{ok-weaker, err-weaker}
use Rattle.margin_runs.proofs.Whole.{last_line, front-left, sweeps-left, last-left, all-written}
use Rattle.margin_runs.proofs.put.put_margins.Goals as goal

pub put_front-requires-clause-may : goal.put_front-requires-clause-may
put_front-requires-clause-may g c =
    record { valid = c.requires.valid; script = c.requires.script; room = c.requires.room }

pub put_sweeps-requires-clause-may : goal.put_sweeps-requires-clause-may
put_sweeps-requires-clause-may g c κs within =
    record { valid = c.requires.valid; script = c.requires.script; room = c.requires.room }

pub returns-in-Err-clause-err : goal.returns-in-Err-clause-err
returns-in-Err-clause-err g c =
    front-left c.args.list.now c.args.script.now c.args.asked c.reach_of-reach.result c.reach_of-reach.ensures.reach
    c.in-Err.why (g.K.Sink.output c.args.out.now) (g.K.Sink.output c.put_front.new.out) c.in-Err.ensures.err

pub returns-in-Err-put_sweeps-clause-err : goal.returns-in-Err-put_sweeps-clause-err
returns-in-Err-put_sweeps-clause-err g c =
    let b = g.K.Sink.output c.put_front.new.out in
    sweeps-left c.args.list.now c.args.script.now c.args.asked c.reach_of-reach.result c.reach_of-reach.ensures.reach
    c.in-Err-put_sweeps.why (g.K.Sink.output c.args.out.now) b (g.K.Sink.output c.put_sweeps.new.out)
    c.in_default.ensures.ok
    (c.in-Err-put_sweeps.ensures.err b (record { wrote = Wrote-none b; total = c.no_sweeps-total.ensures.none }))

pub returns : goal.returns
returns g c =
    let list = c.args.list.now in
    let script = c.args.script.now in
    let asked = c.args.asked in
    let far = c.reach_of-reach.result in
    let is = c.reach_of-reach.ensures.reach in
    let a = g.K.Sink.output c.args.out.now in
    let b = g.K.Sink.output c.put_front.new.out in
    let d = g.K.Sink.output c.put_sweeps.new.out in
    let e = g.K.Sink.output c.put_line.new.out in
    let swept =
    c.in_default-put_sweeps.ensures.ok b (record { wrote = Wrote-none b; total = c.no_sweeps-total.ensures.none }) in
    let line : c.form_all.new.line ≡ last_line list script asked far is =
    c.form_all.ensures ∙ ap (λ (t : Total). spelled_line all_form (all_values asked t)) swept.total in
    record {
      ok =
          ok-weaker (WroteLines d e (c.form_all.new.line ∷ [])) (WroteLines a e (margin_lines list script asked))
          c.put_line.result
          (λ wrote. all-written list script asked far is a b d e c.in_default.ensures.ok swept.wrote
          (subst (λ (text : List ℕ). WroteLines d e (text ∷ [])) line wrote))
          c.put_line.ensures.ok;
      err =
          err-weaker (λ (why : CampaignFault). LeftFewerBy why d e (c.form_all.new.line ∷ []))
          (λ (why : CampaignFault). LeftFewerBy why a e (margin_lines list script asked)) c.put_line.result
          (λ why few. last-left list script asked far is why a b d e c.in_default.ensures.ok swept.wrote
          (subst (λ (text : List ℕ). LeftFewerBy why d e (text ∷ [])) line few))
          c.put_line.ensures.err;
    }
