use Rattle.std.proofs.Common.{◌-◌, ℕ, List, ap, subst, ◌∙◌, arith}
use Rattle.std.specs.Prelude.{OnOk, IfErr}
use Rattle.fault_runs.specs.declared.put.CampaignFault.{CampaignFault}
use Rattle.fault_runs.specs.Ends.{LeftBy}
use Rattle.fault_pairs.specs.Pairs.{FirstFault}
use Rattle.pair_runs.specs.Counted.{PutFirsts}
use Rattle.pair_runs.specs.Written.{firsts_between, tolds_of_firsts, text_of_firsts}
use Rattle.pair_runs.proofs.Groups.{firsts-range}
use Rattle.pair_runs.proofs.put.put_slots.Goals as goal

pub skip-requires-clause-end : goal.skip-requires-clause-end
skip-requires-clause-end g c = omega (arith, c.end_of-end.ensures, c.min-from.ensures)

pub put_range-requires-clause-end : goal.put_range-requires-clause-end
put_range-requires-clause-end g c κs within = omega (arith, c.end_of-end.ensures)

pub put_range-requires-clause-from : goal.put_range-requires-clause-from
put_range-requires-clause-from g c κs within = omega (arith, c.min-from.ensures)

pub returns-clause-ok : goal.returns-clause-ok
returns-clause-ok g c =
    let common = c.args.common.now in
    let end = c.end_of-end.result in
    subst (λ (firsts : List FirstFault). OnOk c.put_range.result (PutFirsts (g.K.Sink.output c.args.out.now)
    (g.K.Sink.output c.put_range.new.out) c.args.tally.now c.put_range.new.tally
    (tolds_of_firsts common firsts) (text_of_firsts common firsts)))
    (ap (λ (n : ℕ). firsts_between common n (end - n)) c.min-from.ensures
    ∙ firsts-range common end c.end_of-end.ensures)
    c.put_range.ensures.ok

pub returns-clause-err : goal.returns-clause-err
returns-clause-err g c =
    let common = c.args.common.now in
    let end = c.end_of-end.result in
    subst (λ (firsts : List FirstFault).
    IfErr c.put_range.result (λ (why : CampaignFault). LeftBy why (g.K.Sink.output c.args.out.now)
    (g.K.Sink.output c.put_range.new.out) (text_of_firsts common firsts)))
    (ap (λ (n : ℕ). firsts_between common n (end - n)) c.min-from.ensures
    ∙ firsts-range common end c.end_of-end.ensures)
    c.put_range.ensures.err
