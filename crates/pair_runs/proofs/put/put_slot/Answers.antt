use Rattle.std.proofs.Common.{List, subst, ◌∙◌, arith}
use Rattle.std.specs.Prelude.{OnOk, IfErr}
use Rattle.ttp_world.specs.declared.script.Event.{Event}
use Rattle.fault_runs.specs.declared.put.CampaignFault.{CampaignFault}
use Rattle.fault_runs.specs.Ends.{LeftBy}
use Rattle.fault_pairs.specs.Pairs.{firsts_among}
use Rattle.pair_runs.specs.Counted.{PutFirsts}
use Rattle.pair_runs.specs.Written.{tolds_of_firsts, text_of_firsts}
use Rattle.pair_runs.proofs.Begins.{at-begin, at-few}
use Rattle.pair_runs.proofs.put.put_slot.Goals as goal

pub look_to-requires-clause-end : goal.look_to-requires-clause-end
look_to-requires-clause-end g c = omega (arith, c.end_behind.ensures)

pub put_groups-requires-clause-rows : goal.put_groups-requires-clause-rows
put_groups-requires-clause-rows g c κs within = rw c.as_slice-rows.ensures.value c.in-Ok.ensures.ahead.rows

pub put_groups-requires-clause-faults : goal.put_groups-requires-clause-faults
put_groups-requires-clause-faults g c κs within =
    let common = c.args.common.now in
    rw (c.as_slice.ensures, c.in-Ok-faults_at.ensures)
    (at-begin common.list.now common.script.now c.args.slot c.requires.may.valid c.requires.slot)

pub put_groups-requires-clause-count : goal.put_groups-requires-clause-count
put_groups-requires-clause-count g c κs within =
    let common = c.args.common.now in
    rw (c.as_slice.ensures, c.in-Ok-faults_at.ensures)
    (at-few common.list.now common.script.now c.args.slot c.requires.may.valid)

pub returns-clause-ok : goal.returns-clause-ok
returns-clause-ok g c =
    let common = c.args.common.now in
    subst (λ (faults : List Event). OnOk c.put_groups.result (PutFirsts (g.K.Sink.output c.args.out.now)
    (g.K.Sink.output c.put_groups.new.out) c.args.tally.now c.put_groups.new.tally
    (tolds_of_firsts common (firsts_among c.args.slot faults))
    (text_of_firsts common (firsts_among c.args.slot faults))))
    (c.as_slice.ensures ∙ c.in-Ok-faults_at.ensures) c.put_groups.ensures.ok

pub returns-clause-err : goal.returns-clause-err
returns-clause-err g c =
    let common = c.args.common.now in
    subst (λ (faults : List Event).
    IfErr c.put_groups.result (λ (why : CampaignFault). LeftBy why (g.K.Sink.output c.args.out.now)
    (g.K.Sink.output c.put_groups.new.out) (text_of_firsts common (firsts_among c.args.slot faults))))
    (c.as_slice.ensures ∙ c.in-Ok-faults_at.ensures) c.put_groups.ensures.err
