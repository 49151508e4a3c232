use Rattle.std.proofs.Common.{◌<◌, ◌-◌, List, sym, subst, ◌∙◌, arith}
use Rattle.std.specs.Prelude.{All, map, OnOk, IfErr}
use Rattle.ttp_world.specs.declared.script.Event.{Event}
use Rattle.ttp_world.specs.declared.script.Script.{Script}
use Rattle.fault_runs.specs.declared.put.CampaignFault.{CampaignFault}
use Rattle.fault_runs.specs.Ends.{LeftBy}
use Rattle.fault_pairs.specs.PairText.{lines_of_told}
use Rattle.pair_runs.specs.declared.singles.Single.{Single}
use Rattle.pair_runs.specs.declared.singles.Singles.{Singles}
use Rattle.pair_runs.specs.Counted.{PutPairs}
use Rattle.pair_runs.specs.Tries.{IsSingle, told_pair}
use Rattle.pair_runs.proofs.Begins.{at-stand, at-few}
use Rattle.pair_runs.proofs.put.put_later.Goals as goal

pub step-requires-clause-slot : goal.step-requires-clause-slot
step-requires-clause-slot g c =
    subst (λ (s : Script). c.args.later < s.slots) (sym c.requires.may.more) c.requires.later

pub faults_at-requires-clause-slot : goal.faults_at-requires-clause-slot
faults_at-requires-clause-slot g c =
    subst (λ (s : Script). c.args.later < s.slots) (sym c.requires.may.more) c.requires.later

pub bounds-rows-place_of : goal.bounds-rows-place_of
bounds-rows-place_of g c = omega (arith, c.place_of.ensures, c.requires.rows.count)

pub put_seconds-requires-clause-singles : goal.put_seconds-requires-clause-singles
put_seconds-requires-clause-singles g c κs within =
    let list = c.args.setting.now.common.list.now in
    let script = c.args.setting.now.common.script.now in
    subst (λ (all : List Single). All (IsSingle list script) all) (sym c.kept.ensures)
    (subst (λ (row : Singles). All (IsSingle list script) row.all.items) (sym c.index-rows-place_of.is)
    (c.requires.rows.each c.place_of.result c.index-rows-place_of.result
    (omega (arith, c.place_of.ensures, c.requires.rows.count))))

pub put_seconds-requires-clause-faults : goal.put_seconds-requires-clause-faults
put_seconds-requires-clause-faults g c κs within =
    let setting = c.args.setting.now in
    rw (c.as_slice.ensures, c.in-Ok.ensures)
    (at-stand setting.common.list.now setting.common.script.now setting.more.now setting.one.now c.args.later
    c.requires.may.may.valid c.requires.later c.requires.may.more)

pub put_seconds-requires-clause-count : goal.put_seconds-requires-clause-count
put_seconds-requires-clause-count g c κs within =
    let setting = c.args.setting.now in
    rw (c.as_slice.ensures, c.in-Ok.ensures)
    (at-few setting.common.list.now setting.more.now c.args.later c.requires.may.may.valid)

pub returns-clause-ok : goal.returns-clause-ok
returns-clause-ok g c =
    let setting = c.args.setting.now in
    subst (λ (faults : List Event). OnOk c.put_seconds.result (PutPairs (g.K.Sink.output c.args.out.now)
    (g.K.Sink.output c.put_seconds.new.out) c.args.tally.now c.put_seconds.new.tally
    (map (told_pair setting (c.args.later - setting.slot)) faults)))
    (c.as_slice.ensures ∙ c.in-Ok.ensures) c.put_seconds.ensures.ok

pub returns-clause-err : goal.returns-clause-err
returns-clause-err g c =
    let setting = c.args.setting.now in
    subst (λ (faults : List Event).
    IfErr c.put_seconds.result (λ (why : CampaignFault). LeftBy why (g.K.Sink.output c.args.out.now)
    (g.K.Sink.output c.put_seconds.new.out)
    (lines_of_told (map (told_pair setting (c.args.later - setting.slot)) faults))))
    (c.as_slice.ensures ∙ c.in-Ok.ensures) c.put_seconds.ensures.err
