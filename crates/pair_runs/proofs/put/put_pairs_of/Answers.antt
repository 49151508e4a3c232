use Rattle.std.proofs.Common.{◌<◌, ◌+◌, List, length, ap, sym, subst, ◌∙◌, arith}
use Rattle.std.specs.Prelude.{All, map}
use Rattle.std.proofs.lemmas.List.{length-map}
use Rattle.ttp_base.specs.Text.{Lines}
use Rattle.ttp_world.specs.declared.script.Script.{Script}
use Rattle.fault_runs.specs.declared.put.CampaignFault.{CampaignFault}
use Rattle.fault_runs.specs.Ends.{LeftBy}
use Rattle.pair_runs.proofs.FromBelow.{leaves-more, leaves-after, ok-weaker, err-weaker}
use Rattle.fault_pairs.specs.PairText.{lines_of_told}
use Rattle.fault_pairs.specs.Sums.{PairTold}
use Rattle.pair_runs.specs.declared.singles.Single.{Single}
use Rattle.pair_runs.specs.declared.singles.Singles.{Singles}
use Rattle.pair_runs.specs.Counted.{distances_of, PutPairs}
use Rattle.pair_runs.specs.Tries.{IsSingle, told_pair}
use Rattle.pair_runs.specs.Written.{tolds_behind}
use Rattle.pair_runs.proofs.Counted.{few-after, pairs-join, lines-append}
use Rattle.pair_runs.proofs.Told.{seconds-told}
use Rattle.pair_runs.proofs.put.put_pairs_of.Goals as goal

pub step-requires-clause-slot : goal.step-requires-clause-slot
step-requires-clause-slot g c =
    subst (λ (s : Script). c.args.setting.now.slot < s.slots) (sym c.requires.may.more) c.requires.may.slot

pub bounds-rows-place_of : goal.bounds-rows-place_of
bounds-rows-place_of g c = omega (arith, c.place_of.ensures, c.requires.rows.count)

pub put_seconds-requires-clause-singles : goal.put_seconds-requires-clause-singles
put_seconds-requires-clause-singles g c κs within =
    let list = c.args.setting.now.common.list.now in
    let script = c.args.setting.now.common.script.now in
    subst (λ (all : List Single). All (IsSingle list script) all) (sym c.kept.ensures)
    (subst (λ (row : Singles). All (IsSingle list script) row.all.items) (sym c.index-rows-place_of.is)
    (c.requires.rows.each c.place_of.result c.index-rows-place_of.result
    (omega (arith, c.place_of.ensures, c.requires.rows.count))))

pub put_seconds-requires-clause-apart : goal.put_seconds-requires-clause-apart
put_seconds-requires-clause-apart g c κs within = omega (arith, c.requires.may.slot)

pub put_seconds-requires-clause-few : goal.put_seconds-requires-clause-few
put_seconds-requires-clause-few g c κs within = (c.requires.few.0, c.requires.few.1, omega (arith, c.requires.few.2))

pub put_behind-requires-clause-few : goal.put_behind-requires-clause-few
put_behind-requires-clause-few g c κs within =
    let setting = c.args.setting.now in
    let told = map (told_pair setting 0) setting.behind.now in
    let few = length-map setting.behind.now (told_pair setting 0) in (
      c.requires.few.0 + length told,
      few-after (distances_of setting.common) c.requires.few.0
          (g.K.Sink.output c.args.out.now) (g.K.Sink.output c.put_seconds.new.out)
          c.args.tally.now c.put_seconds.new.tally told c.in_default.ensures.ok c.requires.few.1,
      omega (arith, c.requires.few.2, few, c.requires.behind),
    )

pub returns-in-Err-clause-err : goal.returns-in-Err-clause-err
returns-in-Err-clause-err g c =
    let setting = c.args.setting.now in
    let told = map (told_pair setting 0) setting.behind.now in
    subst (λ (lines : Lines). LeftBy c.in-Err.why (g.K.Sink.output c.args.out.now)
    (g.K.Sink.output c.put_seconds.new.out) lines)
    (sym (lines-append told (tolds_behind setting)) ∙ ap lines_of_told (seconds-told setting c.requires.may.more))
    (leaves-more c.in-Err.why (g.K.Sink.output c.args.out.now)
    (g.K.Sink.output c.put_seconds.new.out) (lines_of_told told)
    (lines_of_told (tolds_behind setting)) c.in-Err.ensures.err)

pub returns-clause-ok : goal.returns-clause-ok
returns-clause-ok g c =
    let setting = c.args.setting.now in
    let told = map (told_pair setting 0) setting.behind.now in
    let o = g.K.Sink.output c.args.out.now in
    let p = g.K.Sink.output c.put_seconds.new.out in
    let q = g.K.Sink.output c.put_behind.new.out in
    let t = c.args.tally.now in
    let v = c.put_behind.new.tally in
    ok-weaker (PutPairs p q c.put_seconds.new.tally v (tolds_behind setting)) (PutPairs o q t v _) c.put_behind.result
    (λ put. subst (λ (ps : List PairTold). PutPairs o q t v ps) (seconds-told setting c.requires.may.more)
    (pairs-join o p q t c.put_seconds.new.tally v told (tolds_behind setting) c.in_default.ensures.ok put))
    c.put_behind.ensures.ok

pub returns-clause-err : goal.returns-clause-err
returns-clause-err g c =
    let setting = c.args.setting.now in
    let told = map (told_pair setting 0) setting.behind.now in
    let o = g.K.Sink.output c.args.out.now in
    let p = g.K.Sink.output c.put_seconds.new.out in
    let q = g.K.Sink.output c.put_behind.new.out in
    err-weaker (λ (why : CampaignFault). LeftBy why p q (lines_of_told (tolds_behind setting)))
    (λ (why : CampaignFault). LeftBy why o q _) c.put_behind.result
    (λ why left. subst (λ (lines : Lines). LeftBy why o q lines)
    (sym (lines-append told (tolds_behind setting)) ∙ ap lines_of_told (seconds-told setting c.requires.may.more))
    (leaves-after why o p q (lines_of_told told)
    (lines_of_told (tolds_behind setting)) c.in_default.ensures.ok.wrote left))
    c.put_behind.ensures.err
