use Rattle.std.proofs.Common.{◌≡◌, ◌+◌, ℕ, List, ◌++◌, ◌∷◌, [], length, ap, sym, subst, ◌∙◌, refl, arith}
use Rattle.std.specs.Prelude.{map, true}
use Rattle.run_costs.specs.Later.{comes_later}
use Rattle.run_costs.specs.Standing.{IsSeenAfter}
use Rattle.ttp_base.specs.Outside.{WroteLines}
use Rattle.ttp_base.specs.Text.{Lines}
use Rattle.ttp_base.proofs.Outputs.{Wrote-join}
use Rattle.ttp_world.specs.declared.script.Script.{Script}
use Rattle.campaign.specs.Lines.{summary}
use Rattle.fault_runs.specs.declared.put.CampaignFault.{CampaignFault}
use Rattle.fault_runs.specs.Ends.{LeftBy, LeftFewerBy}
use Rattle.fault_runs.specs.Tries.{IsOwnAfter}
use Rattle.pair_runs.proofs.FromBelow.{leaves-more, leaves-after, ok-weaker, err-weaker, ok-always}
use Rattle.fault_pairs.specs.declared.pair.PairCounts.{PairCounts}
use Rattle.fault_pairs.specs.Pairs.{seconds_of}
use Rattle.fault_pairs.specs.PairText.{lines_of_told, first_fault_line}
use Rattle.fault_pairs.specs.Sums.{PairTold}
use Rattle.pair_classes.specs.declared.sums.Sums.{Sums}
use Rattle.pair_runs.specs.Counted.{most_of_first, distances_of, HasFewSums, AddsTo, PutFirsts}
use Rattle.pair_runs.specs.Tries.{first_of}
use Rattle.pair_runs.specs.Written.{told_second}
use Rattle.pair_runs.proofs.Counted.{pairs-weaker, sums-weaker}
use Rattle.pair_runs.proofs.Firsts.{pairs_of, tolds-first, pairs-few, lines-first, left-fewer}
use Rattle.pair_runs.proofs.Owns.{seen-of}
use Rattle.pair_runs.proofs.put.put_course.Goals as goal

pub go_on_from-requires-clause-slots : goal.go_on_from-requires-clause-slots
go_on_from-requires-clause-slots g c =
    let same = ap (λ (s : Script). s.slots) c.requires.may.more in
    omega (arith, c.requires.before.count, c.requires.before.within, same)

pub go_on_from-requires-clause-other : goal.go_on_from-requires-clause-other
go_on_from-requires-clause-other g c =
    let setting = c.args.setting.now in
    seen-of c.args.before.now setting.common.list.now setting.common.script.now setting.slot c.requires.before

pub put_pairs_of-requires-clause-past : goal.put_pairs_of-requires-clause-past
put_pairs_of-requires-clause-past g c κs within =
    let setting = c.args.setting.now in
    let list = setting.common.list.now in
    let script = setting.common.script.now in
    let before = c.requires.before in
    let count = before.count in
    subst (λ (n : ℕ). IsOwnAfter c.go_on_from.new.self list setting.more.now n) count
    (c.go_on_from.ensures script c.requires.may.more
    (subst (λ (n : ℕ). comes_later n setting.one.now ≡ true) (sym count) c.requires.may.one.later)
    (subst (λ (n : ℕ). IsSeenAfter c.args.before.now list script n) (sym count) before))

pub put_pairs_of-requires-clause-few : goal.put_pairs_of-requires-clause-few
put_pairs_of-requires-clause-few g c κs within =
    let distances = distances_of c.args.setting.now.common in (
      c.requires.few.0,
      record {
        sums = subst (λ (s : Sums). HasFewSums distances c.requires.few.0 s)
            (sym c.begin.ensures.sums) c.requires.few.1;
        counts = pairs-weaker 0 c.requires.few.0 c.begin.new.self.counts c.begin.ensures.few (omega arith);
      },
      c.requires.few.2,
    )

pub returns-in-Err-clause-err : goal.returns-in-Err-clause-err
returns-in-Err-clause-err g c =
    let setting = c.args.setting.now in
    subst (λ (lines : Lines). LeftBy c.in-Err.why (g.K.Sink.output c.args.out.now)
    (g.K.Sink.output c.put_pairs_of.new.out) lines)
    (lines-first setting c.requires.may.first c.requires.may.more)
    (leaves-more c.in-Err.why (g.K.Sink.output c.args.out.now)
    (g.K.Sink.output c.put_pairs_of.new.out) _ _ c.in-Err.ensures.err)

pub returns-clause-work : goal.returns-clause-work
returns-clause-work g c =
    ok-always _ c.put_first_line.result (record { run = c.requires.work.run; past = c.in_default.ensures.past })

pub returns-clause-ok : goal.returns-clause-ok
returns-clause-ok g c =
    let setting = c.args.setting.now in
    let list = setting.common.list.now in
    let told = map (told_second setting)
    (seconds_of list setting.common.script.now setting.common.within (first_of setting)) in
    let o = g.K.Sink.output c.args.out.now in
    let p = g.K.Sink.output c.put_pairs_of.new.out in
    let q = g.K.Sink.output c.put_first_line.new.out in
    let u = c.put_pairs_of.new.tally in
    let put = c.in_default.ensures.ok in
    let line = λ (counts : PairCounts). first_fault_line list (first_of setting) (summary list setting.more.now) counts in
    let counted = put.counts [] c.begin.ensures.counts in
    ok-weaker (WroteLines p q (line u.counts ∷ [])) (PutFirsts o q c.args.tally.now u _ _) c.put_first_line.result
    (λ wrote. record {
      wrote = subst (λ (lines : Lines). WroteLines o q lines)
          (ap (λ (counts : PairCounts). lines_of_told told ++ line counts ∷ []) counted
          ∙ lines-first setting c.requires.may.first c.requires.may.more)
          (Wrote-join o p q (lines_of_told told) (line u.counts ∷ []) put.wrote wrote);
      sums = subst (λ (ps : List PairTold). AddsTo c.args.tally.now.sums u.sums ps)
          (tolds-first setting c.requires.may.first)
          (subst (λ (s : Sums). AddsTo s u.sums told) c.begin.ensures.sums put.sums);
    })
    (c.put_first_line.ensures.ok (first_of setting) refl)

pub returns-clause-err : goal.returns-clause-err
returns-clause-err g c =
    let setting = c.args.setting.now in
    let list = setting.common.list.now in
    let told = map (told_second setting)
    (seconds_of list setting.common.script.now setting.common.within (first_of setting)) in
    let o = g.K.Sink.output c.args.out.now in
    let p = g.K.Sink.output c.put_pairs_of.new.out in
    let q = g.K.Sink.output c.put_first_line.new.out in
    let u = c.put_pairs_of.new.tally in
    let put = c.in_default.ensures.ok in
    let line = λ (counts : PairCounts). first_fault_line list (first_of setting) (summary list setting.more.now) counts in
    let counted = put.counts [] c.begin.ensures.counts in
    err-weaker (λ (why : CampaignFault). LeftFewerBy why p q (line u.counts ∷ []))
    (λ (why : CampaignFault). LeftBy why o q _)
    c.put_first_line.result
    (λ why few. subst (λ (lines : Lines). LeftBy why o q lines)
    (ap (λ (counts : PairCounts). lines_of_told told ++ line counts ∷ []) counted
    ∙ lines-first setting c.requires.may.first c.requires.may.more)
    (leaves-after why o p q (lines_of_told told) (line u.counts ∷ []) put.wrote
    (left-fewer why p q (line u.counts ∷ []) few)))
    (c.put_first_line.ensures.err (first_of setting) refl)

pub returns-clause-few : goal.returns-clause-few
returns-clause-few g c = λ most has.
    let setting = c.args.setting.now in
    let distances = distances_of setting.common in
    let told = pairs_of setting in
    let u = c.put_pairs_of.new.tally in
    let few = pairs-few setting c.requires.may c.requires.behind in
    ok-always _ c.put_first_line.result
    (sums-weaker distances (most + length told) (most + most_of_first) u.sums
    (c.in_default.ensures.ok.sums.few distances most
    (subst (λ (s : Sums). HasFewSums distances most s) (sym c.begin.ensures.sums) has)) (omega (arith, few)))
