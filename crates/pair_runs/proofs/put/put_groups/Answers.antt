use Rattle.std.proofs.Common.{◌≡◌, ◌+◌, ◌*◌, ℕ, List, ◌∷◌, [], length, take, take_all, drop, ◌-◌, sym, subst, arith}
use Rattle.std.specs.Prelude.{All}
use Rattle.std.proofs.lemmas.List.Elements.{All-weaker, All-drop}
use Rattle.std.proofs.lemmas.List.{length-drop}
use Rattle.ttp_base.specs.Outside.{WroteLines}
use Rattle.ttp_base.specs.Text.{Lines}
use Rattle.ttp_world.specs.declared.script.Event.{Event}
use Rattle.single_faults.specs.Tried.{MayStand}
use Rattle.fault_runs.specs.Ends.{LeftBy}
use Rattle.fault_pairs.specs.Pairs.{FirstFault, firsts_among}
use Rattle.fault_pairs.specs.PairText.{pair_tolds, first_fault_lines}
use Rattle.fault_pairs.specs.Sums.{PairTold}
use Rattle.pair_runs.specs.Counted.{most_of_first, most_of_slot, distances_of, AddsTo, PutFirsts}
use Rattle.pair_runs.specs.Tries.{MayBegin}
use Rattle.pair_runs.specs.Written.{first_with, tolds_of_firsts, text_of_firsts}
use Rattle.pair_runs.proofs.Counted.{sums-weaker, firsts-none, firsts-join, left-in}
use Rattle.pair_runs.proofs.Groups.{among-all, texts-split, texts-next}
use Rattle.pair_runs.proofs.put.put_groups.Goals as goal

-- what stands behind a place is all that is left
whole-rest : (faults : List Event) (i : ℕ) → take (length faults - (i + 1)) (drop (i + 1) faults) ≡ drop (i + 1) faults
whole-rest faults i =
    take_all (length faults - (i + 1)) (drop (i + 1) faults) (omega (arith, length-drop (i + 1) faults))

pub loop-i-init : goal.loop-i-init
loop-i-init g c = record {
  work = c.requires.work;
  few = λ most has. sums-weaker (distances_of c.args.common.now) most (most + most_of_first * 0)
      c.args.tally.now.sums has (omega arith);
  put = firsts-none (g.K.Sink.output c.args.out.now) c.args.tally.now;
}

pub put_group-requires-clause-one : goal.put_group-requires-clause-one
put_group-requires-clause-one g c κs within =
    let one = c.index-faults-i.result in
    subst (λ (e : Event). MayBegin c.args.common.now.list.now c.args.common.now.script.now c.args.slot e)
    (sym c.index-faults-i.is)
    (c.requires.faults c.loop-i.i one c.loop-i-test.true)

pub put_group-requires-clause-behind : goal.put_group-requires-clause-behind
put_group-requires-clause-behind g c κs within =
    let list = c.args.common.now.list.now in
    let script = c.args.common.now.script.now in
    let stand = All-weaker (MayBegin list script c.args.slot) (MayStand list script)
    (λ e is. is.may) c.args.faults.now c.requires.faults in
    subst (All (MayStand list script)) (sym (whole-rest c.args.faults.now c.loop-i.i))
    (All-drop (MayStand list script) (c.loop-i.i + 1) c.args.faults.now stand)

pub put_group-requires-clause-count : goal.put_group-requires-clause-count
put_group-requires-clause-count g c κs within =
    omega (arith, length-drop (c.loop-i.i + 1) c.args.faults.now, c.requires.count)

pub put_group-requires-clause-few : goal.put_group-requires-clause-few
put_group-requires-clause-few g c κs within =
    let most = c.requires.few.0 in (
      most + most_of_first * c.loop-i.i,
      c.loop-i.invariant.few most c.requires.few.1,
      omega (arith, c.requires.few.2, c.requires.count, c.loop-i-test.true),
    )

pub loop-i-preserved : goal.loop-i-preserved
loop-i-preserved g c =
    let common = c.args.common.now in
    let faults = c.args.faults.now in
    let slot = c.args.slot in
    let i = c.loop-i.i in
    let one = c.index-faults-i.result in
    let behind = drop (i + 1) faults in
    let o = g.K.Sink.output c.args.out.now in
    let p = g.K.Sink.output c.loop-i.out in
    let q = g.K.Sink.output c.put_group.new.out in
    let t = c.args.tally.now in
    let v = c.put_group.new.tally in
    let told = pair_tolds common.list.now common.script.now common.within common.own in
    let lines = first_fault_lines common.list.now common.script.now common.within common.own in
    let put = subst (λ (e : Event).
    PutFirsts p q c.loop-i.tally v (tolds_of_firsts common (first_with slot e behind ∷ []))
    (text_of_firsts common (first_with slot e behind ∷ []))) c.index-faults-i.is
    (subst (λ (es : List Event). PutFirsts p q c.loop-i.tally v (tolds_of_firsts common (first_with slot one es ∷ []))
    (text_of_firsts common (first_with slot one es ∷ []))) (whole-rest faults i) c.in_default.ensures.ok) in
    record {
      work = c.in_default.ensures.work;
      few = λ most has.
          sums-weaker (distances_of common)
          (most + most_of_first * i + most_of_first) (most + most_of_first * (i + 1)) v.sums
          (c.in_default.ensures.few (most + most_of_first * i) (c.loop-i.invariant.few most has)) (omega arith);
      put =
          let joined = firsts-join o p q t c.loop-i.tally v _ _ _ _ c.loop-i.invariant.put put in
          record {
            wrote = subst (λ (ls : Lines). WroteLines o q ls)
                (texts-next lines slot faults i one c.loop-i-test.true) joined.wrote;
            sums = subst (λ (ps : List PairTold). AddsTo t.sums v.sums ps)
                (texts-next told slot faults i one c.loop-i-test.true) joined.sums;
          };
    }

pub returns-in-Err-clause-err : goal.returns-in-Err-clause-err
returns-in-Err-clause-err g c =
    let common = c.args.common.now in
    let faults = c.args.faults.now in
    let slot = c.args.slot in
    let i = c.loop-i.i in
    let one = c.index-faults-i.result in
    let behind = drop (i + 1) faults in
    let o = g.K.Sink.output c.args.out.now in
    let p = g.K.Sink.output c.loop-i.out in
    let q = g.K.Sink.output c.put_group.new.out in
    let lines = first_fault_lines common.list.now common.script.now common.within common.own in
    let left = subst (λ (e : Event).
    LeftBy c.in-Err.why p q (text_of_firsts common (first_with slot e behind ∷ []))) c.index-faults-i.is
    (subst (λ (es : List Event).
    LeftBy c.in-Err.why p q (text_of_firsts common (first_with slot one es ∷ []))) (whole-rest faults i)
    c.in-Err.ensures.err) in
    left-in c.in-Err.why o p q _ _ _ (text_of_firsts common (firsts_among slot faults))
    (texts-split lines slot faults i one c.loop-i-test.true) c.loop-i.invariant.put.wrote left

pub returns-clause-ok : goal.returns-clause-ok
returns-clause-ok g c =
    let common = c.args.common.now in
    subst (λ (firsts : List FirstFault).
    PutFirsts (g.K.Sink.output c.args.out.now) (g.K.Sink.output c.loop-i.out) c.args.tally.now
    c.loop-i.tally (tolds_of_firsts common firsts) (text_of_firsts common firsts))
    (among-all c.args.slot c.args.faults.now c.loop-i.i (omega (arith, c.loop-i-test.false))) c.loop-i.invariant.put

pub returns-clause-few : goal.returns-clause-few
returns-clause-few g c = λ most has.
    sums-weaker (distances_of c.args.common.now) (most + most_of_first * c.loop-i.i)
    (most + most_of_slot) c.loop-i.tally.sums
    (c.loop-i.invariant.few most has) (omega (arith, c.requires.count, c.loop-i.auto.i-end))
