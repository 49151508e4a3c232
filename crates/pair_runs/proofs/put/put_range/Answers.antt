use Rattle.std.proofs.Common.{◌≡◌, ◌≤◌, ◌+◌, ◌-◌, ◌*◌, ℕ, suc, List, ◌++◌, ap, sym, subst, ◌∙◌, arith}
use Rattle.std.specs.Prelude.{flat_map}
use Rattle.std.specs.List.{range_with_len}
use Rattle.std.proofs.lemmas.List.Concat.{flat_map-append}
use Rattle.ttp_base.specs.Outside.{WroteLines}
use Rattle.ttp_base.specs.Text.{Lines}
use Rattle.fault_pairs.specs.PairText.{pair_tolds, first_fault_lines}
use Rattle.fault_pairs.specs.Sums.{PairTold}
use Rattle.pair_runs.specs.Counted.{most_of_slot, distances_of, AddsTo, PutFirsts}
use Rattle.pair_runs.specs.Written.{firsts_of, firsts_between, tolds_of_firsts, text_of_firsts}
use Rattle.pair_runs.proofs.Counted.{sums-weaker, firsts-none, firsts-join, left-in}
use Rattle.pair_runs.proofs.Ranges.{range-next, range-rest}
use Rattle.pair_runs.proofs.put.put_range.Goals as goal

pub loop-slot-init : goal.loop-slot-init
loop-slot-init g c =
    let common = c.args.common.now in
    let none : 0 ≡ c.args.from - c.args.from = omega arith in
    let o = g.K.Sink.output c.args.out.now in
    record {
      own = c.requires.own;
      ahead = c.requires.ahead;
      work = c.requires.work;
      few = sums-weaker (distances_of common) 0 (most_of_slot * c.args.from)
          c.args.tally.now.sums c.requires.few (omega arith);
      put = subst (λ (n : ℕ). PutFirsts o o c.args.tally.now c.args.tally.now
          (tolds_of_firsts common (firsts_between common c.args.from n))
          (text_of_firsts common (firsts_between common c.args.from n))) none (firsts-none o c.args.tally.now);
    }

pub put_slot-requires-clause-slot : goal.put_slot-requires-clause-slot
put_slot-requires-clause-slot g c κs within = omega (arith, c.loop-slot-test.true, c.requires.end)

pub put_slot-requires-clause-few : goal.put_slot-requires-clause-few
put_slot-requires-clause-few g c κs within = (
  most_of_slot * c.loop-slot.slot,
  c.loop-slot.invariant.few,
  omega (arith, c.loop-slot-test.true, c.requires.end, c.requires.may.script.slots.1),
)

pub loop-slot-preserved : goal.loop-slot-preserved
loop-slot-preserved g c =
    let common = c.args.common.now in
    let from = c.args.from in
    let slot = c.loop-slot.slot in
    let count = slot - from in
    let behind : from ≤ slot = omega (arith, c.loop-slot.auto.slot) in
    let here : from + count ≡ slot = omega (arith, behind) in
    let next : count + 1 ≡ slot + 1 - from = omega (arith, behind) in
    let o = g.K.Sink.output c.args.out.now in
    let p = g.K.Sink.output c.loop-slot.out in
    let q = g.K.Sink.output c.put_slot.new.out in
    let t = c.args.tally.now in
    let v = c.put_slot.new.tally in
    let told = pair_tolds common.list.now common.script.now common.within common.own in
    let lines = first_fault_lines common.list.now common.script.now common.within common.own in
    let more : firsts_between common from count ++ firsts_of common slot
    ≡ firsts_between common from (slot + 1 - from) =
    sym (range-next (firsts_of common) from count slot here) ∙ ap (firsts_between common from) next in
    let joined = firsts-join o p q t c.loop-slot.tally v _ _ _ _ c.loop-slot.invariant.put c.in_default.ensures.ok in
    record {
      own = c.in_default.ensures.own;
      ahead = c.in_default.ensures.ahead;
      work = c.in_default.ensures.work;
      few = sums-weaker (distances_of common) (most_of_slot * slot + most_of_slot) (most_of_slot * (slot + 1)) v.sums
          (c.in_default.ensures.few (most_of_slot * slot) c.loop-slot.invariant.few) (omega arith);
      put = record {
        wrote = subst (λ (ls : Lines). WroteLines o q ls)
            (sym (flat_map-append lines (firsts_between common from count) (firsts_of common slot))
            ∙ ap (flat_map lines) more)
            joined.wrote;
        sums = subst (λ (ps : List PairTold). AddsTo t.sums v.sums ps)
            (sym (flat_map-append told (firsts_between common from count) (firsts_of common slot))
            ∙ ap (flat_map told) more)
            joined.sums;
      };
    }

pub returns-in-Err-clause-err : goal.returns-in-Err-clause-err
returns-in-Err-clause-err g c =
    let common = c.args.common.now in
    let from = c.args.from in
    let slot = c.loop-slot.slot in
    let end = c.args.end in
    let count = slot - from in
    let behind : from ≤ slot = omega (arith, c.loop-slot.auto.slot) in
    let here : from + count ≡ slot = omega (arith, behind) in
    let left : count + suc (end - (slot + 1)) ≡ end - from = omega (arith, behind, c.loop-slot-test.true) in
    let o = g.K.Sink.output c.args.out.now in
    let p = g.K.Sink.output c.loop-slot.out in
    let q = g.K.Sink.output c.put_slot.new.out in
    let lines = first_fault_lines common.list.now common.script.now common.within common.own in
    let rest = flat_map (firsts_of common) (range_with_len (slot + 1) (end - (slot + 1))) in
    let whole : firsts_between common from count ++ (firsts_of common slot ++ rest)
    ≡ firsts_between common from (end - from) =
    range-rest (firsts_of common) from count (end - from) slot (end - (slot + 1)) here left in
    left-in c.in-Err.why o p q (text_of_firsts common (firsts_between common from count))
    (text_of_firsts common (firsts_of common slot))
    (text_of_firsts common rest) (text_of_firsts common (firsts_between common from (end - from)))
    (ap (λ ls. text_of_firsts common (firsts_between common from count) ++ ls)
    (sym (flat_map-append lines (firsts_of common slot) rest))
    ∙ sym (flat_map-append lines (firsts_between common from count) (firsts_of common slot ++ rest))
    ∙ ap (flat_map lines) whole)
    c.loop-slot.invariant.put.wrote c.in-Err.ensures.err

pub returns-clause-ok : goal.returns-clause-ok
returns-clause-ok g c =
    let common = c.args.common.now in
    let from = c.args.from in
    let end : c.loop-slot.slot ≡ c.args.end =
    omega (arith, c.loop-slot.auto.slot-end, c.loop-slot-test.false, c.requires.from) in
    subst (λ (n : ℕ). PutFirsts (g.K.Sink.output c.args.out.now)
    (g.K.Sink.output c.loop-slot.out) c.args.tally.now c.loop-slot.tally
    (tolds_of_firsts common (firsts_between common from (n - from)))
    (text_of_firsts common (firsts_between common from (n - from))))
    end c.loop-slot.invariant.put
