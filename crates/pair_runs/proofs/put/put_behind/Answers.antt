use Rattle.std.proofs.Common.{◌≡◌, ◌≤◌, ◌+◌, ◌-◌, ℕ, suc, List, ◌++◌, length, ap, sym, subst, ◌∙◌, arith}
use Rattle.std.specs.Prelude.{flat_map, min}
use Rattle.std.specs.List.{range_with_len}
use Rattle.ttp_world.specs.declared.script.Script.{Script}
use Rattle.fault_pairs.specs.PairText.{lines_of_told}
use Rattle.fault_pairs.specs.Sums.{PairTold}
use Rattle.pair_runs.specs.declared.tried.FirstSetting.{FirstSetting}
use Rattle.pair_runs.specs.Counted.{distances_of, PutPairs}
use Rattle.pair_runs.specs.Written.{tolds_behind}
use Rattle.pair_runs.proofs.Counted.{few-after, pairs-none, pairs-join, left-in, lines-append}
use Rattle.pair_runs.proofs.Groups.{tolds_later, later-few, behind-range}
use Rattle.pair_runs.proofs.Owns.{own-of}
use Rattle.pair_runs.proofs.Ranges.{range-next, range-rest}
use Rattle.pair_runs.proofs.put.put_behind.Goals as goal

abbrev so_far : FirstSetting → ℕ → List PairTold
so_far setting count = flat_map (tolds_later setting) (range_with_len (setting.slot + 1) count)

pub loop-later-init : goal.loop-later-init
loop-later-init g c =
    let setting = c.args.setting.now in
    let none : 0 ≡ setting.slot + 1 - (setting.slot + 1) = omega arith in
    record {
      past = c.requires.past;
      put = subst (λ (n : ℕ). PutPairs (g.K.Sink.output c.args.out.now)
          (g.K.Sink.output c.args.out.now) c.args.tally.now
          c.args.tally.now (so_far setting n)) none (pairs-none (g.K.Sink.output c.args.out.now) c.args.tally.now);
    }

pub put_later-requires-clause-few : goal.put_later-requires-clause-few
put_later-requires-clause-few g c κs within =
    let setting = c.args.setting.now in
    let most = c.requires.few.0 in
    let done = length (so_far setting (c.loop-later.later - (setting.slot + 1))) in
    let slots = c.requires.may.may.script.slots in
    let end = c.end_behind-later-end.ensures in (
      most + done,
      few-after (distances_of setting.common) most (g.K.Sink.output c.args.out.now)
          (g.K.Sink.output c.loop-later.out) c.args.tally.now
          c.loop-later.tally _ c.loop-later.invariant.put c.requires.few.1,
      omega (
        arith,
        c.requires.few.2,
        later-few setting c.requires.may.may.valid (setting.slot + 1) (c.loop-later.later - (setting.slot + 1)),
        slots.1,
        end,
        c.loop-later-test.true,
      ),
    )

pub put_later-requires-clause-later : goal.put_later-requires-clause-later
put_later-requires-clause-later g c κs within = omega (arith, c.end_behind-later-end.ensures, c.loop-later-test.true)

pub put_later-requires-clause-near : goal.put_later-requires-clause-near
put_later-requires-clause-near g c κs within =
    omega (arith, c.end_behind-later-end.ensures, c.loop-later-test.true, c.requires.may.slot, c.loop-later.auto.later)

pub loop-later-preserved : goal.loop-later-preserved
loop-later-preserved g c =
    let setting = c.args.setting.now in
    let later = c.loop-later.later in
    let count = later - (setting.slot + 1) in
    let now = tolds_later setting later in
    let from : setting.slot + 1 ≤ later = c.loop-later.auto.later in
    let next : count + 1 ≡ later + 1 - (setting.slot + 1) = omega (arith, from) in
    let here : setting.slot + 1 + count ≡ later = omega (arith, from) in
    let more : so_far setting count ++ now ≡ so_far setting (later + 1 - (setting.slot + 1)) =
    sym (range-next (tolds_later setting) (setting.slot + 1) count later here) ∙ ap (so_far setting) next in
    record {
      past = c.in_default.ensures.past;
      put = subst (λ (ps : List PairTold).
          PutPairs (g.K.Sink.output c.args.out.now) (g.K.Sink.output c.put_later.new.out)
          c.args.tally.now c.put_later.new.tally ps) more
          (pairs-join (g.K.Sink.output c.args.out.now)
          (g.K.Sink.output c.loop-later.out) (g.K.Sink.output c.put_later.new.out)
          c.args.tally.now c.loop-later.tally c.put_later.new.tally (so_far setting count) now c.loop-later.invariant.put
          c.in_default.ensures.ok);
    }

all-of : (setting : FirstSetting) (end : ℕ) → setting.more.now.slots ≡ setting.common.script.now.slots
    → end ≡ min (suc (setting.slot + setting.common.within)) setting.common.script.now.slots
    → so_far setting (end - (setting.slot + 1)) ≡ tolds_behind setting
all-of setting end slots is =
    behind-range setting end (is ∙ ap (λ (n : ℕ). min (suc (setting.slot + setting.common.within)) n) (sym slots))

pub returns-in-Err-clause-err : goal.returns-in-Err-clause-err
returns-in-Err-clause-err g c =
    let setting = c.args.setting.now in
    let later = c.loop-later.later in
    let count = later - (setting.slot + 1) in
    let end = c.end_behind-later-end.result in
    let now = tolds_later setting later in
    let from : setting.slot + 1 ≤ later = c.loop-later.auto.later in
    let here : setting.slot + 1 + count ≡ later = omega (arith, from) in
    let left : count + suc (end - (later + 1)) ≡ end - (setting.slot + 1) =
    omega (arith, from, c.loop-later-test.true) in
    let rest = flat_map (tolds_later setting) (range_with_len (later + 1) (end - (later + 1))) in
    let whole : so_far setting count ++ (now ++ rest) ≡ tolds_behind setting =
    range-rest (tolds_later setting) (setting.slot + 1) count
    (end - (setting.slot + 1)) later (end - (later + 1)) here left
    ∙ all-of setting end (ap (λ (s : Script). s.slots) c.requires.may.more) c.end_behind-later-end.ensures in
    left-in c.in-Err.why (g.K.Sink.output c.args.out.now)
    (g.K.Sink.output c.loop-later.out) (g.K.Sink.output c.put_later.new.out)
    (lines_of_told (so_far setting count)) (lines_of_told now) (lines_of_told rest) (lines_of_told (tolds_behind setting))
    (ap (λ ls. lines_of_told (so_far setting count) ++ ls) (sym (lines-append now rest))
    ∙ sym (lines-append (so_far setting count) (now ++ rest)) ∙ ap lines_of_told whole)
    c.loop-later.invariant.put.wrote c.in-Err.ensures.err

pub returns-clause-past : goal.returns-clause-past
returns-clause-past g c =
    own-of c.loop-later.past c.args.setting.now.common.list.now c.args.setting.now.more.now
    c.loop-later.later c.loop-later.invariant.past

pub returns-clause-ok : goal.returns-clause-ok
returns-clause-ok g c =
    let setting = c.args.setting.now in
    let end : c.loop-later.later ≡ c.end_behind-later-end.result =
    omega (
      arith,
      c.loop-later.auto.later,
      c.loop-later.auto.later-end,
      c.loop-later-test.false,
      c.end_behind-later-end.ensures,
      c.requires.may.slot,
    ) in
    subst (λ (ps : List PairTold).
    PutPairs (g.K.Sink.output c.args.out.now) (g.K.Sink.output c.loop-later.out) c.args.tally.now
    c.loop-later.tally ps)
    (ap (λ (n : ℕ). so_far setting (n - (setting.slot + 1))) end
    ∙ all-of setting c.end_behind-later-end.result
    (ap (λ (s : Script). s.slots) c.requires.may.more) c.end_behind-later-end.ensures)
    c.loop-later.invariant.put
