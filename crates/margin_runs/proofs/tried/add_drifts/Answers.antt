use Rattle.std.proofs.Common.{◌≡◌, ℕ, ◌+◌, pos, [], ◌∷◌, ◌++◌, get_or, take, Option, length, ap, sym, subst, ◌∙◌, arith}
use Rattle.std.proofs.lemmas.List.{take_more}
use Rattle.ttp_world.specs.declared.script.Script.{Script}
use Rattle.ttp_world.specs.Events.{IsWithinSpan}
use Rattle.clock_margins.specs.Outcomes.{told_by_script, told_of_value}
use Rattle.clock_margins.specs.Sweeps.{with_drift, with_clock_value}
use Rattle.margin_runs.specs.Tries.{are_told, clock_limit}
use Rattle.margin_runs.proofs.ToldParts.{told-more}
use Rattle.margin_runs.proofs.tried.add_drifts.Goals as goal

pub with_drift-more-requires : goal.with_drift-more-requires
with_drift-more-requires c =
    let may = c.requires.may in
    let valid = may.script in
    let copy : length c.in_ok-copy.copy.drift ≡ length c.args.common.now.script.now.drift =
    ap (λ (s : Script). length s.drift) c.in_ok-copy.ensures in
    omega (arith, copy, valid.drift_count, may.node)

pub loop-value-init : goal.loop-value-init
loop-value-init c = (
  ap are_told c.requires.none,
  c.requires.own,
  c.requires.node,
  (
    pos 0,
    c.with_drift-more.ensures
        ∙ ap (λ (s : Script). with_drift s c.args.sweep.node (pos 0)) c.in_ok-copy.ensures,
  ),
)

pub try_drift-requires-clause-value : goal.try_drift-requires-clause-value
try_drift-requires-clause-value c =
    let value = get_or c.args.values.now c.loop-value.value-index (pos 0) in
    subst (λ (o : Option ℕ). IsWithinSpan (clock_limit o) value) c.requires.drift
    (c.requires.values c.loop-value.value-index (pos 0) c.loop-value-test.true)

pub loop-value-preserved : goal.loop-value-preserved
loop-value-preserved c =
    let list = c.args.common.now.list.now in
    let script = c.args.common.now.script.now in
    let sweep = c.args.sweep in
    let values = c.args.values.now in
    let i = c.loop-value.value-index in
    let value = get_or values i (pos 0) in
    let more : take i values ++ value ∷ [] ≡ take (i + 1) values =
    sym (take_more values i (pos 0) c.loop-value-test.true) in
    let drift : told_by_script list (with_drift script sweep.node value) sweep.node value
    ≡ told_of_value list script sweep value =
    sym (ap (λ (o : Option ℕ). told_by_script list (with_clock_value script sweep.node o value) sweep.node value)
    c.requires.drift) in (
      told-more list script sweep values i value c.loop-value.all.items c.push.new.self.items c.in_ok-both.both.0 more
          c.in_ok-push.ensures.items c.loop-value.invariant.0 (c.in_ok-both.ensures.told ∙ drift),
      c.in_ok-both.ensures.run,
      c.in_ok-both.ensures.node ∙ c.loop-value.invariant.2,
      (value, c.in_ok-both.ensures.more),
    )
