use Rattle.std.proofs.Common.{◌≡◌, ℕ, ◌+◌, pos, [], ◌∷◌, ◌++◌, get_or, take, Option, ap, sym, subst, ◌∙◌}
use Rattle.std.proofs.lemmas.List.{take_more}
use Rattle.ttp_world.specs.Events.{IsWithinSpan}
use Rattle.margin_runs.specs.Tries.{are_told, clock_limit}
use Rattle.margin_runs.proofs.ToldParts.{told-more}
use Rattle.margin_runs.proofs.tried.add_jumps.Goals as goal

pub loop-value-init : goal.loop-value-init
loop-value-init c = (ap are_told c.requires.none, c.requires.own, c.requires.node)

pub try_jump-requires-clause-value : goal.try_jump-requires-clause-value
try_jump-requires-clause-value c =
    let value = get_or c.args.values.now c.loop-value.value-index (pos 0) in
    subst (λ (o : Option ℕ). IsWithinSpan (clock_limit o) value) c.requires.slot
    (c.requires.values c.loop-value.value-index (pos 0) c.loop-value-test.true)

pub loop-value-preserved : goal.loop-value-preserved
loop-value-preserved c =
    let values = c.args.values.now in
    let i = c.loop-value.value-index in
    let value = get_or values i (pos 0) in
    let more : take i values ++ value ∷ [] ≡ take (i + 1) values =
    sym (take_more values i (pos 0) c.loop-value-test.true) in (
      told-more c.args.common.now.list.now c.args.common.now.script.now c.args.sweep values i value
          c.loop-value.all.items c.push.new.self.items c.in_ok-try_jump.field-0 more c.in_ok-push.ensures.items
          c.loop-value.invariant.0 c.in_ok-try_jump.ensures.told,
      c.in_ok-try_jump.ensures.run,
      c.in_ok-try_jump.ensures.node ∙ c.loop-value.invariant.2,
    )
