use Rattle.std.proofs.Common.{◌≡◌, ℤ, pos, ◌+ℤ◌, [], ◌∷◌, ◌++◌, to_z, of_z, w64, sym, ◌∙◌, arith}
use Rattle.std.specs.Prelude.{neg_ℤ}
use Rattle.std.proofs.lemmas.Int.{ints}
use Rattle.ttp_world.specs.Events.{IsWithinSpan}
use Rattle.margin_runs.proofs.FromBelow.{values-parts}
use Rattle.margin_runs.proofs.Within.{same-within}
use Rattle.margin_runs.proofs.put.some_values.Goals as goal

pub loop-place-preserved : goal.loop-place-preserved
loop-place-preserved c =
    let place = c.loop-place.place in
    let first : ℤ = neg_ℤ (pos c.args.reach) +ℤ pos c.args.done in
    let value = c.value_at.result in
    let is : value ≡ first +ℤ pos place = omega (arith, ints, c.value_at.ensures) in
    let within : IsWithinSpan 1000000 value = (
      omega (arith, ints, is, c.requires.reach),
      omega (arith, ints, is, c.requires.reach, c.requires.count, c.loop-place-test.true),
    ) in
    let same : to_z w64 (of_z w64 value) ≡ value = same-within 1000000 value (omega arith) within in
    c.in_ok-push.ensures.items
    ∙ (λ i. c.loop-place.invariant i ++ (same ∙ is) i ∷ [])
    ∙ sym (values-parts first place 1)
