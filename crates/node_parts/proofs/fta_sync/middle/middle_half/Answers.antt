use Rattle.std.proofs.Common.{◌≡◌, sym, pos, w64, FitsSigned, rules}
use Rattle.std.specs.Prelude.{int_div}
use Rattle.std.specs.Int.{int_min, int_max}
use Rattle.std.proofs.lemmas.Int.{to_z-of_z, quot_fits}
use Rattle.node_parts.proofs.MiddleTwo.{paired_sum, middle_half-paired}
use Rattle.node_parts.proofs.Halves.{deviations_fit, deviations_half}
use Rattle.node_parts.proofs.fta_sync.middle.middle_half.Goals as goal

low_is : (c : goal.After-min-high) → c.max-low.result ≡ int_max (int_min c.args.a c.args.b) (int_min c.args.c c.args.d)
low_is c =
    let first : FitsSigned w64 c.min.result = search rules in
    let second : FitsSigned w64 c.min-2.result = search rules in
    rw (
      to_z-of_z w64 c.min.result first,
      to_z-of_z w64 c.min-2.result second,
      c.min.ensures.value,
      c.min-2.ensures.value,
      to_z-of_z w64 c.args.a c.ranges.a,
      to_z-of_z w64 c.args.b c.ranges.b,
      to_z-of_z w64 c.args.c
          c.ranges.c,
      to_z-of_z w64 c.args.d c.ranges.d,
    )
    at c.max-low.ensures.value

high_is : (c : goal.After-min-high)
    → c.min-high.result ≡ int_min (int_max c.args.a c.args.b) (int_max c.args.c c.args.d)
high_is c =
    let first : FitsSigned w64 c.max.result = search rules in
    let second : FitsSigned w64 c.max-2.result = search rules in
    rw (
      to_z-of_z w64 c.max.result first,
      to_z-of_z w64 c.max-2.result second,
      c.max.ensures.value,
      c.max-2.ensures.value,
      to_z-of_z w64 c.args.a c.ranges.a,
      to_z-of_z w64 c.args.b c.ranges.b,
      to_z-of_z w64 c.args.c
          c.ranges.c,
      to_z-of_z w64 c.args.d c.ranges.d,
    )
    at c.min-high.ensures.value

pub overflow_add-result : goal.overflow_add-result
overflow_add-result c =
    let low : FitsSigned w64 c.max-low.result = search rules in
    let high : FitsSigned w64 c.min-high.result = search rules in
    rw (to_z-of_z w64 c.max-low.result low, to_z-of_z w64 c.min-high.result high, low_is c, high_is c)
    (deviations_fit c.args.a c.args.b c.args.c c.args.d c.requires.a c.requires.b c.requires.c)

pub returns-clause-value : goal.returns-clause-value
returns-clause-value c =
    let low : FitsSigned w64 c.max-low.result = search rules in
    let high : FitsSigned w64 c.min-high.result = search rules in
    let sum = paired_sum c.args.a c.args.b (int_min c.args.c c.args.d) (int_max c.args.c c.args.d) in
    let fits : FitsSigned w64 sum =
    deviations_fit c.args.a c.args.b c.args.c c.args.d c.requires.a c.requires.b c.requires.c in
    rw (
      to_z-of_z w64 c.max-low.result low,
      to_z-of_z w64 c.min-high.result high,
      low_is c,
      high_is c,
      to_z-of_z w64 sum
          fits,
      to_z-of_z w64 (int_div sum (pos 2)) (quot_fits w64 sum (pos 2) fits (record { lt = tt })),
    )
    (sym (middle_half-paired c.args.a c.args.b c.args.c c.args.d))

pub returns-clause-within : goal.returns-clause-within
returns-clause-within c =
    let low : FitsSigned w64 c.max-low.result = search rules in
    let high : FitsSigned w64 c.min-high.result = search rules in
    let sum = paired_sum c.args.a c.args.b (int_min c.args.c c.args.d) (int_max c.args.c c.args.d) in
    let fits : FitsSigned w64 sum =
    deviations_fit c.args.a c.args.b c.args.c c.args.d c.requires.a c.requires.b c.requires.c in
    rw (
      to_z-of_z w64 c.max-low.result low,
      to_z-of_z w64 c.min-high.result high,
      low_is c,
      high_is c,
      to_z-of_z w64 sum
          fits,
      to_z-of_z w64 (int_div sum (pos 2)) (quot_fits w64 sum (pos 2) fits (record { lt = tt })),
    )
    (deviations_half c.args.a c.args.b c.args.c c.args.d c.requires.a c.requires.b c.requires.c)
