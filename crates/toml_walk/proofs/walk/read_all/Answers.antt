use Rattle.std.proofs.Common.{◌≡◌, suc, ◌-◌, length, refl, ◌∙◌, rules, arith}
use Rattle.toml_walk.specs.Walk.{read_all, at_start}
use Rattle.toml_walk.proofs.Steps.{walks_err}
use Rattle.toml_walk.proofs.walk.read_all.Goals as goal

pub lines-init : goal.lines-init
lines-init c = (
  search rules,
  c.skip_bom-rest.ensures.within,
  suc (length c.args.text.now),
  omega (arith, c.skip_bom-rest.ensures.within),
  at_start,
  record { noted = c.in_ok-new.ensures; table = refl; within = omega arith },
  rw c.skip_bom-rest.ensures.rest,
)

pub returns-in-Ends : goal.returns-in-Ends
unfolding read_all
returns-in-Ends c =
    let l = c.lines in
    let m = l.invariant.2 in
    let room = l.invariant.3 in
    let up : suc (m - 1) ≡ m = omega (arith, room) in
    l.invariant.6 ∙ (rw (up, c.in-Ends.is) at (c.in_ok-turn.ensures.value (m - 1) l.invariant.4 l.invariant.5))

pub returns-in_err-turn : goal.returns-in_err-turn
unfolding read_all
returns-in_err-turn c =
    let l = c.lines in
    let m = l.invariant.2 in
    let room = l.invariant.3 in
    let up : suc (m - 1) ≡ m = omega (arith, room) in
    walks_err _ c.from_residual-in_err-turn.result _ c.in_err-turn.field-0.0 _
    c.from_residual-in_err-turn.ensures.1 (λ y p. p)
    (λ x stops. l.invariant.6 ∙ (rw up at (c.in_err-turn.ensures.value (m - 1) l.invariant.4 l.invariant.5)) x stops)

pub lines-preserved : goal.lines-preserved
lines-preserved c =
    let l = c.lines in
    let m = l.invariant.2 in
    let room = l.invariant.3 in
    let up : suc (m - 1) ≡ m = omega (arith, room) in
    let shorter = rw c.in-Goes.is at c.in_ok-turn.ensures.shorter in
    let (more, on, after) = rw (up, c.in-Goes.is) at (c.in_ok-turn.ensures.value (m - 1) l.invariant.4 l.invariant.5) in (
      search rules,
      omega (arith, l.invariant.1, shorter),
      m
          - 1,
      omega (arith, shorter, room),
      more,
      after,
      l.invariant.6 ∙ on,
    )
