use Rattle.std.proofs.Common.{◌≡◌, suc, ◌-◌, length, ◌∙◌, rules, arith}
use Rattle.list_places.specs.Marks.{nothing_marked, marks_of}
use Rattle.list_places.proofs.marks.marks_of.Goals as goal

pub lines-init : goal.lines-init
lines-init c = (
  search rules,
  c.skip_bom-rest.ensures.within,
  suc (length c.args.text.now),
  omega (arith, c.skip_bom-rest.ensures.within),
  nothing_marked,
  c.new-marks.ensures,
  rw c.skip_bom-rest.ensures.rest,
)

pub lines-preserved : goal.lines-preserved
lines-preserved c =
    let l = c.lines in
    let m = l.invariant.2 in
    let room = l.invariant.3 in
    let up : suc (m - 1) ≡ m = omega (arith, room) in
    let shorter = rw c.in-Some.is at c.in_ok-turn.ensures.shorter in
    let (more, now, on) = rw (up, c.in-Some.is) at (c.in_ok-turn.ensures.value (m - 1) l.invariant.4 l.invariant.5) in (
      search rules,
      omega (arith, l.invariant.1, shorter),
      m
          - 1,
      omega (arith, shorter, room),
      more,
      now,
      l.invariant.6 ∙ on,
    )

pub returns-in-None : goal.returns-in-None
unfolding marks_of
returns-in-None c =
    let l = c.lines in
    let m = l.invariant.2 in
    let room = l.invariant.3 in
    let up : suc (m - 1) ≡ m = omega (arith, room) in
    let (more, now, on) = rw (up, c.in-None.is) at (c.in_ok-turn.ensures.value (m - 1) l.invariant.4 l.invariant.5) in
    rw (l.invariant.6 ∙ on) now
