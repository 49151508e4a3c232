use Rattle.std.proofs.Common.{◌≡◌, suc, ◌-◌, ◌++◌, ap, ◌∙◌, append_assoc, append-nil, rules, arith}
use Rattle.list_places.specs.Marks.{element_places}
use Rattle.list_places.proofs.marks.note_elements.Goals as goal

pub items-preserved : goal.items-preserved
items-preserved c =
    let l = c.items in
    let shorter = rw c.in-Some.is at c.in_ok-turn.ensures.shorter in (
      search rules,
      omega (arith, l.invariant.1, shorter),
      λ n places h are.
          let (m, room, before, so_far, loop) = l.invariant.2 n places h are in
          let up : suc (m - 1) ≡ m = omega arith in
          let (more, now, on) = rw (up, c.in-Some.is) at (c.in_ok-turn.ensures.value (m - 1) before so_far) in
          (m - 1, omega (arith, shorter), before ++ more, now, rw append_assoc (loop ∙ ap (λ t. before ++ t) on)),
    )

pub returns-in-None : goal.returns-in-None
returns-in-None c n places h are =
    let l = c.items in
    let (m, room, before, so_far, loop) = l.invariant.2 n places h are in
    let up : suc (m - 1) ≡ m = omega arith in
    let (more, now, on) = rw (up, c.in-None.is) at (c.in_ok-turn.ensures.value (m - 1) before so_far) in
    let all : places ++ element_places n c.args.s.now ≡ before ++ more =
    loop ∙ ap (λ t. before ++ t) (on ∙ append-nil more) in
    rw all now
