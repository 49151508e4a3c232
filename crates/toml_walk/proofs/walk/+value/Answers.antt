use Rattle.std.proofs.Common.{◌≡◌, suc, ◌==◌, ◌-◌, ◌<◌, true, false, le_refl, length, refl, ◌∙◌, rules, arith}
use Rattle.std.proofs.lemmas.Grind.{common_steps}
use Rattle.toml_parser.specs.Lexical.{first, skip_blank}
use Rattle.toml_parser.specs.Reading.{key_view}
use Rattle.toml_walk.specs.Walk.{value}
use Rattle.toml_walk.specs.Names.{nothing_noted}
use Rattle.toml_walk.proofs.Steps.{members_end, members_no_key, members_no_value}
use Rattle.toml_walk.proofs.Steps.{members_twice, members_no_end, members_on}
use Rattle.toml_walk.proofs.Steps.{match_err, walks_err, value_at_most, value_array, value_table, value_atom}
use Rattle.toml_walk.proofs.walk.+value.Goals as goal

pub value-returns-then-depth-eq0-clause-value : goal.value-returns-then-depth-eq0-clause-value
value-returns-then-depth-eq0-clause-value c c' =
    let zero : c'.args.depth ≡ 0 = omega arith in
    rw (zero, value_at_most c'.args.s.now) c'.atom.ensures.value

pub value-returns-then-first-eq91-clause-value : goal.value-returns-then-first-eq91-clause-value
value-returns-then-first-eq91-clause-value c c' =
    let s = c'.args.s.now in
    let some : 0 < c'.args.depth = omega arith in
    let a : (first s == 91) ≡ true = grind (arith, common_steps) in
    rw (value_array c'.args.depth s some a, ← c'.skip.ensures.rest)
    (c'.array.ensures.value (length s) c'.skip.ensures.shorter)

pub value-returns-then-first-eq123-clause-value : goal.value-returns-then-first-eq123-clause-value
value-returns-then-first-eq123-clause-value c c' =
    let s = c'.args.s.now in
    let some : 0 < c'.args.depth = omega arith in
    let a : (first s == 91) ≡ false = grind (arith, common_steps) in
    let b : (first s == 123) ≡ true = grind (arith, common_steps) in
    rw (value_table c'.args.depth s some a b, ← c'.skip-then-first-eq123.ensures.rest)
    (c'.inline_table.ensures.value (length s) c'.skip-then-first-eq123.ensures.shorter)

pub value-returns-else-first-eq123-clause-value : goal.value-returns-else-first-eq123-clause-value
value-returns-else-first-eq123-clause-value c c' =
    let s = c'.args.s.now in
    let a : (first s == 91) ≡ false = grind (arith, common_steps) in
    let b : (first s == 123) ≡ false = grind (arith, common_steps) in
    rw (value_atom c'.args.depth s a b) c'.atom-else-first-eq123.ensures.value

pub array-items-init : goal.array-items-init
array-items-init c c' = (search rules, le_refl _, λ n h. (n, h, refl))

pub array-returns-in-Ends-clause-value : goal.array-returns-in-Ends-clause-value
array-returns-in-Ends-clause-value c c' n h =
    let l = c'.items in
    let (m, room, loop) = l.invariant.2 n h in
    let up : suc (m - 1) ≡ m = omega arith in
    loop ∙ (rw (up, c'.in-Ends.is) at (c'.in_ok-turn.ensures.value (m - 1)))

pub array-returns-in_err-turn-clause-value : goal.array-returns-in_err-turn-clause-value
array-returns-in_err-turn-clause-value c c' n h =
    let l = c'.items in
    let (m, room, loop) = l.invariant.2 n h in
    let up : suc (m - 1) ≡ m = omega arith in
    walks_err _ c'.from_residual.result _ c'.in_err-turn.field-0.0 _ c'.from_residual.ensures.1 (λ y p. p) λ x is.
    loop ∙ (rw up at (c'.in_err-turn.ensures.value (m - 1))) x is

pub array-items-preserved : goal.array-items-preserved
array-items-preserved c c' =
    let l = c'.items in
    let shorter = rw c'.in-Goes.is at c'.in_ok-turn.ensures.shorter in (
      search rules,
      omega (arith, l.invariant.1, shorter),
      λ n h.
          let (m, room, loop) = l.invariant.2 n h in
          let up : suc (m - 1) ≡ m = omega arith in
          (m - 1, omega (arith, shorter), loop ∙ (rw (up, c'.in-Goes.is) at (c'.in_ok-turn.ensures.value (m - 1)))),
    )

pub inline_table-members-init : goal.inline_table-members-init
inline_table-members-init c c' = (search rules, le_refl _, λ n h. (n, h, nothing_noted, c'.in_ok-names.ensures, refl))

pub inline_table-returns-in-Ends-clause-value : goal.inline_table-returns-in-Ends-clause-value
inline_table-returns-in-Ends-clause-value c c' n h =
    let l = c'.members in
    let (m, room, noted, stands, loop) = l.invariant.2 n h in
    let up : suc (m - 1) ≡ m = omega arith in
    loop ∙ (rw (up, c'.in-Ends.is) at (c'.in_ok-turn.ensures.value (m - 1) noted stands))

pub inline_table-returns-in_err-turn-clause-value : goal.inline_table-returns-in_err-turn-clause-value
inline_table-returns-in_err-turn-clause-value c c' n h =
    let l = c'.members in
    let (m, room, noted, stands, loop) = l.invariant.2 n h in
    let up : suc (m - 1) ≡ m = omega arith in
    walks_err _ c'.from_residual-in_err-turn.result _ c'.in_err-turn.field-0.0 _
    c'.from_residual-in_err-turn.ensures.1 (λ y p. p) λ x is.
    loop ∙ (rw up at (c'.in_err-turn.ensures.value (m - 1) noted stands)) x is

pub inline_table-members-preserved : goal.inline_table-members-preserved
inline_table-members-preserved c c' =
    let l = c'.members in
    let shorter = rw c'.in-Goes.is at c'.in_ok-turn.ensures.shorter in (
      search rules,
      omega (arith, l.invariant.1, shorter),
      λ n h.
          let (m, room, noted, stands, loop) = l.invariant.2 n h in
          let up : suc (m - 1) ≡ m = omega arith in
          let (more, on, still) = rw (up, c'.in-Goes.is) at (c'.in_ok-turn.ensures.value (m - 1) noted stands) in
          (m - 1, omega (arith, shorter), more, still, loop ∙ on),
    )

pub member_turn-returns-then-first-eq125-clause-value : goal.member_turn-returns-then-first-eq125-clause-value
member_turn-returns-then-first-eq125-clause-value c c' n noted stands =
    let text = c'.args.s.now in
    let v = value c'.args.depth in
    let start_is = c'.skip_blank-start.ensures.rest in
    let closing : (first (skip_blank text) == 125) ≡ true = grind (arith, common_steps) in
    members_end v n noted text closing ∙ rw (c'.skip.ensures.rest, start_is)

pub member_turn-returns-in_err-key-clause-value : goal.member_turn-returns-in_err-key-clause-value
member_turn-returns-in_err-key-clause-value c c' n noted stands =
    let text = c'.args.s.now in
    let v = value c'.args.depth in
    let start_is = c'.skip_blank-start.ensures.rest in
    let other : (first (skip_blank text) == 125) ≡ false = grind (arith, common_steps) in
    match_err _ c'.from_residual.result _ c'.in_err-key.field-0.0 _ c'.from_residual.ensures.1 (λ y p. p) (λ x stops.
    members_no_key v n noted text x other (rw start_is at (c'.in_err-key.ensures.value x stops)))

pub member_turn-returns-in_err-after-clause-value : goal.member_turn-returns-in_err-after-clause-value
member_turn-returns-in_err-after-clause-value c c' n noted stands =
    let text = c'.args.s.now in
    let v = value c'.args.depth in
    let start_is = c'.skip_blank-start.ensures.rest in
    let other : (first (skip_blank text) == 125) ≡ false = grind (arith, common_steps) in
    let key = key_view c'.in_ok-key.key in
    let read = rw start_is at c'.in_ok-key.ensures.value in
    match_err _ c'.from_residual-in_err-after.result _ c'.in_err-after.field-0.0 _
    c'.from_residual-in_err-after.ensures.1 (λ y p. p) (λ x stops.
    members_no_value v n noted text key _ other read x (c'.in_err-after.ensures.value x stops))

pub member_turn-returns-in_err-put-clause-value : goal.member_turn-returns-in_err-put-clause-value
member_turn-returns-in_err-put-clause-value c c' n noted stands =
    let text = c'.args.s.now in
    let v = value c'.args.depth in
    let start_is = c'.skip_blank-start.ensures.rest in
    let other : (first (skip_blank text) == 125) ≡ false = grind (arith, common_steps) in
    let key = key_view c'.in_ok-key.key in
    let read = rw start_is at c'.in_ok-key.ensures.value in
    match_err _ c'.from_residual-in_err-put.result _ c'.in_err-put.field-0.0 _
    c'.from_residual-in_err-put.ensures.1 (λ y p. p) (λ x stops.
    members_twice v n noted text key _ other read _ x c'.in_ok-after.ensures.value
    (rw start_is at (c'.in_err-put.ensures noted stands stands.root x stops)))

pub member_turn-returns-in_err-after_element-clause-value : goal.member_turn-returns-in_err-after_element-clause-value
member_turn-returns-in_err-after_element-clause-value c c' n noted stands =
    let text = c'.args.s.now in
    let v = value c'.args.depth in
    let start_is = c'.skip_blank-start.ensures.rest in
    let other : (first (skip_blank text) == 125) ≡ false = grind (arith, common_steps) in
    let key = key_view c'.in_ok-key.key in
    let read = rw start_is at c'.in_ok-key.ensures.value in
    let (more, once, after) = rw start_is at (c'.in_ok-put.ensures noted stands stands.root) in
    match_err _ c'.from_residual-in_err-after_element.result _ c'.in_err-after_element.field-0.0 _
    c'.from_residual-in_err-after_element.ensures.1 (λ y p. p) (λ x stops.
    members_no_end v n noted text key _ other read _ more x c'.in_ok-after.ensures.value once
    (c'.in_err-after_element.ensures.value x stops))

pub member_turn-returns-clause-value : goal.member_turn-returns-clause-value
member_turn-returns-clause-value c c' n noted stands =
    let text = c'.args.s.now in
    let v = value c'.args.depth in
    let start_is = c'.skip_blank-start.ensures.rest in
    let other : (first (skip_blank text) == 125) ≡ false = grind (arith, common_steps) in
    let key = key_view c'.in_ok-key.key in
    let read = rw start_is at c'.in_ok-key.ensures.value in
    let (more, once, after) = rw start_is at (c'.in_ok-put.ensures noted stands stands.root) in (
      more,
      members_on v n noted text key _ other read _ more _ c'.in_ok-after.ensures.value once
          c'.in_ok-after_element.ensures.value,
      after,
    )
