use Rattle.picture_text.proofs.Words.{◌∙◌, ◌+◌, ap, sym, Some, None, List, arith, length, length-drop, drop, position}
use Rattle.picture_text.proofs.Words.{SlotLines, no_slot_lines, is_strange}
use Rattle.picture_text.proofs.Sought.{behind, past-found, found_within}
use Rattle.picture_text.proofs.walk.strange_behind.Goals as goal

pub overflow_add-last : goal.overflow_add-last
overflow_add-last c = omega (arith, c.requires.last, c.requires.few)

pub skipped-after-requires : goal.skipped-after-requires
skipped-after-requires c =
    omega (arith, c.requires.last, ap length c.requires.from, length-drop c.args.first c.args.trace.now.slots)

pub first_sought-requires : goal.first_sought-requires
first_sought-requires c =
    omega (
      arith,
      c.requires.few,
      ap length (c.skipped-after.ensures
          ∙ behind c.args.trace.now.slots c.args.from c.args.first c.args.last c.requires.last.0 c.requires.from),
      length-drop (c.args.last + 1) c.args.trace.now.slots,
    )

pub overflow_add-result : goal.overflow_add-result
overflow_add-result c = omega (arith, c.requires.last, c.requires.few)

pub overflow_add-result-in-Some : goal.overflow_add-result-in-Some
overflow_add-result-in-Some c =
    let there = found_within is_strange (drop (c.args.last + 1) c.args.trace.now.slots) c.in-Some.passed no_slot_lines
    (sym c.in-Some.is ∙ c.first_sought.ensures ∙ ap (λ (xs : List SlotLines). position is_strange xs)
    (c.skipped-after.ensures
    ∙ behind c.args.trace.now.slots c.args.from c.args.first c.args.last c.requires.last.0 c.requires.from)) in
    omega (arith, c.requires.last, c.requires.few, there, length-drop (c.args.last + 1) c.args.trace.now.slots)

pub returns-in-Some : goal.returns-in-Some
returns-in-Some c =
    past-found c.args.trace.now.slots c.args.last (Some c.in-Some.passed)
    (sym c.in-Some.is ∙ c.first_sought.ensures ∙ ap (λ (xs : List SlotLines). position is_strange xs)
    (c.skipped-after.ensures
    ∙ behind c.args.trace.now.slots c.args.from c.args.first c.args.last c.requires.last.0 c.requires.from))

pub returns-in-None : goal.returns-in-None
returns-in-None c =
    past-found c.args.trace.now.slots c.args.last None
    (sym c.in-None.is ∙ c.first_sought.ensures ∙ ap (λ (xs : List SlotLines). position is_strange xs)
    (c.skipped-after.ensures
    ∙ behind c.args.trace.now.slots c.args.from c.args.first c.args.last c.requires.last.0 c.requires.from))
