use Rattle.picture_text.proofs.Words.{ℕ, Option, ◌∙◌, ap, sym, List, position, unwrap_or, SlotLines, no_slot_lines}
use Rattle.picture_text.specs.Window.{is_sought}
use Rattle.picture_text.proofs.Sought.{found_within}
use Rattle.picture_text.proofs.walk.first_or_0.Goals as goal

pub returns-in-Some-clause-slot : goal.returns-in-Some-clause-slot
returns-in-Some-clause-slot c =
    ap (λ (o : Option ℕ). unwrap_or o 0)
    (sym c.in-Some.is ∙ c.first_sought.ensures
    ∙ ap (λ (xs : List SlotLines). position (is_sought c.args.sought) xs) c.slots.ensures)

pub returns-in-Some-clause-within : goal.returns-in-Some-clause-within
returns-in-Some-clause-within c =
    found_within (is_sought c.args.sought) c.args.trace.now.slots c.in-Some.slot no_slot_lines
    (sym c.in-Some.is ∙ c.first_sought.ensures
    ∙ ap (λ (xs : List SlotLines). position (is_sought c.args.sought) xs) c.slots.ensures)

pub returns-in-None-clause-slot : goal.returns-in-None-clause-slot
returns-in-None-clause-slot c =
    ap (λ (o : Option ℕ). unwrap_or o 0)
    (sym c.in-None.is ∙ c.first_sought.ensures
    ∙ ap (λ (xs : List SlotLines). position (is_sought c.args.sought) xs) c.slots.ensures)

pub returns-in-None-clause-none : goal.returns-in-None-clause-none
returns-in-None-clause-none c = λ _.
    sym (sym c.in-None.is ∙ c.first_sought.ensures
    ∙ ap (λ (xs : List SlotLines). position (is_sought c.args.sought) xs) c.slots.ensures)
