use Rattle.std.proofs.Common.{◌≡◌, List, ℕ, [], ap, ◌∙◌, codes, decimal, get_or, rules, w64, to_z, of_z}
use Rattle.std.proofs.lemmas.Int.{to_z-of_z}
use Rattle.std.specs.Fmt.{signed_decimal}
use Rattle.line_form.specs.Forms.{worded}
use Rattle.line_form.specs.Kinds.{spell}
use Rattle.clock_margins.specs.declared.margin.Costs.{Costs}
use Rattle.clock_margins.specs.Forms.{clock_words, clock_place, costs_words, costs_place, jump_slot_kind}
use Rattle.clock_margins.specs.Outcomes.{whom_it_costs}
use Rattle.margin_text.proofs.Words.{six-words}
use Rattle.margin_text.proofs.lines.put_place.Goals as goal

pub returns-clause-text : goal.returns-clause-text
returns-clause-text c =
    let sweep = c.args.sweep in
    let range = c.args.range.now in
    let clock = get_or clock_words (clock_place sweep.slot) [] in
    let costs = get_or costs_words (costs_place (whom_it_costs sweep.node range.outcome)) [] in
    let one = c.put_word.ensures.text ∙ ap (worded c.args.line.now (codes "")) c.clock_word_of.ensures.text in
    let two = c.put_number.ensures.text
    ∙ (λ i. worded (one i) (codes " node ") (decimal (c.from.ensures i))) in
    let three = c.put_slot.ensures.text
    ∙ ap (λ (l : List ℕ). worded l (codes " slot ") (spell jump_slot_kind sweep.slot)) two in
    let from : to_z w64 (of_z w64 range.from) ≡ range.from = search (rules, to_z-of_z) in
    let to : to_z w64 (of_z w64 range.to) ≡ range.to = search (rules, to_z-of_z) in
    let four = c.put_signed.ensures.text
    ∙ (λ i. worded (three i) (codes " from ") (signed_decimal (from i))) in
    let five = c.put_signed-2.ensures.text
    ∙ (λ i. worded (four i) (codes " to ") (signed_decimal (to i))) in
    c.put_word-2.ensures.text
    ∙ (λ i. worded (five i) (codes " costs ") ((c.costs_word.ensures.text
    ∙ ap (λ (w : Costs). get_or costs_words (costs_place w) []) c.whom_it_costs.ensures) i))
    ∙ six-words c.args.line.now (codes "") clock (codes " node ") (decimal sweep.node) (codes " slot ")
    (spell jump_slot_kind sweep.slot) (codes " from ") (signed_decimal range.from) (codes " to ")
    (signed_decimal range.to) (codes " costs ") costs
