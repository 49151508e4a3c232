use Rattle.std.proofs.Common.{List, ◌∷◌, ◌++◌, [], ap, sym, ◌∙◌, append_assoc}
use Rattle.std.specs.Prelude.{option_map}
use Rattle.clock_margins.specs.Ranges.{Range}
use Rattle.margin_laws.specs.Behind.{closed_ranges}
use Rattle.margin_text.specs.Taken.{value_told, range_of, ranges_closed}
use Rattle.margin_text.proofs.Counted.{behind-last, behind-none}
use Rattle.margin_text.proofs.swept.step.Goals as goal

pub returns-in-Some : goal.returns-in-Some
returns-in-Some c = λ ranges is.
    let t = value_told c.args.told in
    let range = range_of c.in-Some.range in
    behind-last t range ranges (sym is ∙ ap (option_map range_of) c.in-Some.is)
    ∙ ap (λ (rs : List Range). closed_ranges ranges ++ rs) c.step_from.ensures
    ∙ sym (append_assoc (closed_ranges ranges) (ranges_closed c.step_from.result.closed)
    (range_of c.step_from.result.last ∷ []))

pub returns-in-None : goal.returns-in-None
returns-in-None c = λ ranges is.
    behind-none (value_told c.args.told) ranges (sym is ∙ ap (option_map range_of) c.in-None.is)
    ∙ ap (λ (r : Range). (closed_ranges ranges ++ []) ++ r ∷ []) (sym c.alone.ensures)
