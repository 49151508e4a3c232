-- A line more that is read, before lines that are.
use Rattle.std.proofs.Common.{◌≡◌, ℕ, List, ◌∷◌, Option, Some, ap, ◌∙◌}
use Rattle.std.specs.Prelude.{Ok, option_and_then}
use Rattle.ttp_base.specs.Text.{Lines}
use Rattle.line_reader.specs.declared.trace_line.TraceLine.{TraceLine}
use Rattle.whole_trace.specs.declared.due.Due.{Due}
use Rattle.whole_trace.specs.declared.due.Outline.{Outline}
use Rattle.whole_trace.specs.Due.{due_after}
use Rattle.whole_trace.specs.Whole.{SlotsFrom, value_of, judged, judged_behind, one_line_later, slots_from}
use Rattle.whole_trace.specs.Whole.{with_line, with_value}

-- Lines that a trace ends with where one is due before them: what its first line and its last ones said, and its slots.
pub record EndsWith (at : Due) (lines : Lines) (o : Outline) (from : SlotsFrom) : Type 0 where
  pub judges : judged at lines ≡ Ok o
  pub slots : slots_from lines ≡ from

pub one_line : (at then : Due) (v : TraceLine) (line : List ℕ) (lines : Lines) (o : Outline) (from : SlotsFrom)
    → value_of line ≡ Some v → due_after at v ≡ Some then → EndsWith then lines o from
    → EndsWith at (line ∷ lines) o (with_line v from)
one_line at then v line lines o from is next ends = record {
  judges =
      ap (λ (r : Option TraceLine). judged_behind (λ d. judged d lines) (option_and_then (due_after at) r)) is
      ∙ ap (judged_behind (λ d. judged d lines)) next ∙ ap one_line_later ends.judges;
  slots = ap (λ (r : Option TraceLine). with_value r (slots_from lines)) is ∙ ap (with_line v) ends.slots;
}
