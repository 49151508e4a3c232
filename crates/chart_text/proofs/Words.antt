-- The words of this crate's proofs, from one place.
pub use Rattle.chart_text.specs.Chart.{chart_end}
pub use Rattle.chart_text.specs.Column.{column_lines, column_of, faults_told_in, mark_lines, shown_before}
pub use Rattle.chart_text.specs.Columns.{chart_y, first_told_slot, is_asked, is_hidden, is_tried}
pub use Rattle.chart_text.specs.Elements.{look_cell}
pub use Rattle.chart_text.specs.Key.{count_line, counter_of, key_square, kind_lines}
pub use Rattle.chart_text.specs.Looks.{does_harm, doing_word, fault_look, look_number, looks}
pub use Rattle.chart_text.specs.Steps.{SameFrom, has_mark, longest_text, marked_slots}
pub use Rattle.chart_text.specs.Sums.{faults_told_of, first_doing, harmful_among, look_counts, look_told}
pub use Rattle.chart_text.specs.Walks.{AreTallies, CanNote, IsSurvey, IsTally, no_tally, tally_of}
pub use Rattle.chart_text.specs.Worst.{fault_in_line, hurt_word, is_worse, list_lines, most_lost}
pub use Rattle.chart_text.specs.Worst.{ten_with, ten_worst, worst_of, worst_with}
pub use Rattle.chart_text.specs.declared.size.Size.{Size}
pub use Rattle.chart_text.specs.declared.tally.Tallies.{Tallies}
pub use Rattle.chart_text.specs.declared.tally.Tally.{Tally}
pub use Rattle.ttp_base.proofs.Puts.{puts_both, puts_first, puts_one, puts_two}
pub use Rattle.ttp_base.proofs.Puts.{puts_below}
pub use Rattle.chart_text.proofs.FromBelow.{one_more, one-small}
pub use Rattle.picture_text.specs.Cells.{place_attributes}
pub use Rattle.picture_text.specs.Picture.{row_line}
pub use Rattle.ttp_base.specs.Sheet.{Puts}
pub use Rattle.picture_text.specs.declared.window.Span.{Span}
pub use Rattle.std.proofs.Common.{Bool, List, None, Option, Result, Some, [], ap, append_assoc, arith, codes, cond}
pub use Rattle.std.proofs.Common.{decimal, drop, false, get_or, length, map, not, refl, replicate, subst, sym, take}
pub use Rattle.std.proofs.Common.{true, ℕ, ◌&&◌, ◌*◌, ◌++◌, ◌+◌, ◌-◌, ◌<◌, ◌^◌, ◌||◌, ◌∙◌, ◌∷◌, ◌≡◌, ◌≢◌, ◌≤◌}
pub use Rattle.std.proofs.lemmas.Bool.{and_parts, eq-eqb, ne_eqb}
pub use Rattle.std.proofs.lemmas.Bool.Decides.{nat_tests}
pub use Rattle.std.proofs.lemmas.List.{get_or-replicate, get_or-set_other, length-replicate}
pub use Rattle.std.proofs.lemmas.List.Sums.{count_by-le-length, length-filter}
pub use Rattle.std.specs.List.{flat_map, list_any}
pub use Rattle.std.specs.Prelude.{filter, nat_le, nat_lt, ◌==◌}
pub use Rattle.std.specs.Result.{OnOk}
pub use Rattle.ttp_base.specs.NodeSet.{below}
pub use Rattle.ttp_base.specs.Outside.{Output, WroteLines}
pub use Rattle.ttp_base.specs.Text.{Lines, lines_below, newline}
pub use Rattle.whole_campaign.specs.Due.{as_count}
pub use Rattle.whole_campaign.specs.Faults.{first_place}
pub use Rattle.whole_campaign.specs.Readable.{counts_sum, in_order_from}
pub use Rattle.whole_campaign.specs.Steps.{told_of}
pub use Rattle.whole_campaign.specs.Whole.{FaultTold}
pub use Rattle.whole_campaign.specs.declared.shown.Piece.{Piece}
