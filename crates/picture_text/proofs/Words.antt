-- The words of this crate's proofs, from one place.
pub use Rattle.line_reader.specs.TraceLines.{keep_text, word_text}
pub use Rattle.picture_text.specs.Cells.{apart_shown, apart_text, count_of, each_node, holds, host_mark}
pub use Rattle.picture_text.specs.Cells.{host_of, members_title, membership_text, shown_memberships, node_cell}
pub use Rattle.picture_text.specs.Cells.{node_class, place_attributes, title_element}
pub use Rattle.picture_text.specs.Picture.{back_flag, band_lines, beside_lines, cell_lines, class_entries, ended}
pub use Rattle.picture_text.specs.Picture.{keep_flag, mark_entries, more_text, no_slot_lines}
pub use Rattle.picture_text.specs.Picture.{picture_of, row_line, slot_at}
pub use Rattle.picture_text.specs.Picture.{svg_line, word_entries, word_entry}
pub use Rattle.ttp_base.specs.Sheet.{Puts}
pub use Rattle.picture_text.specs.Tables.{keep_meaning, letter, words}
pub use Rattle.picture_text.specs.Window.{column_x, is_strange, row_y, strange_past}
pub use Rattle.picture_text.specs.declared.window.Span.{Span}
pub use Rattle.shown_slot.specs.Nodes.{is_holder}
pub use Rattle.shown_slot.specs.Trace.{header_text, host_text, node_at, node_text}
pub use Rattle.std.proofs.Common.{Bool, List, None, Option, Some, [], ap, append_assoc, arith, codes, cond, drop, false}
pub use Rattle.std.proofs.Common.{get_or, length, length-append, length-drop, map, not, refl, subst, suc, sym, take}
pub use Rattle.std.proofs.Common.{true, ℕ, ◌%◌, ◌*◌, ◌++◌, ◌+◌, ◌-◌, ◌/◌, ◌<◌, ◌^◌, ◌||◌, ◌∙◌, ◌∷◌, ◌≡◌, ◌≤◌}
pub use Rattle.std.proofs.lemmas.Fmt.{length-decimal-le}
pub use Rattle.std.proofs.lemmas.List.{append-nil}
pub use Rattle.std.proofs.lemmas.List.Concat.{flat_map-append}
pub use Rattle.std.proofs.lemmas.List.Elements.{filter-append}
pub use Rattle.std.specs.Fmt.{signed_decimal}
pub use Rattle.std.specs.List.{flat_map, list_any, position_or_len, range_with_len}
pub use Rattle.std.specs.Prelude.{filter, position, unwrap_or, ◌==◌}
pub use Rattle.ttp_base.specs.NodeSet.{below, set_bits}
pub use Rattle.ttp_base.specs.Outside.{CutShort, Output, WroteLines}
pub use Rattle.ttp_base.specs.Text.{Lines, hex, lines_below, newline}
pub use Rattle.ttp_world.specs.Trace.{ack_word, number_or_dash}
pub use Rattle.ttp_world.specs.declared.keep.Back.{Back}
pub use Rattle.ttp_world.specs.declared.keep.Keep.{Keep}
pub use Rattle.whole_trace.specs.Whole.{SlotLines, WholeTrace}
pub use Rattle.whole_trace.specs.declared.shown.Head.{Head}
pub use Rattle.whole_trace.specs.declared.shown.HostLine.{HostLine}
pub use Rattle.whole_trace.specs.declared.shown.NodeShown.{NodeShown}
