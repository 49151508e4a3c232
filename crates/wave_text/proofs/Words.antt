-- The words of this crate's proofs, from one place.
pub use Rattle.line_reader.specs.TraceLines.{word_text}
pub use Rattle.line_reader.specs.declared.trace_line.Word.{Word}
pub use Rattle.ttp_base.proofs.Puts.{puts_both, puts_one}
pub use Rattle.ttp_base.proofs.Puts.{puts_below, puts_none, puts_then}
pub use Rattle.ttp_base.specs.Sheet.{Puts}
pub use Rattle.shown_slot.specs.Nodes.{is_active_word, sends}
pub use Rattle.shown_slot.specs.Ports.{all_whats, larger, later, message_in_line, most_bytes, newest_host_message}
pub use Rattle.shown_slot.specs.Ports.{port_if, ports_of, size_of}
pub use Rattle.shown_slot.specs.Trace.{first_text, header_text, keeps_text, member_room, node_at, returns_text}
pub use Rattle.shown_slot.specs.Trace.{trace_ports}
pub use Rattle.shown_slot.specs.declared.host.Message.{Message}
pub use Rattle.shown_slot.specs.declared.host.Port.{Port}
pub use Rattle.shown_slot.specs.declared.host.What.{What}
pub use Rattle.std.proofs.Common.{Bool, List, None, Option, Some, [], ap, append_assoc, arith, codes, cond, decimal}
pub use Rattle.std.proofs.Common.{false, get_or, inl, inr, length, length-set, map, nat_lt, refl, replicate, set, subst}
pub use Rattle.std.proofs.Common.{suc, sym, take, true, zero, ℕ, ◌%◌, ◌*◌, ◌++◌, ◌+◌, ◌-◌, ◌/◌, ◌<◌, ◌∙◌, ◌∷◌, ◌≡◌, ◌≤◌}
pub use Rattle.std.proofs.lemmas.Bool.Decides.{eqb_tells}
pub use Rattle.std.proofs.lemmas.List.{append-nil, length-replicate, take_all}
pub use Rattle.std.proofs.lemmas.Option.{get_or_from_slice_get, slice_get-get_or}
pub use Rattle.std.specs.Fmt.{signed_decimal}
pub use Rattle.std.specs.List.{AllByRecursion, flat_map, list_any}
pub use Rattle.std.specs.Prelude.{All, filter, if◌then◌else◌, option_map, slice_get, ◌==◌}
pub use Rattle.ttp_base.proofs.Below.{flat_map-next}
pub use Rattle.ttp_base.proofs.Lines.{is_line-append}
pub use Rattle.ttp_base.specs.NodeSet.{below, set_bits}
pub use Rattle.ttp_base.specs.Outside.{Output}
pub use Rattle.ttp_base.specs.Text.{Lines, hex, lines_below, newline}
pub use Rattle.ttp_world.proofs.LineLists.{each-append}
pub use Rattle.ttp_world.proofs.TraceLines.{IsLine}
pub use Rattle.ttp_world.specs.Trace.{ack_word, source_word}
pub use Rattle.ttp_world.specs.declared.script.Source.{Source}
pub use Rattle.wave_text.specs.Moment.{unless_first}
pub use Rattle.wave_text.specs.Places.{HasMost, HasNewest, HasPlace, host_in, message_said, ports_in, size_at}
pub use Rattle.wave_text.specs.Places.{table_place, what_in}
pub use Rattle.wave_text.specs.Values.{bit_text, cluster_value, held_text, most_binary_digits}
unfoldable pub use Rattle.wave_text.specs.Values.{binary, binary_number}
pub use Rattle.wave_text.specs.Values.{node_value, number_or_nothing, number_text, phase_text, port_value, unless_off}
pub use Rattle.wave_text.specs.Values.{wires_text}
pub use Rattle.wave_text.specs.Variables.{HasLetters, HasSourceLetter, cluster_declaration, cluster_letter}
pub use Rattle.wave_text.specs.Variables.{cluster_variables, declarations, host_scope, node_code, node_declaration}
pub use Rattle.wave_text.specs.Variables.{node_scope, node_variables, port_code, port_declaration, port_declarations}
pub use Rattle.wave_text.specs.Variables.{port_variables, ports_at, scope_line, upscope_line}
pub use Rattle.wave_text.specs.Wave.{all_slots_lines, change_line, change_lines, changes_by, cluster_changes}
pub use Rattle.wave_text.specs.Wave.{comment_line, comment_lines, first_slot_lines, wave_head_lines, later_lines}
pub use Rattle.wave_text.specs.Wave.{port_message, node_changes, port_changes, scope_changes, slot_changes}
pub use Rattle.wave_text.specs.Wave.{slot_change_lines, time_line, wave_lines}
pub use Rattle.wave_text.specs.declared.variable.ClusterVariable.{ClusterVariable}
pub use Rattle.wave_text.specs.declared.variable.NodeVariable.{NodeVariable}
pub use Rattle.wave_text.specs.declared.variable.PortVariable.{PortVariable}
pub use Rattle.whole_trace.specs.Whole.{SlotLines, WholeTrace}
pub use Rattle.whole_trace.specs.declared.shown.Head.{Head}
pub use Rattle.whole_trace.specs.declared.shown.HostLine.{HostLine}
pub use Rattle.whole_trace.specs.declared.shown.NodeShown.{NodeShown}
