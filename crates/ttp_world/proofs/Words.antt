-- The words of this crate's proofs, from one place.
pub use Rattle.std.proofs.Common.{Bool, IfSome, IsTrue, List, None, Option, Some, [], ap, append_assoc, arith, bytes_eq}
pub use Rattle.std.proofs.Common.{codes, cond, count_by, decimal, drop, false, get_or, if◌then◌else◌, inl, inr, is_some}
pub use Rattle.std.proofs.Common.{length, length-append, map, nat_le, nat_lt, neg_ℤ, not, option_and_then, pos, refl}
pub use Rattle.std.proofs.Common.{rules, set, subst, suc, sym, take, true, unsigned_abs, unwrap_or, zero, ℕ, ℤ, ◌%◌}
pub use Rattle.std.proofs.Common.{◌&&◌, ◌*◌, ◌++◌, ◌+ℤ◌, ◌+◌, ◌-◌, ◌/◌, ◌<◌, ◌^◌, ◌||◌, ◌∙◌, ◌∷◌, ◌≡◌, ◌≢◌, ◌≤ℤ◌, ◌≤◌}
pub use Rattle.std.proofs.Math.Bool.{or-true}
pub use Rattle.std.proofs.lemmas.Bool.{and_parts, both_ways, cases_eq, cond_both, eq-eqb, eqb-true, false≢true, le-leb}
pub use Rattle.std.proofs.lemmas.Bool.{leb-false, leb-true, ltb-true, ne_eqb, true≢false}
pub use Rattle.std.proofs.lemmas.Bool.Decides.{nat_tests}
pub use Rattle.std.proofs.lemmas.Grind.{common_steps}
pub use Rattle.std.proofs.lemmas.Int.{ints}
pub use Rattle.std.proofs.lemmas.List.{length-map, length-replicate, length-take, map-append, take_more}
pub use Rattle.std.proofs.lemmas.List.Concat.{flat_map-cons}
pub use Rattle.std.proofs.lemmas.List.Elements.{All-append, All-cons, All-head, All-more, All-nil, All-tail, All-take}
pub use Rattle.std.proofs.lemmas.List.Elements.{filter_map-append}
pub use Rattle.std.proofs.lemmas.List.Folds.{list_any-append}
pub use Rattle.std.proofs.lemmas.List.FromFn.{get_or-map-range_with_len, length-map-range_with_len}
pub use Rattle.std.proofs.lemmas.List.Sorted.{IsNonDecreasingBy-from_sort_by_key, IsPartitionPoint-from_clause}
pub use Rattle.std.proofs.lemmas.List.Sorted.{IsPartitionedBy-leb}
pub use Rattle.std.proofs.lemmas.List.Sums.{sum_by-cons}
pub use Rattle.std.proofs.lemmas.Option.{none-some, same_Some}
pub use Rattle.std.proofs.lemmas.Slice.Eq.{bytes_eq-Decides}
pub use Rattle.std.specs.Fmt.{signed_decimal}
pub use Rattle.std.specs.List.{AllByRecursion, cons_option, filter, list_all, list_any, range_with_len}
pub use Rattle.std.specs.List.Sorted.{IsNonDecreasingBy, IsPermutation}
pub use Rattle.std.specs.Option.{option_or}
pub use Rattle.std.specs.Prelude.{int_le, replicate, reverse, ◌==◌}
pub use Rattle.ttp_base.proofs.Below.{each-below, flat_map_agree-below, map-next, map_agree-below, map_each-below}
pub use Rattle.ttp_base.proofs.NodeLists.{filter-none}
pub use Rattle.ttp_base.proofs.NodeSets.{has_node-sieve, same_sieve}
pub use Rattle.ttp_base.proofs.Numerals.{has, has-decimal, has-hex}
pub use Rattle.ttp_base.specs.NodeSet.{below, has_node, most_nodes, set_bits}
pub use Rattle.ttp_base.specs.Text.{hex, newline}
pub use Rattle.ttp_world.specs.Acknowledgement.{is_correct}
pub use Rattle.ttp_world.specs.Act.{coming_place}
pub use Rattle.ttp_world.specs.After.{members_after, past_after}
pub use Rattle.ttp_world.specs.Clock.{fta}
pub use Rattle.ttp_world.specs.Conduct.{carries_payload, delivery, listening_entry, new_entry, node_frames, own_cstate}
pub use Rattle.ttp_world.specs.Conduct.{payload_taken, verdict_entry}
pub use Rattle.ttp_world.specs.Diary.{Diary, History, Place, Surroundings, diary_of, entry_of, is_active, may_follow}
pub use Rattle.ttp_world.specs.Diary.{next_place, no_place, stint_place}
pub use Rattle.ttp_world.specs.Events.{AreBounded, IsBounded, bits_on, covers, error_in, flipped_bit, incidents_in}
pub use Rattle.ttp_world.specs.Events.{is_same_fault}
pub use Rattle.ttp_world.specs.Fitting.{carried_length, joinable}
pub use Rattle.ttp_world.specs.Flips.{HasFlipKey, keyed_flip}
pub use Rattle.ttp_world.specs.Frame.{frame, header_of}
pub use Rattle.ttp_world.specs.HostLines.{keyed_read, keyed_writes}
pub use Rattle.ttp_world.specs.Hypothesis.{ClusterStart, keeps, least_of, lesser}
pub use Rattle.ttp_world.specs.Index.{AreFew, AreStepsOf, first_step, incidents_before, step_is_by}
pub use Rattle.ttp_world.specs.Legal.{IsLegal, ReadMessage, all_reads, are_legal_messages, are_legal_reads}
pub use Rattle.ttp_world.specs.Legal.{are_legal_slots, are_same_numbers, is_legal_message, is_legal_read, is_legal_slot}
pub use Rattle.ttp_world.specs.Legal.{is_not_older, is_same_ring, never_fall, read_messages}
pub use Rattle.ttp_world.specs.Medium.{Bits, Noise, SentFrame, Signal, Silence, combined_signal, heard}
pub use Rattle.ttp_world.specs.Medium.{remaining_frames, remains, with_noise}
pub use Rattle.ttp_world.specs.Medl.{IsValid, is_bare, kind_at, member_width, no_plan, payload_length, plan_at}
pub use Rattle.ttp_world.specs.Membership.{AreNodes}
pub use Rattle.ttp_world.specs.Messages.{delivered_of, in_messages, message_of, messages_of, new_messages}
pub use Rattle.ttp_world.specs.Messages.{newest_number, ring_messages, status_messages, status_words}
pub use Rattle.ttp_world.specs.Outgoing.{message_chosen, messages_before, nothing_chosen, out_messages, zeros_of}
pub use Rattle.ttp_world.specs.Past.{NodePast, past_of, state_of}
pub use Rattle.ttp_world.specs.Points.{HasKeys, ends_of, event_points, no_point, places_of, point_at, points_of}
pub use Rattle.ttp_world.specs.Points.{steps_of, weighed}
pub use Rattle.ttp_world.specs.Reception.{Expected, Hearing, expected_header, expected_length, expected_of}
pub use Rattle.ttp_world.specs.Reception.{is_first_view, payload_heard, verdict_of_view, view_of}
pub use Rattle.ttp_world.specs.Returning.{has_arm, returns}
pub use Rattle.ttp_world.specs.Script.{HostWrite, IsValidEvent, IsValidScript, has_receive_fault, has_send_fault, is_on}
pub use Rattle.ttp_world.specs.Script.{messages_written, read_in, reads_in, write_at, write_in, write_of, writes_in}
pub use Rattle.ttp_world.specs.Sorted.{AreSorted, SplitsAt, has_key, key_of, values_of}
pub use Rattle.ttp_world.specs.Trace.{ack_pieces, ack_word, back_line, back_lines_if, entry_pieces, entry_word}
pub use Rattle.ttp_world.specs.Trace.{history_lines, keep_line, node_pieces, node_line_text}
pub use Rattle.ttp_world.specs.Trace.{member_digits, message_hex, message_shown, more_write_lines, node_line}
pub use Rattle.ttp_world.specs.Trace.{node_line_of, number_or_dash, peer_of, read_line, read_lines, reason_word}
pub use Rattle.ttp_world.specs.Trace.{slot_lines, source_word, test_lines, trace_head, trace_lines, verdict_word}
pub use Rattle.ttp_world.specs.Trace.{word_hex, write_line, write_lines}
pub use Rattle.ttp_world.specs.TraceNumbers.{is_sending_line, number_named, number_read, slot_numbers, word_in}
pub use Rattle.ttp_world.specs.TraceNumbers.{words_of}
pub use Rattle.ttp_world.specs.Weights.{AreWithin, added, incidents_from, is_positive, negated, no_weights, one_if}
pub use Rattle.ttp_world.specs.Weights.{weights_of}
pub use Rattle.ttp_world.specs.World.{BegunSlot, Numbers, SlotNumbers, chosen_of, delivered_in, entry_in, frames_in}
pub use Rattle.ttp_world.specs.World.{frames_of, hearing_in, is_loaded, messages_chosen, node_of, node_past, row_in}
pub use Rattle.ttp_world.specs.World.{slot_after, world}
pub use Rattle.ttp_world.specs.declared.index.Step.{Step}
pub use Rattle.ttp_world.specs.declared.index.TheConstants.{NODE_KEYS}
pub use Rattle.ttp_world.specs.declared.keep.Back.{Back}
pub use Rattle.ttp_world.specs.declared.keep.Keep.{Keep}
pub use Rattle.ttp_world.specs.declared.medl.Kind.{Kind}
pub use Rattle.ttp_world.specs.declared.medl.Medl.{Medl}
pub use Rattle.ttp_world.specs.declared.medl.SlotPlan.{SlotPlan}
pub use Rattle.ttp_world.specs.declared.node.Ack.{Ack}
pub use Rattle.ttp_world.specs.declared.node.Act.{Act}
pub use Rattle.ttp_world.specs.declared.node.Act.TheVariants.{Gone, Judge, Leave, Listen, Off, Retry, Send, Start}
pub use Rattle.ttp_world.specs.declared.node.CState.{CState}
pub use Rattle.ttp_world.specs.declared.node.ChannelView.{ChannelView}
pub use Rattle.ttp_world.specs.declared.node.Chosen.{Chosen}
pub use Rattle.ttp_world.specs.declared.node.Delivered.{Delivered}
pub use Rattle.ttp_world.specs.declared.node.Entry.{Entry}
pub use Rattle.ttp_world.specs.declared.node.NodeState.{NodeState}
pub use Rattle.ttp_world.specs.declared.node.Reason.{Reason}
pub use Rattle.ttp_world.specs.declared.node.Verdict.{Verdict}
pub use Rattle.ttp_world.specs.declared.points.Point.{Point}
pub use Rattle.ttp_world.specs.declared.points.PointAt.{PointAt}
pub use Rattle.ttp_world.specs.declared.script.Channel.{Channel}
pub use Rattle.ttp_world.specs.declared.script.Event.{Event}
pub use Rattle.ttp_world.specs.declared.script.Script.{Script}
pub use Rattle.ttp_world.specs.declared.script.Source.{Source}
pub use Rattle.ttp_world.specs.declared.script.TheConstants.{ERROR_LIMIT, JUMP_LIMIT}
pub use Rattle.ttp_world.specs.declared.sorted.Keyed.{Keyed}
pub use Rattle.ttp_world.specs.declared.weights.Weights.{Weights}
