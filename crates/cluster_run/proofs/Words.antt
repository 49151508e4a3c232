-- The words of this crate's proofs, from one place.
pub use Rattle.cluster_run.proofs.FromBelow.{read_alike, within_list, written_rings, set_back, each-back, each-front}
pub use Rattle.cluster_run.proofs.FromBelow.{each-joined, each-of, words_tell}
pub use Rattle.ttp_world.proofs.WorldFacts.{payload_few, plan-short as plan_few}
pub use Rattle.ttp_world.specs.Messages.{newest_number, delivered_of, in_messages, message_of, new_messages}
pub use Rattle.ttp_world.specs.Messages.{ring_messages, status_words}
pub use Rattle.host_port.specs.Reading.{IsLeft, AreReadersOfEnd, Attempts, IsReaderSettled, ReadersState, Reads}
pub use Rattle.host_port.specs.Reading.{all_settled, buffers_of, got_of, got_one, is_intact, is_line_from, is_read_at}
pub use Rattle.host_port.specs.Reading.{lent, pairs_from, reads_from, rings_read, settled}
pub use Rattle.std.proofs.Math.ListN.{get_or-map}
pub use Rattle.std.proofs.Common.{length-append, All, Bool, IfSome, IsSomeAnd, List, None, Option, Some, [], add-one}
pub use Rattle.std.proofs.Common.{ap, append_assoc, arith, below_more, cond, count_by, drop, false, get_or, inl, inr}
pub use Rattle.std.proofs.Common.{is_some, length, map, not, option_map, refl, replicate, set, subst, suc, sym, take}
pub use Rattle.std.proofs.Common.{true, vec_capacity, vec_len, zero, zero-add, ℕ, ℤ, ⊎_elim, ◌&&◌, ◌*◌, ◌++◌, ◌+◌, ◌-◌}
pub use Rattle.std.proofs.Common.{◌/◌, ◌<◌, ◌^◌, ◌||◌, ◌∙◌, ◌∷◌, ◌≡◌, ◌≢◌, ◌≤◌}
pub use Rattle.cluster_run.specs.Choosing.{AreBytesBefore, HaveBegunFor, HaveChosen, next_slot, number_in_frame}
pub use Rattle.cluster_run.specs.Ending.{HasPartEnded, HaveHandedOn, IsPartReady, MayEnd, MayHandOn, delivered_to}
pub use Rattle.cluster_run.specs.Ending.{handed_on, number_handed, outcome_of}
pub use Rattle.cluster_run.specs.Ends.{AreNewEnds, desk_ends, desk_numbers, end_at, host_at, rings_of}
pub use Rattle.cluster_run.specs.Progress.{IsOnCourse, cluster_at}
pub use Rattle.cluster_run.specs.Reading.{AllGot, AreDue, AreLentTo, AreLinesBy, AreLinesOf, AreQueuesOf}
pub use Rattle.cluster_run.specs.Reading.{AreReadersLent, AreReadersOfAll, HaveRead, IsClear, IsRead, HaveRoomForReads}
pub use Rattle.cluster_run.specs.Reading.{ReadsMany, SettlesReads, SettlesReadsOf, calls_in, has_reads, is_host}
pub use Rattle.cluster_run.specs.Reading.{lines_by, queue_of, read_of, reader_at, reader_in, readers_at, rings_in}
pub use Rattle.cluster_run.specs.Reading.{reads_of_host}
pub use Rattle.cluster_run.specs.Report.{HaveEndedSlot, ShowsSlot, message_named, node_shown, number_told}
pub use Rattle.cluster_run.specs.Report.{report_numbers, read_shown, writes_shown}
pub use Rattle.cluster_run.specs.Rings.{GotEach, IsRing, IsRingOf, SawAtMost, joined_pairs, pair_of, pair_read}
pub use Rattle.cluster_run.specs.Rings.{pair_sent, pairs_read, pairs_read_in, pairs_sent, ring_words, words_read}
pub use Rattle.cluster_run.specs.Rings.{words_written}
pub use Rattle.cluster_run.specs.Sending.{AreLent, FetchAll, Fetches, FetchesOne, MayFetchAll, MayFetchAlone, MayLend}
pub use Rattle.cluster_run.specs.Sending.{MaySettle, MayWriteAll, SettlesFetch, WritesBytes, after_writes, choice_by}
pub use Rattle.cluster_run.specs.Sending.{fetcher_lent, message_count, messages_by, with_messages, host_write_line}
pub use Rattle.cluster_run.specs.Sending.{host_write_lines}
pub use Rattle.cluster_run.specs.Slots.{ArePlannedNodes, AreReady, HavePlannedSlot, IsNext, IsNextOf, IsSlotEnded}
pub use Rattle.cluster_run.specs.Slots.{IsSlotPlanned, MayEndSlot, NodesStandAt, StandsForSome, ClusterSteps}
pub use Rattle.cluster_run.specs.Slots.{TellsReads}
pub use Rattle.cluster_run.specs.Standing.{ClusterStandsFor, ClusterView, HoldsRead, NodesStandFor, NodesView}
pub use Rattle.cluster_run.specs.Standing.{cluster_of, nodes_view}
pub use Rattle.cluster_run.specs.declared.current.CurrentSlot.{CurrentSlot}
pub use Rattle.cluster_run.specs.declared.nodes.Desk.{Desk}
pub use Rattle.cluster_run.specs.declared.nodes.Nodes.{Nodes}
pub use Rattle.controller.specs.Passes.{AreChosen, HaveBegun, HaveEnded, StandAfter, StandsAfter, delivered_at}
pub use Rattle.controller.specs.PlantStands.{no_outcome, outcomes_of}
pub use Rattle.controller.specs.PlantWithin.{IsControllerOf, IsEnded, most_ahead}
pub use Rattle.controller.specs.StandsFor.{ShowsState, Stands, ControllerStandsFor}
pub use Rattle.controller.specs.declared.controller.Outcome.{Outcome}
pub use Rattle.controller.specs.declared.seat.Seat.{Seat}
pub use Rattle.host_port.specs.Fetching.{HasSeen, IsWhole}
pub use Rattle.host_port.specs.Rings.{ControllerState, HostState, IsNew, at_source, incoming_shape, message_shape}
pub use Rattle.host_port.specs.Rings.{source_place, shape_of}
pub use Rattle.host_port.specs.Writing.{HasRoom, IsNewest, Takes, written, written_at}
pub use Rattle.host_port.specs.declared.report.NodeLine.{NodeLine}
pub use Rattle.host_port.specs.declared.report.ReadLine.{ReadLine}
pub use Rattle.host_port.specs.declared.report.SlotReport.{SlotReport}
pub use Rattle.host_port.specs.declared.report.WriteLine.{WriteLine}
pub use Rattle.line_text.specs.HostLines.{AreBytes, HasWords, bytes_in, message_in}
pub use Rattle.nbw_ring.specs.Numbers.{limit, most_number}
pub use Rattle.nbw_ring.specs.States.{ReaderState, RingState, WriterState, new_reader, with_joined}
pub use Rattle.nbw_ring.specs.declared.view.Message.{Message}
pub use Rattle.nbw_ring.specs.declared.view.Shape.{Shape}
pub use Rattle.std.proofs.Crossing.{crosses}
pub use Rattle.std.proofs.lemmas.Bool.{and_parts, cases_eq, cases_lt, cond_both, eq-eqb, eqb-true, false_from_ne_true}
pub use Rattle.std.proofs.lemmas.Bool.{false≢true, le-leb, leb-true, lt-ltb}
pub use Rattle.std.proofs.lemmas.Bool.Decides.{nat_tests}
pub use Rattle.std.proofs.lemmas.Grind.{common_steps}
pub use Rattle.std.proofs.lemmas.List.{append-nil, append_cancel_left, drop_more, get_or-append-add, get_or-set_other}
pub use Rattle.std.proofs.lemmas.List.{get_or-set_same, get_or_append_left, get_or_past, get_or_push, length-map}
pub use Rattle.std.proofs.lemmas.List.{length-replicate, map-append, map-set, nil_from_length, reverse-append}
pub use Rattle.std.proofs.lemmas.List.{take-append-drop, take_all, take_more, with_items_is}
pub use Rattle.std.proofs.lemmas.List.Elements.{All-append, All-from_recursion, All-get_or, All-head, All-nil, All-push}
pub use Rattle.std.proofs.lemmas.List.Elements.{All-tail, filter-append, filter_map-append, recursion_from_All}
pub use Rattle.std.proofs.lemmas.List.FromFn.{fill_by_all, length-range_with_len}
pub use Rattle.std.proofs.lemmas.Option.{get_or_from_slice_get, none-some, same_Some, slice_get-get_or, slice_get_read}
pub use Rattle.std.proofs.lemmas.Option.{slice_get_within}
pub use Rattle.std.specs.List.{AllByRecursion, cons_option, filter_map, flat_map, list_all, range_with_len}
pub use Rattle.std.specs.Option.{ForSome}
pub use Rattle.std.specs.Prelude.{IfNone, IsSome, filter, nat_le, reverse, slice_get, unwrap_or, ◌==◌, ◌↔◌, ◌⊎◌}
pub use Rattle.std.specs.Vec.Iter.{into_iter_items, into_iter_len}
pub use Rattle.ttp_base.proofs.Below.{all-below, map-next, map_agree-below, map_each-below}
pub use Rattle.ttp_base.specs.NodeSet.{below}
pub use Rattle.ttp_world.proofs.HostMessages.{IsValidWrite, few_messages, filter_map-each, message_sizes, some_message}
pub use Rattle.ttp_world.proofs.HostMessages.{valid_write_at, valid_writes}
pub use Rattle.ttp_world.proofs.HostPayloads.{HasRead, IsReadOf, messages_read, reads_of_valid}
pub use Rattle.ttp_world.proofs.LegalSlots.{legal-after}
pub use Rattle.ttp_world.proofs.ListFacts.{at_any, filter_map-few}
pub use Rattle.ttp_world.proofs.Slots.{entry_of-row_in, length-row_in, node_of-slot_after}
pub use Rattle.ttp_world.proofs.Worlds.{length-world, row_of_world, row_of_world-told}
pub use Rattle.ttp_world.specs.Diary.{Diary, History, Surroundings, diary_of, entry_of}
pub use Rattle.ttp_world.specs.Fitting.{joinable, number_in}
pub use Rattle.ttp_world.specs.Legal.{IsLegal, ReadMessage, are_legal_messages, are_legal_reads, are_same_numbers}
pub use Rattle.ttp_world.specs.Legal.{is_legal_message, is_legal_read, is_legal_slot, is_not_older, is_same_ring}
pub use Rattle.ttp_world.specs.Legal.{is_same_source, never_fall, read_messages}
pub use Rattle.ttp_world.specs.Medl.{IsValid, no_plan, plan_at}
pub use Rattle.ttp_world.specs.Outgoing.{message_chosen, messages_before, nothing_chosen, out_messages, zeros_of}
pub use Rattle.ttp_world.specs.Past.{NodePast, past_of, state_of}
pub use Rattle.ttp_world.specs.Script.{HostWrite, IsSource, IsValidScript, host_write, is_armed, is_on}
pub use Rattle.ttp_world.specs.Script.{messages_written, payload_of_host, reads_in, write_at, write_in, writes_in}
pub use Rattle.ttp_world.specs.Trace.{message_shown, more_write_lines, node_line_of, number_delivered, read_line}
pub use Rattle.ttp_world.specs.Trace.{slot_lines}
pub use Rattle.ttp_world.specs.Words.{payload_word, word_count, words_of_payload}
pub use Rattle.ttp_world.specs.World.{BegunSlot, Numbers, SlotNumbers, chosen_of, frames_in, hearing_in, is_loaded}
pub use Rattle.ttp_world.specs.World.{node_after, node_of, node_past, row_in, sends_payload, slot_after, world}
pub use Rattle.ttp_world.specs.declared.host_lines.HostRead.{HostRead}
pub use Rattle.ttp_world.specs.declared.medl.Medl.{Medl}
pub use Rattle.ttp_world.specs.declared.node.Chosen.{Chosen}
pub use Rattle.ttp_world.specs.declared.node.Entry.{Entry}
pub use Rattle.ttp_world.specs.declared.script.Script.{Script}
pub use Rattle.ttp_world.specs.declared.script.Source.{Source}
pub use Rattle.ttp_world.specs.declared.script.TheConstants.{EVENT_LIMIT, SLOT_LIMIT}

-- The usual steps of a lemma here, for `grind`: arithmetic, lists and tests of numbers.
pub ruleset steps = (arith, common_steps, nat_tests)
