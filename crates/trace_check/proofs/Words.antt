-- The words of this crate's proofs, from one place.
pub use Rattle.controller.specs.Passes.{AreChosen, IsOutcomeOf}
pub use Rattle.controller.specs.PlantStands.{ShowsNode, outcome_at}
pub use Rattle.controller.specs.PlantView.{PlantView}
pub use Rattle.frame_fates.specs.Runs.{AreRuns}
pub use Rattle.trace_check.proofs.FromBelow.{AreLines, AreLines-take, lines_of-behind}
pub use Rattle.line_text.specs.Labels.{after_label}
pub use Rattle.line_text.specs.Numerals.{message_digits}
unfoldable pub use Rattle.line_text.specs.Numerals.{numeral_in}
pub use Rattle.std.proofs.Common.{Bool, Bor, IfSome, IsTrue, List, None, Option, Some, [], add-one, ap, append_assoc}
pub use Rattle.std.proofs.Common.{arith, cond, count_by, drop, false, get_or, if◌then◌else◌, inl, inr, length}
pub use Rattle.std.proofs.Common.{length-append, option_map, refl, replicate, set, subst, suc, sym, take, true, zero, ℕ}
pub use Rattle.std.proofs.Common.{◌&&◌, ◌*◌, ◌++◌, ◌+◌, ◌-◌, ◌<◌, ◌^◌, ◌∙◌, ◌∷◌, ◌≡◌, ◌≤◌}
pub use Rattle.std.proofs.Math.ListN.{get_or-append}
pub use Rattle.std.proofs.Math.Nat.{mul_comm}
pub use Rattle.std.proofs.Math.Seq.{get_or-append_seam, take-append_seam}
pub use Rattle.std.proofs.lemmas.Bool.{and_parts, cases_eq, cases_order, cond_both, eq-eqb, false≢true, le-leb, le-ltb}
pub use Rattle.std.proofs.lemmas.Bool.{leb-true, lt-ltb, ne_eqb}
pub use Rattle.std.proofs.lemmas.Grind.{reverse_onto}
pub use Rattle.std.proofs.lemmas.List.{get_or-append-add, get_or-set_other, get_or-set_same, length-map}
pub use Rattle.std.proofs.lemmas.List.{length-replicate, length-set, length-take, map-append, replicate_more}
pub use Rattle.std.proofs.lemmas.List.{take-append-drop, take_all}
pub use Rattle.std.proofs.lemmas.List.Elements.{filter_map-append}
pub use Rattle.std.proofs.lemmas.List.Folds.{concat-append}
pub use Rattle.std.proofs.lemmas.List.FromFn.{get_or-map-range_with_len, length-map-range_with_len}
pub use Rattle.std.proofs.lemmas.List.FromFn.{map-range_with_len_more}
pub use Rattle.std.proofs.lemmas.Nat.{mul-add-lt, same_from_place}
pub use Rattle.std.proofs.lemmas.Option.{get_or_from_slice_get, none-some, same_Some, slice_get-get_or}
pub use Rattle.std.proofs.lemmas.Option.{slice_get_within}
pub use Rattle.std.proofs.lemmas.Result.{IfOk-weaker}
pub use Rattle.std.specs.List.{AllByRecursion, concat, cons_option, filter_map, list_all}
pub use Rattle.std.specs.Prelude.{is_some, map, nat_le, nat_lt, reverse, slice_get, ◌==◌}
pub use Rattle.trace_check.specs.Answer.{IsFirstWrong}
pub use Rattle.trace_check.specs.Following.{BeginsWith, Departs, DepartsAfter, GoesOnTo, HasEnded, IsAmissAt, IsPast}
pub use Rattle.trace_check.specs.Following.{IsTraceAnd, KnowsReads, MayRead, MayReadAll, ReadsAmiss, ReadsNone, ReadsOn}
pub use Rattle.trace_check.specs.Following.{ReadsOne, StandsAt, FollowerStandsFor, behind_new_read, behind_read}
pub use Rattle.trace_check.specs.Following.{line_of_read, lines_of_slot, node_lines, row_after}
pub use Rattle.trace_check.specs.Incoming.{AreFloorsWithin, HasPlaces, IsNewestMessage, IsHostAndSource, TellsRings}
pub use Rattle.trace_check.specs.Incoming.{first_payloads, floor_of, floor_place, newest_before, newest_message}
pub use Rattle.ttp_world.specs.ZerosWorld.{all_zeros, zeros_chosen}
pub use Rattle.trace_check.specs.Outgoing.{Chooses, HasChosen, HoldsNewest, number_by_text, number_taken, oldest_number}
pub use Rattle.trace_check.specs.declared.follow.Follower.{Follower}
pub use Rattle.trace_check.specs.declared.incoming.Incoming.{Incoming}
pub use Rattle.trace_check.specs.declared.outgoing.Outgoing.{Outgoing}
pub use Rattle.ttp_base.proofs.Lines.{lines_of-concat}
pub use Rattle.ttp_base.specs.NodeSet.{below}
pub use Rattle.ttp_base.specs.Text.{Lines, is_line, lines_of}
pub use Rattle.ttp_world.proofs.Carried.{delivered_of-row_in, message_of-row_in}
pub use Rattle.ttp_world.proofs.HostMessages.{few_messages, some_message}
pub use Rattle.ttp_world.proofs.HostPayloads.{in_messages-some}
pub use Rattle.ttp_world.proofs.LegalNumbers.{in_messages-few, legal-AreNumbersOfAll}
pub use Rattle.ttp_world.proofs.LegalRuns.{legal-none}
pub use Rattle.ttp_world.proofs.LegalShapes.{legal-older, legal-shapes}
pub use Rattle.ttp_world.proofs.Lists.{nodes-most}
pub use Rattle.ttp_world.proofs.Rings.{newest_read}
pub use Rattle.ttp_world.proofs.TraceLines.{trace_lines-each}
pub use Rattle.ttp_world.proofs.Worlds.{length-world, row_of_world}
pub use Rattle.ttp_world.specs.Diary.{History, entry_of}
pub use Rattle.ttp_world.specs.Legal.{IsLegal, IsLegalRun, ReadMessage, is_legal_message, is_legal_read, is_not_older}
pub use Rattle.ttp_world.specs.Legal.{never_fall, read_messages}
pub use Rattle.ttp_world.specs.Medl.{IsValid}
pub use Rattle.ttp_world.specs.Messages.{delivered_of, in_messages, message_of, new_messages, newest_number}
pub use Rattle.ttp_world.specs.Messages.{ring_messages, status_messages, status_words}
pub use Rattle.ttp_world.specs.Outgoing.{message_chosen, messages_before, nothing_chosen, out_messages}
pub use Rattle.ttp_world.specs.Past.{state_of}
pub use Rattle.ttp_world.specs.Returning.{has_arm}
pub use Rattle.ttp_world.specs.Script.{HostWrite, IsValidScript, host_write, messages_written, payload_of_host}
pub use Rattle.ttp_world.specs.Script.{reads_in, write_at, writes_in}
pub use Rattle.ttp_world.specs.Trace.{back_lines_if, history_lines, member_digits, message_shown, more_write_lines}
pub use Rattle.ttp_world.specs.Trace.{node_line_of, number_delivered, read_line, read_lines, slot_lines, test_lines}
pub use Rattle.ttp_world.specs.Trace.{trace_head, trace_lines, write_lines}
pub use Rattle.ttp_world.specs.TraceNumbers.{words_of}
pub use Rattle.ttp_world.specs.World.{Numbers, SlotNumbers, chosen_of, is_loaded, node_past, row_in, slot_after, world}
pub use Rattle.ttp_world.specs.declared.host_lines.HostRead.{HostRead}
pub use Rattle.ttp_world.specs.declared.medl.Medl.{Medl}
pub use Rattle.ttp_world.specs.declared.node.Chosen.{Chosen}
pub use Rattle.ttp_world.specs.declared.node.Delivered.{Delivered}
pub use Rattle.ttp_world.specs.declared.node.Entry.{Entry}
pub use Rattle.ttp_world.specs.declared.node.NodeState.{NodeState}
pub use Rattle.ttp_world.specs.declared.node.StatusWords.{StatusWords}
pub use Rattle.ttp_world.specs.declared.script.Script.{Script}
pub use Rattle.ttp_world.specs.declared.script.Source.{Source}
