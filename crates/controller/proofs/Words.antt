-- The words of this crate's proofs, from one place.
pub use Rattle.controller.specs.ControllerView.{Begun, ControllerView, Ended, Planned, Turn}
pub use Rattle.controller.specs.Ending.{EndsAs}
pub use Rattle.controller.specs.Hearing.{ForSignals, IsFormOf, IsJudgement, IsSeen, ReadingFits, Receives, awaited_by}
pub use Rattle.controller.specs.Hearing.{awaited_meant, deviation_by, hearing_of, is_silent_arrival}
pub use Rattle.controller.specs.Kept.{kept}
pub use Rattle.controller.specs.KnownFrame.{BytesAre, IsKnownOf, IsSameState, KnownView, found_by}
pub use Rattle.controller.specs.Limits.{ArrivalFits, IsBegun, IsPlanned, JumpFits, StaysNear, intent_by, loaded_length}
pub use Rattle.controller.specs.Limits.{message_carried, most_clock, offset_of_arrival, turn_intent, turn_jump}
pub use Rattle.controller.specs.Limits.{view_clock, view_intent}
pub use Rattle.controller.specs.Passes.{AreChosen, AreLeft, ArePayloadsFor, BeginsSlot, CarriesFrames, EndsSlot}
pub use Rattle.controller.specs.Passes.{HasBegun, HasPlanned, HaveBegun, HaveEnded, IsFromClocks, IsOutcomeOf}
pub use Rattle.controller.specs.Passes.{IsPayloadBefore, IsPayloadFor, IsPlannedFrom, PlansIn, SendsOne, StandsAfter}
pub use Rattle.controller.specs.Passes.{StandsForNode, frames_by, intent_before, jump_begun, payload_handed}
pub use Rattle.controller.specs.PlantWithin.{AreSeats, IsControllerOf, IsEnded, IsFromWithin, IsIncidentsOf, most_ahead}
pub use Rattle.controller.specs.PlantWithin.{most_ahead_in, most_error, most_jump}
pub use Rattle.controller.specs.Within.{AreChangesWithin, IsAckWithin, IsCStateWithin, IsEntryWithin, IsJudgedWithin}
pub use Rattle.controller.specs.Within.{IsNearEnough, IsPastWithin, slots_to_own}
pub use Rattle.controller.specs.declared.controller.Intent.{Intent}
pub use Rattle.controller.specs.declared.controller.Outcome.{Outcome}
pub use Rattle.controller.specs.declared.seat.Seat.{Seat}
pub use Rattle.node_parts.specs.Notes.{IsDeviation, kept_notes}
pub use Rattle.medium.specs.Carried.{Carried}
pub use Rattle.medium.specs.Shows.{IsPartOf, Shows}
pub use Rattle.medium.specs.declared.arrival.Arrival.{Arrival}
pub use Rattle.std.proofs.Common.{Bool, FitsSigned, IfSome, IsTrue, List, None, Option, Some, [], add-le-add, add-one}
pub use Rattle.std.proofs.Common.{ap, arith, below_more, cond, false, get_or, inl, inr, is_some, le_trans, length, lit≤}
pub use Rattle.std.proofs.Common.{max, min, neg_ℤ, not, of_z, pos, refl, replicate, rules, set, subst, suc, sym, take}
pub use Rattle.std.proofs.Common.{to_z, true, unsigned_abs, unwrap_or, w64, zero, ℕ, ℤ, ⊎_elim, ◌%◌, ◌&&◌, ◌*◌, ◌++◌}
pub use Rattle.std.proofs.Common.{◌+ℤ◌, ◌+◌, ◌-ℤ◌, ◌-◌, ◌<◌, ◌^◌, ◌∙◌, ◌∷◌, ◌≡◌, ◌≢◌, ◌≤ℤ◌, ◌≤◌, ◌⊎◌}
pub use Rattle.std.proofs.Math.Bool.{or-false}
pub use Rattle.std.proofs.lemmas.Bool.{and_parts, cases_lt, cond_both, eqb-false, eqb-true, ltb-true, ne_eqb}
pub use Rattle.std.proofs.lemmas.Bool.Decides.{nat_tests}
pub use Rattle.std.proofs.lemmas.Int.{fits_signed_from_abs, ints, to_z-of_z}
pub use Rattle.std.proofs.lemmas.List.{append-nil, get_or_read, length-map, length-set, length-take, length_push}
pub use Rattle.std.proofs.lemmas.List.{map-append, replicate_more, same_lists, take-take, with_items_is}
pub use Rattle.std.proofs.lemmas.List.Elements.{All-cons, All-get_or, All-nil, All-take}
pub use Rattle.std.proofs.lemmas.Option.{get_or_from_slice_get, none-some, same_Some, slice_get-get_or, slice_get_read}
pub use Rattle.std.proofs.lemmas.Option.{slice_get_within}
pub use Rattle.std.specs.Borrow.{Bor}
pub use Rattle.std.specs.Int.{bit_at}
pub use Rattle.std.specs.List.{flat_map, list_all}
pub use Rattle.std.specs.Option.{option_map_or, option_or, option_to_list}
pub use Rattle.std.specs.Prelude.{All, if◌then◌else◌, nat_le, nat_lt, slice_get, ◌==◌}
pub use Rattle.ttp_world.proofs.Averages.{fta-between, fta-take}
pub use Rattle.ttp_world.proofs.ListFacts.{IfSome-cond, slice_get-set_same}
pub use Rattle.ttp_world.proofs.Lists.{IsPlaceOf, IsPlaceOf-next, node_limit-most, nodes-most}
pub use Rattle.ttp_world.proofs.MemberSets.{members_after-Judged, members_after-Sent, members_after-Started}
pub use Rattle.ttp_world.proofs.SmallTests.{near_of_test, span-abs}
pub use Rattle.ttp_world.proofs.WorldFacts.{AreNodes-filter, AreNodes-nil, first_of_correct}
pub use Rattle.ttp_world.specs.Acknowledgement.{is_correct, is_open}
pub use Rattle.ttp_world.specs.Act.{act, coming_place, is_start_due, own_act, phase_act, unacknowledged_act}
pub use Rattle.ttp_world.specs.After.{ack_answered, correction_after, is_active_entry, members_after, notes_after}
pub use Rattle.ttp_world.specs.After.{past_after, place_after, silent_slots_after}
pub use Rattle.ttp_world.specs.Clock.{begins_round, is_corrected, join_deviation, notes_in, slot_change}
pub use Rattle.ttp_world.specs.Conduct.{carries_payload, channel_join, delivery, join_entry, judging_entry}
pub use Rattle.ttp_world.specs.Conduct.{listening_entry, new_entry, node_frames, payload_taken, verdict_entry}
pub use Rattle.ttp_world.specs.Diary.{Diary, History, Place, SlotSurroundings, Surroundings, cstate_at, diary_of}
pub use Rattle.ttp_world.specs.Diary.{entry_of, joined_place, may_follow, next_place, phase_after}
pub use Rattle.ttp_world.specs.Fitting.{carried, is_formed, is_joinable_state, joinable, payload_in}
pub use Rattle.ttp_world.specs.Medium.{Bits, Signal, Silence, heard, is_silence, surroundings_in, surroundings_of}
pub use Rattle.ttp_world.specs.Medl.{IsValid, is_bare, is_wide, kind_at, may_start, member_bytes, member_width}
pub use Rattle.ttp_world.specs.Medl.{node_limit, payload_length, plan_at}
pub use Rattle.ttp_world.specs.Membership.{AreNodes}
pub use Rattle.ttp_world.specs.Messages.{flag, status_words}
pub use Rattle.ttp_world.specs.Outgoing.{nothing_chosen}
pub use Rattle.ttp_world.specs.Past.{NodePast, limit_of, past_of, state_of}
pub use Rattle.ttp_world.specs.Script.{AreBounded, IsWithinSpan, drift_of, is_armed, is_on, jump_of, reading_error}
pub use Rattle.ttp_world.specs.World.{BegunNode, BegunSlot, chosen_of, frames_in, frames_of, hearing_in, is_loaded}
pub use Rattle.ttp_world.specs.World.{jump_taken, node_of, row_in, sends_payload, slot_after}
pub use Rattle.ttp_world.specs.declared.medl.Medl.{Medl}
pub use Rattle.ttp_world.specs.declared.node.Ack.{Ack}
pub use Rattle.ttp_world.specs.declared.node.Act.{Act}
pub use Rattle.ttp_world.specs.declared.node.Act.TheVariants.{Gone, Judge, Leave, Listen, Off, Retry, Send, Start}
pub use Rattle.ttp_world.specs.declared.node.CState.{CState}
pub use Rattle.ttp_world.specs.declared.node.ChannelView.{ChannelView}
pub use Rattle.ttp_world.specs.declared.node.Chosen.{Chosen}
pub use Rattle.ttp_world.specs.declared.node.Delivered.{Delivered}
pub use Rattle.ttp_world.specs.declared.node.Entry.{Entry}
pub use Rattle.ttp_world.specs.declared.node.Phase.{Phase}
pub use Rattle.ttp_world.specs.declared.node.Verdict.{Verdict}
pub use Rattle.ttp_world.specs.declared.script.Channel.{Channel}
pub use Rattle.ttp_world.specs.declared.script.Script.{Script}
pub use Rattle.ttp_world.specs.declared.script.TheConstants.{DRIFT_LIMIT, SLOT_LIMIT}
