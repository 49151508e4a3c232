-- The words of this crate's proofs, from one place.
pub use Rattle.safety_laws.proofs.Counts.{four-measured}
pub use Rattle.safety_laws.proofs.FateSteps.{next-entered, sound-fate, sound-from, strikes}
pub use Rattle.safety_laws.proofs.FateTells.{fate-told, loss-sending, one-stays}
pub use Rattle.safety_laws.proofs.KeptPlan.{kept-plan}
pub use Rattle.safety_laws.proofs.Ledgers.{ledger-told}
pub use Rattle.safety_laws.proofs.Members.{fallen-member, sender-lost}
pub use Rattle.safety_laws.proofs.Persists.{absent-always}
pub use Rattle.safety_laws.proofs.Places.{place-sender}
pub use Rattle.safety_laws.proofs.Returns.{armed-lost, enters-by, entry-from, entry-good, entry-is, none-enters}
pub use Rattle.safety_laws.proofs.SlotKinds.{sender-stays}
pub use Rattle.safety_laws.proofs.Turns.{turns_apart}
pub use Rattle.safety_laws.specs.Fates.{Absent, Fallen, Falling, Fate, Listening, Sound, fate_of, is_absent}
pub use Rattle.safety_laws.specs.Fates.{is_first_slot, is_good_slot, is_lost, is_measured}
pub use Rattle.safety_laws.specs.Fates.{is_sound_fate, is_sound_after}
pub use Rattle.safety_laws.specs.Fates.{lost_since, may_stay, struck, tally, turned}
pub use Rattle.safety_laws.specs.GoodPlan.{IsGoodPlan}
pub use Rattle.safety_laws.specs.Kept.{FollowsPlan, FollowsWithin, KeepsByPlan}
pub use Rattle.safety_laws.specs.Ledger.{Ledger, ledger_of, opened, planned_members, with_slot}
pub use Rattle.safety_laws.specs.Places.{planned_place}
pub use Rattle.safety_laws.specs.Plan.{Change, Incident, Jumping, FaultPlan, Receiving, Return, Sending, enters}
pub use Rattle.safety_laws.specs.Plan.{incident_at, is_armed_by, fault_plan_of, sender}
pub use Rattle.safety_laws.specs.Told.{IsFalling, IsLossOf, IsTold}
pub use Rattle.safety_laws.proofs.FromBelow.{AreNear, IsUpTo, drift_within, error_within, clock_at-still}
pub use Rattle.safety_laws.proofs.FromBelow.{continued_active, first_slot_first, later_slot_later, notes_anew}
pub use Rattle.safety_laws.proofs.FromBelow.{notes_more, place_continued, frame_of, frame_of-node, correction, drift_in}
pub use Rattle.safety_laws.proofs.FromBelow.{product_up, clock_after, round_notes, HavePlaces-AreNodes, is_formed-frame}
pub use Rattle.precision.specs.Spread.{spread}
pub use Rattle.precision.specs.Together.{BeganTogether, BeginsOn, IsIn, TellsOf, clock_at, measured}
pub use Rattle.safety_laws.specs.ByFate.{IsByFate, IsCounted, IsFallenAt, IsFallingAt, IsListeningAt, IsSoundAt, doubts}
pub use Rattle.safety_laws.specs.ByFate.{is_there}
pub use Rattle.safety_laws.specs.ByPlan.{IsByPlan}
pub use Rattle.safety_laws.specs.Deliveries.{delivery_at, payload_of_frame}
pub use Rattle.safety_laws.specs.Entries.{IsNewestEntry, NoneEnters}
pub use Rattle.safety_laws.specs.Gone.{FaultyLeave}
pub use Rattle.safety_laws.specs.Groups.{HasThird, HearsNoAnswer, HoldsGroup, IsNotAbout, IsUnanswered, Lacks, NoFrame}
pub use Rattle.safety_laws.specs.Groups.{Outside, held_with}
pub use Rattle.safety_laws.specs.Heard.{HearsFrame, HearsNoFrame, HearsSilence, OnA, OnB, OnBoth, is_frameless}
pub use Rattle.safety_laws.specs.Jumps.{HasJumped}
pub use Rattle.safety_laws.specs.Listening.{HearsNoPlace, HearsPlace, ListensInSlot}
pub use Rattle.safety_laws.specs.NodeSlot.{NodeSlot, act_made, candidates_of, entry_made, frames_made, next_past}
pub use Rattle.safety_laws.specs.NodeSlot.{node_slot, owner_of}
pub use Rattle.safety_laws.specs.NotedByPlan.{GoesOnByPlan, IsSoundIn, IsTight, NotedByPlan, NotedInSlot, NotesNothing}
pub use Rattle.safety_laws.specs.NotedByPlan.{StartedByPlan}
pub use Rattle.safety_laws.specs.PlanTurn.{HoldsAfter, IsTurn}
pub use Rattle.safety_laws.specs.PlannedRun.{IsBegunAlone, StandsWithFaults}
pub use Rattle.safety_laws.specs.SameFrames.{AcceptsAlikeSince, StandsAlikeSince, message_given}
pub use Rattle.safety_laws.specs.Senders.{NoneSends, SendsAlone}
pub use Rattle.safety_laws.specs.SlotFrames.{AreCandidates, IsSlotFrame, is_second, slot_frame, view_of_members}
pub use Rattle.safety_laws.specs.Standing.{HasJustLeft, HasWaited, IsJudgedAs, StandsBy, joined_on, joined_standing}
pub use Rattle.safety_laws.specs.Standing.{sent_standing}
pub use Rattle.safety_laws.specs.Start.{IsStartHeard, Waits, joined_on_start, slots_on, slots_since, starter_standing}
pub use Rattle.safety_laws.specs.Start.{waiting_phase}
pub use Rattle.safety_laws.specs.Turns.{HasPayload, HearsMembers, HearsOutside, IsAboutListed, IsAtOwnSlot, IsJudging}
pub use Rattle.safety_laws.specs.WorkedSlots.{at, faultless, four_kinds, first_frame_lost}
pub use Rattle.std.proofs.Common.{Bool, IfSome, IsTrue, List, None, Option, Some, [], ap, arith, cond, false, get_or}
pub use Rattle.std.proofs.Common.{inl, inr, length, mod-lt, neg_ℤ, not, option_map, pos, refl, subst, suc, sym, true}
pub use Rattle.std.proofs.Common.{unwrap_or, zero, ℕ, ℤ, ◌&&◌, ◌*ℤ◌, ◌*◌, ◌++◌, ◌+ℤ◌, ◌+◌, ◌-ℤ◌, ◌-◌, ◌<◌, ◌||◌, ◌∙◌}
pub use Rattle.std.proofs.Common.{◌∷◌, ◌≡◌, ◌≢◌, ◌≤ℤ◌, ◌≤◌, ◌⊎◌}
pub use Rattle.std.proofs.Math.Bool.{or-true}
pub use Rattle.std.proofs.Math.ListN.{get_or-map}
pub use Rattle.std.proofs.lemmas.Bool.{and_from, and_parts, and_right, both_ways, cases_eq, cases_lt, cond_both, eq-eqb}
pub use Rattle.std.proofs.lemmas.Bool.{eqb-true, false_from_ne_true, false≢true, le-leb, leb-true, lt-leb, lt-ltb}
pub use Rattle.std.proofs.lemmas.Bool.{ne_eqb, not_from_false, or_right}
pub use Rattle.std.proofs.lemmas.Int.{ints}
pub use Rattle.std.proofs.lemmas.List.{append-nil}
pub use Rattle.std.proofs.lemmas.List.Elements.{All-append, All-nil}
pub use Rattle.std.proofs.lemmas.List.FromFn.{get_or-map-range_with_len}
pub use Rattle.std.proofs.lemmas.Option.{same_Some}
pub use Rattle.std.proofs.lemmas.Slice.Eq.{bytes_eq-Decides}
pub use Rattle.std.specs.List.{AllByRecursion, list_all, list_any, range_with_len}
pub use Rattle.std.specs.Option.{option_to_list}
pub use Rattle.std.specs.Prelude.{All, if◌then◌else◌, int_le, nat_le, nat_lt, ◌==◌}
pub use Rattle.std.specs.Str.{bytes_eq}
pub use Rattle.ttp_base.proofs.Below.{below-lt}
pub use Rattle.ttp_base.proofs.NodeLists.{with_node-nil}
pub use Rattle.ttp_base.specs.NodeSet.{below, has_node, most_nodes, without_node}
unfoldable pub use Rattle.ttp_base.specs.NodeSet.{members_in, with_node}
pub use Rattle.ttp_world.proofs.Filters.{each-filter}
pub use Rattle.ttp_world.proofs.LegalShapes.{legal-older, legal-shapes}
pub use Rattle.ttp_world.proofs.Lists.{nodes-most}
pub use Rattle.ttp_world.proofs.Slots.{node_of-slot_after}
pub use Rattle.ttp_world.proofs.WorldFacts.{AreNodes-filter}
pub use Rattle.ttp_world.proofs.Worlds.{coming_place-world, length-world, row_of_world}
pub use Rattle.ttp_world.specs.Acknowledgement.{is_correct, is_doubt, is_open}
pub use Rattle.ttp_world.specs.Act.{act, own_act, phase_act}
pub use Rattle.ttp_world.specs.After.{ack_answered, judged_members, past_after, settled_members}
pub use Rattle.ttp_world.specs.BackSafety.{has_left_since_arm, has_sent_in_stint, has_sent_since_begin, is_left_after}
pub use Rattle.ttp_world.specs.Clock.{notes_in, stint_notes}
pub use Rattle.ttp_world.specs.Conduct.{carries_payload, cold_start_cstate, cold_start_frame, delivery, judging_entry}
pub use Rattle.ttp_world.specs.Conduct.{listening_entry, message_sent, new_entry, node_frames, own_frame, payload_taken}
pub use Rattle.ttp_world.specs.Conduct.{verdict_entry}
pub use Rattle.ttp_world.specs.Diary.{Diary, History, Place, SlotSurroundings, begins_stint, continues_stint, cstate_at}
pub use Rattle.ttp_world.specs.Diary.{diary_of, entry_of, is_active, is_active_phase, next_place, phase_after, place_of}
pub use Rattle.ttp_world.specs.Diary.{start_place, stint_place, time_limit}
pub use Rattle.ttp_world.specs.Frame.{cold_start_header, frame, header_of, is_explicit}
pub use Rattle.ttp_world.specs.Hypothesis.{ClusterStart, FaultyNode, drift_share, is_correct_after, loses, needed}
pub use Rattle.ttp_world.specs.Hypothesis.{nodes_of, start_slot}
pub use Rattle.ttp_world.specs.Legal.{IsLegal}
pub use Rattle.ttp_world.specs.Medium.{Bits, Noise, SentFrame, Signal, Silence, is_sending, surroundings_in}
pub use Rattle.ttp_world.specs.Medium.{surroundings_of}
pub use Rattle.ttp_world.specs.Medl.{IsValid, is_wide, kind_at, may_start, member_width, plan_at}
pub use Rattle.ttp_world.specs.Membership.{AreNodes, is_accepted}
pub use Rattle.ttp_world.specs.Messages.{delivered_of, is_left_phase, message_of, new_messages}
pub use Rattle.ttp_world.specs.Outgoing.{message_chosen, nothing_chosen}
pub use Rattle.ttp_world.specs.Past.{NodePast}
pub use Rattle.ttp_world.specs.Reception.{Candidates, Expected, Hearing, candidates, expected_header, expected_length}
pub use Rattle.ttp_world.specs.Reception.{expected_of, fits_members, fits_second, is_expected_form, is_within_window}
pub use Rattle.ttp_world.specs.Reception.{verdict_of_view, view_of, view_of_bits}
pub use Rattle.ttp_world.specs.Safety.{IsSafe, are_same_members, has_ever_sent, has_left, is_in_among, is_out_among}
pub use Rattle.ttp_world.specs.Safety.{is_settled, newest_slot}
pub use Rattle.ttp_world.specs.Script.{IsValidScript, drift_of, flipped_bits, is_armed, is_on, jump_of, on_slot}
pub use Rattle.ttp_world.specs.Script.{reading_error}
pub use Rattle.ttp_world.specs.World.{BegunNode, BegunSlot, Numbers, SlotNumbers, chosen_of, deviation_in, frames_in}
pub use Rattle.ttp_world.specs.World.{frames_of, hearing_in, messages_chosen, node_past, row_in, slot_after, step}
pub use Rattle.ttp_world.specs.World.{world}
pub use Rattle.ttp_world.specs.declared.medl.Kind.{Kind}
pub use Rattle.ttp_world.specs.declared.medl.Medl.{Medl}
pub use Rattle.ttp_world.specs.declared.node.Ack.{Ack}
pub use Rattle.ttp_world.specs.declared.node.Act.{Act}
pub use Rattle.ttp_world.specs.declared.node.Act.TheVariants.{Gone, Judge, Leave, Listen, Off, Retry, Send, Start}
pub use Rattle.ttp_world.specs.declared.node.CState.{CState}
pub use Rattle.ttp_world.specs.declared.node.ChannelView.{ChannelView}
pub use Rattle.ttp_world.specs.declared.node.Chosen.{Chosen}
pub use Rattle.ttp_world.specs.declared.node.Entry.{Entry}
pub use Rattle.ttp_world.specs.declared.node.Phase.{Phase}
pub use Rattle.ttp_world.specs.declared.node.Verdict.{Verdict}
pub use Rattle.ttp_world.specs.declared.script.Script.{Script}
