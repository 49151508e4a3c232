-- The words of this crate's proofs, from one place.
pub use Rattle.hypothesis.specs.Errors.{errors_hold_within, is_error}
pub use Rattle.hypothesis.specs.FaultySlots.{AreNewest}
pub use Rattle.hypothesis.specs.Jumps.{AreFirstJumps, is_jump_within}
pub use Rattle.hypothesis.specs.SlotIncidents.{AreKeptFrom, IsOfKinds, may_lose}
pub use Rattle.hypothesis.specs.Standing.{HaveSameNodes, told_loss, told_start}
pub use Rattle.hypothesis.specs.Walks.{AreFaultsIn, Course, HasWalked, all_in, back_course, earliest_after}
pub use Rattle.hypothesis.specs.Walks.{fault_slots_before, has_four_in, joined_in, keep_course, lacks_four_in}
pub use Rattle.std.proofs.Common.{Bool, FitsSigned, List, None, Option, Some, [], ap, arith, below_more, cond, drop}
pub use Rattle.std.proofs.Common.{false, get_or, inl, inr, is_some, length, map, max, min, nat_eq, nat_le, not, of_z}
pub use Rattle.std.proofs.Common.{pos, refl, replicate, reverse, rules, set, subst, suc, sym, take, to_z, true, w64}
pub use Rattle.std.proofs.Common.{zero, ℕ, ℤ, ◌%◌, ◌&&◌, ◌*◌, ◌++◌, ◌+◌, ◌-◌, ◌<◌, ◌||◌, ◌∙◌, ◌∷◌, ◌≡◌, ◌≢◌, ◌≤ℤ◌, ◌≤◌}
pub use Rattle.std.proofs.Common.{◌⊎◌}
pub use Rattle.std.proofs.Math.Bool.{and-false, or-true}
pub use Rattle.std.proofs.lemmas.Bool.{cases_eq, cases_lt, cond_both, eqb-true, le-ltb, lt-ltb, ne_eqb}
pub use Rattle.std.proofs.lemmas.Bool.Decides.{nat_tests}
pub use Rattle.std.proofs.lemmas.Int.{to_z-of_z}
pub use Rattle.std.proofs.lemmas.List.{get_or-set_other, get_or-set_same, length-append, length-set}
pub use Rattle.std.proofs.lemmas.List.FromFn.{length-range_with_len}
pub use Rattle.std.specs.List.{filter_map, list_any, range_with_len}
pub use Rattle.std.specs.Option.{option_or}
pub use Rattle.std.specs.Prelude.{IfSome, if◌then◌else◌, nat_lt, ◌==◌}
pub use Rattle.ttp_base.proofs.Below.{all-below}
pub use Rattle.ttp_base.proofs.NodeLists.{filter-next, with_node-next}
pub use Rattle.ttp_base.proofs.NodeSets.{and-true, filter-filter, same_sieve}
pub use Rattle.ttp_base.specs.NodeSet.{below, has_node, most_nodes, with_node}
pub use Rattle.ttp_world.proofs.Lists.{nodes-most}
pub use Rattle.ttp_world.proofs.RangeFacts.{none-passes}
pub use Rattle.ttp_world.specs.Hypothesis.{ClusterStart, FaultyNode, Harmless, drifts_hold, errors_hold_in}
pub use Rattle.ttp_world.specs.Hypothesis.{expected_sender, faulty_nodes_before, first_too_early, is_allowed_jump}
pub use Rattle.ttp_world.specs.Hypothesis.{is_breaking, is_jump_before, is_other, is_steady, is_within_bound}
pub use Rattle.ttp_world.specs.Hypothesis.{jumpers_in, jumps_now, least_of, lesser, loses, loss_in, nodes_made}
pub use Rattle.ttp_world.specs.Hypothesis.{nodes_of, numbers_of, others_in, outside_broken, outside_slot, start_slot}
pub use Rattle.ttp_world.specs.Hypothesis.{starts_in}
pub use Rattle.ttp_world.specs.Medl.{IsValid}
pub use Rattle.ttp_world.specs.Returning.{breaks_arm_in, disturbance_broken, disturbed_slot, fails_if_armed, faulty_at}
pub use Rattle.ttp_world.specs.Returning.{faulty_since, faulty_then, four_rounds, is_apart, is_deaf, is_long_faulty}
pub use Rattle.ttp_world.specs.Returning.{is_missed_in, is_near_fault, offers_place, slots_before}
pub use Rattle.ttp_world.specs.Script.{drift_of, has_jump, incidents_of, is_armed, is_ever_on, is_on, jump_in, jump_of}
pub use Rattle.ttp_world.specs.Script.{reading_error}
pub use Rattle.ttp_world.specs.declared.events.Incidents.{Incidents}
pub use Rattle.ttp_world.specs.declared.medl.Medl.{Medl}
pub use Rattle.ttp_world.specs.declared.script.Event.{Event}
pub use Rattle.ttp_world.specs.declared.script.Script.{Script}
pub use Rattle.ttp_world.specs.declared.script.TheConstants.{SLOT_LIMIT}
