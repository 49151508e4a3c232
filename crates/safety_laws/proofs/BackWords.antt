-- The words of this crate's proofs, from one place.
pub use Rattle.safety_laws.proofs.FateSteps.{sound-fate, strikes}
pub use Rattle.safety_laws.proofs.PlanHearing.{IsClear, clear-loses, incident-made, made-was}
pub use Rattle.safety_laws.proofs.PlanHearing.{on-ever, on-now, sender-less}
pub use Rattle.safety_laws.proofs.PlanHearing.{sender-same}
pub use Rattle.safety_laws.proofs.Incidents.{incident-slot, incident_made, strikes-slot}
pub use Rattle.safety_laws.proofs.Returns.{any-of}
pub use Rattle.safety_laws.proofs.Sieves.{none-found}
pub use Rattle.safety_laws.proofs.Spaced.{all_in}
pub use Rattle.safety_laws.specs.Fates.{Absent, Fate, Listening, Sound, fate_at_begin, fate_of, is_good_slot}
pub use Rattle.safety_laws.specs.Fates.{is_sound_after, lost_since, next_fate}
pub use Rattle.safety_laws.specs.Kept.{IsWithinBounds}
pub use Rattle.safety_laws.specs.Plan.{Incident, FaultPlan, Return, enters, incident_at, is_armed_by, is_armed_there}
pub use Rattle.safety_laws.specs.Plan.{sender}
pub use Rattle.safety_laws.specs.BackPlan.{ReturnsByPlan, back_plan_of, entry_slot}
pub use Rattle.std.proofs.Common.{Bool, List, None, Option, Some, [], ap, arith, cond, false, inl, inr, length, not}
pub use Rattle.std.proofs.Common.{refl, subst, suc, sym, true, zero, ℕ, ℤ, ◌&&◌, ◌*◌, ◌++◌, ◌+◌, ◌-◌, ◌<◌, ◌||◌, ◌∙◌}
pub use Rattle.std.proofs.Common.{◌∷◌, ◌≡◌, ◌≢◌, ◌≤◌, ◌⊎◌}
pub use Rattle.std.proofs.lemmas.Bool.{and_from, and_parts, and_right, both_ways, cases_eq, cases_lt, eq-eqb, eqb-false}
pub use Rattle.std.proofs.lemmas.Bool.{eqb-true, false_from_ne_true, leb-true, lt-ltb, ltb-true, ne_eqb, not-false}
pub use Rattle.std.proofs.lemmas.Bool.{not-true, not_from_false, or_cases, or_from, or_left, or_parts, or_right}
pub use Rattle.std.proofs.lemmas.Option.{none-some}
pub use Rattle.std.specs.List.{AllByRecursion, Contains, filter, filter_map, list_any, range_with_len}
pub use Rattle.std.specs.Prelude.{find, min, nat_le, ◌==◌}
pub use Rattle.ttp_base.proofs.NodeSets.{has_node-sieve}
pub use Rattle.ttp_base.specs.NodeSet.{below, has_node}
pub use Rattle.ttp_world.specs.Hypothesis.{ClusterStart, FaultyNode, clocks_broken, expected_sender, is_steady, loses}
pub use Rattle.ttp_world.specs.Hypothesis.{numbers_of, start_of}
pub use Rattle.ttp_world.specs.Medl.{IsValid}
pub use Rattle.ttp_world.specs.Returning.{back_window_broken, breaks_arm_in, disturbance_broken, faulty_at}
pub use Rattle.ttp_world.specs.Returning.{faulty_since, four_rounds, has_four_before, is_arm_line, is_forgiven}
pub use Rattle.ttp_world.specs.Returning.{is_line_of, joinings, offers_place, returns, slots_before, two_rounds}
pub use Rattle.ttp_world.specs.Script.{IsValidScript, arms, flipped_bits, has_jump, has_receive_fault, has_send_fault}
pub use Rattle.ttp_world.specs.Script.{is_armed, is_ever_on, is_on}
pub use Rattle.ttp_world.specs.declared.medl.Medl.{Medl}
pub use Rattle.ttp_world.specs.declared.script.Channel.{Channel}
pub use Rattle.ttp_world.specs.declared.script.Event.{Event}
pub use Rattle.ttp_world.specs.declared.script.Fault.{Fault}
pub use Rattle.ttp_world.specs.declared.script.Script.{Script}
