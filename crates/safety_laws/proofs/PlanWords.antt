-- The words of this crate's proofs, from one place.
pub use Rattle.safety_laws.specs.Fates.{Absent, Fallen, Falling, Fate, Listening, Sound, fate_at_begin, fate_of}
pub use Rattle.safety_laws.specs.Fates.{is_first_slot, is_good_slot, is_lasting_after, is_lost, is_shown_in}
pub use Rattle.safety_laws.specs.Fates.{is_sound_fate, is_sound_after, is_steady_after, lost_since, may_stay, next_fate}
pub use Rattle.safety_laws.specs.Fates.{steady_nodes, struck, tally, turned}
pub use Rattle.safety_laws.specs.GoodPlan.{IsGoodPlan}
pub use Rattle.safety_laws.specs.Kept.{FollowsPlan, IsHeardByPlan, IsWithinBounds}
pub use Rattle.safety_laws.specs.Ledger.{ledger_of, opened, with_slot}
pub use Rattle.safety_laws.specs.Plan.{Change, Incident, Jumping, FaultPlan, Receiving, Return, Sending, enters}
pub use Rattle.safety_laws.specs.Plan.{incident_at, is_armed_by, fault_plan_of, planned_incident, sender}
pub use Rattle.safety_laws.specs.Told.{IsLedgerOf, IsLossOf, IsTold}
pub use Rattle.std.proofs.Common.{Bool, List, None, Option, Some, [], ap, arith, cond, false, inl, inr, length, map}
pub use Rattle.std.proofs.Common.{mod-lt, not, refl, subst, suc, sym, true, zero, ℕ, ◌%◌, ◌&&◌, ◌*◌, ◌++◌, ◌+◌, ◌-◌}
pub use Rattle.std.proofs.Common.{◌/◌, ◌<◌, ◌||◌, ◌∙◌, ◌∷◌, ◌≡◌, ◌≢◌, ◌≤◌, ◌⊎◌}
pub use Rattle.std.proofs.Math.Nat.{eq-or-lt_of_le, mod-add-div', mod-eq_of_lt}
pub use Rattle.std.proofs.lemmas.Bool.{and_from, and_parts, both_ways, cases_eq, cases_lt, eq-eqb, eqb-false, eqb-true}
pub use Rattle.std.proofs.lemmas.Bool.{false_from_ne_true, le-leb, le-ltb, leb-true, lt-ltb, ltb-true, ne_eqb}
pub use Rattle.std.proofs.lemmas.Bool.{not-false, not-true, not_from_false, or_cases, or_parts}
pub use Rattle.std.proofs.lemmas.Nat.{mod-mul-add}
pub use Rattle.std.proofs.lemmas.Option.{none-some, same_Some}
pub use Rattle.std.specs.List.{AllByRecursion, Contains, filter, list_any}
pub use Rattle.std.specs.Prelude.{if◌then◌else◌, is_some, nat_lt, ◌==◌}
pub use Rattle.ttp_base.proofs.NodeSets.{has_node-sieve, same_sieve}
pub use Rattle.ttp_base.specs.NodeSet.{below, has_node}
pub use Rattle.ttp_world.proofs.Filters.{each-sieve}
pub use Rattle.ttp_world.proofs.SmallTests.{and-true}
pub use Rattle.ttp_world.proofs.WorldFacts.{has_node-append}
pub use Rattle.ttp_world.specs.Hypothesis.{Breaks, ClusterStart, FaultyNode, Harmless, Loss, Makes, clocks_broken}
pub use Rattle.ttp_world.specs.Hypothesis.{expected_sender, faulty_nodes_before, has_four_steady, is_breaking, is_other}
pub use Rattle.ttp_world.specs.Hypothesis.{jumpers_in, keeps, loses, loss_in, nodes_made, numbers_of, others_in}
pub use Rattle.ttp_world.specs.Hypothesis.{outside_broken, sender_loss, start_of, window_broken}
pub use Rattle.ttp_world.specs.Medl.{IsValid, plan_at}
pub use Rattle.ttp_world.specs.Returning.{two_rounds}
pub use Rattle.ttp_world.specs.Script.{flipped_bits, has_jump, is_ever_on, is_on, on_slot}
pub use Rattle.ttp_world.specs.declared.medl.Medl.{Medl}
pub use Rattle.ttp_world.specs.declared.script.Channel.{Channel}
pub use Rattle.ttp_world.specs.declared.script.Script.{Script}
