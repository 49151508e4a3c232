-- The words of this crate's proofs, from one place.
unfoldable pub use Rattle.script_gen.specs.Draws.{drawn}
pub use Rattle.script_gen.specs.Generator.{all_events, both_channels, drift_by, error_by, error_events, fault_by}
pub use Rattle.script_gen.specs.Generator.{fault_events, fault_slot_of, fault_within, start_slot_of, first_starter}
pub use Rattle.script_gen.specs.Generator.{has_payload, host_events, host_events_in, most_faults, reads_by}
unfoldable pub use Rattle.script_gen.specs.Generator.{generated}
pub use Rattle.script_gen.specs.Generator.{spread_over, starter_of, write_by}
pub use Rattle.std.proofs.Common.{Bool, List, None, Option, Some, [], add-one, ap, arith, cond, false, get_or, inl, inr}
pub use Rattle.std.proofs.Common.{length, length-append, map, mod-lt, neg_ℤ, not, pos, refl, replicate, rules, subst}
pub use Rattle.std.proofs.Common.{suc, sym, true, unwrap_or, zero, ℕ, ℤ, ◌%◌, ◌&&◌, ◌*◌, ◌++◌, ◌+◌, ◌-◌, ◌/◌, ◌<◌, ◌||◌}
pub use Rattle.std.proofs.Common.{◌∙◌, ◌∷◌, ◌≡◌, ◌≢◌, ◌≤ℤ◌, ◌≤◌}
pub use Rattle.std.proofs.Math.Nat.{mul-le-mul_right}
pub use Rattle.std.proofs.lemmas.Bool.{and_parts, and_right, cases_eq, cases_lt, eq-eqb, false≢true, le-leb, le-ltb}
pub use Rattle.std.proofs.lemmas.Bool.{leb-true, lt-ltb, ne_eqb}
pub use Rattle.std.proofs.lemmas.Int.{ints}
pub use Rattle.std.proofs.lemmas.List.{append-nil}
pub use Rattle.std.proofs.lemmas.List.Elements.{filter_map-append}
pub use Rattle.std.proofs.lemmas.List.Folds.{list_any-append}
pub use Rattle.std.proofs.lemmas.Option.{unwrap_or-slice_get}
pub use Rattle.std.specs.List.{AllByRecursion, cons_option, filter, filter_map, find, flat_map, list_any}
pub use Rattle.std.specs.List.{range_with_len}
pub use Rattle.std.specs.Prelude.{All, count_by, is_some, nat_le, nat_lt, slice_get, ◌==◌}
pub use Rattle.ttp_base.proofs.Below.{all-below, map-next, map_each-below}
pub use Rattle.ttp_base.proofs.NodeSets.{same_sieve}
pub use Rattle.ttp_base.specs.NodeSet.{below, has_node}
pub use Rattle.ttp_world.proofs.LineLists.{each-append}
pub use Rattle.ttp_world.specs.Events.{IsBounded, covers}
pub use Rattle.ttp_world.specs.Hypothesis.{FaultyNode, breaks_in, faulty_nodes_before, keeps, least_of, loses, nodes_of}
pub use Rattle.ttp_world.specs.Hypothesis.{numbers_of}
pub use Rattle.ttp_world.specs.Medl.{IsValid, may_start, no_plan, plan_at}
pub use Rattle.ttp_world.specs.Script.{IsValidScript, is_ever_on, is_on}
pub use Rattle.ttp_world.specs.declared.medl.Medl.{Medl}
pub use Rattle.ttp_world.specs.declared.script.Event.{Event}
pub use Rattle.ttp_world.specs.declared.script.Script.{Script}
pub use Rattle.ttp_world.specs.declared.script.TheConstants.{EVENT_LIMIT}
