-- The words of this crate's proofs, from one place.
pub use Rattle.two_faced.proofs.FromBelow.{never-listens, none-enters, IsUpTo, clock_at-still, frame_of, frame_of-node}
pub use Rattle.two_faced.proofs.FromBelow.{AreWithin, HaveDrifted, drift_in, product_more, product_up, clock_after}
pub use Rattle.two_faced.proofs.FromBelow.{clock_moved, sender-in}
pub use Rattle.safety_laws.specs.Fates.{Absent, Fallen, Falling, Fate, Sound, fate_of, is_good_slot, is_lost}
pub use Rattle.safety_laws.specs.Fates.{is_sound_fate, is_sound_after}
pub use Rattle.safety_laws.specs.Kept.{FollowsPlan}
pub use Rattle.safety_laws.specs.Places.{planned_place}
pub use Rattle.safety_laws.specs.Plan.{FaultPlan, sender}
pub use Rattle.hypothesis.specs.SoleStart.{sole_start}
pub use Rattle.hypothesis.specs.Standing.{told_start_if}
pub use Rattle.precision.specs.Together.{TellsOf, measured}
pub use Rattle.safety_laws.specs.NotedByPlan.{IsSoundIn, NotedInSlot}
pub use Rattle.std.proofs.Common.{Bool, FitsSigned, List, None, Option, Some, [], ap, arith, cond, false, inl, inr}
pub use Rattle.std.proofs.Common.{length, negsuc, not, of_z, pos, refl, rules, subst, suc, sym, to_z, true, w64, zero}
pub use Rattle.std.proofs.Common.{ℕ, ℤ, ◌&&◌, ◌*ℤ◌, ◌*◌, ◌++◌, ◌+ℤ◌, ◌+◌, ◌-ℤ◌, ◌-◌, ◌<◌, ◌^◌, ◌∙◌, ◌∷◌, ◌≡◌, ◌≢◌, ◌≤ℤ◌}
pub use Rattle.std.proofs.Common.{◌≤◌}
pub use Rattle.std.proofs.lemmas.Bool.{both_ways, cases_eq, ne_eqb}
pub use Rattle.std.proofs.lemmas.Int.{ints, to_z-of_z}
pub use Rattle.std.proofs.lemmas.Option.{none-some}
pub use Rattle.std.specs.Int.{int_max}
pub use Rattle.std.specs.List.{AllByRecursion, filter_map, range_with_len}
pub use Rattle.std.specs.Prelude.{IfSome, int_le, nat_lt, unsigned_abs, ◌==◌}
pub use Rattle.ttp_base.proofs.Below.{below-lt}
pub use Rattle.ttp_base.specs.NodeSet.{below, has_node}
pub use Rattle.ttp_world.proofs.LegalShapes.{legal-older}
pub use Rattle.ttp_world.proofs.Worlds.{length-world}
pub use Rattle.ttp_world.specs.Clock.{fta, notes_in}
pub use Rattle.ttp_world.specs.Diary.{History, entry_of}
pub use Rattle.ttp_world.specs.Hypothesis.{ClusterStart, drifts_hold, is_within_bound, nodes_of, start_of}
pub use Rattle.ttp_world.specs.Legal.{IsLegal}
pub use Rattle.ttp_world.specs.Medl.{IsValid, plan_at}
pub use Rattle.ttp_world.specs.Safety.{newest_slot}
pub use Rattle.ttp_world.specs.Script.{IsValidScript, drift_of, is_on, jump_of, reading_error}
pub use Rattle.ttp_world.specs.World.{Numbers, node_past, world}
pub use Rattle.ttp_world.specs.declared.medl.Medl.{Medl}
pub use Rattle.ttp_world.specs.declared.node.Entry.{Entry}
pub use Rattle.ttp_world.specs.declared.script.Script.{Script}
pub use Rattle.two_faced.specs.Errors.{HasFacedClocks, bound}
pub use Rattle.two_faced.specs.Faced.{faced_clocks_broken, errors_allowed_in, first_fault_slot, faults_broken}
pub use Rattle.two_faced.specs.Seen.{apart_after, clock_beside, greatest, least, seen_in, widest, seen_with_slot}
pub use Rattle.two_faced.specs.Spans.{IsNearSpan}
pub use Rattle.ttp_world.specs.ZerosWorld.{zeros_chosen, zeros_world}
pub use Rattle.two_faced.specs.declared.seen.Seen.{Seen}
