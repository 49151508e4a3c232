-- The lemmas of crates below that the proofs of this crate cite.
pub use Rattle.fault_runs.proofs.ForAbove.{err-weaker, fewer-after, fewer-more, flat_map-filter, in_order-sieve}
pub use Rattle.fault_runs.proofs.ForAbove.{leaves-after, leaves-more, more-is_fewer, ok-weaker, shown-row}
pub use Rattle.margin_laws.proofs.ForAbove.{closed-more, closed-open, values-parts}
pub use Rattle.run_costs.proofs.ForAbove.{faulty_by_test-longer, later-begins, next_row, nodes-left, zeros-longer}
pub use Rattle.run_costs.proofs.ForAbove.{zeros-next}
pub use Rattle.single_faults.proofs.ForAbove.{all-bounded}
