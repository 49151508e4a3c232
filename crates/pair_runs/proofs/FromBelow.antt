-- The lemmas of crates below that the proofs of this crate cite.
pub use Rattle.fault_runs.proofs.ForAbove.{cost-ordered, err-cut, err-fewer, err-weaker, fewer-after, fewer-more}
pub use Rattle.fault_runs.proofs.ForAbove.{fewer-none, front-none, in_order-sieve, leaves-after, leaves-more}
pub use Rattle.fault_runs.proofs.ForAbove.{more-is_fewer, ok-always, ok-weaker, shown-row, tried-few}
pub use Rattle.run_costs.proofs.ForAbove.{nodes-left}
pub use Rattle.single_faults.proofs.ForAbove.{faults_in-stand}
