-- The lemmas of this crate that the proofs of crates above cite.
pub use Rattle.fault_runs.proofs.Endings.{err-cut, err-fewer, fewer-after, fewer-more, fewer-none, front-none}
pub use Rattle.fault_runs.proofs.Endings.{leaves-after, leaves-more, more-is_fewer}
pub use Rattle.fault_runs.proofs.Listing.{joined, listed-step}
pub use Rattle.fault_runs.proofs.Orders.{cost-ordered, in_order-sieve}
pub use Rattle.fault_runs.proofs.Ranges.{flat_map-filter, shown-row, tried-few}
pub use Rattle.fault_runs.proofs.Results.{err-weaker, ok-always, ok-weaker}
