-- The lemmas of crates below that the proofs of this crate cite.
pub use Rattle.controller.proofs.ForAbove.{each-of, ended-clock}
pub use Rattle.run_costs.proofs.ForAbove.{next_row, zeros-next}
