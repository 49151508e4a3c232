-- The lemmas of crates below that the proofs of this crate cite.
pub use Rattle.fault_runs.proofs.ForAbove.{joined, listed-step}
