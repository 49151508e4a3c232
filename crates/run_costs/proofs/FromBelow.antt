-- The lemmas of crates below that the proofs of this crate cite.
pub use Rattle.controller.proofs.ForAbove.{agree-more, node_past-same, step-same}
