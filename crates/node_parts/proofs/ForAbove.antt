-- The lemmas of this crate that the proofs of crates above cite.
pub use Rattle.node_parts.proofs.Pull.{pull}
pub use Rattle.node_parts.proofs.Rounding.{half_about}
pub use Rattle.node_parts.proofs.Sorted.{AreBelow, AreBelow-sorted, le_trans, length-sorted}
