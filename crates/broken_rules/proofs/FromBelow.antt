-- The lemmas of crates below that the proofs of this crate cite.
pub use Rattle.broken_arms.proofs.ArmSlots.{found-passes}
pub use Rattle.broken_faults.proofs.ForAbove.{first-small, nothing-found, without-first}
pub use Rattle.hypothesis.proofs.ForAbove.{first-below, least-next, lesser_of, none-below, with_found}
