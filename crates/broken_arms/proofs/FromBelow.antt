-- The lemmas of crates below that the proofs of this crate cite.
pub use Rattle.broken_faults.proofs.ForAbove.{all-append, before-split, faults_from, nothing-found, or-some}
pub use Rattle.hypothesis.proofs.ForAbove.{first-below, none-below, nothing}
