-- The lemmas of this crate that the proofs of crates above cite.
pub use Rattle.broken_faults.proofs.Newest.{all-append}
pub use Rattle.broken_faults.proofs.Over.{before-split, faults_from, nothing-found, or-some}
pub use Rattle.broken_faults.proofs.Pairs.{first-small, without-first}
