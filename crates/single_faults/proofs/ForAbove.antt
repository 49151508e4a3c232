-- The lemmas of this crate that the proofs of crates above cite.
pub use Rattle.single_faults.proofs.Stand.{faults_from-stand, faults_in-stand}
pub use Rattle.single_faults.proofs.Valid.{all-bounded, with_fault-valid}
