-- The lemmas of crates below that the proofs of this crate cite.
pub use Rattle.frame_fates.proofs.ForAbove.{entry_of-unnumbered, older, runs-entries, runs-pasts, zeros-legal}
pub use Rattle.safety_laws.proofs.ForAbove.{WaitAll, WaitAll-world, act-off, first_due, kept-plan, kept-safe}
pub use Rattle.safety_laws.proofs.ForAbove.{node_past-step, not-settled, returned-by_plan, returned-safe}
pub use Rattle.safety_laws.proofs.ForAbove.{waiting-unleft}
pub use Rattle.single_faults.proofs.ForAbove.{faults_from-stand, with_fault-valid}
