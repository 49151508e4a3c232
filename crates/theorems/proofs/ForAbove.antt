-- The lemmas of this crate that the proofs of crates above cite.
pub use Rattle.theorems.proofs.HostEvents.{host_events-most, host_events-next}
pub use Rattle.theorems.proofs.ModeTexts.{mode-text}
pub use Rattle.theorems.proofs.Runs.{back-run, faced-run, kept-run, some-run}
pub use Rattle.theorems.proofs.SmallStates.{small_states}
pub use Rattle.theorems.proofs.TraceLength.{trace-short}
