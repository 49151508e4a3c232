-- The lemmas of this crate that the proofs of crates above cite.
pub use Rattle.frame_fates.proofs.NamedRuns.{legal-names, named-run}
pub use Rattle.frame_fates.proofs.RunsAlike.{older, runs-clocks, runs-deliveries, runs-entries, runs-pasts}
pub use Rattle.frame_fates.proofs.RunsAlike.{runs-received}
pub use Rattle.frame_fates.proofs.Unnumbered.{entry_of-unnumbered, is_sending-unnumbered}
pub use Rattle.frame_fates.proofs.ZerosRuns.{zeros-legal}
