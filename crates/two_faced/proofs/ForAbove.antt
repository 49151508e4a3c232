-- The lemmas of this crate that the proofs of crates above cite.
pub use Rattle.two_faced.proofs.Judged.{runs-active, runs-clocks, runs-judged, runs-members}
pub use Rattle.two_faced.proofs.Rules.{rules-hold}
pub use Rattle.two_faced.proofs.SeenWithin.{runs-seen}
