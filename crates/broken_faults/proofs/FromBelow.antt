-- The lemmas of crates below that the proofs of this crate cite.
pub use Rattle.hypothesis.proofs.ForAbove.{first-below, first-range, none-below, same_steady, slots-all_in, slots-later}
pub use Rattle.hypothesis.proofs.ForAbove.{small-sieve}
