-- The lemmas of this crate that the proofs of crates above cite.
pub use Rattle.hypothesis.proofs.FaultSlots.{slots-all_in, slots-later}
pub use Rattle.hypothesis.proofs.Firsts.{nothing}
pub use Rattle.hypothesis.proofs.Least.{least-next, lesser_of, range-next, with_found}
pub use Rattle.hypothesis.proofs.Ranges.{first-below, first-range, none-below, small-sieve}
pub use Rattle.hypothesis.proofs.SlotSteps.{same_steady}
