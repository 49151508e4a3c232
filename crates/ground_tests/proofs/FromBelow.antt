-- The lemmas of crates below that the proofs of this crate cite.
pub use Rattle.controller.proofs.ForAbove.{chosen-step, each-back, each-front, each-joined, is-step, nothing-chosen}
