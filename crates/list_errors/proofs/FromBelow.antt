-- The lemmas of crates below that the proofs of this crate cite.
pub use Rattle.medl_text.proofs.ForAbove.{length-tables_of}
