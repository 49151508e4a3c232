-- The lemmas of crates below that the proofs of this crate cite.
pub use Rattle.line_text.proofs.ForAbove.{guarded, some_same}
