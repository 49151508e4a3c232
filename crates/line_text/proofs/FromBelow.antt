-- The lemmas of crates below that the proofs of this crate cite.
pub use Rattle.line_form.proofs.ForAbove.{digit-small, fold-next, numeral_in-again, numeral_in-takes, within_most}
