-- The lemmas of crates below that the proofs of this crate cite.
pub use Rattle.line_form.proofs.ForAbove.{joined_front, one_more, put_end, put_list, put_word, puts, putting}
pub use Rattle.margin_laws.proofs.ForAbove.{any-behind, closed-end, closed-open, counts-behind, most-behind, open-end}
pub use Rattle.margin_laws.proofs.ForAbove.{ranges-behind, spread-behind, total-behind}
