-- The lemmas of crates below that the proofs of this crate cite.
pub use Rattle.line_form.proofs.ForAbove.{Bound, ReadAs, bound, closing, map_closed, read_none, read_word}
pub use Rattle.line_text.proofs.ForAbove.{concat-lines_of, guarded, some_same}
pub use Rattle.whole_trace.proofs.ForAbove.{cut-front}
