-- The lemmas of crates below that the proofs of this crate cite.
pub use Rattle.line_form.proofs.ForAbove.{Bound, ReadAs, both_true, bound, closes_none, closes_with, closing, each_fits}
pub use Rattle.line_form.proofs.ForAbove.{is_le, is_lt, map_closed, no_feed, other_line, read_again, read_none}
pub use Rattle.line_form.proofs.ForAbove.{read_word, reads-found, spelled-gathered}
pub use Rattle.line_text.proofs.ForAbove.{eight_bytes, guarded, some_same}
