-- The lemmas of crates below that the proofs of this crate cite.
pub use Rattle.script_gen.proofs.Valid.{all-valid}
pub use Rattle.script_text.proofs.ForAbove.{count_none, count_one, lines_of-cut, lines_of-empty, words_of-empty}
pub use Rattle.script_text.proofs.ForAbove.{words_of-front, words_of-whole}
