-- The lemmas of crates below that the proofs of this crate cite.
pub use Rattle.script_text.proofs.ForAbove.{form_faults-no_slots, form_faults-stated, form_faults-word, lines_of-cut}
pub use Rattle.script_text.proofs.ForAbove.{lines_of-rest, words_of-empty, words_of-front, words_of-whole}
