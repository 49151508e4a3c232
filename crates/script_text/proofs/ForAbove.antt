-- The lemmas of this crate that the proofs of crates above cite.
pub use Rattle.script_text.proofs.Cuts.{lines_of-cut, lines_of-empty, lines_of-rest, words_of-empty, words_of-front}
pub use Rattle.script_text.proofs.Cuts.{words_of-whole}
pub use Rattle.script_text.proofs.Kept.{count_none, count_one, form_faults-no_slots, form_faults-stated}
pub use Rattle.script_text.proofs.Kept.{form_faults-word}
pub use Rattle.script_text.proofs.RightFiles.{line_right, script_of-valid}
pub use Rattle.script_text.proofs.Sizes.{size-lines_of, size_of, with_end}
pub use Rattle.script_text.proofs.Valid.{AreValid, AreValid-none}
