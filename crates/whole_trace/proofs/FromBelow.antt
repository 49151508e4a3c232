-- The lemmas of crates below that the proofs of this crate cite.
pub use Rattle.line_form.proofs.ForAbove.{takes}
pub use Rattle.line_reader.proofs.ForAbove.{fed-is_line, line-again, line-takes, offset-small}
pub use Rattle.line_text.proofs.ForAbove.{IsCut, concat-lines_of, cut-None, cut-Some, first_line, guarded, label-again}
pub use Rattle.line_text.proofs.ForAbove.{label-takes, lines_of-behind, some_same}
