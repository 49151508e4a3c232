-- The lemmas of this crate that the proofs of crates above cite.
pub use Rattle.line_text.proofs.Cuts.{AreLines, AreLines-take, concat-lines_of, first_line, lines_of-behind}
pub use Rattle.line_text.proofs.DecimalDigits.{digit-small, fold-next, within_most}
pub use Rattle.line_text.proofs.FirstLines.{IsCut, cut-None, cut-Some}
pub use Rattle.line_text.proofs.LabelTexts.{label-again, label-takes}
pub use Rattle.line_text.proofs.MemberDigits.{state_of-digits}
pub use Rattle.line_text.proofs.Options.{chosen, guarded, some_same}
pub use Rattle.line_text.proofs.PayloadWords.{eight_bytes, words_tell}
pub use Rattle.line_text.proofs.WrittenNumbers.{numeral-again, numeral-takes}
