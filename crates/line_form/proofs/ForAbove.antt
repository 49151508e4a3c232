-- The lemmas of this crate that the proofs of crates above cite.
pub use Rattle.line_form.proofs.Closing.{ReadAs, closes_none, closes_with, closing, map_closed, read_none, read_word}
pub use Rattle.line_form.proofs.Digits.{digit-small, fold-next, within_most}
pub use Rattle.line_form.proofs.FormLaws.{no_feed, read_again, reads-found, spelled-more}
pub use Rattle.line_form.proofs.Gathered.{spelled-gathered}
pub use Rattle.line_form.proofs.KindLaws.{again}
pub use Rattle.line_form.proofs.Lists.{joined_front, one_more}
pub use Rattle.line_form.proofs.NumberWords.{same_text}
pub use Rattle.line_form.proofs.Numbers.{numeral_in-again, numeral_in-takes}
pub use Rattle.line_form.proofs.Parts.{each_fits, other_line}
pub use Rattle.line_form.proofs.Putting.{put_end, put_list, put_word, puts, putting}
pub use Rattle.line_form.proofs.ReadLaws.{takes}
pub use Rattle.line_form.proofs.Tests.{Bound, both_true, bound, is_le, is_lt}
