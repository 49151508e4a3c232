-- The lemmas of this crate that the proofs of crates above cite.
pub use Rattle.picture_text.proofs.Ending.{end_failed, end_ok}
pub use Rattle.picture_text.proofs.PlainTexts.{Plain, is_special, parts, plain-apart_shown, plain-append, plain-back}
pub use Rattle.picture_text.proofs.PlainTexts.{plain-back_meaning, plain-back_name, plain-class, plain-clocks}
pub use Rattle.picture_text.proofs.PlainTexts.{plain-count, plain-decimal, plain-far, plain-far_shown, plain-head}
pub use Rattle.picture_text.proofs.PlainTexts.{plain-hex, plain-host, plain-keep, plain-keep_meaning, plain-keep_name}
pub use Rattle.picture_text.proofs.PlainTexts.{plain-letter, plain-meaning, plain-members, plain-no_members, plain-node}
pub use Rattle.picture_text.proofs.PlainTexts.{plain-shown, plain-word}
pub use Rattle.picture_text.proofs.Rows.{one_more}
pub use Rattle.picture_text.proofs.Sought.{found_at, found_nowhere}
