-- The lemmas of crates below that the proofs of this crate cite.
pub use Rattle.line_form.proofs.ForAbove.{reads-found, takes}
pub use Rattle.line_reader.proofs.ForAbove.{bound, line-takes}
pub use Rattle.line_text.proofs.ForAbove.{chosen, guarded, label-takes, numeral-takes, some_same}
pub use Rattle.picture_text.proofs.ForAbove.{Plain, is_special, parts, plain-apart_shown, plain-append, plain-back}
pub use Rattle.picture_text.proofs.ForAbove.{plain-back_meaning, plain-back_name, plain-class, plain-clocks}
pub use Rattle.picture_text.proofs.ForAbove.{plain-count, plain-decimal, plain-far, plain-far_shown, plain-head}
pub use Rattle.picture_text.proofs.ForAbove.{plain-hex, plain-host, plain-keep, plain-keep_meaning, plain-keep_name}
pub use Rattle.picture_text.proofs.ForAbove.{plain-letter, plain-meaning, plain-members, plain-no_members, plain-node}
pub use Rattle.picture_text.proofs.ForAbove.{plain-shown, plain-word}
pub use Rattle.whole_trace.proofs.ForAbove.{few_nodes, few_slots, slot_count}
