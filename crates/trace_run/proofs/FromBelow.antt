-- The lemmas of crates below that the proofs of this crate cite.
pub use Rattle.controller.proofs.ForAbove.{chosen-step}
pub use Rattle.trace_check.proofs.ForAbove.{HasWritten, IsTrace, chosen-of_hosts, chosen-sizes, has-chosen}
pub use Rattle.trace_check.proofs.ForAbove.{is_trace-numbers, legal-drop, legal-small, length-legal_slot, line-names}
pub use Rattle.trace_check.proofs.ForAbove.{lines_in, node-at, number-small, split_at, taken, taken-legal, taken-named}
pub use Rattle.trace_check.proofs.ForAbove.{trace-cut, written-all, written-more, written-none}
