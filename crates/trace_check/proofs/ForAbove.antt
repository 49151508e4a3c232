-- The lemmas of this crate that the proofs of crates above cite.
pub use Rattle.trace_check.proofs.Counts.{length-legal_slot, length-read_messages, lines_in}
pub use Rattle.trace_check.proofs.Differences.{differs-none, differs_line-is_line}
pub use Rattle.trace_check.proofs.Fronts.{HaveAtMost, first_wrong-front, is_trace-front, is_trace-short}
pub use Rattle.trace_check.proofs.NodesDepart.{legal-small, line-names, node-at, taken-named}
pub use Rattle.trace_check.proofs.OwnNumbers.{IsTrace, is_trace-numbers, numbers-is_trace}
pub use Rattle.trace_check.proofs.SlotChosen.{chosen-of_hosts, chosen-sizes, taken-legal}
pub use Rattle.trace_check.proofs.SlotFollowed.{has-chosen}
pub use Rattle.trace_check.proofs.Wholes.{legal-drop, trace-cut}
pub use Rattle.trace_check.proofs.Writes.{split_at, taken}
pub use Rattle.trace_check.proofs.Written.{HasWritten, number-small, written-all, written-more, written-none}
