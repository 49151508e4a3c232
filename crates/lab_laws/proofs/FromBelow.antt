-- The lemmas of crates below that the proofs of this crate cite.
pub use Rattle.line_form.proofs.ForAbove.{again, no_feed, read_again, spelled-gathered}
pub use Rattle.line_reader.proofs.ForAbove.{back-value, keep-value, line-again, node-value, status-value}
pub use Rattle.line_text.proofs.ForAbove.{guarded, label-again, numeral-again}
pub use Rattle.run_costs.proofs.ForAbove.{bytes_eq-sym}
pub use Rattle.theorems.proofs.ForAbove.{host_events-most, host_events-next, small_states}
pub use Rattle.whole_trace.proofs.ForAbove.{value-again}
