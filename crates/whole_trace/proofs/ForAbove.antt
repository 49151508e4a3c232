-- The lemmas of this crate that the proofs of crates above cite.
pub use Rattle.whole_trace.proofs.Heads.{few_nodes, few_slots}
pub use Rattle.whole_trace.proofs.Pieces.{value-again}
pub use Rattle.whole_trace.proofs.SlotCounts.{slot_count}
pub use Rattle.whole_trace.proofs.Texts.{cut-front}
