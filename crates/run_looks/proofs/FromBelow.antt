-- The lemmas of crates below that the proofs of this crate cite.
pub use Rattle.run_rows.proofs.ForAbove.{length-past_slots_in, past_slots_in-down, past_slots_in-zero, slot_in-number}
