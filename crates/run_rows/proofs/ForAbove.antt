-- The lemmas of this crate that the proofs of crates above cite.
pub use Rattle.run_rows.proofs.Filled.{entry-at}
pub use Rattle.run_rows.proofs.OneMore.{place-of_list}
pub use Rattle.run_rows.proofs.Slots.{length-past_slots_in, past_slots_in-down, past_slots_in-next, past_slots_in-suc}
pub use Rattle.run_rows.proofs.Slots.{past_slots_in-zero, slot_in-list, slot_in-number, slot_in-script}
