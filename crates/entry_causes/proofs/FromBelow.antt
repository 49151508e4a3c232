-- The lemmas of crates below that the proofs of this crate cite.
pub use Rattle.controller.proofs.ForAbove.{HaveRooms, candidates-room, with_node-room}
pub use Rattle.medium.proofs.Channels.{is_among-where}
pub use Rattle.run_costs.proofs.ForAbove.{next_row}
pub use Rattle.run_rows.proofs.ForAbove.{length-past_slots_in, past_slots_in-down, past_slots_in-next}
pub use Rattle.run_rows.proofs.ForAbove.{past_slots_in-suc, past_slots_in-zero, place-of_list, slot_in-list}
pub use Rattle.run_rows.proofs.ForAbove.{slot_in-number, slot_in-script}
pub use Rattle.ttp_frame.proofs.ForAbove.{Invalid-formed, Match-fits}
