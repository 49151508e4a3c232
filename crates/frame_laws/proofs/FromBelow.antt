-- The lemmas of crates below that the proofs of this crate cite.
pub use Rattle.bus_frames.proofs.Acts.{ActsBy, acts-by}
pub use Rattle.bus_frames.proofs.Lists.{lines-by-nodes}
pub use Rattle.bus_frames.proofs.Sent.{frames-sent, sends, sends-by, silent-by}
pub use Rattle.bus_frames.proofs.States.{members-nodes, state_after}
pub use Rattle.bus_frames.proofs.Told.{loaded-by, long-payload, size-plan, state-by}
pub use Rattle.controller.proofs.ForAbove.{sends-own}
pub use Rattle.frame_fates.proofs.ForAbove.{legal-names}
pub use Rattle.line_form.proofs.ForAbove.{both_true, is_le, is_lt, read_again}
pub use Rattle.ttp_frame.proofs.ForAbove.{fits-frame, length-cstate_bytes}
