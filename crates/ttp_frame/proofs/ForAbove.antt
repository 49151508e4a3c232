-- The lemmas of this crate that the proofs of crates above cite.
pub use Rattle.ttp_frame.proofs.FlippedFrames.{AreAlike, AreAlike-flipped, is_formed-alike, joinable-alike}
pub use Rattle.ttp_frame.proofs.FlippedFrames.{joinable-implicit, match_of-alike}
pub use Rattle.ttp_frame.proofs.Flips.{AreBytes, length-xor_bytes}
pub use Rattle.ttp_frame.proofs.FrameLaws.{Invalid-formed, Match-fits}
pub use Rattle.ttp_frame.proofs.Frames.{length-cstate_bytes, length-frame}
pub use Rattle.ttp_frame.proofs.Undisturbed.{FitsBytes, HavePlaces-AreNodes, carried-frame, fits-frame, fits-same_place}
pub use Rattle.ttp_frame.proofs.Undisturbed.{is_formed-frame, is_formed-other, payload_in-frame}
