-- The lemmas of crates below that the proofs of this crate cite.
pub use Rattle.medium.proofs.Headers.{header_stays}
pub use Rattle.ttp_frame.proofs.ForAbove.{AreAlike, AreAlike-flipped, AreBytes, is_formed-alike, joinable-alike}
pub use Rattle.ttp_frame.proofs.ForAbove.{length-frame, length-xor_bytes, match_of-alike}
