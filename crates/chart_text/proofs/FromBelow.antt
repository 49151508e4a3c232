-- The lemmas of crates below that the proofs of this crate cite.
pub use Rattle.picture_text.proofs.ForAbove.{end_failed, end_ok, found_at, found_nowhere, one_more}
pub use Rattle.whole_campaign.proofs.Rooms.{one-small}
