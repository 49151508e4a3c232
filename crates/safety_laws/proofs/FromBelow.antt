-- The lemmas of crates below that the proofs of this crate cite.
pub use Rattle.node_parts.proofs.ForAbove.{le_trans}
pub use Rattle.precision.proofs.ForAbove.{AreNear, IsUpTo, begun_place, clock_after, clock_at-still, company_clocks}
pub use Rattle.precision.proofs.ForAbove.{company_deviations, continued_active, correction, drift_in, drift_within}
pub use Rattle.precision.proofs.ForAbove.{error_within, first_slot_first, frame_of, frame_of-node, fta-near}
pub use Rattle.precision.proofs.ForAbove.{joins_nothing, later_slot_later, needed_window, notes_anew, notes_more}
pub use Rattle.precision.proofs.ForAbove.{notes_of-active, offset_corrected, place_continued, place_of-active}
pub use Rattle.precision.proofs.ForAbove.{product_four, product_more, product_once, product_up, product_upto}
pub use Rattle.precision.proofs.ForAbove.{round_notes, settled_clocks, settled_deviations, told_goes, wider_of}
pub use Rattle.ttp_frame.proofs.ForAbove.{FitsBytes, HavePlaces-AreNodes, carried-frame, fits-same_place}
pub use Rattle.ttp_frame.proofs.ForAbove.{is_formed-frame, is_formed-other, joinable-implicit, payload_in-frame}
