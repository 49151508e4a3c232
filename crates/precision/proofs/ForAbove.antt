-- The lemmas of this crate that the proofs of crates above cite.
pub use Rattle.precision.proofs.Averages.{AreNear, IsUpTo, fta-few, fta-near}
pub use Rattle.precision.proofs.ClockBounds.{drift_within, error_within, within_bound}
pub use Rattle.precision.proofs.Entries.{begun_active, begun_round_first, clock_at-still, continued_active}
pub use Rattle.precision.proofs.Entries.{first_slot_first, later_slot_later, notes_anew, notes_more, notes_of-active}
pub use Rattle.precision.proofs.Entries.{offset_corrected, place_continued, place_of-active}
pub use Rattle.precision.proofs.Frames.{begun_place, frame_of, frame_of-node, joins_nothing, told_goes}
pub use Rattle.precision.proofs.Limits.{needed_window, share_limits}
pub use Rattle.precision.proofs.Rounds.{AreWithin, HaveDrifted, corrected_inside, corrected_last, correction, drift_in}
pub use Rattle.precision.proofs.Rounds.{early_or_late, few_or_many, product_four, product_more, product_once}
pub use Rattle.precision.proofs.Rounds.{product_up, product_upto, wider_of}
pub use Rattle.precision.proofs.Runs.{clock_after, company_clocks, company_deviations, round_notes, settled_clocks}
pub use Rattle.precision.proofs.Runs.{settled_deviations}
