-- The lemmas of crates below that the proofs of this crate cite.
pub use Rattle.frame_fates.proofs.ForAbove.{older, runs-clocks, zeros-legal}
pub use Rattle.hypothesis.proofs.ForAbove.{first-below, lesser_of, none-below, range-next}
pub use Rattle.node_parts.proofs.ForAbove.{pull}
pub use Rattle.precision.proofs.ForAbove.{AreWithin, HaveDrifted, IsUpTo, begun_active, begun_round_first, clock_after}
pub use Rattle.precision.proofs.ForAbove.{clock_at-still, corrected_inside, corrected_last, correction, drift_in}
pub use Rattle.precision.proofs.ForAbove.{early_or_late, few_or_many, frame_of, frame_of-node, fta-few, notes_anew}
pub use Rattle.precision.proofs.ForAbove.{offset_corrected, product_more, product_once, product_up, product_upto}
pub use Rattle.precision.proofs.ForAbove.{round_notes, share_limits, wider_of, within_bound}
pub use Rattle.safety_laws.proofs.ForAbove.{Counted, KeepsClocks, both-hold, clock-next, clock_moved, counted-run}
pub use Rattle.safety_laws.proofs.ForAbove.{drift-moves, due-ever, fate-told, first-sender, four-measured, index-of}
pub use Rattle.safety_laws.proofs.ForAbove.{lost-begin, never-listens, next-same, none-among, none-armed, none-enters}
pub use Rattle.safety_laws.proofs.ForAbove.{none-found, none-silent, notes-next, number-of, on-always, place-slot}
pub use Rattle.safety_laws.proofs.ForAbove.{run-by_plan, sender-in, sound-begin, sound-fate, sound-goes, wide}
