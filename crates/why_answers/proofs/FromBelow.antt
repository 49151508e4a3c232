-- The lemmas of crates below that the proofs of this crate cite.
pub use Rattle.entry_causes.proofs.Past.{entry_at_spot-before, slots_before-past, slots_to-past}
pub use Rattle.entry_causes.proofs.Walks.{root-none}
pub use Rattle.entry_causes.proofs.WhoSends.{remaining-slot_in}
pub use Rattle.frame_fates.proofs.ForAbove.{entry_of-unnumbered, older, runs-entries, zeros-legal}
pub use Rattle.reduced_runs.proofs.Valid.{with_faults_at-valid}
pub use Rattle.run_rows.proofs.ForAbove.{entry-at, length-past_slots_in, past_slots_in-next, past_slots_in-suc}
pub use Rattle.run_rows.proofs.ForAbove.{past_slots_in-zero, slot_in-number}
pub use Rattle.why_lines.proofs.Whole.{if_ok-equal}
pub use Rattle.why_story.proofs.Slots.{length-run, slots_up_to-all, slots_up_to-none, spots_back-next}
pub use Rattle.why_story.proofs.Steps.{kept-no, kept-yes, reached-no, reached-yes}
pub use Rattle.why_story.proofs.Within.{AreToldPart, IsPart, kept-part, reached-part, root-part}
