-- The lemmas of this crate that the proofs of crates above cite.
pub use Rattle.safety_laws.proofs.Among.{not-settled}
pub use Rattle.safety_laws.proofs.BeganTogether.{counted-run, number-of}
pub use Rattle.safety_laws.proofs.Begins.{waiting-unleft}
pub use Rattle.safety_laws.proofs.Counts.{four-measured}
pub use Rattle.safety_laws.proofs.CoursePlans.{due-ever, on-always}
pub use Rattle.safety_laws.proofs.FateSteps.{next-same, sound-fate}
pub use Rattle.safety_laws.proofs.FateTells.{fate-told}
pub use Rattle.safety_laws.proofs.FaultySets.{lost-begin, sound-begin}
pub use Rattle.safety_laws.proofs.Idle.{act-off}
pub use Rattle.safety_laws.proofs.Kept.{kept-alike, kept-clocks, kept-deviations, kept-safe, kept-stands_alike}
pub use Rattle.safety_laws.proofs.KeptPlan.{kept-plan}
pub use Rattle.safety_laws.proofs.Members.{first-sender}
pub use Rattle.safety_laws.proofs.NearNotes.{clock-next, clock_moved, drift-moves, index-of, notes-next}
pub use Rattle.safety_laws.proofs.NodeSlots.{node_past-step}
pub use Rattle.safety_laws.proofs.PlanBounds.{both-hold, wide}
pub use Rattle.safety_laws.proofs.Returned.{returned-safe}
pub use Rattle.safety_laws.proofs.Returns.{never-listens, none-among, none-armed, none-enters}
pub use Rattle.safety_laws.proofs.ReturnsByPlan.{returned-by_plan}
pub use Rattle.safety_laws.proofs.RoundNotes.{Counted, none-silent, place-slot, sender-in, sound-goes}
pub use Rattle.safety_laws.proofs.Sieves.{none-found}
pub use Rattle.safety_laws.proofs.StartSlot.{first_due}
pub use Rattle.safety_laws.proofs.Together.{KeepsClocks, run-by_plan}
pub use Rattle.safety_laws.proofs.Waiting.{WaitAll, WaitAll-world}
