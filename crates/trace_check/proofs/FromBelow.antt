-- The lemmas of crates below that the proofs of this crate cite.
pub use Rattle.controller.proofs.ForAbove.{chosen-step}
pub use Rattle.frame_fates.proofs.ForAbove.{legal-names, named-run, runs-deliveries, runs-pasts, runs-received}
pub use Rattle.line_text.proofs.ForAbove.{AreLines, AreLines-take, concat-lines_of, label-again, label-takes}
pub use Rattle.line_text.proofs.ForAbove.{lines_of-behind, numeral-again, state_of-digits}
