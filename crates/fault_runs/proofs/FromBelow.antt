-- The lemmas of crates below that the proofs of this crate cite.
pub use Rattle.controller.proofs.ForAbove.{armed-same, error-same, heard-same, jump-same, surroundings_in-same}
pub use Rattle.run_costs.proofs.ForAbove.{filter_map_agree-below, next_row, two-others, zeros-longer, zeros-next}
pub use Rattle.single_faults.proofs.ForAbove.{faults_in-stand}
