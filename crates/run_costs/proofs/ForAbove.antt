-- The lemmas of this crate that the proofs of crates above cite.
pub use Rattle.run_costs.proofs.Distinct.{bytes_eq-sym, two-others}
pub use Rattle.run_costs.proofs.Later.{later-begins, zeros-longer}
pub use Rattle.run_costs.proofs.LaterFaults.{faulty_by_test-longer}
pub use Rattle.run_costs.proofs.LeftNodes.{nodes-left}
pub use Rattle.run_costs.proofs.Nodes.{filter_map_agree-below}
pub use Rattle.run_costs.proofs.Rows.{next_row, zeros-next}
