-- The lemmas of this crate that the proofs of crates above cite.
pub use Rattle.medl_text.proofs.Counts.{length-tables_of}
pub use Rattle.medl_text.proofs.Lines.{slot_table-each}
pub use Rattle.medl_text.proofs.Valid.{medl_of-valid}
