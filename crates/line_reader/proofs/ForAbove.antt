-- The lemmas of this crate that the proofs of crates above cite.
pub use Rattle.line_reader.proofs.LineValues.{back-value, keep-value, node-value, status-value}
pub use Rattle.line_reader.proofs.Options.{bound}
pub use Rattle.line_reader.proofs.ReadLines.{line-takes}
pub use Rattle.line_reader.proofs.ValueLaws.{offset-small}
pub use Rattle.line_reader.proofs.WrittenLines.{fed-is_line, line-again}
