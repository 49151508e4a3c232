-- Where a chain of readings gives a value.
pub use Rattle.line_reader.proofs.FromBelow.{Bound, bound}
