-- A number that is written is read as that number, and the other way round.
pub use Rattle.line_text.proofs.FromBelow.{numeral_in-again as numeral-again, numeral_in-takes as numeral-takes}
