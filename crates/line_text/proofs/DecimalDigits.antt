-- The number that decimal digits write, one digit after another.
pub use Rattle.line_text.proofs.FromBelow.{fold-next, digit-small, within_most}
