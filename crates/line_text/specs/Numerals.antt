-- Numbers in a line, without leading zeros.
use Rattle.std.specs.Prelude.{ℕ}
pub use Rattle.line_form.specs.Kinds.{has_leading_zero}
unfoldable pub use Rattle.line_form.specs.Kinds.{numeral_in}

-- message numbers have at most 6 digits
abbrev pub message_digits : ℕ
message_digits = 6
