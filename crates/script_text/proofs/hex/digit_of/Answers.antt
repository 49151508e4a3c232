use Rattle.script_text.proofs.HexDigits.{get_or-DIGITS}
use Rattle.script_text.proofs.hex.digit_of.Goals as goal

pub returns : goal.returns
returns c = get_or-DIGITS c.args.byte c.ranges.byte.fits
