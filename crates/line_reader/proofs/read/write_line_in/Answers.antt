use Rattle.std.proofs.Common.{refl, rules}
use Rattle.line_reader.proofs.FromBelow.{closes_with, closing}
use Rattle.line_reader.specs.Reading.{write_line_in}
use Rattle.line_reader.specs.TraceForms.{write_form, write_meaning}
use Rattle.line_reader.proofs.read.write_line_in.Goals as goal

pub returns : goal.returns
unfolding write_line_in
returns c =
    closes_with write_form write_meaning c.args.bytes.now _
    (c.number-slot.result, (c.byte-host.result, (c.number-number.result, tt))) _ c.close.result
    c.close.ensures refl (search (closing, rules) depth 40 fits 100000)
