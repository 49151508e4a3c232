use Rattle.std.proofs.Common.{refl, rules}
use Rattle.line_reader.proofs.FromBelow.{closes_with, closing}
use Rattle.line_reader.specs.Reading.{broken_in}
use Rattle.line_reader.specs.TraceForms.{broken_form, broken_meaning}
use Rattle.line_reader.proofs.read.broken_in.Goals as goal

pub returns : goal.returns
unfolding broken_in
returns c =
    closes_with broken_form broken_meaning c.args.bytes.now _
    (c.byte-rule.result, (c.number-slot.result, tt)) _ c.close.result
    c.close.ensures refl (search (closing, rules) depth 40 fits 100000)
