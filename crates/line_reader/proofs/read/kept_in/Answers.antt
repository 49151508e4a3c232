use Rattle.std.proofs.Common.{refl, rules}
use Rattle.line_reader.proofs.FromBelow.{closes_with, closing}
use Rattle.line_reader.specs.Reading.{kept_in}
use Rattle.line_reader.specs.TraceForms.{kept_form, kept_meaning}
use Rattle.line_reader.proofs.read.kept_in.Goals as goal

pub returns : goal.returns
unfolding kept_in
returns c =
    closes_with kept_form kept_meaning c.args.bytes.now _
    (c.number-start.result, tt) _ c.close.result
    c.close.ensures refl (search (closing, rules) depth 40 fits 100000)
