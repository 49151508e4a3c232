use Rattle.std.proofs.Common.{refl, rules}
use Rattle.line_reader.proofs.FromBelow.{closes_with, closing}
use Rattle.line_reader.specs.Reading.{owed_in}
use Rattle.line_reader.specs.TraceForms.{owed_form, owed_meaning}
use Rattle.line_reader.proofs.read.owed_in.Goals as goal

pub returns : goal.returns
unfolding owed_in
returns c =
    closes_with owed_form owed_meaning c.args.bytes.now _
    (c.number-start.result, tt) _ c.close.result
    c.close.ensures refl (search (closing, rules) depth 40 fits 100000)
