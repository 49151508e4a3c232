use Rattle.std.proofs.Common.{sym, ap, ◌∙◌}
use Rattle.line_reader.specs.Reading.{line_in}
use Rattle.line_reader.proofs.FromBelow.{some_same}
use Rattle.line_reader.proofs.WrittenLines.{line-again}
use Rattle.line_reader.proofs.laws.one_value.Goals as goal

pub returns : goal.returns
returns c = λ v w one other same.
    some_same v w (sym (line-again v one) ∙ ap line_in same ∙ line-again w other)
