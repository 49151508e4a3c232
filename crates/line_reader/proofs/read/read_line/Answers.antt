use Rattle.std.proofs.Common.{ap, ◌∙◌}
use Rattle.line_reader.specs.Reading.{line_in}
use Rattle.line_reader.proofs.ReadLines.{read_is_line}
use Rattle.line_reader.proofs.WrittenLines.{line-again}
use Rattle.line_reader.proofs.read.read_line.Goals as goal

pub returns-clause-found : goal.returns-clause-found
returns-clause-found c = read_is_line c.args.bytes.now c.line_in.result c.line_in.ensures

pub returns-clause-only : goal.returns-clause-only
returns-clause-only c = λ v fits same. c.line_in.ensures ∙ ap line_in same ∙ line-again v fits
