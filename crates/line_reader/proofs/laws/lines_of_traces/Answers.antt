use Rattle.std.proofs.Common.{refl}
use Rattle.line_reader.proofs.LineValues.{node-value, status-value, keep-value, back-value}
use Rattle.line_reader.proofs.laws.lines_of_traces.Goals as goal

pub returns : goal.returns
returns c = record {
  head = λ list script. refl;
  node = node-value;
  write = λ slot host number. refl;
  status = status-value;
  read = λ slot host p number payload. refl;
  keep = keep-value;
  back = back-value;
}
