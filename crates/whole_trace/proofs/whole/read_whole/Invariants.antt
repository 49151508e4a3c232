use Rattle.std.proofs.Common.{◌≡◌, ◌+◌, ◌≤◌, length}
use Rattle.std.specs.Prelude.{IsTrue}
use Rattle.ttp_base.specs.Text.{lines_of}
use Rattle.whole_trace.specs.declared.due.Due.TheVariants as due
use Rattle.whole_trace.specs.Steps.{has_head}
use Rattle.whole_trace.specs.Whole.{judged}
use Rattle.whole_trace.proofs.Judging.{behind_lines}
use Rattle.whole_trace.proofs.whole.read_whole.Given as goal

-- what is judged of the text is what is judged of its rest, so many lines later
abbrev pub invariant-loop-alike : goal.invariant-loop-alike
invariant-loop-alike l = record {
  judged : judged due.First (lines_of l.text) ≡ behind_lines l.passed (judged l.at.due (lines_of l.at.rest.now));
  head : IsTrue (has_head l.at.due);
  few : l.passed + length l.at.rest.now ≤ length l.text;
}

abbrev pub decreases-loop-alike : goal.decreases-loop-alike
decreases-loop-alike l = length l.at.rest.now
