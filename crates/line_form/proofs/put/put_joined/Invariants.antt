use Rattle.std.proofs.Common.{◌≡◌, ◌+◌, ◌*◌, ◌≤◌, ◌++◌, length}
use Rattle.line_form.specs.Kinds.{number}
use Rattle.line_form.proofs.Lists.{joined_front}
use Rattle.line_form.proofs.put.put_joined.Given as goal

abbrev pub invariant-loop-place : goal.invariant-loop-place
invariant-loop-place g l = record {
  text : l.line ≡ l.fn.line ++ joined_front (number 0) l.numbers l.place;
  short : length l.line ≤ length l.fn.line + 4 * l.place;
}
