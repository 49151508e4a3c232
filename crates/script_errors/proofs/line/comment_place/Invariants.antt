use Rattle.script_errors.proofs.Comments.{AreBefore}
use Rattle.script_errors.proofs.line.comment_place.Given as goal

abbrev pub invariant-loop-place : goal.invariant-loop-place
invariant-loop-place l = AreBefore l.line l.words l.place
