use Rattle.std.proofs.Common.{ap, ◌∙◌, sym}
use Rattle.script_text.specs.Lines.{is_comment}
use Rattle.script_errors.specs.Spots.{spot}
use Rattle.script_errors.proofs.Comments.{comment_at}
use Rattle.script_errors.proofs.line.comment_place.Goals as goal

pub returns-then-is_comment-clause-comment : goal.returns-then-is_comment-clause-comment
returns-then-is_comment-clause-comment c = (comment_at c.args.line.now c.args.words.now c.loop-place.place (spot 0 0)
    c.loop-place.invariant c.loop-place-test.true
    (ap is_comment (sym c.spot_text.ensures.text) ∙ (sym c.is_comment.ensures ∙ c.if-is_comment.true))).0
