use Rattle.std.proofs.Common.{◌∙◌, arith}
use Rattle.std.proofs.lemmas.Result.{on_ok_weaker}
use Rattle.script_errors.proofs.Cutting.{spots_end}
use Rattle.script_errors.proofs.spots.cut.Goals as goal

pub returns : goal.returns
returns c = on_ok_weaker c.end_word-2.result
    (λ now. now ∙ spots_end c.args.line.now _ _ _ c.loop-place.invariant (omega arith)) c.end_word-2.ensures
