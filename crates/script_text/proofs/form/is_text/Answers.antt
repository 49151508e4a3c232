use Rattle.script_text.proofs.Terms.{sym, arith}
use Rattle.script_text.proofs.Spelling.{is_text-all}
use Rattle.script_text.proofs.form.is_text.Goals as goal

pub returns : goal.returns
returns c =
    sym (
    is_text-all c.args.text.now c.args.word.now c.loop-place.invariant.0
    (λ k below. c.loop-place.invariant.1 k (omega arith)))
