use Rattle.std.proofs.Common.{◌≤◌, arith}
use Rattle.line_form.proofs.Digits.{within_more}
use Rattle.line_form.proofs.words.hex_or_in.Goals.{then-wide, else-wide}
use Rattle.line_form.proofs.words.hex_or_in.Goals as goal

pub returns-clause-small : goal.returns-clause-small
returns-clause-small c =
    let few : c.if-wide.digits ≤ c.args.many =
    elim c.if-wide.branch [
      | then-wide w ↦ omega (arith, w.digits-is)
      | else-wide w ↦ omega (arith, w.digits-is, c.requires)
    ] in
    within_more c.if-wide.digits c.args.many c.in_ok-number.number c.in_ok-number.ensures.small few
