use Rattle.std.proofs.Common.{◌≡◌, length, arith}
use Rattle.std.proofs.lemmas.Grind.{common_steps}
use Rattle.check_text.proofs.Pages.{writing_all, writing_cut}
use Rattle.check_text.proofs.page.write_line.Goals as goal

pub returns-in-Err : goal.returns-in-Err
returns-in-Err g c =
    writing_cut c.args.line.now c.loop-rest.rest.now c.cut_piece.result.0.now c.cut_piece.result.1.now _ _ _
    c.loop-rest.invariant c.cut_piece.ensures.cut c.in-Err.ensures.failed

pub returns : goal.returns
returns g c =
    let none : length c.loop-rest.rest.now ≡ 0 = grind (arith, common_steps) in
    writing_all c.args.line.now c.loop-rest.rest.now _ _ c.loop-rest.invariant none
