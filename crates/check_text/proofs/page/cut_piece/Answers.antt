use Rattle.check_text.proofs.Pages.{cut_front, cut_shorter}
use Rattle.check_text.proofs.page.cut_piece.Goals as goal

pub returns-clause-cut : goal.returns-clause-cut
returns-clause-cut c =
    cut_front c.args.text.now c.cut_line.result.0.now c.cut_line.result.1.now c.cut_line.ensures.first
    c.cut_line.ensures.others c.requires

pub returns-clause-shorter : goal.returns-clause-shorter
returns-clause-shorter c =
    cut_shorter c.args.text.now c.cut_line.result.0.now c.cut_line.result.1.now
    (cut_front c.args.text.now c.cut_line.result.0.now c.cut_line.result.1.now c.cut_line.ensures.first
    c.cut_line.ensures.others c.requires)
