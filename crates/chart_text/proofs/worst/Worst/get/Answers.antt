use Rattle.chart_text.proofs.Words.{arith}
use Rattle.chart_text.proofs.Listing.{told-view}
use Rattle.chart_text.proofs.worst.Worst.get.Goals as goal

pub returns-then-number-len-clause-some : goal.returns-then-number-len-clause-some
returns-then-number-len-clause-some c =
    told-view c.self.inside.lines.items c.args.self.now c.args.number c.index.result.now c.self.view_is
    (omega (arith, c.if-number-len.true, c.len.ensures, c.self.inside.lines.ok.0)) c.index.ensures
