use Rattle.chart_text.proofs.Words.{◌∙◌, ap, not}
use Rattle.chart_text.proofs.Taken.{ahead-none, ahead-passed}
use Rattle.chart_text.proofs.ahead.Ahead.pass.Goals as goal

pub returns-then-is_none : goal.returns-then-is_none
returns-then-is_none c =
    let same = ahead-none c.self.inside.first c.self.inside.rest (c.is_none.ensures ∙ ap not c.if-is_none.true) in
    cc (same, c.self.view_is)

pub returns : goal.returns
returns c =
    let same = ahead-passed c.self.inside.first c.next_fault-self-inside.result
    c.self.inside.rest c.next_fault-self-inside.new.self
    (c.is_none.ensures ∙ ap not c.if-is_none.false) c.next_fault-self-inside.ensures.some
    c.next_fault-self-inside.ensures.none in
    cc (same, c.self.view_is)
