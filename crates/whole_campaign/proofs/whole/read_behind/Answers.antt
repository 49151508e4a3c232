use Rattle.std.proofs.Common.{Some, ap, sym, ◌∙◌}
use Rattle.ttp_base.specs.Text.{Lines, lines_of}
use Rattle.whole_campaign.specs.Own.{own_of}
use Rattle.whole_campaign.specs.Whole.{behind_own, behind_first}
use Rattle.whole_campaign.proofs.LineSteps.{ended_line, own_ended}
use Rattle.whole_campaign.proofs.whole.read_behind.Goals as goal

pub returns-in-Some : goal.returns-in-Some
returns-in-Some c =
    let head = c.args.head.now in
    let text = c.args.text.now in
    let line = c.cut_line.result.0.now in
    let rest = c.cut_line.result.1.now in
    let own = own_of c.in-Some.own in
    let ended = own_ended head.nodes head.slots line own (sym c.in-Some.ensures) in
    let cut = ended_line text line rest ended.value c.cut_line.ensures.first c.cut_line.ensures.others ended.read in
    c.read_rest.ensures ∙ ap (behind_own head (lines_of rest)) c.in-Some.ensures
    ∙ ap (λ (lines : Lines). behind_first lines (Some head)) (sym cut)
