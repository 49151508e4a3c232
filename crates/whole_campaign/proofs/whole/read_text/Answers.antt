use Rattle.std.proofs.Common.{ap, sym, ◌∙◌}
use Rattle.ttp_base.specs.Text.{lines_of}
use Rattle.whole_campaign.specs.Whole.{behind_first, whole_of}
use Rattle.whole_campaign.proofs.LineSteps.{ended_line, head_ended}
use Rattle.whole_campaign.proofs.whole.read_text.Goals as goal

pub returns-in-Some : goal.returns-in-Some
returns-in-Some c =
    let text = c.args.text.now in
    let line = c.cut_line.result.0.now in
    let rest = c.cut_line.result.1.now in
    let ended = head_ended line c.in-Some.head (sym c.in-Some.ensures.value) in
    let cut = ended_line text line rest ended.value c.cut_line.ensures.first c.cut_line.ensures.others ended.read in
    c.read_behind.ensures ∙ ap (behind_first (lines_of rest)) c.in-Some.ensures.value ∙ ap whole_of (sym cut)
