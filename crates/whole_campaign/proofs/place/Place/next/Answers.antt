use Rattle.std.proofs.Common.{rules, ◌+◌, ◌<◌, length, Option, option_map, ap, sym, subst, ◌∙◌, arith}
use Rattle.std.specs.Prelude.{IfSome}
use Rattle.ttp_base.specs.Text.{lines_of}
use Rattle.campaign.specs.CostText.{unended}
use Rattle.whole_campaign.proofs.FromBelow.{cut-front}
use Rattle.whole_campaign.specs.declared.shown.FaultShown.{FaultShown}
use Rattle.whole_campaign.specs.Own.{common_of}
use Rattle.whole_campaign.specs.Whole.{FaultTold}
use Rattle.whole_campaign.proofs.LineSteps.{line_has_bytes, rest_is_shorter, wrong_here}
use Rattle.whole_campaign.proofs.Rooms.{less_due, due_behind_line}
use Rattle.whole_campaign.proofs.place.Place.next.Goals as goal

pub returns-in_err-due-clause-none : goal.returns-in_err-due-clause-none
returns-in_err-due-clause-none c = λ none some.
    let text = c.args.self.now.rest.now in
    let line = c.cut_line.result.0.now in
    let rest = c.cut_line.result.1.now in
    let cut = cut-front text line rest c.cut_line.ensures.first c.cut_line.ensures.others some in
    wrong_here (common_of c.args.frame.now) c.args.self.now.due text line (lines_of rest) cut
    (sym c.due_behind-fault.ensures.due ∙ c.in_err-due.was)

pub with_text-requires : goal.with_text-requires
with_text-requires c =
    let text = c.args.self.now.rest.now in
    let line = c.cut_line.result.0.now in
    let rest = c.cut_line.result.1.now in
    let some : 0 < length text = search rules in
    line_has_bytes text line rest (cut-front text line rest c.cut_line.ensures.first c.cut_line.ensures.others some)

pub returns-clause-some : goal.returns-clause-some
returns-clause-some c =
    let text = c.args.self.now.rest.now in
    let line = c.cut_line.result.0.now in
    let rest = c.cut_line.result.1.now in
    let some : 0 < length text = search rules in
    let cut = cut-front text line rest c.cut_line.ensures.first c.cut_line.ensures.others some in
    let told : FaultShown → FaultTold = λ f. record { shown = f; text = unended line } in record {
      line = line;
      cut = cut;
      tells = ap (option_map told) (sym c.due_behind-fault.ensures.fault) ∙ sym c.with_text.ensures;
      next = sym c.due_behind-fault.ensures.due ∙ c.in_ok-due.was;
      shorter = rest_is_shorter text line rest cut;
    }

pub returns-clause-due : goal.returns-clause-due
returns-clause-due c =
    let frame = common_of c.args.frame.now in
    let at = c.args.self.now.due in
    let text = c.args.self.now.rest.now in
    let line = c.cut_line.result.0.now in
    let rest = c.cut_line.result.1.now in
    let some : 0 < length text = search rules in
    let cut = cut-front text line rest c.cut_line.ensures.first c.cut_line.ensures.others some in
    let shorter = rest_is_shorter text line rest cut in
    let small = subst (λ (o : Option FaultShown). IfSome o (λ f. f.place < 16)) c.due_behind-fault.ensures.fault
    c.due_behind-fault.ensures.few in
    due_behind_line (length rest) frame at line c.in_ok-due.due
    (less_due (length rest + 1) (length text) at (omega (arith, shorter)) c.requires.due) small
    (sym c.due_behind-fault.ensures.due ∙ c.in_ok-due.was)
