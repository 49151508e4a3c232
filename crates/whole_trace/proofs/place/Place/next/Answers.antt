use Rattle.std.proofs.Common.{ap, sym, ◌∙◌}
use Rattle.std.specs.Prelude.{option_and_then}
use Rattle.whole_trace.specs.Due.{due_after}
use Rattle.whole_trace.proofs.Judging.{judged-wrong}
use Rattle.whole_trace.proofs.Texts.{cut-front, text-some, rest-shorter}
use Rattle.whole_trace.proofs.place.Place.next.Goals as goal

pub returns-in_err-line-clause-none : goal.returns-in_err-line-clause-none
returns-in_err-line-clause-none c = λ none some.
    let text = c.args.self.rest.now in
    let first = c.cut_line.result.0.now in
    let rest = c.cut_line.result.1.now in
    let cut = cut-front text first rest c.cut_line.ensures.first c.cut_line.ensures.others some in
    judged-wrong c.args.self.due text first _ cut
    (ap (option_and_then (due_after c.args.self.due)) (sym c.value_of.ensures ∙ c.in_err-line.was))

pub returns-clause-some : goal.returns-clause-some
returns-clause-some c =
    let text = c.args.self.rest.now in
    let first = c.cut_line.result.0.now in
    let rest = c.cut_line.result.1.now in
    let value = sym c.value_of.ensures ∙ c.in_ok-line.was in
    let some = text-some text first c.in_ok-line.line c.cut_line.ensures.first value in
    let cut = cut-front text first rest c.cut_line.ensures.first c.cut_line.ensures.others some in record {
      line = first;
      cut = cut;
      value = value;
      next = sym c.due_after.ensures ∙ c.in_ok-due.was;
      shorter = rest-shorter text first rest c.in_ok-line.line cut value;
    }
