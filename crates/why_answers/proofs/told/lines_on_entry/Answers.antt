use Rattle.std.proofs.Common.{ℕ, ap, ◌∙◌}
use Rattle.causes.specs.WhyText.{why_text}
use Rattle.causes.specs.declared.cause.LineNumbers.{LineNumbers}
use Rattle.line_numbers.specs.Numbers.{line_numbers_in}
use Rattle.why_answers.proofs.RunSpots.{source-is}
use Rattle.why_answers.specs.Answer.{lines_on_entry}
use Rattle.why_answers.proofs.FromBelow.{if_ok-equal}
use Rattle.why_answers.proofs.told.lines_on_entry.Goals as goal

pub why_lines-requires-clause-source : goal.why_lines-requires-clause-source
why_lines-requires-clause-source c =
    source-is c.in_ok-run.run' c.args.list.now c.args.script.now c.args.slot c.in_ok-run.ensures

pub returns : goal.returns
returns c =
    let list = c.args.list.now in
    let script = c.args.script.now in
    let bytes = c.args.bytes.now in
    let text : LineNumbers → _ = λ numbers. why_text list script numbers c.args.node c.args.slot in
    if_ok-equal c.why_lines.result (text c.in_ok-numbers.numbers)
    (lines_on_entry list script bytes c.args.node c.args.slot)
    c.why_lines.ensures
    (ap text (c.in_ok-numbers.ensures ∙ ap (λ (n : ℕ). line_numbers_in n bytes) c.nodes.ensures))
