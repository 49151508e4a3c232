use Rattle.std.proofs.Common.{length, ap, sym, ◌∙◌}
use Rattle.why_story.specs.RunSource.{RunSource, source_slots}
use Rattle.causes.specs.WhyText.{why_lines_told, why_text}
use Rattle.why_lines.proofs.Whole.{if_ok-equal, whole-text, zeros-slots}
use Rattle.why_lines.proofs.lines.why_lines.Goals as goal

pub story-requires-clause-slots : goal.story-requires-clause-slots
story-requires-clause-slots g c =
    sym (ap (λ (s : RunSource). length s.history) c.requires.source
    ∙ zeros-slots c.args.list.now c.args.script.now c.args.slot)

pub lines_told-requires-clause-count : goal.lines_told-requires-clause-count
lines_told-requires-clause-count g c =
    ap (λ (s : RunSource). length s.history) c.requires.source
    ∙ zeros-slots c.args.list.now c.args.script.now c.args.slot

pub returns : goal.returns
returns g c =
    let list = c.args.list.now in
    let script = c.args.script.now in
    let numbers = c.args.numbers.now in
    let source = g.C.Causes.source c.args.causes.now in
    let story = c.in_ok-story.story in
    let text = why_text list script numbers c.args.node c.args.slot in
    if_ok-equal c.lines_told.result
    (why_lines_told list script numbers (source_slots source) c.args.node c.args.slot story) text c.lines_told.ensures
    (whole-text list script numbers c.args.node c.args.slot source story c.requires.source c.in_ok-story.ensures.value)
