use Rattle.std.proofs.Common.{◌++◌, ◌∷◌, [], List, ℕ, ap, ◌∙◌}
use Rattle.causes.specs.WhyText.{alone_line, in_file_order, story_lines, why_head}
use Rattle.causes.specs.Reduced.{entry_alone}
use Rattle.causes.specs.declared.cause.ScriptLine.{ScriptLine}
use Rattle.causes.specs.declared.cause.Told.{Told}
use Rattle.std.specs.List.{flat_map}
use Rattle.why_story.specs.RunSource.{source_slots}
use Rattle.why_lines.proofs.Whole.{named_lines, newest-entry, pushed, told-lines}
use Rattle.why_lines.proofs.lines.lines_told.Goals as goal

pub returns : goal.returns
returns g c =
    let list = c.args.list.now in
    let script = c.args.script.now in
    let numbers = c.args.numbers.now in
    let source = g.C.Causes.source c.args.causes.now in
    let run = source_slots source in
    let entry = c.entry-entry.result in
    let alone = c.in_ok-alone.alone in
    let suffices = c.is_same_word-suffices.result in
    let named = c.in_ok-named.named in
    let head = why_head list script c.args.node c.args.slot in
    pushed c.new-lines.result c.push.new.self c.put_named.new.lines c.put_story.new.lines c.push-2.new.self
    (named_lines list script numbers c.args.slot c.args.node entry suffices named)
    (story_lines list numbers run c.args.story.now) head (alone_line alone suffices)
    c.new-lines.ensures
    (c.in_ok-push.ensures.ok ∙ ap (λ (x : List ℕ). c.new-lines.result ++ x ∷ []) c.in_ok-head_line.ensures)
    (c.in_ok-put_named.ensures
    ∙ ap (λ (ls : List ScriptLine). c.push.new.self
    ++ named_lines list script numbers c.args.slot c.args.node entry suffices ls)
    c.as_slice-3.ensures)
    c.in_ok-put_story.ensures
    (c.in_ok-push-2.ensures.ok ∙ ap (λ (x : List ℕ). c.put_story.new.lines ++ x ∷ []) c.in_ok-last_line.ensures)
    ∙ told-lines list script numbers run c.args.node c.args.slot c.args.story.now entry alone suffices named
    (c.entry-entry.ensures ∙ newest-entry source c.args.slot c.args.node c.requires.count)
    (c.in_ok-named.ensures ∙ ap
    (λ (ts : List Told). in_file_order numbers (flat_map (λ t. t.cause.lines) ts)) c.as_slice.ensures)
    (c.in_ok-alone.ensures
    ∙ ap (λ (ls : List ScriptLine). entry_alone list script ls c.args.slot c.args.node) c.as_slice-2.ensures)
    c.is_same_word-suffices.ensures
