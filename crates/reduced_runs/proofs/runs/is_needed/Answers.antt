use Rattle.std.proofs.Common.{List, ap, ◌∙◌}
use Rattle.std.specs.Prelude.{not}
use Rattle.causes.specs.declared.cause.ScriptLine.{ScriptLine}
use Rattle.causes.specs.Reduced.{entry_alone, is_same_word}
use Rattle.reduced_runs.proofs.runs.is_needed.Goals as goal

pub returns : goal.returns
returns c =
    ap not
    (c.is_same_word.ensures
    ∙ ap (is_same_word c.args.entry.now)
    (c.in_ok-alone.ensures
    ∙ ap (λ (others : List ScriptLine). entry_alone c.args.list.now c.args.script.now others c.args.slot c.args.node)
    (c.as_slice.ensures ∙ c.in_ok-others.ensures)))
