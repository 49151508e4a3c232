use Rattle.std.proofs.Common.{◌++◌, List, ap, ◌∙◌, sym, arith}
use Rattle.std.proofs.lemmas.List.{append-nil}
use Rattle.script_errors.specs.declared.error.ScriptError.{ScriptError}
use Rattle.script_errors.proofs.Cutting.{word_errors_end}
use Rattle.script_errors.proofs.words.tell_words.Goals as goal

pub returns : goal.returns
returns c =
    let none = word_errors_end c.args.list.now c.args.slots c.args.node c.args.number c.args.line.now c.args.parts.now
    c.args.words.now c.loop-i.i c.requires.full (omega arith) in
    sym (append-nil c.loop-i.found)
    ∙ ap (λ (es : List ScriptError). c.loop-i.found ++ es) (sym none) ∙ c.loop-i.invariant
