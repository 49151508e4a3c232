use Rattle.std.proofs.Common.{◌+◌, ◌≤◌, ◌++◌, [], ◌∷◌, List, append_assoc, drop, length, ap, sym, ◌∙◌, arith}
use Rattle.std.proofs.lemmas.List.{append-nil}
use Rattle.causes.specs.declared.cause.ScriptLine.{ScriptLine}
use Rattle.entry_causes.proofs.Drops.{drop-next, drop-past}
use Rattle.entry_causes.proofs.missed.lines_from.Goals as goal

pub loop-at-preserved : goal.loop-at-preserved
loop-at-preserved c =
    let lines = c.args.out.now.lines in
    let at = c.loop-at.at in
    ap (λ (xs : List ScriptLine). xs ++ drop (at + 1) lines) c.in_ok-push.ensures.ok
    ∙ append_assoc c.loop-at.lines (c.get.result.now ∷ []) (drop (at + 1) lines)
    ∙ ap (λ (xs : List ScriptLine). c.loop-at.lines ++ xs) (sym (drop-next lines at c.get.result.now c.get.ensures))
    ∙ c.loop-at.invariant

pub returns : goal.returns
returns c =
    let lines = c.args.out.now.lines in
    let end : length lines ≤ c.loop-at.at = omega (arith, c.loop-at-test.false, c.len-at-end.ensures) in
    sym (append-nil c.loop-at.lines)
    ∙ ap (λ (xs : List ScriptLine). c.loop-at.lines ++ xs) (sym (drop-past lines c.loop-at.at end))
    ∙ c.loop-at.invariant
