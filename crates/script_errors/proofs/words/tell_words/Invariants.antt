use Rattle.std.proofs.Common.{◌≡◌, ◌++◌, drop}
use Rattle.script_errors.specs.Errors.{word_errors}
use Rattle.script_errors.proofs.words.tell_words.Given as goal

-- the errors so far, and those of what is left, are all
abbrev pub invariant-loop-i : goal.invariant-loop-i
invariant-loop-i l =
    l.found ++ word_errors l.list l.slots l.node l.number l.line (drop l.i l.parts) (drop l.i l.words)
    ≡ l.fn.found ++ word_errors l.list l.slots l.node l.number l.line l.parts l.words
