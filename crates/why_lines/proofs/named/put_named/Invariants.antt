use Rattle.std.proofs.Common.{◌≡◌, ◌++◌, take, map}
use Rattle.causes.specs.WhyText.{needed_word, script_line_line}
use Rattle.why_lines.proofs.named.put_named.Given as goal

-- those so far
abbrev pub invariant-loop-line : goal.invariant-loop-line
invariant-loop-line l = l.lines ≡ l.initial.lines ++ map (λ x. script_line_line l.script l.numbers x
    (needed_word l.list l.script l.named l.slot l.node l.entry l.suffices x)) (take l.line-index l.named)
