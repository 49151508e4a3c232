-- How long the first line of a trace is, and those of the tests.
use Rattle.std.proofs.Common.{◌≡◌, ℕ, ◌≤◌, Bool, true, false, List, [], ◌++◌, length, arith, codes}
use Rattle.std.proofs.Common.{length-append}
use Rattle.std.specs.Fmt.{decimal}
use Rattle.std.specs.List.{concat}
use Rattle.ttp_base.specs.Text.{newline, hex}
use Rattle.ttp_base.proofs.Room.{length-hex}
use Rattle.ttp_world.specs.declared.keep.Back.{Back}
use Rattle.ttp_world.specs.declared.keep.Back.TheVariants as back
use Rattle.ttp_world.specs.declared.keep.Keep.{Keep}
use Rattle.ttp_world.specs.declared.keep.Keep.TheVariants as keep
use Rattle.ttp_world.specs.declared.medl.Medl.{Medl}
use Rattle.ttp_world.specs.declared.script.Script.{Script}
use Rattle.ttp_world.specs.Hypothesis.{keeps}
use Rattle.ttp_world.specs.Returning.{has_arm, returns}
use Rattle.ttp_world.specs.Trace.{back_line, back_lines_if, keep_line, test_lines, trace_head}
use Rattle.theorems.proofs.WordLengths.{decimal-any}

-- The first line. The numbers in it may be any.

head_text : (version nodes rounds slots schedule : List ℕ) → length version ≤ 64 → length nodes ≤ 64
    → length rounds ≤ 64 → length slots ≤ 64 → length schedule ≡ 6
    → length (codes "ttpbench trace " ++ version ++ codes " nodes " ++ nodes ++ codes " rounds " ++ rounds
    ++ codes " slots " ++ slots ++ codes " schedule " ++ schedule ++ newline) ≤ 320
head_text version nodes rounds slots schedule p q r s t = simp length-append (omega arith)

pub head-short : (list : Medl) (script : Script) → length (trace_head list script) ≤ 320
head-short list script =
    head_text (decimal list.version) (decimal (length list.slots)) (decimal list.rounds) (decimal script.slots)
    (hex 6 list.schedule) (decimal-any list.version) (decimal-any (length list.slots)) (decimal-any list.rounds)
    (decimal-any script.slots) (length-hex 6 list.schedule)

-- The lines of the tests.

keep_line-short : (k : Keep) → length (keep_line k) ≤ 160
keep_line-short (keep.Yes start) = simp length-append (omega (arith, decimal-any start))
keep_line-short (keep.No rule slot) =
    simp length-append (omega (arith, decimal-any rule, decimal-any slot))

back_line-short : (b : Back) → length (back_line b) ≤ 160
back_line-short (back.Yes start) = simp length-append (omega (arith, decimal-any start))
back_line-short (back.No rule slot) =
    simp length-append (omega (arith, decimal-any rule, decimal-any slot))

back_lines-short : (list : Medl) (script : Script) (has_some : Bool)
    → length (concat (back_lines_if list script has_some)) ≤ 160
back_lines-short list script true =
    omega (arith, length-append (back_line (returns list script)) [], back_line-short (returns list script))
back_lines-short list script false = omega arith

pub tests-short : (list : Medl) (script : Script) → length (concat (test_lines list script)) ≤ 320
tests-short list script =
    let first = keep_line (keeps list script) in
    let lines = length-append first (concat (back_lines_if list script (has_arm script))) in
    omega (arith, lines, keep_line-short (keeps list script), back_lines-short list script (has_arm script))
