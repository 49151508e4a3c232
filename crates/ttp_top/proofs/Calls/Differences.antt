-- The line on a text that is no trace.
use Rattle.ttp_top.proofs.Terms.{◌≡◌, ℕ, Bool, false, List, sym, subst, inl, inr}
use Rattle.ttp_top.proofs.Terms.{if◌then◌else◌, Output, Lines}
use Rattle.ttp_top.proofs.Terms.{Medl, Script, is_trace, IsFirstWrong, AreLines, Says}
use Rattle.ttp_top.proofs.Terms.{line_ending, whole_ending, those, BenchAnswer, BenchEnding, ttpbench, differs_line}
use Rattle.ttp_top.proofs.Terms.{differences}
use Rattle.trace_check.specs.Difference.{IsDifference}
use Rattle.ttp_top.proofs.FromBelow.{differs_line-is_line}

-- It is one line.

pub differences-each : (list : Medl) (script : Script) (text : List ℕ) (lines : Lines)
    → IsDifference list script text lines → AreLines lines
differences-each list script text lines is = subst AreLines (sym is.said) (differs_line-is_line is.line, tt)

-- What was said.

-- this ending where a text is a trace, and else the line that differs
abbrev pub ending_if : BenchEnding → Medl → Script → List ℕ → Bool → BenchEnding
ending_if ending list script text same = if same then ending else whole_ending 1 (those (differences list script text))

pub differs-said : (ending : BenchEnding) (list : Medl) (script : Script) (text : List ℕ) (line : ℕ)
    (before now : Output)
    (answer : BenchAnswer) → is_trace list script text ≡ false → IsFirstWrong list script text line
    → Says ttpbench (line_ending 1 (differs_line line)) before now answer
    → Says ttpbench (ending_if ending list script text (is_trace list script text)) before now answer
differs-said ending list script text line before now answer none first said =
    subst (λ same. Says ttpbench (ending_if ending list script text same) before now answer) (sym none) (told said)
  where
    told : Says ttpbench (line_ending 1 (differs_line line)) before now answer
        → Says ttpbench (whole_ending 1 (those (differences list script text))) before now answer
    told (inl showed) =
        inl (record {
          status = showed.status;
          text = record {
            lines = showed.text.lines;
            among = record { line = line; first = first; said = showed.text.among };
            wrote = showed.text.wrote;
          };
          kept = showed.kept;
        })
    told (inr stopped) =
        inr (record {
          status = stopped.status;
          text = record {
            lines = stopped.text.lines;
            among = record { line = line; first = first; said = stopped.text.among };
            cut = stopped.text.cut;
          };
          none = stopped.none;
        })
