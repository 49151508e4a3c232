-- The line on a text that is no trace.
use Rattle.std.proofs.Common.{◌≡◌, ℕ, Bool, false, List, sym, subst, inl, inr}
use Rattle.std.specs.Prelude.{if◌then◌else◌}
use Rattle.ttp_base.specs.Outside.{Output}
use Rattle.ttp_base.specs.Text.{Lines}
use Rattle.ttp_world.specs.declared.medl.Medl.{Medl}
use Rattle.ttp_world.specs.declared.script.Script.{Script}
use Rattle.trace_check.specs.Answer.{is_trace, IsFirstWrong}
use Rattle.commands.specs.Lines.{AreLines}
use Rattle.commands.specs.Outcome.{Says}
use Rattle.commands.specs.Plan.{line_ending, whole_ending}
use Rattle.commands.specs.Texts.{one, those}
use Rattle.lab_top.specs.Forms.{frames_ending}
use Rattle.trace_check.specs.Difference.{differs_line, IsDifference}
use Rattle.lab_top.proofs.FromBelow.{differs_line-is_line}
use Rattle.lab_top.specs.Frames.{frames_named}
use Rattle.lab_top.specs.Texts.{differences, LabAnswer, ttplab}

-- It is one line.

pub differences-each : (list : Medl) (script : Script) (text : List ℕ) (lines : Lines)
    → IsDifference list script text lines → AreLines lines
differences-each list script text lines is =
    subst AreLines (sym is.said) (differs_line-is_line is.line, tt)

-- It was said.

pub differs-said : (list : Medl) (script : Script) (text : List ℕ) (line : ℕ) (before now : Output) (answer : LabAnswer)
    → is_trace list script text ≡ false → IsFirstWrong list script text line
    → Says ttplab (line_ending 1 (differs_line line)) before now answer
    → Says ttplab (frames_ending list script text) before now answer
differs-said list script text line before now answer none first said =
    subst (λ (same : Bool). Says ttplab (if same then whole_ending 0 (one (frames_named list script text))
    else whole_ending 1 (those (differences list script text))) before now answer) (sym none) (told said)
  where
    told : Says ttplab (line_ending 1 (differs_line line)) before now answer
        → Says ttplab (whole_ending 1 (those (differences list script text))) before now answer
    told (inl showed) =
        inl (record {
          status = showed.status;
          text = record {
            lines = showed.text.lines;
            among = record { line = line; first = first; said = showed.text.among };
            wrote = showed.text.wrote;
          };
          kept = showed.kept;
        })
    told (inr stopped) =
        inr (record {
          status = stopped.status;
          text = record {
            lines = stopped.text.lines;
            among = record { line = line; first = first; said = stopped.text.among };
            cut = stopped.text.cut;
          };
          none = stopped.none;
        })
