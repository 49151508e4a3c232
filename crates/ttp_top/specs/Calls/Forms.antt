-- What each form asks for, and how it ends.
use Rattle.std.specs.Prelude.{ℕ, List, Option, Some, None, codes, ◌++◌, if◌then◌else◌}
use Rattle.ttp_base.specs.Text.{lines_of}
use Rattle.ttp_world.specs.declared.medl.Medl.{Medl}
use Rattle.ttp_world.specs.declared.script.Script.{Script}
use Rattle.ttp_world.specs.Trace.{test_lines}
use Rattle.ttp_world.specs.TraceNumbers.{numbers_in}
use Rattle.medl_text.specs.Schedule.{slot_table}
use Rattle.trace_check.specs.Answer.{is_trace}
use Rattle.mode_change.specs.ModeText.{mode_lines}
use Rattle.commands.specs.Files.{list_plan, both_plan, trace_plan}
use Rattle.commands.specs.Plan.{whole_ending, line_ending, ends}
use Rattle.commands.specs.Texts.{one, those}
use Rattle.ttp_top.specs.Calls.Answer.{BenchEnding, BenchPlan}
use Rattle.ttp_top.specs.Calls.Differences.{same_line}
use Rattle.ttp_top.specs.Calls.Texts.{traces, fronts, differences, precisions, samples}
use Rattle.ttp_top.specs.Calls.Words.{Form, schedule, run, keeps, verify, precision, sample, modes}
use Rattle.ttp_top.specs.declared.words.Question.{Question}
use Rattle.ttp_top.specs.declared.words.Question.TheVariants as question
use Rattle.ttp_top.specs.declared.verify.Wants.{Wants}
use Rattle.ttp_top.specs.declared.verify.Wants.TheVariants as wanted

-- the line on words of no form
abbrev pub usage_line : List ℕ
usage_line =
    codes "usage: schedule MEDL | run MEDL SCRIPT | keeps MEDL SCRIPT | verify MEDL SCRIPT TRACE"
    ++ codes " | sample MEDL SLOTS NUMBER | precision MEDL SCRIPT NODE | modes MEDL SCRIPT TRACE\n"

-- how a command of such words ends: with status 2 and this line
abbrev pub usage_ending : BenchEnding
usage_ending = line_ending 2 usage_line

-- the slot table of a list
abbrev pub table_ending : Medl → BenchEnding
table_ending list = whole_ending 0 (one (slot_table list))

-- a trace of a list and a script, which takes memory in each slot
abbrev pub trace_ending : Medl → Script → BenchEnding
trace_ending list script =
    record { status = 0; texts = those (traces list script); unfinished = those (fronts list script) }

-- the last lines of a trace alone, which are those of the tests
abbrev pub keep_ending : Medl → Script → BenchEnding
keep_ending list script = whole_ending 0 (one (test_lines list script))

-- whether a text is a trace of a list and a script: where it is none, the first line that is wrong, with status 1
abbrev pub verify_ending : Medl → Script → List ℕ → BenchEnding
verify_ending list script text =
    if is_trace list script text then line_ending 0 same_line else whole_ending 1 (those (differences list script text))

-- the line of the test for one two-faced sender
abbrev pub precision_ending : ℕ → Medl → Script → BenchEnding
precision_ending node list script = whole_ending 0 (those (precisions list script node))

-- the lines on a generated run
abbrev pub sample_ending : ℕ → ℕ → Medl → BenchEnding
sample_ending slots number list = whole_ending 0 (those (samples list slots number))

-- which mode each node runs, for a text that is a trace of a list and a script; else the first line that is wrong
abbrev pub modes_ending : Medl → Script → List ℕ → BenchEnding
modes_ending list script text =
    if is_trace list script text
    then whole_ending 0 (one (mode_lines list script (numbers_in list script (lines_of text))))
    else whole_ending 1 (those (differences list script text))

-- the plan of a form, and of words that have none
abbrev pub plan_of : Option Form → BenchPlan
plan_of None = ends usage_ending
plan_of (Some (schedule list)) = list_plan list (λ medl. ends (table_ending medl))
plan_of (Some (run list script)) = both_plan list script (λ medl right. ends (trace_ending medl right))
plan_of (Some (keeps list script)) = both_plan list script (λ medl right. ends (keep_ending medl right))
plan_of (Some (verify list script trace)) =
    both_plan list script (λ medl right. trace_plan trace (λ text. ends (verify_ending medl right text)))
plan_of (Some (precision list script node)) =
    both_plan list script (λ medl right. ends (precision_ending node medl right))
plan_of (Some (sample list slots number)) = list_plan list (λ medl. ends (sample_ending slots number medl))
plan_of (Some (modes list script trace)) =
    both_plan list script (λ medl right. trace_plan trace (λ text. ends (modes_ending medl right text)))

-- what is due of a trace, by what is wanted of it
abbrev pub right_ending : Wants → Medl → Script → List ℕ → BenchEnding
right_ending wanted.Same list script text = line_ending 0 same_line
right_ending wanted.Modes list script text =
    whole_ending 0 (one (mode_lines list script (numbers_in list script (lines_of text))))

-- what is due of a text that may be a trace: the ending of `verify`, or that of `modes`
abbrev pub judged_ending : Wants → Medl → Script → List ℕ → BenchEnding
judged_ending wants list script text =
    if is_trace list script text
    then right_ending wants list script text
    else whole_ending 1 (those (differences list script text))

-- what is left of a question's plan, once its list and its script are there
abbrev pub plan_told : Question → Medl → Script → BenchPlan
plan_told question.Keeps list script = ends (keep_ending list script)
plan_told (question.Verify trace) list script = trace_plan trace.now (λ text. ends (verify_ending list script text))
plan_told (question.Precision node) list script = ends (precision_ending node list script)
plan_told (question.Modes trace) list script = trace_plan trace.now (λ text. ends (modes_ending list script text))
