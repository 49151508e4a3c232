-- What each form of `ttplab` asks for, and how it ends.
use Rattle.std.specs.Prelude.{ℕ, List, ◌++◌, Option, Some, None, Result, Ok, Err, codes, if◌then◌else◌}
use Rattle.ttp_base.specs.Text.{Lines}
use Rattle.ttp_world.specs.declared.medl.Medl.{Medl}
use Rattle.ttp_world.specs.declared.script.Script.{Script}
use Rattle.campaign.specs.Lines.{campaign_lines}
use Rattle.clock_margins.specs.MarginText.{margin_lines}
use Rattle.fault_pairs.specs.PairText.{pairs_lines}
use Rattle.trace_check.specs.Answer.{is_trace}
use Rattle.check_text.specs.Check.{Named, check_lines, check_status}
use Rattle.commands.specs.Files.{list_file, script_file, list_plan, both_plan, trace_plan}
use Rattle.commands.specs.Plan.{whole_ending, line_ending, said_ending, ends, asks}
use Rattle.commands.specs.Texts.{one, those}
use Rattle.script_gen.specs.Generator.{generated}
use Rattle.script_lines.specs.ScriptLines.{script_lines}
use Rattle.lab_top.specs.declared.refusal.TextFault.{TextFault}
use Rattle.lab_top.specs.Frames.{frames_named}
use Rattle.lab_top.specs.Help.{help_lines, version_line}
use Rattle.lab_top.specs.Refusals.{refused_text}
use Rattle.lab_top.specs.Texts.{begun, differences, LabEnding, LabPlan}
use Rattle.lab_top.specs.Views.{View, text_file, viewed, wave_view, picture_view, chart_view}
use Rattle.lab_top.specs.Words.{LabForm, wave, picture, campaign, chart, check, frames}
use Rattle.lab_top.specs.Words.{margins, pairs, script_by, help, version, why}
use Rattle.lab_top.specs.Why.{why_plan}

-- the line that answers words of no form
abbrev pub lab_usage_line : List ℕ
lab_usage_line =
    codes "usage: wave TRACE | picture TRACE [FIRST LAST] | campaign LIST SCRIPT FIRST LAST"
    ++ codes " | chart CAMPAIGN [FIRST LAST] | check LIST [SCRIPT] | why LIST SCRIPT NODE [SLOT]"
    ++ codes " | frames LIST SCRIPT TRACE | margins LIST SCRIPT [FIRST LAST]"
    ++ codes " | pairs LIST SCRIPT FIRST LAST WITHIN | script LIST SLOTS NUMBER\n"

-- a view ends with its lines, or with the line that says why a text is not shown
abbrev pub viewed_ending : {Value : Type 0} → View Value → Result Value TextFault → LabEnding
viewed_ending view (Ok value) = whole_ending 0 (one (view.lines value))
viewed_ending view (Err fault) = said_ending (refused_text view.kind fault)

-- it asks for the file of its text
abbrev pub view_plan : {Value : Type 0} → View Value → List ℕ → LabPlan
view_plan view name = asks (text_file view.kind name) (λ text. ends (viewed_ending view (viewed view text)))

-- what writes lines of a list and a script ends with them, and takes memory before each
abbrev pub lines_ending : Lines → LabEnding
lines_ending lines = record { status = 0; texts = one lines; unfinished = those (begun lines) }

-- it asks for the list and the script
abbrev pub lines_plan : (Medl → Script → Lines) → List ℕ → List ℕ → LabPlan
lines_plan lines list script = both_plan list script (λ medl right. ends (lines_ending (lines medl right)))

-- what is said of a list, or of a list and a script, with memory taken between the lines
abbrev pub check_ending : Named → Option Named → LabEnding
check_ending list script =
    let lines = check_lines list script in
    record { status = check_status list script; texts = one lines; unfinished = those (begun lines) }

-- it asks for the script beside a list
abbrev pub beside_plan : Named → List ℕ → LabPlan
beside_plan file script =
    asks (script_file script) (λ other. ends (check_ending file (Some (record { name = script; text = other }))))

-- it asks for the list, and for the script where one is named, before it looks at either
abbrev pub check_plan : List ℕ → Option (List ℕ) → LabPlan
check_plan list None =
    asks (list_file list) (λ text. ends (check_ending (record { name = list; text = text }) None))
check_plan list (Some script) =
    asks (list_file list) (λ text. beside_plan (record { name = list; text = text }) script)

-- the frames of a text that is a trace of a list and a script; else the line that names the first wrong one
abbrev pub frames_ending : Medl → Script → List ℕ → LabEnding
frames_ending list script text =
    if is_trace list script text
    then whole_ending 0 (one (frames_named list script text))
    else whole_ending 1 (those (differences list script text))

-- it asks for the list, the script and the text
abbrev pub frames_plan : List ℕ → List ℕ → List ℕ → LabPlan
frames_plan list script trace =
    both_plan list script (λ medl right. trace_plan trace (λ text. ends (frames_ending medl right text)))

-- a generated script ends with its text
abbrev pub script_ending : ℕ → ℕ → Medl → LabEnding
script_ending slots number list = whole_ending 0 (one (script_lines (generated list slots number)))

-- it asks for the list
abbrev pub script_form_plan : List ℕ → ℕ → ℕ → LabPlan
script_form_plan list slots number = list_plan list (λ medl. ends (script_ending slots number medl))

-- what each form writes is written whole
abbrev pub help_ending : LabEnding
help_ending = whole_ending 0 (one help_lines)

-- the plan of a form, and of words that have none
abbrev pub lab_plan_of : Option LabForm → LabPlan
lab_plan_of None = ends (line_ending 2 lab_usage_line)
lab_plan_of (Some (wave trace)) = view_plan wave_view trace
lab_plan_of (Some (picture trace asked)) = view_plan (picture_view asked) trace
lab_plan_of (Some (campaign list script first last)) =
    lines_plan (λ medl right. campaign_lines medl right first last) list script
lab_plan_of (Some (why list script node slot)) = why_plan list script node slot
lab_plan_of (Some (chart name asked)) = view_plan (chart_view asked) name
lab_plan_of (Some (check list script)) = check_plan list script
lab_plan_of (Some (frames list script trace)) = frames_plan list script trace
lab_plan_of (Some (margins list script asked)) = lines_plan (λ medl right. margin_lines medl right asked) list script
lab_plan_of (Some (pairs list script first last within)) =
    lines_plan (λ medl right. pairs_lines medl right first last within) list script
lab_plan_of (Some (script_by list slots number)) = script_form_plan list slots number
lab_plan_of (Some help) = ends help_ending
lab_plan_of (Some version) = ends (line_ending 0 version_line)
