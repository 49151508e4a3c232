-- What `why LIST SCRIPT NODE [SLOT]` asks for, and how it ends.
use Rattle.std.specs.Prelude.{Err, List, Option, Result, ℕ, ◌≡◌}
use Rattle.commands.specs.Files.{list_plan, refused_script, script_file}
use Rattle.commands.specs.Plan.{after, asks, ends, whole_ending}
use Rattle.commands.specs.Read.{script_from}
use Rattle.commands.specs.Texts.{one}
use Rattle.commands.specs.declared.read.FileFault.{FileFault}
use Rattle.lab_top.specs.Texts.{LabEnding, LabPlan}
use Rattle.lab_top.specs.declared.why.Unread.{Unread}
use Rattle.lab_top.specs.declared.why.Unread.TheVariants as unread
use Rattle.ttp_world.specs.declared.medl.Medl.{Medl}
use Rattle.ttp_world.specs.declared.script.Script.{Script}
use Rattle.why_answers.specs.Answer.{why_answer}
use Rattle.why_answers.specs.declared.answer.WhyAnswer.{WhyAnswer}

-- why bytes are taken for no script: what is wrong, or that memory was refused
abbrev pub IsUnread : Result Script FileFault → Unread → Type 0
IsUnread read (unread.Told fault) = read ≡ Err fault
IsUnread read unread.Memory = Unit {0}

-- all memory is taken before the first line
abbrev pub why_ending : WhyAnswer → LabEnding
why_ending answer = whole_ending answer.status (one answer.lines)

-- a list, and then a script for it, beside the bytes that it is read from

abbrev pub read_script_plan : List ℕ → (List ℕ → Script → LabPlan) → Medl → LabPlan
read_script_plan script next list =
    asks (script_file script) (λ bytes. after refused_script (next bytes) (script_from list bytes))

abbrev pub read_both_plan : List ℕ → List ℕ → (Medl → List ℕ → Script → LabPlan) → LabPlan
read_both_plan list script next = list_plan list (λ medl. read_script_plan script (next medl) medl)

-- how it ends by them
abbrev pub ends_why : ℕ → Option ℕ → Medl → List ℕ → Script → LabPlan
ends_why k slot list bytes script = ends (why_ending (why_answer list script bytes k slot))

-- it asks for the list and the script
abbrev pub why_plan : List ℕ → List ℕ → ℕ → Option ℕ → LabPlan
why_plan list script k slot = read_both_plan list script (ends_why k slot)
