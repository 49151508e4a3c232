-- The lines on rules that are not kept.
use Rattle.std.specs.Prelude.{ℕ, ℤ, Bool, true, false, ◌&&◌, ◌==◌, List, [], ◌∷◌}
use Rattle.std.specs.Prelude.{◌++◌, codes, position, Option, Some, None}
use Rattle.std.specs.Fmt.{decimal}
use Rattle.ttp_base.specs.Text.{Lines, newline}
use Rattle.ttp_world.specs.declared.medl.Medl.{Medl}
use Rattle.ttp_world.specs.declared.script.Event.{Event}
use Rattle.ttp_world.specs.declared.script.Event.TheVariants as event
use Rattle.ttp_world.specs.declared.script.Script.{Script}
use Rattle.ttp_world.specs.Script.{covers}
use Rattle.broken_arms.specs.declared.arms.BrokenArm.{BrokenArm}
use Rattle.broken_faults.specs.declared.early.EarlyFault.{EarlyFault}
use Rattle.broken_faults.specs.declared.few.TooFew.{TooFew}
use Rattle.broken_faults.specs.declared.losses.LostFrame.{LostFrame}
use Rattle.broken_rules.specs.declared.clocks.PastBound.{PastBound}
use Rattle.broken_rules.specs.declared.clocks.PastBound.TheVariants as past
use Rattle.broken_rules.specs.declared.jumps.Disturbed.{Disturbed}
use Rattle.broken_rules.specs.declared.rules.BrokenRules.{BrokenRules}
use Rattle.broken_rules.specs.declared.start.NoStart.{NoStart}
use Rattle.broken_rules.specs.declared.start.NoStart.TheVariants as why
use Rattle.check_words.specs.declared.lines.Place.{Place}
use Rattle.check_words.specs.Lines.{file_place}
use Rattle.warning_words.specs.declared.stated.SaidLine.{SaidLine}
use Rattle.warning_words.specs.declared.files.Files.{Files as TheFiles}
use Rattle.warning_words.specs.declared.stated.Wanted.TheVariants as wanted
use Rattle.warning_words.specs.SaidLines.{first_wanted, cause_line}
use Rattle.warning_words.specs.Texts.{drift_text, errors_text, window_said, disturbance_text, no_start_text, lost_text}
use Rattle.warning_words.specs.Texts.{early_text, few_text, arm_text}

-- A right list and a right script for it, and where their parts stand.
pub record RightFiles : Type 0 where
  pub list : Medl
  pub script : Script
  -- a node of the script is armed
  pub armed : Bool
  pub list_name : List ℕ
  pub script_name : List ℕ
  -- the places of these keys in the list
  pub window : Place
  pub slot : Place
  -- the lines of the script that say what happens in slots, and the others
  pub events : List SaidLine
  pub others : List SaidLine

-- Parts of a line.

-- the letter of a rule
abbrev pub rule_letter : Bool → List ℕ
rule_letter false = codes "H"
rule_letter true = codes "Q"

-- a rule with its letter
abbrev pub rule_text : Bool → ℕ → List ℕ
rule_text armed rule = codes "warning: " ++ (rule_letter armed ++ decimal rule)

-- the slot that is named for it, where one is
abbrev pub slot_words : Option ℕ → List ℕ
slot_words None = codes ": "
slot_words (Some slot) = codes " slot " ++ (decimal slot ++ codes ": ")

-- what stands before what is said
abbrev pub warning_front : List ℕ → Place → Bool → ℕ → Option ℕ → List ℕ
warning_front name place armed rule slot = (file_place name place ++ rule_text armed rule) ++ slot_words slot

-- a line on a rule, at a place
abbrev pub warning_at : List ℕ → Place → Bool → ℕ → Option ℕ → List ℕ → List ℕ
warning_at name place armed rule slot said = (warning_front name place armed rule slot ++ said) ++ newline

-- at a line of the script
abbrev pub said_place : SaidLine → Place
said_place s = record { line = s.line; column = s.column }

abbrev pub warning_on : RightFiles → SaidLine → ℕ → Option ℕ → List ℕ → List ℕ
warning_on f s rule slot said = warning_at f.script_name (said_place s) f.armed rule slot said

-- at a key of the list
abbrev pub warning_in_list : RightFiles → Place → ℕ → List ℕ → List ℕ
warning_in_list f place rule said = warning_at f.list_name place f.armed rule None said

-- The rules.

-- an event adds to the reading errors of a node in a slot
abbrev pub adds_error : ℕ → ℕ → Event → Bool
adds_error k slot (event.Error node value from to) = (node == k) && covers from to slot
adds_error k slot _ = false

-- clocks past a bound: the first `drift` line of such a clock, or the first `error` line of it in the slot
unfoldable pub clocks_line : RightFiles → PastBound → List ℕ
clocks_line f (past.Drifts nodes) =
    let s = first_wanted (wanted.DriftAmong nodes) f.others in
    warning_on f s 1 None (drift_text f.list f.script s.number)
clocks_line f (past.Errors slot node sum) =
    warning_on f (cause_line (position (adds_error node slot) f.script.events) f.events f.others) 1
    (Some slot) (errors_text f.list node sum)

-- a window that is to be so wide
unfoldable pub window_line : RightFiles → ℤ → List ℕ
window_line f due = warning_in_list f f.window 2 (window_said f.list f.armed due)

-- a flipped bit or a jump
unfoldable pub disturbed_line : RightFiles → Disturbed → List ℕ
disturbed_line f d =
    warning_on f (cause_line (Some d.place) f.events f.others) 3 (Some d.slot) (disturbance_text f.list d.by)

-- no start: in the list, or at the line of the slots of the run, or at an `on` line
unfoldable pub no_start_line : RightFiles → NoStart → List ℕ
no_start_line f why.NoStarter = warning_in_list f f.slot 4 (no_start_text f.script 0 why.NoStarter)
no_start_line f why.NobodyOn =
    warning_on f (first_wanted wanted.Slots f.others) 4 None (no_start_text f.script 0 why.NobodyOn)
no_start_line f (why.NoStarterOn starters) =
    warning_on f (first_wanted wanted.Slots f.others) 4 None (no_start_text f.script 0 (why.NoStarterOn starters))
no_start_line f (why.Rivals slot first second) =
    warning_on f (first_wanted (wanted.On second) f.others) 4 None
    (no_start_text f.script 0 (why.Rivals slot first second))
no_start_line f (why.Late slot nodes) =
    let s = first_wanted (wanted.OnAmong nodes) f.others in
    warning_on f s 4 None (no_start_text f.script s.number (why.Late slot nodes))

-- a frame that some lost and others did not
unfoldable pub lost_line : RightFiles → LostFrame → List ℕ
lost_line f lost = warning_on f (cause_line lost.cause f.events f.others) 5 (Some lost.slot) (lost_text lost)

-- a fault that comes too early
unfoldable pub early_line : RightFiles → EarlyFault → List ℕ
early_line f fault = warning_on f (cause_line fault.cause f.events f.others) 6 (Some fault.slot) (early_text fault)

-- too few nodes to measure
unfoldable pub few_line : RightFiles → TooFew → List ℕ
few_line f few = warning_on f (cause_line few.cause f.events f.others) 7 (Some few.slot) (few_text few)

-- an arm line that does not give its node its place
unfoldable pub arm_line : RightFiles → BrokenArm → List ℕ
arm_line f arm = warning_on f (cause_line (Some arm.place) f.events f.others) 8 (Some arm.slot) (arm_text arm)

-- All of them.

-- a line on a rule that is not kept
abbrev pub line_if : {X : Type 0} → (X → List ℕ) → Option X → Lines
line_if line None = []
line_if line (Some x) = line x ∷ []

-- on the first four rules, and on the others
abbrev pub condition_lines : RightFiles → BrokenRules → Lines
condition_lines f broken =
    line_if (clocks_line f) broken.conditions.clocks ++ (line_if (window_line f) broken.conditions.window
    ++ (line_if (disturbed_line f) broken.conditions.disturbed ++ line_if (no_start_line f) broken.conditions.start))

abbrev pub fault_warnings : RightFiles → BrokenRules → Lines
fault_warnings f broken =
    line_if (lost_line f) broken.faults.lost ++ (line_if (early_line f) broken.faults.early
    ++ (line_if (few_line f) broken.faults.few ++ line_if (arm_line f) broken.arm))

-- in the order of the rules
unfoldable pub warning_lines : RightFiles → BrokenRules → Lines
warning_lines f broken = condition_lines f broken ++ fault_warnings f broken

-- of a list alone, a window that is to be so wide
abbrev pub window_alone : Medl → List ℕ → Place → ℤ → List ℕ
window_alone list name place due = warning_at name place false 2 None (window_said list false due)

-- the files of a call
abbrev pub files_of : TheFiles → RightFiles
files_of f = record {
  list = f.list.now;
  script = f.script.now;
  armed = f.armed;
  list_name = f.list_name.now;
  script_name = f.script_name.now;
  window = f.window;
  slot = f.slot;
  events = f.events.now;
  others = f.others.now;
}
