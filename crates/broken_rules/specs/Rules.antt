-- What breaks the rules of a script, all at once, and the answer of its test.
use Rattle.std.specs.Prelude.{◌≡◌, ℕ, Bool, true, false, ◌==◌, Option, Some, None, option_map, if◌then◌else◌}
use Rattle.std.specs.Option.{option_or}
use Rattle.ttp_world.specs.declared.keep.Back.TheVariants as back
use Rattle.ttp_world.specs.declared.keep.Keep.TheVariants as keep
use Rattle.ttp_world.specs.declared.medl.Medl.{Medl}
use Rattle.ttp_world.specs.declared.script.Script.{Script}
use Rattle.ttp_world.specs.Hypothesis.{ClusterStart, keeps, start_of}
use Rattle.ttp_world.specs.Returning.{arms_broken, has_arm, returns}
use Rattle.broken_arms.specs.declared.arms.BrokenArm.{BrokenArm}
use Rattle.broken_faults.specs.declared.faults.BrokenFaults.{BrokenFaults}
use Rattle.broken_faults.specs.declared.losses.LostFrame.{LostFrame}
use Rattle.broken_arms.specs.Arms.{broken_arm}
use Rattle.broken_faults.specs.BrokenFaults.{broken_faults, NameFaultSlots}
use Rattle.broken_rules.specs.declared.rules.Answer.{Answer}
use Rattle.broken_rules.specs.declared.rules.Answer.TheVariants as answer
use Rattle.broken_rules.specs.declared.rules.BrokenRules.{BrokenRules}
use Rattle.broken_rules.specs.declared.start.NoStart.{NoStart}
use Rattle.broken_rules.specs.Clocks.{past_slot}
use Rattle.broken_rules.specs.Conditions.{broken_conditions, window_named, NameTheirSlots}

-- the answer of the test, with or without armed nodes
abbrev pub answer_by : Medl → Script → Bool → Answer
answer_by list script false = answer.Keeps (keeps list script)
answer_by list script true = answer.Returns (returns list script)

abbrev pub test_answer : Medl → Script → Answer
test_answer list script = answer_by list script (has_arm script)

-- the slot in which a clock is past a bound, by an answer
abbrev pub clocks_slot : Answer → Option ℕ
clocks_slot (answer.Keeps (keep.Yes start)) = None
clocks_slot (answer.Keeps (keep.No rule slot)) = if rule == 1 then Some slot else None
clocks_slot (answer.Returns (back.Yes start)) = None
clocks_slot (answer.Returns (back.No rule slot)) = if rule == 1 then Some slot else None

-- the rules on faults are asked where the cluster starts
abbrev pub faults_if : Medl → Script → Option ClusterStart → BrokenFaults
faults_if list script None = record { lost = None; early = None; few = None }
faults_if list script (Some start) = broken_faults list script start

-- that on arm lines where one stands, and no frame is lost against the rule on losses
abbrev pub arm_by : Medl → Script → Bool → Option ClusterStart → Option LostFrame → Option BrokenArm
arm_by list script true (Some start) None = broken_arm list script start
arm_by list script true (Some start) (Some frame) = None
arm_by list script true None lost = None
arm_by list script false start lost = None

abbrev pub broken_rules : Medl → Script → BrokenRules
broken_rules list script = record {
  answer = test_answer list script;
  conditions = broken_conditions list script;
  faults = faults_if list script (start_of list script);
  arm = arm_by list script (has_arm script) (start_of list script) (faults_if list script (start_of list script)).lost;
}

-- a rule with the slot that is named for it
pub record RuleSlot : Type 0 where
  pub rule : ℕ
  pub slot : ℕ

-- a rule is broken in a slot, if it is
abbrev pub rule_in : ℕ → Option ℕ → Option RuleSlot
rule_in rule slot = option_map (λ s. record { rule = rule; slot = s }) slot

-- slot 0 is named where there is no start
abbrev pub start_named : Option NoStart → Option ℕ
start_named None = None
start_named (Some why) = Some 0

-- the first rule, in their order, of which something is told
abbrev pub first_broken : BrokenRules → Option RuleSlot
first_broken broken =
    option_or (rule_in 1 (option_map past_slot broken.conditions.clocks))
    (option_or (rule_in 2 (window_named broken.conditions.window))
    (option_or (rule_in 3 (option_map (λ d. d.slot) broken.conditions.disturbed))
    (option_or (rule_in 4 (start_named broken.conditions.start))
    (option_or (rule_in 5 (option_map (λ l. l.slot) broken.faults.lost))
    (option_or (rule_in 6 (option_map (λ e. e.slot) broken.faults.early))
    (option_or (rule_in 7 (option_map (λ w. w.slot) broken.faults.few))
    (rule_in 8 (option_map (λ a. a.slot) broken.arm))))))))

-- the rule that an answer names, if it says no
abbrev pub first_named : Answer → Option RuleSlot
first_named (answer.Keeps (keep.Yes start)) = None
first_named (answer.Keeps (keep.No rule slot)) = Some (record { rule = rule; slot = slot })
first_named (answer.Returns (back.Yes start)) = None
first_named (answer.Returns (back.No rule slot)) = Some (record { rule = rule; slot = slot })

-- Each rule is told of exactly where it is broken, and in the slot that it names.
pub record NameAllSlots (list : Medl) (script : Script) (broken : BrokenRules) : Type 0 where
  pub conditions : NameTheirSlots list script broken.conditions
  pub faults : (start : ClusterStart) → start_of list script ≡ Some start
      → NameFaultSlots list script start broken.faults
  pub arm : (start : ClusterStart) → start_of list script ≡ Some start → has_arm script ≡ true
      → broken.faults.lost ≡ None → option_map (λ arm. arm.slot) broken.arm ≡ arms_broken list script start
