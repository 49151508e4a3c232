-- The first rule of which something is told is the one that the test of a script names.
use Rattle.std.proofs.Common.{arith, ◌≡◌, ℕ, Bool, true, false, not, Option, Some, None}
use Rattle.std.proofs.Common.{is_some, option_map, refl, ap, sym, subst, ◌∙◌}
use Rattle.std.specs.Option.{option_or}
use Rattle.ttp_world.specs.declared.keep.Back.{Back}
use Rattle.ttp_world.specs.declared.keep.Back.TheVariants as back
use Rattle.ttp_world.specs.declared.keep.Keep.{Keep}
use Rattle.ttp_world.specs.declared.keep.Keep.TheVariants as keep
use Rattle.ttp_world.specs.declared.medl.Medl.{Medl}
use Rattle.ttp_world.specs.declared.script.Script.{Script}
use Rattle.ttp_world.specs.Hypothesis.{ClusterStart, clocks_broken, window_broken}
use Rattle.ttp_world.specs.Hypothesis.{outside_broken, start_of, loss_broken}
use Rattle.ttp_world.specs.Hypothesis.{distance_broken, sync_broken, unless, started_keep, keeps}
use Rattle.ttp_world.specs.Returning.{back_window_broken, disturbance_broken, back_loss_broken, back_distance_broken}
use Rattle.ttp_world.specs.Returning.{back_sync_broken, arms_broken, unless_back, started_back, has_arm, returns}
use Rattle.broken_arms.specs.declared.arms.BrokenArm.{BrokenArm}
use Rattle.broken_faults.specs.declared.early.EarlyFault.{EarlyFault}
use Rattle.broken_faults.specs.declared.faults.BrokenFaults.{BrokenFaults}
use Rattle.broken_faults.specs.declared.few.TooFew.{TooFew}
use Rattle.broken_faults.specs.declared.losses.LostFrame.{LostFrame}
use Rattle.broken_faults.specs.BrokenFaults.{faults_by, NameFaultSlots}
use Rattle.broken_faults.specs.Faults.{lost_frame, early_fault, too_few_left}
use Rattle.broken_arms.proofs.ArmSlots as arm_slots
use Rattle.broken_faults.proofs.Kept as kept
use Rattle.broken_faults.proofs.Named as fault_slots
use Rattle.broken_rules.specs.declared.conditions.BrokenConditions.{BrokenConditions}
use Rattle.broken_rules.specs.declared.rules.Answer.{Answer}
use Rattle.broken_rules.specs.declared.rules.Answer.TheVariants as answer
use Rattle.broken_rules.specs.declared.rules.BrokenRules.{BrokenRules}
use Rattle.broken_rules.specs.declared.jumps.Disturbed.{Disturbed}
use Rattle.broken_rules.specs.Clocks.{past_bound, past_slot}
use Rattle.broken_rules.specs.Conditions.{broken_conditions, narrow_by, window_named, NameTheirSlots}
use Rattle.broken_rules.specs.Jumps.{first_disturbed}
use Rattle.broken_rules.specs.Rules.{RuleSlot, rule_in, first_named, first_broken, start_named, broken_rules, faults_if}
use Rattle.broken_rules.specs.Rules.{arm_by, test_answer, answer_by, clocks_slot, NameAllSlots}
use Rattle.broken_rules.specs.Start.{no_start_by}
use Rattle.broken_rules.proofs.Slots as slots

-- The rules behind the start.

abbrev kept_behind : Medl → Script → Option ClusterStart → Option RuleSlot
kept_behind list script None = rule_in 4 (Some 0)
kept_behind list script (Some start) =
    option_or (rule_in 5 (loss_broken list script start))
    (option_or (rule_in 6 (distance_broken list script start))
    (option_or (rule_in 7 (sync_broken list script start)) None))

abbrev back_behind : Medl → Script → Option ClusterStart → Option RuleSlot
back_behind list script None = rule_in 4 (Some 0)
back_behind list script (Some start) =
    option_or (rule_in 5 (back_loss_broken list script start))
    (option_or (rule_in 6 (back_distance_broken list script start))
    (option_or (rule_in 7 (back_sync_broken list script start)) (rule_in 8 (arms_broken list script start))))

unless-named : (rule : ℕ) (slot : Option ℕ) (others : Keep)
    → first_named (answer.Keeps (unless rule slot others))
    ≡ option_or (rule_in rule slot) (first_named (answer.Keeps others))
unless-named rule None others = refl
unless-named rule (Some slot) others = refl

back-named : (rule : ℕ) (slot : Option ℕ) (others : Back)
    → first_named (answer.Returns (unless_back rule slot others))
    ≡ option_or (rule_in rule slot) (first_named (answer.Returns others))
back-named rule None others = refl
back-named rule (Some slot) others = refl

last-rule : (slot : Option ℕ) → option_or (rule_in 8 slot) None ≡ rule_in 8 slot
last-rule None = refl
last-rule (Some slot) = refl

started-named : (list : Medl) (script : Script) (start : Option ClusterStart)
    → first_named (answer.Keeps (started_keep list script start)) ≡ kept_behind list script start
started-named list script None = refl
started-named list script (Some start) =
    unless-named 5 (loss_broken list script start) _
    ∙ ap (option_or (rule_in 5 (loss_broken list script start)))
    (unless-named 6 (distance_broken list script start) _
    ∙ ap (option_or (rule_in 6 (distance_broken list script start)))
    (unless-named 7 (sync_broken list script start) (keep.Yes start.slot)))

returned-named : (list : Medl) (script : Script) (start : Option ClusterStart)
    → first_named (answer.Returns (started_back list script start)) ≡ back_behind list script start
returned-named list script None = refl
returned-named list script (Some start) =
    back-named 5 (back_loss_broken list script start) _
    ∙ ap (option_or (rule_in 5 (back_loss_broken list script start)))
    (back-named 6 (back_distance_broken list script start) _
    ∙ ap (option_or (rule_in 6 (back_distance_broken list script start)))
    (back-named 7 (back_sync_broken list script start) _
    ∙ ap (option_or (rule_in 7 (back_sync_broken list script start)))
    (back-named 8 (arms_broken list script start) (back.Yes start.slot)
    ∙ last-rule (arms_broken list script start))))

keeps-named : (list : Medl) (script : Script) → first_named (answer.Keeps (keeps list script))
    ≡ option_or (rule_in 1 (clocks_broken list script)) (option_or (rule_in 2 (window_broken list))
    (option_or (rule_in 3 (outside_broken list script)) (kept_behind list script (start_of list script))))
keeps-named list script =
    unless-named 1 (clocks_broken list script) _
    ∙ ap (option_or (rule_in 1 (clocks_broken list script)))
    (unless-named 2 (window_broken list) _
    ∙ ap (option_or (rule_in 2 (window_broken list)))
    (unless-named 3 (outside_broken list script) (started_keep list script (start_of list script))
    ∙ ap (option_or (rule_in 3 (outside_broken list script))) (started-named list script (start_of list script))))

returns-named : (list : Medl) (script : Script) → first_named (answer.Returns (returns list script))
    ≡ option_or (rule_in 1 (clocks_broken list script)) (option_or (rule_in 2 (back_window_broken list))
    (option_or (rule_in 3 (disturbance_broken list script)) (back_behind list script (start_of list script))))
returns-named list script =
    back-named 1 (clocks_broken list script) _
    ∙ ap (option_or (rule_in 1 (clocks_broken list script)))
    (back-named 2 (back_window_broken list) _
    ∙ ap (option_or (rule_in 2 (back_window_broken list)))
    (back-named 3 (disturbance_broken list script) (started_back list script (start_of list script))
    ∙ ap (option_or (rule_in 3 (disturbance_broken list script))) (returned-named list script (start_of list script))))

-- What is told of them.

abbrev told_behind : Medl → Script → Bool → Option ClusterStart → Option RuleSlot
told_behind list script armed start =
    option_or (rule_in 4 (start_named (no_start_by list script start)))
    (option_or (rule_in 5 (option_map (λ (l : LostFrame). l.slot) (faults_if list script start).lost))
    (option_or (rule_in 6 (option_map (λ (e : EarlyFault). e.slot) (faults_if list script start).early))
    (option_or (rule_in 7 (option_map (λ (w : TooFew). w.slot) (faults_if list script start).few))
    (rule_in 8 (option_map (λ (a : BrokenArm). a.slot)
    (arm_by list script armed start (faults_if list script start).lost))))))

faults-told : (lost : Option LostFrame) (early : Option EarlyFault)
    (few : Option TooFew) (arm : Option LostFrame → Option ℕ)
    (l e f a : Option ℕ) → option_map (λ (l : LostFrame). l.slot) lost ≡ l
    → option_map (λ (e : EarlyFault). e.slot) early ≡ e → option_map (λ (w : TooFew). w.slot) few ≡ f → arm None ≡ a
    → option_or (rule_in 5 (option_map (λ (l : LostFrame). l.slot) (faults_by lost early few).lost))
    (option_or (rule_in 6 (option_map (λ (e : EarlyFault). e.slot) (faults_by lost early few).early))
    (option_or (rule_in 7 (option_map (λ (w : TooFew). w.slot) (faults_by lost early few).few))
    (rule_in 8 (arm (faults_by lost early few).lost))))
    ≡ option_or (rule_in 5 l) (option_or (rule_in 6 e) (option_or (rule_in 7 f) (rule_in 8 a)))
faults-told None early few arm l e f a lost_is early_is few_is arm_is =
    (λ i. option_or (rule_in 5 (lost_is i))
    (option_or (rule_in 6 (early_is i)) (option_or (rule_in 7 (few_is i)) (rule_in 8 (arm_is i)))))
faults-told (Some frame) early few arm l e f a lost_is early_is few_is arm_is =
    ap (λ slot. option_or (rule_in 5 slot) (option_or (rule_in 6 e) (option_or (rule_in 7 f) (rule_in 8 a)))) lost_is

kept-told : (list : Medl) (script : Script) (start : Option ClusterStart) → has_arm script ≡ false
    → told_behind list script false start ≡ kept_behind list script start
kept-told list script None none = refl
kept-told list script (Some start) none =
    faults-told (lost_frame list script start) (early_fault list script start) (too_few_left list script start)
    (λ lost. None) (loss_broken list script start)
    (distance_broken list script start) (sync_broken list script start) None
    (fault_slots.lost list script start (back_loss_broken list script start) ∙ kept.lost list script start none)
    (fault_slots.early list script start ∙ kept.early list script start none)
    (fault_slots.few list script start (back_sync_broken list script start) ∙ kept.few list script start none) refl

back-told : (list : Medl) (script : Script) (start : Option ClusterStart)
    → told_behind list script true start ≡ back_behind list script start
back-told list script None = refl
back-told list script (Some start) =
    faults-told (lost_frame list script start) (early_fault list script start) (too_few_left list script start)
    (λ lost. option_map (λ (a : BrokenArm). a.slot) (arm_by list script true (Some start) lost))
    (back_loss_broken list script start) (back_distance_broken list script start) (back_sync_broken list script start)
    (arms_broken list script start)
    (fault_slots.lost list script start (back_loss_broken list script start)) (fault_slots.early list script start)
    (fault_slots.few list script start (back_sync_broken list script start)) (arm_slots.named list script start)

told-by : (list : Medl) (script : Script) (armed : Bool) → has_arm script ≡ armed
    → option_or (rule_in 1 (option_map past_slot (past_bound list script)))
    (option_or (rule_in 2 (window_named (narrow_by list armed)))
    (option_or (rule_in 3 (option_map (λ (d : Disturbed). d.slot) (first_disturbed list script)))
    (told_behind list script armed (start_of list script))))
    ≡ first_named (answer_by list script armed)
told-by list script false is =
    (λ i. option_or (rule_in 1 (slots.clocks list script i)) (option_or (rule_in 2 (slots.window list false i))
    (option_or (rule_in 3 (slots.outside list script is i)) (kept-told list script (start_of list script) is i))))
    ∙ sym (keeps-named list script)
told-by list script true is =
    (λ i. option_or (rule_in 1 (slots.clocks list script i)) (option_or (rule_in 2 (slots.window list true i))
    (option_or (rule_in 3 (slots.disturbed list script i)) (back-told list script (start_of list script) i))))
    ∙ sym (returns-named list script)

pub named : (list : Medl) (script : Script)
    → first_broken (broken_rules list script) ≡ first_named (test_answer list script)
named list script = told-by list script (has_arm script) refl

-- Beside a frame that is lost against the rule nothing is told of arm lines.
pub arm-beside : (list : Medl) (script : Script) (armed : Bool) (start : Option ClusterStart) (lost : Option LostFrame)
    → is_some lost ≡ true → None ≡ arm_by list script armed start lost
arm-beside list script true None lost some = refl
arm-beside list script true (Some start) None some = absurd (grind arith)
arm-beside list script true (Some start) (Some frame) some = refl
arm-beside list script false start lost some = refl

-- Where the test says yes, nothing is told.

pub not-named : (found : Option RuleSlot) → not (is_some found) ≡ true → found ≡ None
not-named None none = refl
not-named (Some rule) none = absurd (grind arith)

neither : {X : Type 0} (found other : Option X) → option_or found other ≡ None → (found ≡ None) × (other ≡ None)
neither None other none = (refl, none)
neither (Some x) other none = absurd (grind arith)

not_in : (rule : ℕ) (slot : Option ℕ) → rule_in rule slot ≡ None → slot ≡ None
not_in rule None none = refl
not_in rule (Some slot) none = absurd (grind arith)

not_mapped : {X : Type 0} (of : X → ℕ) (found : Option X) → option_map of found ≡ None → found ≡ None
not_mapped of None none = refl
not_mapped of (Some x) none = absurd (grind arith)

no_rule : {X : Type 0} (rule : ℕ) (of : X → ℕ) (found : Option X) → rule_in rule (option_map of found) ≡ None
    → found ≡ None
no_rule rule of found none = not_mapped of found (not_in rule (option_map of found) none)

-- what is told, part by part
abbrev pub rules_of : Answer → BrokenConditions → BrokenFaults → Option BrokenArm → BrokenRules
rules_of answer conditions faults arm =
    record { answer = answer; conditions = conditions; faults = faults; arm = arm }

abbrev pub no_faults : BrokenFaults
no_faults = record { lost = None; early = None; few = None }

pub yes : (list : Medl) (script : Script) → first_named (test_answer list script) ≡ None
    → rules_of (test_answer list script) (broken_conditions list script) no_faults None ≡ broken_rules list script
yes list script none =
    let told = broken_rules list script in
    let first = neither (rule_in 1 (option_map past_slot told.conditions.clocks)) _ (named list script ∙ none) in
    let second = neither (rule_in 2 (window_named told.conditions.window)) _ first.1 in
    let third = neither (rule_in 3 (option_map (λ (d : Disturbed). d.slot) told.conditions.disturbed)) _ second.1 in
    let fourth = neither (rule_in 4 (start_named told.conditions.start)) _ third.1 in
    let fifth = neither (rule_in 5 (option_map (λ (l : LostFrame). l.slot) told.faults.lost)) _ fourth.1 in
    let sixth = neither (rule_in 6 (option_map (λ (e : EarlyFault). e.slot) told.faults.early)) _ fifth.1 in
    let seventh = neither (rule_in 7 (option_map (λ (w : TooFew). w.slot) told.faults.few)) _ sixth.1 in
    let lost = no_rule 5 (λ (l : LostFrame). l.slot) told.faults.lost fifth.0 in
    let early = no_rule 6 (λ (e : EarlyFault). e.slot) told.faults.early sixth.0 in
    let few = no_rule 7 (λ (w : TooFew). w.slot) told.faults.few seventh.0 in
    let arm = no_rule 8 (λ (a : BrokenArm). a.slot) told.arm seventh.1 in
    (λ i. rules_of (test_answer list script) (broken_conditions list script)
    (record { lost = sym lost i; early = sym early i; few = sym few i }) (sym arm i))

-- Each rule by itself.

conditions-named : (list : Medl) (script : Script) → NameTheirSlots list script (broken_conditions list script)
conditions-named list script = record {
  clocks = slots.clocks list script;
  window = slots.window list (has_arm script);
  disturbed = slots.disturbed list script;
  outside = slots.outside list script;
  start = slots.start list script;
}

arm-named : (list : Medl) (script : Script) (start : ClusterStart) (armed : Bool) (found : Option ClusterStart)
    (lost : Option LostFrame) → armed ≡ true → found ≡ Some start → lost ≡ None
    → option_map (λ (a : BrokenArm). a.slot) (arm_by list script armed found lost) ≡ arms_broken list script start
arm-named list script start armed found lost is_armed starts none =
    (λ i. option_map (λ (a : BrokenArm). a.slot) (arm_by list script (is_armed i) (starts i) (none i)))
    ∙ arm_slots.named list script start

pub each : (list : Medl) (script : Script) → NameAllSlots list script (broken_rules list script)
each list script = record {
  conditions = conditions-named list script;
  faults = λ start is. subst (λ found. NameFaultSlots list script start (faults_if list script found)) (sym is)
      (fault_slots.each list script start);
  arm = λ start is armed none.
      arm-named list script start (has_arm script) (start_of list script)
      (broken_rules list script).faults.lost armed is none;
}

-- The slot in which a clock is past a bound.

kept-faults : (slot : ℕ) (lost early few : Option ℕ)
    → clocks_slot (answer.Keeps (unless 5 lost (unless 6 early (unless 7 few (keep.Yes slot))))) ≡ None
kept-faults slot (Some n) early few = refl
kept-faults slot None (Some n) few = refl
kept-faults slot None None (Some n) = refl
kept-faults slot None None None = refl

kept-later : (list : Medl) (script : Script) (window outside : Option ℕ) (start : Option ClusterStart)
    → clocks_slot (answer.Keeps (unless 2 window (unless 3 outside (started_keep list script start)))) ≡ None
kept-later list script (Some n) outside start = refl
kept-later list script None (Some n) start = refl
kept-later list script None None None = refl
kept-later list script None None (Some start) =
    kept-faults start.slot (loss_broken list script start)
    (distance_broken list script start) (sync_broken list script start)

clocks-kept : (list : Medl) (script : Script) (broken : Option ℕ) → clocks_broken list script ≡ broken
    → clocks_slot (answer.Keeps (keeps list script)) ≡ broken
clocks-kept list script None is =
    rw is (kept-later list script (window_broken list) (outside_broken list script) (start_of list script))
clocks-kept list script (Some slot) is = rw is refl

back-faults : (slot : ℕ) (lost early few arm : Option ℕ) → clocks_slot (answer.Returns (unless_back 5 lost
    (unless_back 6 early (unless_back 7 few (unless_back 8 arm (back.Yes slot)))))) ≡ None
back-faults slot (Some n) early few arm = refl
back-faults slot None (Some n) few arm = refl
back-faults slot None None (Some n) arm = refl
back-faults slot None None None (Some n) = refl
back-faults slot None None None None = refl

back-later : (list : Medl) (script : Script) (window outside : Option ℕ) (start : Option ClusterStart)
    → clocks_slot (answer.Returns (unless_back 2 window (unless_back 3 outside (started_back list script start))))
    ≡ None
back-later list script (Some n) outside start = refl
back-later list script None (Some n) start = refl
back-later list script None None None = refl
back-later list script None None (Some start) =
    back-faults start.slot (back_loss_broken list script start) (back_distance_broken list script start)
    (back_sync_broken list script start) (arms_broken list script start)

clocks-back : (list : Medl) (script : Script) (broken : Option ℕ) → clocks_broken list script ≡ broken
    → clocks_slot (answer.Returns (returns list script)) ≡ broken
clocks-back list script None is =
    rw is (back-later list script (back_window_broken list) (disturbance_broken list script) (start_of list script))
clocks-back list script (Some slot) is = rw is refl

pub clocks : (list : Medl) (script : Script) (armed : Bool)
    → clocks_slot (answer_by list script armed) ≡ clocks_broken list script
clocks list script false = clocks-kept list script (clocks_broken list script) refl
clocks list script true = clocks-back list script (clocks_broken list script) refl
