-- Where the test says yes, no line is written on a rule.
use Rattle.std.proofs.Common.{◌≡◌, ℕ, ℤ, true, not, List, [], Option, Some, None, is_some, option_map, refl, ◌∙◌, arith}
use Rattle.std.specs.Option.{option_or}
use Rattle.broken_arms.specs.declared.arms.BrokenArm.{BrokenArm}
use Rattle.broken_faults.specs.declared.early.EarlyFault.{EarlyFault}
use Rattle.broken_faults.specs.declared.few.TooFew.{TooFew}
use Rattle.broken_faults.specs.declared.losses.LostFrame.{LostFrame}
use Rattle.broken_rules.specs.declared.jumps.Disturbed.{Disturbed}
use Rattle.broken_rules.specs.declared.rules.BrokenRules.{BrokenRules}
use Rattle.broken_rules.specs.declared.start.NoStart.{NoStart}
use Rattle.broken_rules.specs.Clocks.{past_slot}
use Rattle.broken_rules.specs.Conditions.{window_named}
use Rattle.broken_rules.specs.Rules.{RuleSlot, rule_in, first_named, first_broken, start_named}
use Rattle.check_text.proofs.FromBelow.{not-named}
use Rattle.warning_words.specs.Warnings.{RightFiles, line_if, warning_lines}
use Rattle.warning_words.specs.Warnings.{clocks_line, window_line, disturbed_line, no_start_line, lost_line, early_line}
use Rattle.warning_words.specs.Warnings.{few_line, arm_line}

-- of two, neither is named, so neither is there
neither : (found other : Option RuleSlot) → option_or found other ≡ None → (found ≡ None) × (other ≡ None)
neither None other none = (refl, none)
neither (Some x) other none = absurd (grind arith)

-- a rule of which nothing is named has no line
no_line : {X : Type 0} (rule : ℕ) (of : X → ℕ) (line : X → List ℕ) (found : Option X)
    → rule_in rule (option_map of found) ≡ None → line_if line found ≡ []
no_line rule of line None none = refl
no_line rule of line (Some x) none = absurd (grind arith)

no_window : (f : RightFiles) (b : BrokenRules) → rule_in 2 (window_named b.conditions.window) ≡ None
    → line_if (window_line f) b.conditions.window ≡ []
no_window f b none = by b.conditions.window none
  where
    by : (found : Option ℤ) → rule_in 2 (window_named found) ≡ None → line_if (window_line f) found ≡ []
    by None is = refl
    by (Some due) is = absurd (grind arith)

no_start : (f : RightFiles) (b : BrokenRules) → rule_in 4 (start_named b.conditions.start) ≡ None
    → line_if (no_start_line f) b.conditions.start ≡ []
no_start f b none = by b.conditions.start none
  where
    by : (found : Option NoStart) → rule_in 4 (start_named found) ≡ None → line_if (no_start_line f) found ≡ []
    by None is = refl
    by (Some why) is = absurd (grind arith)

pub none_broken : (f : RightFiles) (b : BrokenRules) → first_broken b ≡ None → [] ≡ warning_lines f b
unfolding warning_lines
none_broken f b none =
    let first = neither (rule_in 1 (option_map past_slot b.conditions.clocks)) _ none in
    let second = neither (rule_in 2 (window_named b.conditions.window)) _ first.1 in
    let third = neither (rule_in 3 (option_map (λ (d : Disturbed). d.slot) b.conditions.disturbed)) _ second.1 in
    let fourth = neither (rule_in 4 (start_named b.conditions.start)) _ third.1 in
    let fifth = neither (rule_in 5 (option_map (λ (l : LostFrame). l.slot) b.faults.lost)) _ fourth.1 in
    let sixth = neither (rule_in 6 (option_map (λ (e : EarlyFault). e.slot) b.faults.early)) _ fifth.1 in
    let seventh = neither (rule_in 7 (option_map (λ (w : TooFew). w.slot) b.faults.few)) _ sixth.1 in
    rw (
      no_line 1 past_slot (clocks_line f) b.conditions.clocks first.0,
      no_window f b second.0,
      no_line 3 (λ (d : Disturbed). d.slot) (disturbed_line f) b.conditions.disturbed third.0,
      no_start f b fourth.0,
      no_line 5 (λ (l : LostFrame). l.slot) (lost_line f) b.faults.lost fifth.0,
      no_line 6 (λ (e : EarlyFault). e.slot) (early_line f) b.faults.early sixth.0,
      no_line 7 (λ (w : TooFew). w.slot) (few_line f) b.faults.few seventh.0,
      no_line 8 (λ (a : BrokenArm). a.slot) (arm_line f) b.arm seventh.1,
    ) refl

-- the test says yes
pub nothing_told : (f : RightFiles) (b : BrokenRules) → first_broken b ≡ first_named b.answer
    → not (is_some (first_named b.answer)) ≡ true → [] ≡ warning_lines f b
nothing_told f b named says = none_broken f b (named ∙ not-named (first_named b.answer) says)
