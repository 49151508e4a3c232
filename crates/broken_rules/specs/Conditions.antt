-- What breaks the rules that ask nothing of faulty nodes.
use Rattle.std.specs.Prelude.{◌≡◌, ℕ, ℤ, Bool, true, false, not, Option, Some, None, is_some, option_map}
use Rattle.ttp_world.specs.declared.medl.Medl.{Medl}
use Rattle.ttp_world.specs.declared.script.Script.{Script}
use Rattle.ttp_world.specs.Hypothesis.{clocks_broken, window_broken, outside_broken, start_of}
use Rattle.ttp_world.specs.Returning.{back_window_broken, disturbance_broken, has_arm}
use Rattle.broken_rules.specs.declared.conditions.BrokenConditions.{BrokenConditions}
use Rattle.broken_rules.specs.Clocks.{past_bound, past_slot, narrow_window, narrow_window_back}
use Rattle.broken_rules.specs.Jumps.{first_disturbed}
use Rattle.broken_rules.specs.Start.{no_start}

-- how wide the window has to be, where it is narrower, with or without armed nodes
abbrev pub narrow_by : Medl → Bool → Option ℤ
narrow_by list false = narrow_window list
narrow_by list true = narrow_window_back list

-- each rule by itself, whether or not one before it is broken
abbrev pub broken_conditions : Medl → Script → BrokenConditions
broken_conditions list script = record {
  clocks = past_bound list script;
  window = narrow_by list (has_arm script);
  disturbed = first_disturbed list script;
  start = no_start list script;
}

-- slot 0 is named for a window that has to be so wide
abbrev pub window_named : Option ℤ → Option ℕ
window_named None = None
window_named (Some due) = Some 0

-- the slot that the rule on the window names, with or without armed nodes
abbrev pub window_slot : Medl → Bool → Option ℕ
window_slot list false = window_broken list
window_slot list true = back_window_broken list

-- Each is there exactly where its rule is broken, and in the slot that the rule names.
pub record NameTheirSlots (list : Medl) (script : Script) (broken : BrokenConditions) : Type 0 where
  pub clocks : option_map past_slot broken.clocks ≡ clocks_broken list script
  pub window : window_named broken.window ≡ window_slot list (has_arm script)
  pub disturbed : option_map (λ d. d.slot) broken.disturbed ≡ disturbance_broken list script
  pub outside : has_arm script ≡ false → option_map (λ d. d.slot) broken.disturbed ≡ outside_broken list script
  pub start : is_some broken.start ≡ not (is_some (start_of list script))
