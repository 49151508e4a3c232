-- Which modes the lines of a text of modes show.
use Rattle.std.proofs.Common.{◌≡◌, ℕ, zero, suc, ◌-◌, ◌<◌, ◌≤◌, true, List, [], ◌∷◌, length, drop}
use Rattle.std.proofs.Common.{Option, Some, None, refl, sym, subst, ◌∙◌, arith}
use Rattle.std.specs.Prelude.{IsSome}
use Rattle.std.specs.List.{Contains}
use Rattle.std.proofs.lemmas.Bool.{false≢true}
use Rattle.std.proofs.lemmas.List.{length-drop}
use Rattle.std.proofs.lemmas.List.FromFn.{get_or-map-range_with_len, length-map-range_with_len}
use Rattle.std.proofs.lemmas.List.Elements.{Contains-append_left, Contains-append_right, Contains-get_or}
use Rattle.ttp_base.specs.Text.{Lines}
use Rattle.ttp_world.specs.declared.keep.Keep.TheVariants as keep
use Rattle.ttp_world.specs.declared.medl.Medl.{Medl}
use Rattle.ttp_world.specs.declared.node.Entry.{Entry}
use Rattle.ttp_world.specs.declared.script.Script.{Script}
use Rattle.ttp_world.specs.Diary.{History}
use Rattle.ttp_world.specs.Hypothesis.{keeps, is_correct_after}
use Rattle.ttp_world.specs.Legal.{IsLegalRun}
use Rattle.ttp_world.specs.Medl.{IsValid}
use Rattle.ttp_world.specs.Safety.{newest_slot}
use Rattle.ttp_world.specs.Script.{IsValidScript}
use Rattle.ttp_world.specs.World.{Numbers, world}
use Rattle.ttp_world.proofs.Worlds.{length-world}
use Rattle.precision.specs.Together.{IsIn}
use Rattle.mode_change.specs.Modes.{modes_of, mode_of, live_in}
use Rattle.mode_change.specs.ModeText.{mode_line, mode_line_of, mode_slot_lines, mode_history_lines}
use Rattle.mode_change.specs.ModeText.{mode_lines, mode_head}
use Rattle.theorems.specs.KeptRun.{RunOneMode}
use Rattle.theorems.specs.ModeText.{ShowsMode, ShowsOneMode}
use Rattle.theorems.specs.Since.{after_slots}
use Rattle.theorems.proofs.Runs.{kept-run}

-- the line of a node after the newest slot of a history
abbrev newest_line : Medl → Script → History → ℕ → List ℕ
newest_line list script [] k = []
newest_line list script (row ∷ before) k = mode_line_of list script row before k

slot-has : (list : Medl) (script : Script) (row : List Entry) (before : History) (k : ℕ) → k < length list.slots
    → Contains (mode_slot_lines list script row before) (mode_line_of list script row before k)
slot-has list script row before k node =
    let line = mode_line_of list script row before in
    let count = length list.slots in
    let long = length-map-range_with_len line 0 count in
    subst (Contains (mode_slot_lines list script row before))
    (get_or-map-range_with_len line 0 count k k [] node (omega arith))
    (Contains-get_or (mode_slot_lines list script row before) k [] (omega (arith, node, long)))

-- the text has it for each of the slots
history-has : (list : Medl) (script : Script) (history : History) (fewer k : ℕ) → k < length list.slots
    → fewer < length history
    → Contains (mode_history_lines list script history) (newest_line list script (drop fewer history) k)
history-has list script [] fewer k node few = absurd (omega (arith, few))
history-has list script (row ∷ history) zero k node few =
    Contains-append_right (mode_history_lines list script history) (mode_slot_lines list script row history)
    (mode_line_of list script row history k) (slot-has list script row history k node)
history-has list script (row ∷ history) (suc fewer) k node few =
    Contains-append_left (mode_history_lines list script history) (mode_slot_lines list script row history)
    (newest_line list script (drop fewer history) k)
    (history-has list script history fewer k node (omega (arith, few)))

-- What is known of a node that runs this mode.

known : (mode : Option ℕ) → IsSome mode → (m : ℕ) × (mode ≡ Some m)
known None some = absurd (false≢true some)
known (Some m) some = (m, refl)

shows : (list : Medl) (script : Script) (lines : Lines) (past : History) (slot k mode : ℕ) (next : Option ℕ)
    → length past ≡ suc slot → modes_of list script past k ≡ record { mode = Some mode; next = next }
    → Contains lines (newest_line list script past k) → ShowsMode lines slot k mode next
shows list script lines [] slot k mode next long modes among = absurd (omega (arith, long))
shows list script lines (row ∷ before) slot k mode next long modes among =
    let live = live_in list script row before k in
    let here : length before ≡ slot = omega (arith, long) in
    record {
      live = live;
      line = subst (Contains lines) (λ i. mode_line (here i) k (modes i) live) among;
    }

-- After a slot since the start any two correct nodes show one mode.
module _ (list : Medl) (script : Script) (start : ℕ) (valid : IsValid list) (script_valid : IsValidScript list script)
    (kept : keeps list script ≡ keep.Yes start) (numbers : Numbers) (legal : IsLegalRun list script numbers)
    (slot : ℕ) (since : start ≤ slot) (within : slot < script.slots) where
  abbrev history : History
  history = world list script numbers

  abbrev past : History
  past = after_slots (suc slot) history

  count : length history ≡ script.slots
  count = length-world list script numbers ∙ legal.count

  long : length past ≡ suc slot
  long = let all = count in length-drop (length history - suc slot) history ∙ omega (arith, within, all)

  correct : (k : ℕ) → IsIn list (is_correct_after list script slot) k
      → IsIn list (is_correct_after list script (newest_slot past)) k
  correct k of_k =
      let number = long in
      let newest : slot ≡ newest_slot past = omega (arith, number) in
      (of_k.0, subst (λ s. is_correct_after list script s k ≡ true) newest of_k.1)

  runs : RunOneMode list script past
  runs =
      let all = count in
      (kept-run list script start valid script_valid kept numbers legal.legal (omega (arith, legal.count))).modes
      (suc slot) (omega (arith, since)) (omega (arith, within, all))

  has : (k : ℕ) → k < length list.slots
      → Contains (mode_lines list script numbers) (newest_line list script past k)
  has k node =
      let all = count in
      Contains-append_right (mode_head list script ∷ []) (mode_history_lines list script history)
      (newest_line list script past k)
      (history-has list script history (length history - suc slot) k node (omega (arith, within, all)))

  pub mode-text : ShowsOneMode list script (mode_lines list script numbers) slot
  mode-text j k of_j of_k =
      let one = runs in
      let in_j = correct j of_j in
      let in_k = correct k of_k in
      let own = known (mode_of list script past j) (one.knows j in_j) in
      let mode_k = sym (one.mode j k in_j in_k) ∙ own.1 in
      let next_k = sym (one.next j k in_j in_k) in
      let next = (modes_of list script past j).next in
      record {
        mode = own.0;
        next = next;
        one =
            shows list script (mode_lines list script numbers) past slot j own.0 next long
            (λ i. record { mode = own.1 i; next = next }) (has j of_j.0);
        other =
            shows list script (mode_lines list script numbers) past slot k own.0 next long
            (λ i. record { mode = mode_k i; next = next_k i }) (has k of_k.0);
      }
