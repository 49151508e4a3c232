-- The lines of a run's first slots begin one of its traces.
use Rattle.ttp_top.proofs.Terms.{◌≡◌, ℕ, zero, suc, ◌-◌, ◌≤◌, List, [], ◌∷◌, ◌++◌, length, drop, refl, ap, sym, ◌∙◌}
use Rattle.ttp_top.proofs.Terms.{append_assoc, subst, arith, inr, Output, WroteLines, CutShort, Lines, CutShort-more}
use Rattle.ttp_top.proofs.Terms.{Medl, Script, IsLegal, IsLegalRun, IsValid, IsValidScript, trace_head, slot_lines}
use Rattle.ttp_top.proofs.Terms.{run_lines, keep_line, back_lines, test_lines, trace_lines, Numbers, world, legal-whole}
use Rattle.ttp_top.proofs.Terms.{next_row, WroteOf, CutOf, fronts, traces, IsTrace}
use Rattle.std.proofs.Common.{append-nil}
use Rattle.ttp_world.specs.Hypothesis.{keeps}
use Rattle.ttp_world.specs.Trace.{history_lines}
use Rattle.ttp_top.specs.Calls.Texts.{IsFront}

-- The lines of a run go on from those of its first slots.
pub record GoesOn (list : Medl) (script : Script) (whole older : Numbers) : Type 0 where
  pub rest : Lines
  pub text : history_lines list script (world list script whole) whole
      ≡ history_lines list script (world list script older) older ++ rest

goes_on : (list : Medl) (script : Script) (more : ℕ) (whole : Numbers) → GoesOn list script whole (drop more whole)
goes_on list script zero whole =
    record { rest = []; text = sym (append-nil (history_lines list script (world list script whole) whole)) }
goes_on list script (suc more) [] = record { rest = []; text = refl }
goes_on list script (suc more) (new ∷ whole) =
    let before = goes_on list script more whole in
    let older = drop more whole in
    let slot = slot_lines list script (next_row list script new whole) (world list script whole) new in
    record {
      rest = before.rest ++ slot;
      text =
          ap (λ (lines : Lines). lines ++ slot) before.text
          ∙ append_assoc (history_lines list script (world list script older) older) before.rest slot;
    }

-- the trace of some whole run, whose first lines are those of the slots of these numbers
pub record TraceFrom (list : Medl) (script : Script) (numbers : Numbers) : Type 0 where
  pub whole : Lines
  pub trace : IsTrace list script whole
  pub rest : Lines
  pub text : whole ≡ run_lines list script numbers ++ (rest ++ test_lines list script)

pub is_trace : (list : Medl) (script : Script) → IsValid list → IsValidScript list script → (numbers : Numbers)
    → IsLegalRun list script numbers → IsTrace list script (trace_lines list script numbers)
is_trace list script valid valid_script numbers legal = record {
  valid = valid;
  valid_script = valid_script;
  numbers = numbers;
  legal = legal;
  text = refl;
}

pub trace_from : (list : Medl) (script : Script) → IsValid list → IsValidScript list script → (numbers : Numbers)
    → IsLegal list script numbers → length numbers ≤ script.slots → TraceFrom list script numbers
trace_from list script valid valid_script numbers legal few =
    let run = legal-whole list script numbers (script.slots - length numbers) legal in
    let on = subst (λ (older : Numbers). GoesOn list script run.whole older) run.older
    (goes_on list script (script.slots - length numbers) run.whole) in
    let last = test_lines list script in
    let count : length run.whole ≡ script.slots = omega (arith, run.slots, few) in
    record {
      whole = trace_lines list script run.whole;
      trace = is_trace list script valid valid_script run.whole (record { count = count; legal = run.legal });
      rest = on.rest;
      text =
          ap (λ (lines : Lines). trace_head list script ∷ (lines ++ last)) on.text
          ∙ ap (λ (lines : Lines). trace_head list script ∷ lines)
          (append_assoc (history_lines list script (world list script numbers) numbers) on.rest last);
    }

-- There is a line more, the first one of the tests at the latest.

front_before : (list : Medl) (script : Script) (lines whole rest : Lines) (last : List ℕ) (more : Lines)
    → IsTrace list script whole → whole ≡ lines ++ (rest ++ last ∷ more) → IsFront list script lines
front_before list script lines whole [] last more trace text =
    record { whole = whole; trace = trace; next = last; rest = more; text = text }
front_before list script lines whole (next ∷ rest) last more trace text =
    record { whole = whole; trace = trace; next = next; rest = rest ++ last ∷ more; text = text }

-- memory was refused after these slots
pub wrote_front : (list : Medl) (script : Script) (before now : Output) → IsValid list → IsValidScript list script
    → (numbers : Numbers) → IsLegal list script numbers → length numbers ≤ script.slots
    → WroteLines before now (run_lines list script numbers) → WroteOf (fronts list script) before now
wrote_front list script before now valid valid_script numbers legal few wrote =
    let t = trace_from list script valid valid_script numbers legal few in
    record {
      lines = run_lines list script numbers;
      among =
          inr (front_before list script (run_lines list script numbers) t.whole t.rest (keep_line (keeps list script))
          (back_lines list script) t.trace t.text);
      wrote = wrote;
    }

-- the sink failed in these slots
pub cut_in : (list : Medl) (script : Script) (before now : Output) → IsValid list → IsValidScript list script
    → (numbers : Numbers) → IsLegal list script numbers → length numbers ≤ script.slots
    → CutShort before now (run_lines list script numbers) → CutOf (traces list script) before now
cut_in list script before now valid valid_script numbers legal few cut =
    let t = trace_from list script valid valid_script numbers legal few in
    record {
      lines = t.whole;
      among = t.trace;
      cut =
          subst (CutShort before now) (sym t.text)
          (CutShort-more before now (run_lines list script numbers) (t.rest ++ test_lines list script) cut);
    }
