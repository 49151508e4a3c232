-- The lines of the tests at the front of a text.
use Rattle.trace_check.proofs.Words.{◌≡◌, ◌∙◌, Bool, true, false, List, ℕ, [], ◌∷◌, ◌++◌, Some, None, refl, ap, sym}
use Rattle.trace_check.proofs.Words.{append_assoc, concat, Lines, Medl, Script, has_arm, back_lines_if, test_lines}
use Rattle.trace_check.proofs.Words.{after_label, BeginsWith, Departs}
use Rattle.std.proofs.Common.{append-nil}
use Rattle.ttp_world.specs.declared.keep.Back.{Back}
use Rattle.ttp_world.specs.declared.keep.Keep.{Keep}
use Rattle.ttp_world.specs.Hypothesis.{keeps}
use Rattle.ttp_world.specs.Returning.{returns}
use Rattle.ttp_world.specs.Trace.{keep_line, back_line, back_lines}
use Rattle.trace_check.proofs.Labels.{no_line}
use Rattle.trace_check.proofs.FromBelow.{label-takes as behind-line}

module _ (list : Medl) (script : Script) (keep : Keep) (kept : keep ≡ keeps list script) where
  -- no line of the hypothesis test
  pub keep-departs : (text : List ℕ) → after_label (keep_line keep) text ≡ None
      → Departs text (test_lines list script) text
  keep-departs text none = record {
    right = [];
    due = keep_line (keeps list script);
    others = back_lines list script;
    parts = refl;
    begins = refl;
    wrong = no_line (keep_line (keeps list script)) text
        (ap (λ (k : Keep). after_label (keep_line k) text) (sym kept) ∙ none);
  }

  -- one
  keep-begins : (text rest : List ℕ) → after_label (keep_line keep) text ≡ Some rest
      → text ≡ keep_line (keeps list script) ++ rest
  keep-begins text rest is =
      behind-line (keep_line keep) text rest is ∙ ap (λ (k : Keep). keep_line k ++ rest) kept

  -- and no more is due
  pub keep-alone : (text rest : List ℕ) → after_label (keep_line keep) text ≡ Some rest → has_arm script ≡ false
      → BeginsWith text (test_lines list script) rest
  keep-alone text rest is none =
      keep-begins text rest is
      ∙ ap (λ (line : List ℕ). line ++ rest) (sym (append-nil (keep_line (keeps list script))))
      ∙ ap (λ (armed : Bool). (keep_line (keeps list script) ++ concat (back_lines_if list script armed)) ++ rest)
      (sym none)

  module _ (back : Back) (told : back ≡ returns list script) (some : has_arm script ≡ true) where
    due_too : back_lines list script ≡ back_line (returns list script) ∷ []
    due_too = ap (back_lines_if list script) some

    -- the line on armed nodes behind it
    pub both-begin : (text before rest : List ℕ) → after_label (keep_line keep) text ≡ Some before
        → after_label (back_line back) before ≡ Some rest → BeginsWith text (test_lines list script) rest
    both-begin text before rest is there =
        keep-begins text before is
        ∙ ap (λ (bytes : List ℕ). keep_line (keeps list script) ++ bytes)
        (behind-line (back_line back) before rest there
        ∙ ap (λ (b : Back). back_line b ++ rest) told
        ∙ ap (λ (line : List ℕ). line ++ rest) (sym (append-nil (back_line (returns list script))))
        ∙ ap (λ (lines : Lines). concat lines ++ rest) (sym due_too))
        ∙ sym (append_assoc (keep_line (keeps list script)) (concat (back_lines list script)) rest)

    -- no such line there
    pub back-departs : (text rest : List ℕ) → after_label (keep_line keep) text ≡ Some rest
        → after_label (back_line back) rest ≡ None → Departs text (test_lines list script) rest
    back-departs text rest is none = record {
      right = keep_line (keeps list script) ∷ [];
      due = back_line (returns list script);
      others = [];
      parts = ap (λ (lines : Lines). keep_line (keeps list script) ∷ lines) due_too;
      begins =
          keep-begins text rest is
          ∙ ap (λ (line : List ℕ). line ++ rest) (sym (append-nil (keep_line (keeps list script))));
      wrong = no_line (back_line (returns list script)) rest
          (ap (λ (b : Back). after_label (back_line b) rest) (sym told) ∙ none);
    }
