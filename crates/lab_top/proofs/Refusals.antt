-- What a text is read as: by its first bytes, if it is longer than a text may be. The line that refuses it is one line.
use Rattle.std.proofs.Common.{◌≡◌, ◌⊎◌, ℕ, ◌+◌, ◌<◌, ◌≤◌, Bool, true, false, cond}
use Rattle.std.proofs.Common.{List, ◌++◌, length, take, refl, ap, inl, inr}
use Rattle.std.proofs.Common.{arith, nat_lt, Result, Ok, Err, sym, ◌∙◌, IsTrue}
use Rattle.std.specs.Prelude.{codes, decimal}
use Rattle.std.proofs.lemmas.Bool.{lt-ltb, le-ltb, ltb-false, cases_lt}
use Rattle.std.proofs.lemmas.List.{take_all, length-take-le}
use Rattle.ttp_base.specs.Text.{newline, is_line}
use Rattle.ttp_base.proofs.Lines.{is_line-append}
use Rattle.ttp_base.proofs.Numerals.{has, has-append, has-decimal}
use Rattle.commands.specs.Read.{trace_limit}
use Rattle.lab_top.specs.declared.refusal.TextFault.{TextFault}
use Rattle.lab_top.specs.declared.refusal.TextFault.TheVariants as fault
use Rattle.lab_top.specs.Refusals.{text_fault, text_fault_line, value_read, value_within, value_from}
use Rattle.lab_top.specs.Views.{View, if_shown, viewed, CanBeShown}

-- The line.

text_fault-lines : (f : TextFault) → has 10 (text_fault f) ≡ false
text_fault-lines fault.TooLarge = refl
text_fault-lines (fault.Line number) =
    has-append 10 (codes "line ") (decimal number) refl (has-decimal 10 number (omega arith))
text_fault-lines (fault.Slots last) =
    has-append 10 (codes "slots 0 to ") (decimal last) refl (has-decimal 10 last (omega arith))
text_fault-lines fault.NoSlot = refl

pub text_fault_line-is_line : (kind : List ℕ) (f : TextFault) → has 10 kind ≡ false
    → is_line (text_fault_line kind f) ≡ true
unfolding text_fault_line
text_fault_line-is_line kind f plain =
    is_line-append (kind ++ codes ": " ++ text_fault f) newline
    (has-append 10 (kind ++ codes ": ") (text_fault f)
    (has-append 10 kind (codes ": ") plain refl) (text_fault-lines f)) refl

-- What stands past the limit doesn't matter.

module _ {Value : Type 0} (read : List ℕ → Result Value ℕ) where
  value_within-front : (limit : ℕ) (text : List ℕ) → (limit < length text) ⊎ (length text ≤ limit)
      → value_within read limit (take (limit + 1) text) ≡ value_within read limit text
  value_within-front limit text (inr short) = ap (value_within read limit) (take_all (limit + 1) text (omega arith))
  value_within-front limit text (inl long) =
      let cut = length-take-le (limit + 1) text (omega arith) in
      let before = lt-ltb limit (length (take (limit + 1) text)) (omega (arith, cut)) in
      let after = lt-ltb limit (length text) long in
      rw (before, after)

  value_from-front : (text : List ℕ) → value_from read (take (trace_limit + 1) text) ≡ value_from read text
  unfolding value_from
  value_from-front text = value_within-front trace_limit text (cases_lt trace_limit (length text))

  -- a value that a text is, and what was read of it

  value_within-right : (limit : ℕ) (text : List ℕ) (value : Value) → length text ≤ limit → read text ≡ Ok value
      → value_within read limit text ≡ Ok value
  value_within-right limit text value short right = rw (le-ltb limit (length text) short, right) refl

  value_from-right : (text : List ℕ) (value : Value) → length text ≤ trace_limit → read text ≡ Ok value
      → value_from read text ≡ Ok value
  unfolding value_from
  value_from-right text value short right = value_within-right trace_limit text value short right

  value_taken : (large : Bool) (found : Result Value ℕ) (value : Value)
      → cond large (Err fault.TooLarge) (value_read found) ≡ Ok value → (large ≡ false) × (found ≡ Ok value)
  value_taken false (Ok whole) value is = (refl, cc)
  value_taken false (Err line) value is = absurd (cc)
  value_taken true found value is = absurd (cc)

  value_from-taken : (text : List ℕ) (value : Value) → value_from read text ≡ Ok value
      → (length text ≤ trace_limit) × (read text ≡ Ok value)
  unfolding value_from
  value_from-taken text value is =
      let taken = value_taken (nat_lt trace_limit (length text)) (read text) value is in
      (ltb-false trace_limit (length text) taken.0, taken.1)

-- A view reads a text by its first bytes, and as a value exactly where that can be shown.

module _ {Value : Type 0} (view : View Value) where
  pub viewed-front : (text : List ℕ) → viewed view (take (trace_limit + 1) text) ≡ viewed view text
  viewed-front text = ap (if_shown view) (value_from-front view.taken text)

  shown-right : (found : Result Value TextFault) (value : Value) → found ≡ Ok value → IsTrue (view.has value)
      → if_shown view found ≡ Ok value
  shown-right found value is has = ap (if_shown view) is ∙ by_has (view.has value) has
    where
      by_has : (b : Bool) → IsTrue b → cond b (Ok value) (Err (view.why value)) ≡ Ok value
      by_has true is = refl
      by_has false is = cc

  pub viewed-right : (text : List ℕ) (value : Value) → CanBeShown view text value → viewed view text ≡ Ok value
  viewed-right text value can =
      shown-right (value_from view.taken text) value
      (value_from-right view.taken text value can.size can.whole) can.slots

  -- the other way round

  has-taken : (found value : Value) (has : Bool) → view.has found ≡ has
      → cond has (Ok found) (Err (view.why found)) ≡ Ok value → (found ≡ value) × IsTrue (view.has value)
  has-taken found value true are is = let same : found ≡ value = cc in (same, ap view.has (sym same) ∙ are)
  has-taken found value false are is = absurd (cc)

  shown-taken : (found : Result Value TextFault) (value : Value) → if_shown view found ≡ Ok value
      → (found ≡ Ok value) × IsTrue (view.has value)
  shown-taken (Ok found) value is =
      let taken = has-taken found value (view.has found) refl is in
      (ap (λ (v : Value). Ok v) taken.0, taken.1)
  shown-taken (Err f) value is = absurd (cc)

  pub viewed-taken : (text : List ℕ) (value : Value) → viewed view text ≡ Ok value → CanBeShown view text value
  viewed-taken text value is =
      let read = shown-taken (value_from view.taken text) value is in
      let whole = value_from-taken view.taken text value read.0 in
      record { size = whole.0; whole = whole.1; slots = read.1 }
