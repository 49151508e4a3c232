-- What is read of a line, as a value of a type of the code.
use Rattle.std.proofs.Common.{◌≡◌, ℕ, Bool, true, false, cond, List, [], ◌∷◌, Option}
use Rattle.std.proofs.Common.{Some, None, option_map, refl, sym, ap, ◌∙◌}
use Rattle.line_form.specs.Kinds.{Kind, Value, ◌>>=◌}
use Rattle.line_form.specs.Forms.{LineForm, Values, past, field_value, is_end, closed_line}
use Rattle.line_form.specs.Forms.{left_of, values_in, line_values, ◌▸◌}

go : {A B : Type 0} (f : A → B) (b : Bool) (v : A) → option_map f (cond b (Some v) None) ≡ cond b (Some (f v)) None
go f true v = refl
go f false v = refl

pub map_closed : {A B : Type 0} (f : A → B) (left : Option (List ℕ)) (v : A)
    → option_map f (closed_line left v) ≡ closed_line left (f v)
unfolding closed_line
map_closed f left v = go f (is_end left) v

-- these are the values of some fields, and this is left behind them
pub record ReadAs (form : LineForm) (before after : Option (List ℕ)) (values : Values form) : Type 0 where
  pub values_are : values ≡ values_in form before
  pub left_is : after ≡ left_of form before

pub read_none : (left : Option (List ℕ)) → ReadAs [] left left tt
read_none left = record { values_are = refl; left_is = refl }

pub read_word : (label : List ℕ) (k : Kind) (form : LineForm) (before next after : Option (List ℕ)) (v : Value k)
    → (vs : Values form) → v ≡ field_value label k before → next ≡ past label k before → ReadAs form next after vs
    → ReadAs (label ▸ k ∷ form) before after (v, vs)
read_word label k form before next after v vs value left rest = record {
  values_are = ap (λ (x : Value k). (x, vs)) value ∙ ap (λ (ys : Values form). (field_value label k before, ys))
      (rest.values_are ∙ ap (values_in form) left);
  left_is = rest.left_is ∙ ap (left_of form) left;
}

-- the answer of a reader that reads on
pub closes_on : {B : Type 0} (form : LineForm) (f : Values form → Option B) (bytes : List ℕ) (left : Option (List ℕ))
    → (vs : Values form) → ReadAs form (Some bytes) left vs
    → (closed_line left vs >>= f) ≡ (line_values form bytes >>= f)
closes_on form f bytes left vs read =
    ap (λ (l : Option (List ℕ)). closed_line l vs >>= f) read.left_is
    ∙ ap (λ (v : Values form). closed_line (left_of form (Some bytes)) v >>= f) read.values_are

go_on : {A B : Type 0} (f : A → Option B) (b : Bool) (v : A) (w : B) → f v ≡ Some w
    → cond b (Some w) None ≡ (cond b (Some v) None >>= f)
go_on f true v w e = sym e
go_on f false v w e = refl

go_none : {A B : Type 0} (f : A → Option B) (b : Bool) (v : A) → f v ≡ None → None ≡ (cond b (Some v) None >>= f)
go_none f true v e = sym e
go_none f false v e = refl

-- the answer of a reader that reads the values on
pub closes_with : {B : Type 0} (form : LineForm) (f : Values form → Option B) (bytes : List ℕ) (left : Option (List ℕ))
    → (vs : Values form) (w : B) (result : Option B) → result ≡ closed_line left w → f vs ≡ Some w
    → ReadAs form (Some bytes) left vs → result ≡ (line_values form bytes >>= f)
unfolding closed_line
closes_with form f bytes left vs w result is e read =
    is ∙ go_on f (is_end left) vs w e ∙ closes_on form f bytes left vs read

pub closes_none : {B : Type 0} (form : LineForm) (f : Values form → Option B) (bytes : List ℕ) (left : Option (List ℕ))
    → (vs : Values form) → f vs ≡ None → ReadAs form (Some bytes) left vs → None ≡ (line_values form bytes >>= f)
unfolding closed_line
closes_none form f bytes left vs e read = go_none f (is_end left) vs e ∙ closes_on form f bytes left vs read

pub ruleset closing = (read_word, read_none)
