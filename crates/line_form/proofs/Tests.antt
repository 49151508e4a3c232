-- Readings under a test, and labels.
use Rattle.std.proofs.Common.{◌≡◌, ℕ, ◌<◌, ◌≤◌, Bool, true, false, cond, ◌&&◌, not, List, ◌++◌, length}
use Rattle.std.proofs.Common.{take, drop, Option, Some, None, refl, sym, ap, ◌∙◌, arith, bytes_eq}
use Rattle.std.specs.Prelude.{nat_le, nat_lt, is_none}
use Rattle.std.proofs.lemmas.Bool.Decides.{nat_tests}
use Rattle.std.proofs.lemmas.List.{take-append-drop, take_at, drop_at}
use Rattle.line_form.proofs.NumberWords.{bytes_eq-same}
use Rattle.line_form.proofs.NumberWords.{same_text}
use Rattle.line_form.specs.Kinds.{◌>>=◌, given, behind_prefix}

pub guarded : {A : Type 0} (b : Bool) (r : Option A) (y : A) → cond b r None ≡ Some y → (b ≡ true) × (r ≡ Some y)
guarded true r y e = (refl, e)
guarded false r y e = cc

pub barred : {A : Type 0} (b : Bool) (r : Option A) (y : A) → cond b None r ≡ Some y → (b ≡ false) × (r ≡ Some y)
barred true r y e = cc
barred false r y e = (refl, e)

pub some_same : {A : Type 0} (x y : A) → Some x ≡ Some y → x ≡ y
some_same x y e = cc

-- a value that was given
pub was_given : {A : Type 0} (b : Bool) (x y : A) → given b x ≡ Some y → (b ≡ true) × (x ≡ y)
was_given true x y e = (refl, some_same x y e)
was_given false x y e = cc

pub gives : {A : Type 0} (b : Bool) (x : A) → b ≡ true → given b x ≡ Some x
gives b x is = rw is refl

pub record Bound {A B : Type 0} (r : Option A) (f : A → Option B) (y : B) : Type 0 where
  pub value : A
  pub read : r ≡ Some value
  pub gives : f value ≡ Some y

pub bound : {A B : Type 0} (r : Option A) (f : A → Option B) (y : B) → (r >>= f) ≡ Some y → Bound r f y
bound None f y e = cc
bound (Some x) f y e = record { value = x; read = refl; gives = e }

pub not_some : {A : Type 0} (r : Option A) (x : A) → is_none r ≡ true → r ≡ Some x → ⊥
not_some None x none e = cc
not_some (Some y) x none e = cc

pub is_not : (b : Bool) → not b ≡ true → b ≡ false
is_not true e = cc
is_not false e = refl

pub both_true : (a b : Bool) → a ≡ true → b ≡ true → (a && b) ≡ true
both_true a b p q = rw (p, q) refl

pub is_le : (m n : ℕ) → m ≤ n → nat_le m n ≡ true
is_le m n less = grind (arith, nat_tests)

pub is_lt : (m n : ℕ) → m < n → nat_lt m n ≡ true
is_lt m n less = grind (arith, nat_tests)

-- Labels.

pub behind_prefix-takes : (label bytes rest : List ℕ) → behind_prefix label bytes ≡ Some rest → bytes ≡ label ++ rest
behind_prefix-takes label bytes rest e =
    let g = guarded (bytes_eq (take (length label) bytes) label) (Some (drop (length label) bytes)) rest e in
    sym (take-append-drop (length label) bytes)
    ∙ ap (λ (t : List ℕ). t ++ drop (length label) bytes) (same_text (take (length label) bytes) label g.0)
    ∙ ap (λ (t : List ℕ). label ++ t) (some_same (drop (length label) bytes) rest g.1)

pub behind_prefix-again : (label rest : List ℕ) → behind_prefix label (label ++ rest) ≡ Some rest
behind_prefix-again label rest =
    rw (take_at label rest (length label) refl, bytes_eq-same label)
    (ap (λ (r : List ℕ). Some r) (drop_at label rest (length label) refl))
