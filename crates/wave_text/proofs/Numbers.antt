-- The values of small numbers, as a table has them.
use Rattle.wave_text.proofs.Words.{◌≡◌, ℕ, zero, suc, ◌+◌, ◌<◌, ◌≤◌, Bool, true, false}
use Rattle.wave_text.proofs.Words.{List, [], ◌∷◌, ap, ◌∙◌, refl, length, arith}
use Rattle.wave_text.proofs.Words.{get_or, number_text}
use Rattle.std.specs.Borrow.{Bor}
use Rattle.std.specs.Str.{bytes_eq}
use Rattle.std.specs.Prelude.{◌&&◌, nat_le}
use Rattle.std.proofs.lemmas.Slice.Eq.{bytes_eq-Decides}
use Rattle.std.proofs.lemmas.Bool.{leb-true}

-- from number k on these are their texts, of at most 6 bytes
unfoldable pub are_numbers : ℕ → List (Bor (List ℕ)) → Bool
are_numbers k [] = true
are_numbers k (text ∷ texts) =
    (bytes_eq text.now (number_text k) && nat_le (length text.now) 6) && are_numbers (suc k) texts

abbrev pub IsNumber : ℕ → List ℕ → Type 0
IsNumber v text = (text ≡ number_text v) × (length text ≤ 6)

both : (a b : Bool) → (a && b) ≡ true → (a ≡ true) × (b ≡ true)
both true b is = (refl, is)
both false b is = cc

number_behind : (n k : ℕ) (texts : List (Bor (List ℕ))) (v : ℕ) (d : Bor (List ℕ)) → n ≡ k + v
    → are_numbers k texts ≡ true → v < length texts → IsNumber n (get_or texts v d).now
unfolding are_numbers
number_behind n k [] v d is are low = absurd (omega (arith, low))
number_behind n k (text ∷ texts) zero d is are low =
    let here = both (bytes_eq text.now (number_text k)) (nat_le (length text.now) 6)
    (both (bytes_eq text.now (number_text k) && nat_le (length text.now) 6) (are_numbers (suc k) texts) are).0 in
    let same : k ≡ n = omega (arith, is) in
    ((bytes_eq-Decides text.now (number_text k)).0 here.0 ∙ ap number_text same, leb-true (length text.now) 6 here.1)
number_behind n k (text ∷ texts) (suc v) d is are low =
    number_behind n (suc k) texts v d (omega (arith, is))
    (both (bytes_eq text.now (number_text k) && nat_le (length text.now) 6) (are_numbers (suc k) texts) are).1
    (omega (arith, low))

pub number_at : (texts : List (Bor (List ℕ))) (v : ℕ) (d : Bor (List ℕ)) → are_numbers 0 texts ≡ true
    → v < length texts → (get_or texts v d).now ≡ number_text v
number_at texts v d are low = (number_behind v 0 texts v d (omega arith) are low).0

pub number_short : (texts : List (Bor (List ℕ))) (v : ℕ) (d : Bor (List ℕ)) → are_numbers 0 texts ≡ true
    → v < length texts → length (get_or texts v d).now ≤ 6
number_short texts v d are low = (number_behind v 0 texts v d (omega arith) are low).1
