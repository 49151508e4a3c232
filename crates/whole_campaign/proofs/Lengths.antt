-- How long some words are, byte by byte.
use Rattle.std.proofs.Common.{◌≡◌, ℕ, ◌+◌, ◌-◌, ◌<◌, ◌≤◌, Bool, true, false, cond, List, [], ◌∷◌, length, drop, get_or}
use Rattle.std.proofs.Common.{refl, ap, sym, ◌∙◌, add-one, drop-cons, arith}
use Rattle.std.specs.Prelude.{nat_le}
use Rattle.std.proofs.lemmas.List.{drop_all}
use Rattle.whole_campaign.specs.Words.{is_space, length_of_words}

-- the byte at a place, and those behind it
length-at : (n : ℕ) (bytes : List ℕ) (i : ℕ) → i < length bytes
    → length_of_words n (drop i bytes)
    ≡ cond (is_space (get_or bytes i 0))
    (cond (nat_le n 1) 0 (length_of_words (n - 1) (drop (i + 1) bytes) + 1))
    (length_of_words n (drop (i + 1) bytes) + 1)
unfolding length_of_words
length-at n bytes i within =
    ap (length_of_words n)
    (drop-cons bytes i 0 within ∙ ap (λ (k : ℕ). get_or bytes i 0 ∷ drop k bytes) (sym (add-one i)))

pub length-letter : (n : ℕ) (bytes : List ℕ) (i : ℕ) → i < length bytes → is_space (get_or bytes i 0) ≡ false
    → i + length_of_words n (drop i bytes) ≡ i + 1 + length_of_words n (drop (i + 1) bytes)
length-letter n bytes i within letter =
    let at = length-at n bytes i within
    ∙ ap (λ (b : Bool). cond b (cond (nat_le n 1) 0 (length_of_words (n - 1) (drop (i + 1) bytes) + 1))
    (length_of_words n (drop (i + 1) bytes) + 1)) letter in
    omega (arith, at)

pub length-space : (n : ℕ) (bytes : List ℕ) (i : ℕ) → i < length bytes → is_space (get_or bytes i 0) ≡ true
    → nat_le n 1 ≡ false → i + length_of_words n (drop i bytes) ≡ i + 1 + length_of_words (n - 1) (drop (i + 1) bytes)
length-space n bytes i within space more =
    let at = length-at n bytes i within
    ∙ ap (λ (b : Bool). cond b (cond (nat_le n 1) 0 (length_of_words (n - 1) (drop (i + 1) bytes) + 1))
    (length_of_words n (drop (i + 1) bytes) + 1)) space
    ∙ ap (λ (b : Bool). cond b 0 (length_of_words (n - 1) (drop (i + 1) bytes) + 1)) more in
    omega (arith, at)

pub length-last : (n : ℕ) (bytes : List ℕ) (i : ℕ) → i < length bytes → is_space (get_or bytes i 0) ≡ true
    → nat_le n 1 ≡ true → i + length_of_words n (drop i bytes) ≡ i
length-last n bytes i within space last =
    let at = length-at n bytes i within
    ∙ ap (λ (b : Bool). cond b (cond (nat_le n 1) 0 (length_of_words (n - 1) (drop (i + 1) bytes) + 1))
    (length_of_words n (drop (i + 1) bytes) + 1)) space
    ∙ ap (λ (b : Bool). cond b 0 (length_of_words (n - 1) (drop (i + 1) bytes) + 1)) last in
    omega (arith, at)

length-nil : (n : ℕ) → length_of_words n [] ≡ 0
unfolding length_of_words
length-nil n = refl

pub length-all : (n : ℕ) (bytes : List ℕ) (i : ℕ) → length bytes ≤ i → i + length_of_words n (drop i bytes) ≡ i
length-all n bytes i past =
    let none : length_of_words n (drop i bytes) ≡ 0 = ap (length_of_words n) (drop_all i bytes past) ∙ length-nil n in
    omega (arith, none)
