-- The words of a payload tell its bytes.
use Rattle.std.proofs.Common.{◌≡◌, ℕ, zero, suc, ◌+◌, ◌*◌, ◌<◌, List, [], ◌∷◌, ◌++◌, length, get_or, take, map}
use Rattle.std.proofs.Common.{refl, sym, ap, ◌∙◌, arith, inl, inr}
use Rattle.std.specs.Int.{w64, to_be_bytes, from_be_bytes}
use Rattle.std.specs.List.{flat_map}
use Rattle.std.proofs.lemmas.Bool.{cases_lt}
use Rattle.std.proofs.lemmas.List.{append_assoc, append-nil, get_or_past}
use Rattle.std.proofs.lemmas.List.Elements.{All-get_or}
use Rattle.std.proofs.lemmas.List.Folds.{flat_map-map}
use Rattle.std.proofs.lemmas.List.FromFn.{take-map-range_with_len, fill_by_all, get_or-map-range_with_len}
use Rattle.std.proofs.lemmas.List.FromFn.{length-map-range_with_len}
use Rattle.std.proofs.lemmas.Nat.{be_bytes_8}
use Rattle.ttp_base.specs.NodeSet.{below}
use Rattle.ttp_base.proofs.Below.{flat_map-next, map-next}
use Rattle.ttp_world.specs.Fitting.{number_in}
use Rattle.ttp_world.specs.Words.{word_count, payload_word, words_of_payload}
use Rattle.line_text.specs.HostLines.{bytes_in, AreBytes}

map-more : (f : ℕ → ℕ) (n k : ℕ) → map f (below (n + k)) ≡ map f (below n) ++ map (λ j. f (n + j)) (below k)
map-more f n zero = let e : n + 0 ≡ n = omega arith in rw e (sym (append-nil (map f (below n))))
map-more f n (suc k) =
    let e : n + suc k ≡ n + k + 1 = omega arith in
    let d : suc k ≡ k + 1 = omega arith in
    ap (λ (m : ℕ). map f (below m)) e ∙ map-next f (n + k)
    ∙ ap (λ (l : List ℕ). l ++ f (n + k) ∷ []) (map-more f n k)
    ∙ append_assoc (map f (below n)) (map (λ j. f (n + j)) (below k)) (f (n + k) ∷ [])
    ∙ ap (λ (l : List ℕ). map f (below n) ++ l) (sym (map-next (λ j. f (n + j)) k))
    ∙ ap (λ (m : ℕ). map f (below n) ++ map (λ j. f (n + j)) (below m)) (sym d)

pub eight_bytes : (a b c d e f g h : ℕ)
    → number_in (a ∷ b ∷ c ∷ d ∷ e ∷ f ∷ g ∷ h ∷ []) ≡ from_be_bytes w64 (a ∷ b ∷ c ∷ d ∷ e ∷ f ∷ g ∷ h ∷ [])
eight_bytes a b c d e f g h = omega arith

-- what is read of bytes is a byte, also past their end

byte_at : (bytes : List ℕ) (i : ℕ) → AreBytes bytes → get_or bytes i 0 < 256
byte_at bytes i small =
    elim (cases_lt i (length bytes)) [
      | inl less ↦ All-get_or (λ b. b < 256) bytes i 0 less small
      | inr more ↦ omega (arith, get_or_past bytes i 0 more)
    ]

byte_in : (f : ℕ → ℕ) (n i : ℕ) → ((j : ℕ) → f j < 256) → get_or (map f (below n)) i 0 < 256
byte_in f n i small =
    elim (cases_lt i n) [
      | inl less ↦ omega (arith, get_or-map-range_with_len f 0 n i i 0 less (omega arith), small i)
      | inr more ↦ omega (
        arith,
        get_or_past (map f (below n)) i 0
            (omega (arith, more, length-map-range_with_len f 0 n)),
      )
    ]

bytes_of_word : (bytes : List ℕ) → AreBytes bytes → (i : ℕ)
    → to_be_bytes w64 (payload_word bytes i) ≡ map (λ j. get_or bytes (8 * i + j) 0) (below 8)
bytes_of_word bytes small i =
    let at : ℕ → ℕ = λ j. get_or bytes (8 * i + j) 0 in
    be_bytes_8 (map at (below 8)) (payload_word bytes i) refl
    (λ j. byte_in at 8 j (λ k. byte_at bytes (8 * i + k) small))
    (eight_bytes (at 0) (at 1) (at 2) (at 3) (at 4) (at 5) (at 6) (at 7))

bytes_of_words : (bytes : List ℕ) → AreBytes bytes → (m : ℕ)
    → flat_map (λ i. to_be_bytes w64 (payload_word bytes i)) (below m) ≡ map (λ j. get_or bytes j 0) (below (8 * m))
bytes_of_words bytes small zero = refl
bytes_of_words bytes small (suc m) =
    let one : ℕ → List ℕ = λ i. to_be_bytes w64 (payload_word bytes i) in
    let at : ℕ → ℕ = λ j. get_or bytes j 0 in
    let d : suc m ≡ m + 1 = omega arith in
    let e : 8 * suc m ≡ 8 * m + 8 = omega arith in
    ap (λ (k : ℕ). flat_map one (below k)) d ∙ flat_map-next one m
    ∙ ap (λ (l : List ℕ). l ++ one m) (bytes_of_words bytes small m)
    ∙ ap (λ (l : List ℕ). map at (below (8 * m)) ++ l) (bytes_of_word bytes small m)
    ∙ sym (map-more at (8 * m) 8) ∙ ap (λ (k : ℕ). map at (below k)) (sym e)

pub words_tell : (bytes : List ℕ) → AreBytes bytes → bytes_in (length bytes) (words_of_payload bytes) ≡ bytes
words_tell bytes small =
    let n = length bytes in
    let m = word_count n in
    let at : ℕ → ℕ = λ j. get_or bytes j 0 in
    ap (take n) (flat_map-map (to_be_bytes w64) (payload_word bytes) (below m) ∙ bytes_of_words bytes small m)
    ∙ take-map-range_with_len at 0 (8 * m) n (omega arith)
    ∙ sym (fill_by_all at bytes n 0 refl (λ k less. refl))
