-- The number that decimal digits write, one digit after another.
use Rattle.std.proofs.Common.{◌≡◌, ℕ, ◌+◌, ◌-◌, ◌*◌, ◌^◌, ◌<◌, ◌≤◌, true, List, [], ◌∷◌, length, get_or, take, fold}
use Rattle.std.proofs.Common.{arith, ap, ◌∙◌, lit<}
use Rattle.std.proofs.Math.Nat.{pow-le-pow_right}
use Rattle.std.proofs.lemmas.Bool.Decides.{nat_tests}
use Rattle.std.proofs.lemmas.Grind.{pow_more}
use Rattle.std.proofs.lemmas.List.{take_more}
use Rattle.std.proofs.lemmas.List.Sums.{fold-append}
use Rattle.std.proofs.Common.{Bool, suc, ◌&&◌, ◌++◌, drop, drop-cons, sym}
use Rattle.std.specs.List.{list_all}
use Rattle.std.proofs.lemmas.List.{append_assoc}
use Rattle.line_form.specs.Kinds.{is_digit}
use Rattle.line_form.specs.Kinds.{is_hex, hex_value, byte_pairs}

-- one more item of a fold
pub fold-next : (f : ℕ → ℕ → ℕ) (word : List ℕ) (i : ℕ) → i < length word
    → fold f 0 (take (i + 1) word) ≡ f (fold f 0 (take i word)) (get_or word i 0)
fold-next f word i within =
    ap (fold f 0) (take_more word i 0 within) ∙ fold-append f 0 (take i word) (get_or word i 0 ∷ [])

pub below_power : (i number digit : ℕ) → number < 10 ^ i → digit < 10 → number * 10 + digit < 10 ^ (i + 1)
below_power i number digit small one = omega (arith, pow_more 10 i)

pub digit-small : (b : ℕ) → is_digit b ≡ true → b - 48 < 10
digit-small b digit = grind (arith, nat_tests)

pub within_word : (i number : ℕ) → number < 10 ^ i → i < 18 → number * 10 + 9 < 2 ^ 64
within_word i number small few =
    let most : 10 ^ (i + 1) ≤ 10 ^ 18 = pow-le-pow_right {n = 10} (lit< tt) {i = i + 1} {j = 18} (omega arith) in
    omega (arith, pow_more 10 i, most)

pub within_most : (i most number : ℕ) → number < 10 ^ i → i ≤ most → number < 10 ^ most
within_most i most number small few =
    let more : 10 ^ i ≤ 10 ^ most = pow-le-pow_right {n = 10} (lit< tt) {i = i} {j = most} few in
    omega (arith, more)

pub below_power_16 : (i number digit : ℕ) → number < 16 ^ i → digit < 16 → number * 16 + digit < 16 ^ (i + 1)
below_power_16 i number digit small one = omega (arith, pow_more 16 i)

pub within_more : (few many number : ℕ) → number < 16 ^ few → few ≤ many → number < 16 ^ many
within_more few many number small less =
    let more : 16 ^ few ≤ 16 ^ many = pow-le-pow_right {n = 16} (lit< tt) {i = few} {j = many} less in
    omega (arith, more, small)

pub within_word_16 : (i number : ℕ) → number < 16 ^ i → i < 15 → number * 16 + 15 < 2 ^ 64
within_word_16 i number small few =
    let most : 16 ^ (i + 1) ≤ 16 ^ 15 = pow-le-pow_right {n = 16} (lit< tt) {i = i + 1} {j = 15} (omega arith) in
    omega (arith, pow_more 16 i, most)

-- the next two digits of what is left
next_pair : (word : List ℕ) (i : ℕ) → 2 * i + 1 < length word
    → drop (2 * i) word ≡ get_or word (2 * i) 0 ∷ get_or word (2 * i + 1) 0 ∷ drop (2 * (i + 1)) word
next_pair word i within =
    let more : suc (suc (2 * i)) ≡ 2 * (i + 1) = omega arith in
    let one : suc (2 * i) ≡ 2 * i + 1 = omega arith in
    drop-cons word (2 * i) 0 (omega arith)
    ∙ ap (λ (l : List ℕ). get_or word (2 * i) 0 ∷ l) (drop-cons word (suc (2 * i)) 0 (omega arith)
    ∙ ap (λ (n : ℕ). get_or word n 0 ∷ drop (suc (suc (2 * i))) word) one
    ∙ ap (λ (n : ℕ). get_or word (2 * i + 1) 0 ∷ drop n word) more)

pub hex_bytes-next : (front word : List ℕ) (i byte : ℕ) → 2 * i + 1 < length word
    → byte ≡ 16 * hex_value (get_or word (2 * i) 0) + hex_value (get_or word (2 * i + 1) 0)
    → (front ++ byte ∷ []) ++ byte_pairs (drop (2 * (i + 1)) word) ≡ front ++ byte_pairs (drop (2 * i) word)
hex_bytes-next front word i byte within is =
    append_assoc front (byte ∷ []) (byte_pairs (drop (2 * (i + 1)) word))
    ∙ ap (λ (l : List ℕ). front ++ l) (ap (λ (b : ℕ). b ∷ byte_pairs (drop (2 * (i + 1)) word)) is
    ∙ sym (ap byte_pairs (next_pair word i within)))

pub all_hex-next : (word : List ℕ) (i : ℕ) → 2 * i + 1 < length word → is_hex (get_or word (2 * i) 0) ≡ true
    → is_hex (get_or word (2 * i + 1) 0) ≡ true
    → list_all is_hex (drop (2 * (i + 1)) word) ≡ list_all is_hex (drop (2 * i) word)
all_hex-next word i within high low =
    let rest = list_all is_hex (drop (2 * (i + 1)) word) in
    sym (ap (list_all is_hex) (next_pair word i within)
    ∙ ap (λ (b : Bool). b && (is_hex (get_or word (2 * i + 1) 0) && rest)) high ∙ ap (λ (b : Bool). b && rest) low)
