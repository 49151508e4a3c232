-- Flags that are set one after another, the lowest first: each is added to the word of those before it.
use Rattle.controller.proofs.Words.{◌≡◌, ◌∙◌, ◌+◌, ◌-◌, ◌*◌, ◌^◌, ◌<◌, ℕ, suc, Bool, true, false, arith, ap, sym}
use Rattle.controller.proofs.Words.{bit_at, if◌then◌else◌, ◌%◌, flag}
use Rattle.std.specs.Int.RustNames.{bit_and, bit_or}
use Rattle.std.proofs.Math.Nat.{mod-eq_of_lt, pow-suc}
use Rattle.std.proofs.Math.Pow.{ones_split}
use Rattle.std.proofs.lemmas.Nat.{and_le_l, and_mask, and_mod, mod_low, or_disjoint, pow_pos}
use Rattle.std.proofs.lemmas.Nat.Bits.{and_pow, bit_at_above}
use Rattle.bitflags.specs.Sets.{without}

-- to set a bit above all that are set is to add it
or_above : (word k : ℕ) → word < 2 ^ k → bit_or word (2 ^ k) ≡ word + 2 ^ k
or_above word k below =
    let unset : bit_at word k * 2 ^ k ≡ 0 = rw (bit_at_above word k k below (omega arith)) (omega arith) in
    or_disjoint word (2 ^ k) (and_pow word k ∙ unset)

-- where all bits but bit k are set, those below it are
mask_below : (j k : ℕ) → (2 ^ (suc j + k) - 1 - 2 ^ k) % 2 ^ k ≡ 2 ^ k - 1
mask_below j k =
    let high = 2 ^ suc j - 2 in
    let more : 2 ^ suc j - 1 ≡ high + 1 = omega (arith, pow-suc 2 j, pow_pos j) in
    let split : 2 ^ (suc j + k) - 1 - 2 ^ k ≡ high * 2 ^ k + (2 ^ k - 1) =
    omega (arith, ones_split (suc j) k, ap (λ ones. ones * 2 ^ k) more, pow_pos k) in
    ap (λ mask. mask % 2 ^ k) split ∙ mod_low high k (2 ^ k - 1) (omega (arith, pow_pos k))

-- to clear a bit above all that are set changes nothing
without_above : (word j k : ℕ) → word < 2 ^ k → without (suc j + k) word (2 ^ k) ≡ word
without_above word j k below =
    let mask = 2 ^ (suc j + k) - 1 - 2 ^ k in
    sym (mod-eq_of_lt (omega (arith, and_le_l word mask)))
    ∙ and_mod word mask k
    ∙ (λ i. bit_and (mod-eq_of_lt below i) (mask_below j k i))
    ∙ and_mask word k
    ∙ mod-eq_of_lt below

-- a word is another one with flag k added, where it stands
pub record IsAdded (k old new : ℕ) (stands : Bool) : Type 0 where
  pub sum : new ≡ old + flag (2 ^ k) stands
  pub below : new < 2 ^ suc k

-- after flag k is set or cleared a word has this flag added, where it is above all that are set
pub added : (k : ℕ) {old new : ℕ} {stands : Bool} → k < 64 → old < 2 ^ k
    → new ≡ (if stands then bit_or old (2 ^ k) else without 64 old (2 ^ k)) → IsAdded k old new stands
added k {old} {stands = true} within below set =
    let sum = set ∙ or_above old k below in
    record { sum = sum; below = omega (arith, sum, pow-suc 2 k) }
added k {old} {stands = false} within below set =
    let size : suc (63 - k) + k ≡ 64 = omega arith in
    let same = set ∙ ap (λ bits. without bits old (2 ^ k)) (sym size) ∙ without_above old (63 - k) k below in
    record { sum = same ∙ omega arith; below = omega (arith, same, pow-suc 2 k) }
