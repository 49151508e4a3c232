-- The slots of a range that a script has, one behind the other.
use Rattle.std.proofs.Common.{◌≡◌, ℕ, zero, suc, ◌+◌, ◌-◌, ◌<◌, ◌≤◌, Bool, true, false, cond, ◌&&◌, List, [], ◌∷◌, ◌++◌}
use Rattle.std.proofs.Common.{sym, ap, ◌∙◌, arith, inl, inr, append-nil}
use Rattle.std.specs.Prelude.{nat_le, filter, flat_map, min}
use Rattle.std.specs.List.{range_with_len}
use Rattle.std.proofs.lemmas.Bool.{cases_lt, cases_eq, le-leb, lt-leb, and_left, and_right}
use Rattle.std.proofs.lemmas.List.Concat.{flat_map-append}
use Rattle.ttp_world.specs.declared.script.Script.{Script}
use Rattle.campaign.specs.Tried.{slots_between}

-- Numbers from one to another, among those that follow one another.

module _ (a b : ℕ) where
  abbrev between : ℕ → Bool
  between j = nat_le a j && nat_le j b

  within : (c n : ℕ) → a ≤ c → filter between (range_with_len c n) ≡ range_with_len c (min (suc b) (c + n) - c)
  within c zero from = ap (range_with_len c) (let none : 0 ≡ min (suc b) (c + 0) - c = omega arith in none)
  within c (suc n) from =
      let others = filter between (range_with_len (c + 1) n) in
      let rest = within (c + 1) n (omega (arith, from)) in
      elim (cases_lt b c) [
        | inl past ↦
            let here : between c ≡ false = and_right (nat_le a c) (nat_le c b) (lt-leb c b past) in
            let none : min (suc b) (c + 1 + n) - (c + 1) ≡ 0 = omega (arith, past) in
            let also : 0 ≡ min (suc b) (c + suc n) - c = omega (arith, past) in
            ap (λ t. cond t (c ∷ others) others) here ∙ rest
            ∙ ap (range_with_len (c + 1)) none ∙ ap (range_with_len c) also
        | inr near ↦
            let here : between c ≡ true = (λ i. le-leb a c from i && le-leb c b near i) in
            let more : suc (min (suc b) (c + 1 + n) - (c + 1)) ≡ min (suc b) (c + suc n) - c = omega (arith, near) in
            ap (λ t. cond t (c ∷ others) others) here ∙ ap (λ ks. c ∷ ks) rest ∙ ap (range_with_len c) more
      ]

  beginning : (c n : ℕ) → c ≤ a → filter between (range_with_len c n) ≡ range_with_len a (min (suc b) (c + n) - a)
  beginning c zero to = ap (range_with_len a) (let none : 0 ≡ min (suc b) (c + 0) - a = omega (arith, to) in none)
  beginning c (suc n) to =
      let others = filter between (range_with_len (c + 1) n) in
      elim (cases_eq c a) [
        | inl same ↦
            within c (suc n) (omega (arith, same)) ∙ ap (λ k. range_with_len k (min (suc b) (c + suc n) - k)) same
        | inr other ↦
            let less : c < a = omega (arith, to, other) in
            let here : between c ≡ false = and_left (nat_le a c) (nat_le c b) (lt-leb a c less) in
            let same : c + 1 + n ≡ c + suc n = omega arith in
            ap (λ t. cond t (c ∷ others) others) here ∙ beginning (c + 1) n (omega (arith, less))
            ∙ ap (λ k. range_with_len a (min (suc b) k - a)) same
      ]

pub slots-range : (script : Script) (first last : ℕ)
    → slots_between script first last ≡ range_with_len first (min (suc last) script.slots - first)
slots-range script first last =
    beginning first last 0 script.slots (omega arith)
    ∙ ap (λ k. range_with_len first (min (suc last) k - first))
    (let same : 0 + script.slots ≡ script.slots = omega arith in same)

-- a range that begins behind its end is empty
pub from-first : (first end : ℕ)
    → range_with_len (min first end) (end - min first end) ≡ range_with_len first (end - first)
from-first first end = elim (cases_lt end first) [
  | inl past ↦
      let none : end - min first end ≡ 0 = omega (arith, past) in
      let also : 0 ≡ end - first = omega (arith, past) in
      ap (range_with_len (min first end)) none ∙ ap (range_with_len first) also
  | inr near ↦
      let same : min first end ≡ first = omega (arith, near) in
      ap (λ k. range_with_len k (end - k)) same
]

-- One after another.

range-split : (a n m : ℕ) → range_with_len a (n + m) ≡ range_with_len a n ++ range_with_len (a + n) m
range-split a zero m = λ i. range_with_len ((let e : a ≡ a + 0 = omega arith in e) i)
    ((let e : 0 + m ≡ m = omega arith in e) i)
range-split a (suc n) m =
    let more : suc n + m ≡ suc (n + m) = omega arith in
    let next : a + 1 + n ≡ a + suc n = omega arith in
    ap (range_with_len a) more
    ∙ ap (λ ks. a ∷ ks) (range-split (a + 1) n m ∙ ap (λ b. range_with_len (a + 1) n ++ range_with_len b m) next)

module _ {X : Type 0} (f : ℕ → List X) where
  -- with one more, and as the first ones of more
  pub range-next : (a n j : ℕ) → a + n ≡ j → flat_map f (range_with_len a (n + 1))
      ≡ flat_map f (range_with_len a n) ++ f j
  range-next a n j is =
      ap (flat_map f) (range-split a n 1 ∙ ap (λ k. range_with_len a n ++ k ∷ []) is)
      ∙ flat_map-append f (range_with_len a n) (j ∷ [])
      ∙ ap (λ ys. flat_map f (range_with_len a n) ++ ys) (append-nil (f j))

  pub range-rest : (a n m j k : ℕ) → a + n ≡ j → n + suc k ≡ m
      → flat_map f (range_with_len a n)
      ++ (f j ++ flat_map f (range_with_len (j + 1) k)) ≡ flat_map f (range_with_len a m)
  range-rest a n m j k is all =
      sym (ap (flat_map f) (sym (ap (range_with_len a) all) ∙ range-split a n (suc k)
      ∙ ap (λ b. range_with_len a n ++ range_with_len b (suc k)) is)
      ∙ flat_map-append f (range_with_len a n) (j ∷ range_with_len (j + 1) k))
