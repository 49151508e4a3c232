-- The first that is found in two lists, one after the other.
use Rattle.hypothesis.proofs.Words.{◌≡◌, ℕ, zero, suc, ◌+◌, ◌-◌, ◌<◌, ◌≤◌, max, Bool, true, false, cond, not, Option}
use Rattle.hypothesis.proofs.Words.{Some, None, is_some, refl, ap, sym, ◌∙◌, inl, inr, arith, range_with_len, cases_lt}
use Rattle.hypothesis.proofs.Words.{lt-ltb, le-ltb, option_or}
use Rattle.std.specs.List.{find}
use Rattle.hypothesis.specs.Walks.{first_lack}

pub or-head : (b : Bool) (k : ℕ) (rest first second : Option ℕ) → rest ≡ option_or first second
    → cond b (Some k) rest ≡ option_or (cond b (Some k) first) second
or-head true k rest first second is = refl
or-head false k rest first second is = is

abbrev if_lacks : (ℕ → Bool) → ℕ → Option ℕ
if_lacks lacks k = cond (lacks k) (Some k) None

find-next : (lacks : ℕ → Bool) (a n : ℕ)
    → find lacks (range_with_len a (suc n)) ≡ option_or (find lacks (range_with_len a n)) (if_lacks lacks (a + n))
find-next lacks a zero = let here : a ≡ a + 0 = omega arith in ap (if_lacks lacks) here
find-next lacks a (suc n) =
    let there : (a + 1) + n ≡ a + suc n = omega arith in
    or-head (lacks a) a (find lacks (range_with_len (a + 1) (suc n))) (find lacks (range_with_len (a + 1) n))
    (if_lacks lacks (a + suc n))
    (find-next lacks (a + 1) n ∙ ap (λ k. option_or (find lacks (range_with_len (a + 1) n)) (if_lacks lacks k)) there)

-- The first lack.

pub lack-before : (enough : Bool) (lacks : ℕ → Bool) (from slot : ℕ) → slot < from
    → first_lack enough lacks from slot ≡ None
lack-before enough lacks from slot less = rw (lt-ltb slot from less) refl

pub lack-since : (enough : Bool) (lacks : ℕ → Bool) (from slot n : ℕ) → from ≤ slot → slot - from ≡ n
    → first_lack enough lacks from slot ≡ cond enough (find lacks (range_with_len from n)) (Some from)
lack-since enough lacks from slot n since size = rw (le-ltb slot from since, size) refl

lack-more : (enough : Bool) (lacks : ℕ → Bool) (from slot : ℕ) → from ≤ slot → first_lack enough lacks from (slot + 1)
    ≡ cond enough (option_or (find lacks (range_with_len from (slot - from))) (if_lacks lacks slot)) (Some from)
lack-more enough lacks from slot since =
    let here : from + (slot - from) ≡ slot = omega arith in
    lack-since enough lacks from (slot + 1) (suc (slot - from)) (omega arith) (omega arith)
    ∙ ap (λ found. cond enough found (Some from)) (find-next lacks from (slot - from) ∙ rw here refl)

stays : (enough : Bool) (found more : Option ℕ) (from : ℕ) → is_some (cond enough found (Some from)) ≡ true
    → cond enough found (Some from) ≡ cond enough (option_or found more) (Some from)
stays true None more from some = grind arith
stays true (Some k) more from some = refl
stays false found more from some = refl

-- what is found stays the first
pub lack-found : (enough : Bool) (lacks : ℕ → Bool) (from slot : ℕ) → is_some (first_lack enough lacks from slot) ≡ true
    → first_lack enough lacks from slot ≡ first_lack enough lacks from (slot + 1)
lack-found enough lacks from slot some = elim (cases_lt slot from) [
  | inl less ↦
      let none : false ≡ true = ap is_some (sym (lack-before enough lacks from slot less)) ∙ some in
      grind arith
  | inr since ↦
      let now = lack-since enough lacks from slot (slot - from) since refl in
      now ∙ stays enough (find lacks (range_with_len from (slot - from))) (if_lacks lacks slot) from
      (ap is_some (sym now) ∙ some) ∙ sym (lack-more enough lacks from slot since)
]

pub lack-early : (enough : Bool) (lacks : ℕ → Bool) (from slot : ℕ) → slot + 1 < from
    → first_lack enough lacks from slot ≡ first_lack enough lacks from (slot + 1)
lack-early enough lacks from slot less =
    lack-before enough lacks from slot (omega arith) ∙ sym (lack-before enough lacks from (slot + 1) less)

nothing-yet : (enough : Bool) (found more : Option ℕ) (from : ℕ) → cond enough found (Some from) ≡ None
    → cond enough (option_or found more) (Some from) ≡ more
nothing-yet true None more from none = refl
nothing-yet true (Some k) more from none = grind arith
nothing-yet false found more from none = grind arith

pub nothing : (found : Option ℕ) → is_some found ≡ false → found ≡ None
nothing None none = refl
nothing (Some k) none = grind arith

told-by : (fine : Bool) (k : ℕ) → cond (not fine) (Some k) None ≡ cond fine None (Some k)
told-by true k = refl
told-by false k = refl

-- where nothing was found, the answer of one slot more decides
pub lack-next : (enough fine : Bool) (lacks : ℕ → Bool) (from slot : ℕ) → from ≤ slot + 1
    → is_some (first_lack enough lacks from slot) ≡ false → (slot + 1 ≡ from → enough ≡ fine) → lacks slot ≡ not fine
    → first_lack enough lacks from (slot + 1) ≡ cond fine None (Some (max slot from))
lack-next enough fine lacks from slot near none at_start after = elim (cases_lt slot from) [
  | inl less ↦
      let top : from ≡ max slot from = omega arith in
      lack-since enough lacks from (slot + 1) 0 near (omega arith)
      ∙ ap (λ b. cond b None (Some from)) (at_start (omega arith)) ∙ ap (λ k. cond fine None (Some k)) top
  | inr since ↦
      let top : slot ≡ max slot from = omega arith in
      let found = find lacks (range_with_len from (slot - from)) in
      let missing = nothing (first_lack enough lacks from slot) none in
      lack-more enough lacks from slot since ∙ nothing-yet enough found (if_lacks lacks slot) from
      (sym (lack-since enough lacks from slot (slot - from) since refl) ∙ missing)
      ∙ ap (λ b. cond b (Some slot) None) after ∙ told-by fine slot ∙ ap (λ k. cond fine None (Some k)) top
]

first-fine : (b : Bool) (found : Option ℕ) (from : ℕ) → is_some (cond b found (Some from)) ≡ false → b ≡ true
first-fine true found from none = refl
first-fine false found from none = grind arith

last-fine : (b lacks : Bool) (found : Option ℕ) (k from : ℕ)
    → is_some (cond b (option_or found (cond (not lacks) (Some k) None)) (Some from)) ≡ false → lacks ≡ true
last-fine true true None k from none = refl
last-fine true false None k from none = grind arith
last-fine true lacks (Some j) k from none = grind arith
last-fine false lacks found k from none = grind arith

-- where nothing was found so far, there is enough
pub lack-none : (enough : ℕ → Bool) (from slot : ℕ) → from ≤ slot
    → is_some (first_lack (enough from) (λ k. not (enough (suc k))) from slot) ≡ false → enough slot ≡ true
lack-none enough from slot since none =
    let lacks : ℕ → Bool = λ k. not (enough (suc k)) in
    elim (cases_lt from slot) [
      | inl less ↦
          let last : suc (slot - 1) ≡ slot = omega (arith, less) in
          let next : slot - 1 + 1 ≡ slot = omega (arith, less) in
          ap enough (sym last)
          ∙ last-fine (enough from) (enough (suc (slot - 1)))
          (find lacks (range_with_len from (slot - 1 - from))) (slot - 1)
          from (ap is_some (sym (lack-more (enough from) lacks from (slot - 1) (omega (arith, less)))
          ∙ ap (first_lack (enough from) lacks from) next) ∙ none)
      | inr last ↦
          let here : slot ≡ from = omega (arith, since, last) in
          ap enough here ∙ first-fine (enough from) (find lacks (range_with_len from (slot - from))) from
          (ap is_some (sym (lack-since (enough from) lacks from slot (slot - from) since refl)) ∙ none)
    ]
