-- Lists that a loop changes place by place.
use Rattle.cluster_run.proofs.Words.{◌≡◌, ℕ, ◌+◌, ◌<◌, ◌≤◌, List, [], ◌∷◌, ◌++◌, length, set, get_or, sym, ap, ◌∙◌}
use Rattle.cluster_run.proofs.Words.{subst, below_more, arith, at_any, steps, get_or_append_left, get_or_push}
use Rattle.cluster_run.proofs.Words.{with_items_is}
use Rattle.std.specs.Vec.{with_items}
use Rattle.std.proofs.Common.{Vec}

-- What a call with a vector's slice left as it was is as it was in the vector.
pub kept_items : {X Z : Type 0} (v : Vec X Z) {there new : List X} → there ≡ v.items → length there ≡ v.len
    → new ≡ there → (with_items v new).items ≡ v.items
kept_items v value len kept = with_items_is v _ (ap length kept ∙ len) ∙ kept ∙ value

-- What holds of each of the first k items, and of one that is pushed behind them, holds of the first k + 1.
pub pushed_more : {A : Type 0} (P : ℕ → A → Type 0) (d : A) (k : ℕ) (xs : List A) (x : A) → length xs ≡ k
    → ((j : ℕ) → j < k → P j (get_or xs j d)) → P k x → (j : ℕ) → j < k + 1 → P j (get_or (xs ++ x ∷ []) j d)
pushed_more P d k xs x count so last =
    below_more (λ j. P j (get_or (xs ++ x ∷ []) j d)) k
    (λ j near. subst (P j) (sym (get_or_append_left xs (x ∷ []) d j (omega (arith, near, count)))) (so j near))
    (subst (P k) (sym (get_or_push xs x d k count)) last)

-- P holds at the first k places, between what was there and what is now; all other places are as they were.
pub record AreChanged {A : Type 0} (P : ℕ → A → A → Type 0) (d : A) (k : ℕ) (old now : List A) : Type 0 where
  pub count : length now ≡ length old
  pub done : (j : ℕ) → j < k → P j (get_or old j d) (get_or now j d)
  pub rest : (j : ℕ) → k ≤ j → get_or now j d ≡ get_or old j d

-- One place more is changed: P holds at the first k + 1.
pub changed_more : {A : Type 0} {P : ℕ → A → A → Type 0} {d : A} {k : ℕ} {old now : List A} (x new : A)
    → AreChanged P d k old now → k < length now → x ≡ get_or now k x → P k x new
    → AreChanged P d (k + 1) old (set now k new)
changed_more {P = P} {d = d} {k = k} {old = old} {now = now} x new so near here by = grind steps

-- Two lists, each changed at one place.
pub record AreBothChanged {A B : Type 0} (P : ℕ → A → A → B → B → Type 0) (d : A) (e : B) (k : ℕ) (old now : List A)
    (was is : List B) : Type 0 where
  pub first : AreChanged (λ j x y. Unit {0}) d k old now
  pub second : AreChanged (λ j x y. Unit {0}) e k was is
  pub done : (j : ℕ) → j < k → P j (get_or old j d) (get_or now j d) (get_or was j e) (get_or is j e)

module _ {A B : Type 0} {P : ℕ → A → A → B → B → Type 0} {d : A} {e : B} where
  pub both_more : {k : ℕ} {old now : List A} {was is : List B} (x new : A) (y next : B)
      → AreBothChanged P d e k old now was is → k < length now → k < length is → x ≡ get_or now k x
      → y ≡ get_or is k y → P k x new y next → AreBothChanged P d e (k + 1) old (set now k new) was (set is k next)
  both_more {k = k} {old = old} {now = now} {was = was} {is = is} x new y next so near near' here here' by =
      grind (steps, changed_more, at_any)
