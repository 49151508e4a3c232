-- Lists of lines in which few are asked for.
use Rattle.ttp_world.proofs.Words.{◌≡◌, ◌≢◌, ℕ, zero, suc, ◌+◌, ◌<◌, ◌≤◌, Bool, false, cond, List, [], ◌∷◌, ◌++◌}
use Rattle.ttp_world.proofs.Words.{Option, Some, None, refl, ap, ◌∙◌, arith, map, inl, inr, AllByRecursion}
use Rattle.ttp_world.proofs.Words.{range_with_len, cons_option, option_or, cases_eq, filter_map-append, below}
use Rattle.std.proofs.Common.{append-nil, find, filter_map}
use Rattle.std.proofs.lemmas.List.Folds.{find-append}

pub each-append : {X : Type 0} (P : X → Type 0) (xs ys : List X) → AllByRecursion P xs → AllByRecursion P ys
    → AllByRecursion P (xs ++ ys)
each-append P [] ys first second = second
each-append P (x ∷ xs) ys first second = (first.0, each-append P xs ys first.1 second)

pub map_of_map : {X Y Z : Type 0} (g : Y → Z) (f : X → Y) (xs : List X) → map g (map f xs) ≡ map (λ x. g (f x)) xs
map_of_map g f [] = refl
map_of_map g f (x ∷ xs) = ap (λ ys. g (f x) ∷ ys) (map_of_map g f xs)

-- Where none passes, none is found.

find-none : {X : Type 0} (p : X → Bool) (xs : List X) → AllByRecursion (λ x. p x ≡ false) xs → find p xs ≡ None
find-none p [] none = refl
find-none p (x ∷ xs) none = ap (λ (b : Bool). cond b (Some x) (find p xs)) none.0 ∙ find-none p xs none.1

pub filter_map-none : {X Y : Type 0} (h : X → Option Y) (xs : List X) → AllByRecursion (λ x. h x ≡ None) xs
    → filter_map h xs ≡ []
filter_map-none h [] none = refl
filter_map-none h (x ∷ xs) none = ap (λ o. cons_option o (filter_map h xs)) none.0 ∙ filter_map-none h xs none.1

-- So only the middle part is asked.

or_none : {X : Type 0} (o : Option X) → option_or o None ≡ o
or_none None = refl
or_none (Some x) = refl

pub find-between : {X : Type 0} (p : X → Bool) (before xs after : List X) → AllByRecursion (λ x. p x ≡ false) before
    → AllByRecursion (λ x. p x ≡ false) after → find p (before ++ (xs ++ after)) ≡ find p xs
find-between p before xs after none none_after =
    find-append p before (xs ++ after) ∙ ap (λ o. option_or o (find p (xs ++ after))) (find-none p before none)
    ∙ find-append p xs after ∙ ap (λ o. option_or (find p xs) o) (find-none p after none_after) ∙ or_none (find p xs)

pub filter_map-between : {X Y : Type 0} (h : X → Option Y) (before xs after : List X)
    → AllByRecursion (λ x. h x ≡ None) before → AllByRecursion (λ x. h x ≡ None) after
    → filter_map h (before ++ (xs ++ after)) ≡ filter_map h xs
filter_map-between h before xs after none none_after =
    filter_map-append h before (xs ++ after)
    ∙ ap (λ ys. ys ++ filter_map h (xs ++ after)) (filter_map-none h before none)
    ∙ filter_map-append h xs after ∙ ap (λ ys. filter_map h xs ++ ys) (filter_map-none h after none_after)
    ∙ append-nil (filter_map h xs)

-- Of the values of a function below a number only that at one place may pass.

find-none_in_range : {X : Type 0} (p : X → Bool) (f : ℕ → X) (a n : ℕ)
    → ((j : ℕ) → a ≤ j → j < a + n → p (f j) ≡ false) → find p (map f (range_with_len a n)) ≡ None
find-none_in_range p f a zero none = refl
find-none_in_range p f a (suc n) none =
    ap (λ (b : Bool). cond b (Some (f a)) (find p (map f (range_with_len (a + 1) n))))
    (none a (omega arith) (omega arith))
    ∙ find-none_in_range p f (a + 1) n (λ j low high. none j (omega arith) (omega arith))

find-in_range : {X : Type 0} (p : X → Bool) (f : ℕ → X) (a n k : ℕ) → a ≤ k → k < a + n
    → ((j : ℕ) → j < a + n → j ≢ k → p (f j) ≡ false)
    → find p (map f (range_with_len a n)) ≡ cond (p (f k)) (Some (f k)) None
find-in_range p f a zero k low high others = absurd (omega arith)
find-in_range p f a (suc n) k low high others =
    let rest = find p (map f (range_with_len (a + 1) n)) in
    elim (cases_eq a k) [
      | inl same ↦
          ap (λ o. cond (p (f a)) (Some (f a)) o)
          (find-none_in_range p f (a + 1) n (λ j above less. others j (omega arith) (λ at. omega (arith, same, at))))
          ∙ ap (λ (j : ℕ). cond (p (f j)) (Some (f j)) None) same
      | inr other ↦
          ap (λ (b : Bool). cond b (Some (f a)) rest) (others a (omega arith) other)
          ∙ find-in_range p f (a + 1) n k (omega (arith, other)) (omega arith) (λ j less ne. others j (omega arith) ne)
    ]

pub find-below : {X : Type 0} (p : X → Bool) (f : ℕ → X) (n k : ℕ) → k < n → ((j : ℕ) → j < n → j ≢ k → p (f j) ≡ false)
    → find p (map f (below n)) ≡ cond (p (f k)) (Some (f k)) None
find-below p f n k within others =
    find-in_range p f 0 n k (omega arith) (omega arith) (λ j less ne. others j (omega arith) ne)
