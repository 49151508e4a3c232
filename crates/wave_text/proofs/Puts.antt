-- Lines that are put for one item of a list after another, and those of a slot that may be the first.
use Rattle.wave_text.proofs.Words.{◌≡◌, ℕ, ◌+◌, ◌<◌, Bool, true, false, cond, List, [], ◌∷◌, ◌++◌, length, get_or, take}
use Rattle.wave_text.proofs.Words.{refl, sym, ap, subst, ◌∙◌, Some, option_map, filter, map}
use Rattle.wave_text.proofs.Words.{if◌then◌else◌, append-nil, flat_map, Output, Lines, Puts, puts_one, puts_then}
use Rattle.wave_text.proofs.Words.{unless_first}
use Rattle.std.proofs.lemmas.List.{map-append, take_more}
use Rattle.std.proofs.lemmas.Grind.{flat_map-append}

-- Items of which some have lines.

pub flat_map-filter : {X : Type 0} (f : X → Lines) (p : X → Bool) (xs : List X)
    → flat_map f (filter p xs) ≡ flat_map (λ x. if p x then f x else []) xs
flat_map-filter f p [] = refl
flat_map-filter f p (x ∷ xs) = go (p x) (flat_map-filter f p xs)
  where
    go : (passes : Bool) → flat_map f (filter p xs) ≡ flat_map (λ y. if p y then f y else []) xs
        → flat_map f (cond passes (x ∷ filter p xs) (filter p xs))
        ≡ (if passes then f x else []) ++ flat_map (λ y. if p y then f y else []) xs
    go true is = ap (λ (more : Lines). f x ++ more) is
    go false is = is

-- Lines of the items of a list, as a loop over it puts them.

pub puts_at : {X : Type 0} {k g h : Bool} {a b c : Output} (f : X → Lines) (xs : List X) (i : ℕ) (d : X) → i < length xs
    → Puts k a g b (flat_map f (take i xs)) → Puts g b h c (f (get_or xs i d))
    → Puts k a h c (flat_map f (take (i + 1) xs))
puts_at {X} {k} {g} {h} {a} {b} {c} f xs i d less p q =
    subst (Puts k a h c)
    (sym (ap (flat_map f) (take_more xs i d less) ∙ flat_map-append f (take i xs) (get_or xs i d ∷ [])
    ∙ ap (λ (more : Lines). flat_map f (take i xs) ++ more) (append-nil (f (get_or xs i d)))))
    (puts_then k g h a b c (flat_map f (take i xs)) (f (get_or xs i d)) p q)

module _ {X : Type 0} where
  -- where each item has one line, a loop that puts the next item's has put those of one item more
  pub puts_line_at : {k g h : Bool} {a b c : Output} {one : List ℕ} (f : X → List ℕ) (xs : List X) (i : ℕ) (d : X)
      → i < length xs → Puts k a g b (map f (take i xs)) → one ≡ f (get_or xs i d) → Puts g b h c (one ∷ [])
      → Puts k a h c (map f (take (i + 1) xs))
  puts_line_at {k} {g} {h} {a} {b} {c} f xs i d less p e q =
      subst (Puts k a h c) (sym (ap (map f) (take_more xs i d less) ∙ map-append f (take i xs) (get_or xs i d ∷ [])))
      (puts_then k g h a b c (map f (take i xs)) (f (get_or xs i d) ∷ []) p
      (puts_one e q))

-- what is read of the slot before, where there is one
pub read_unless_first : {X Y : Type 0} (f : X → Y) (is_first : Bool) {x : X} {y : Y} → y ≡ f x
    → unless_first is_first y ≡ option_map f (unless_first is_first x)
read_unless_first f true e = refl
read_unless_first f false e = ap Some e
