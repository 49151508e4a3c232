-- Lines that are put one after another.
use Rattle.std.proofs.Common.{◌≡◌, refl, ap, ◌∙◌, ℕ, ◌+◌, ◌<◌, map, List, [], ◌∷◌, ◌++◌, subst, sym, Bool, true}
use Rattle.std.proofs.Common.{length, take, get_or, false, append_assoc}
use Rattle.std.proofs.lemmas.List.{append-nil, map-append, map-id, take_more}
use Rattle.std.proofs.lemmas.List.Concat.{flat_map-append}
use Rattle.std.proofs.lemmas.List.FromFn.{map-range_with_len_more}
use Rattle.std.specs.List.{flat_map, range_with_len}
use Rattle.std.specs.Prelude.{if◌then◌else◌}
use Rattle.ttp_base.specs.NodeSet.{below}
use Rattle.ttp_base.specs.Outside.{Output, WroteLines, CutShort}
use Rattle.ttp_base.specs.Sheet.{HasPut, Puts}
use Rattle.ttp_base.specs.Text.{Lines, lines_below}
use Rattle.ttp_base.proofs.Below.{flat_map-next, map-next}
use Rattle.ttp_base.proofs.Outputs.{Wrote-join, Wrote-none, CutShort-after, CutShort-more}

-- no lines, and lines in two parts
pub puts_none : (f : Bool) (a : Output) → Puts f a f a []
puts_none f a = record { puts = λ start before put. subst (HasPut f start a) (sym (append-nil before)) put }

pub puts_then : (f g h : Bool) (a b c : Output) (x y : Lines) → Puts f a g b x → Puts g b h c y → Puts f a h c (x ++ y)
puts_then f g h a b c x y p q = record {
  puts = λ start before put.
      subst (HasPut h start c) (append_assoc before x y) (q.puts start (before ++ x) (p.puts start before put));
}

-- what one call of the sink does
pub puts_wrote : (a b : Output) (x : Lines) → WroteLines a b x → Puts false a false b x
puts_wrote a b x wrote = record { puts = λ start before put. Wrote-join start a b before x put wrote }

pub puts_cut : (a b : Output) (x : Lines) → CutShort a b x → Puts false a true b x
puts_cut a b x cut = record { puts = λ start before put. CutShort-after start a b before x put cut }

pub puts_nothing : (a : Output) (x : Lines) → Puts true a true a x
puts_nothing a x = record { puts = λ start before put. CutShort-more start a before x put }

-- one number more
pub puts_next : (f g h : Bool) (a b c : Output) (line : ℕ → List ℕ) (k : ℕ) → Puts f a g b (map line (below k))
    → Puts g b h c (line k ∷ []) → Puts f a h c (map line (below (k + 1)))
puts_next f g h a b c line k p q = rw (map-next line k) (puts_then f g h a b c (map line (below k)) (line k ∷ []) p q)

pub puts_below : (f g h : Bool) (a b c : Output) (lines : ℕ → Lines) (k : ℕ) → Puts f a g b (lines_below lines k)
    → Puts g b h c (lines k) → Puts f a h c (lines_below lines (k + 1))
puts_below f g h a b c lines k p q =
    rw (flat_map-next lines k) (puts_then f g h a b c (lines_below lines k) (lines k) p q)

range-next : (f : ℕ → Lines) (a n : ℕ)
    → flat_map f (range_with_len a (n + 1)) ≡ flat_map f (range_with_len a n) ++ f (a + n)
range-next f a n =
    ap (flat_map f)
    (sym (map-id (range_with_len a (n + 1))) ∙ map-range_with_len_more (λ k. k) a n (a + n) refl
    ∙ ap (λ (ks : List ℕ). ks ++ (a + n) ∷ []) (map-id (range_with_len a n)))
    ∙ flat_map-append f (range_with_len a n) ((a + n) ∷ [])
    ∙ ap (λ (ys : Lines). flat_map f (range_with_len a n) ++ ys) (append-nil (f (a + n)))

pub puts_range : (f g h : Bool) (a b c : Output) (lines : ℕ → Lines) (first k : ℕ)
    → Puts f a g b (flat_map lines (range_with_len first k)) → Puts g b h c (lines (first + k))
    → Puts f a h c (flat_map lines (range_with_len first (k + 1)))
puts_range f g h a b c lines first k p q =
    rw (range-next lines first k)
    (puts_then f g h a b c (flat_map lines (range_with_len first k)) (lines (first + k)) p q)

module _ {X : Type 0} where
  -- one item more
  pub puts_item : (line : X → List ℕ) (xs : List X) (k : ℕ) (d : X) (f g h : Bool) (a b c : Output) (one : List ℕ)
      → Puts f a g b (map line (take k xs)) → k < length xs → Puts g b h c (one ∷ []) → one ≡ line (get_or xs k d)
      → Puts f a h c (map line (take (k + 1) xs))
  puts_item line xs k d f g h a b c one p within q e =
      subst (Puts f a h c)
      (sym (ap (map line) (take_more xs k d within) ∙ map-append line (take k xs) (get_or xs k d ∷ [])))
      (puts_then f g h a b c (map line (take k xs)) (line (get_or xs k d) ∷ []) p
      (subst (λ (l : List ℕ). Puts g b h c (l ∷ [])) e q))

-- one line, and two
pub puts_one : {f g : Bool} {a b : Output} {x y : List ℕ} → x ≡ y → Puts f a g b (x ∷ []) → Puts f a g b (y ∷ [])
puts_one {f} {g} {a} {b} e p = subst (λ (line : List ℕ). Puts f a g b (line ∷ [])) e p

-- lines behind one
pub puts_first : {f g h : Bool} {a b c : Output} {x y : List ℕ} {ys : Lines} → x ≡ y → Puts f a g b (x ∷ [])
    → Puts g b h c ys → Puts f a h c (y ∷ ys)
puts_first {f} {g} {h} {a} {b} {c} {x} {y} {ys} e p q = puts_then f g h a b c (y ∷ []) ys (puts_one e p) q

pub puts_two : {f g h : Bool} {a b c : Output} {x y v w : List ℕ} → x ≡ v → y ≡ w → Puts f a g b (x ∷ [])
    → Puts g b h c (y ∷ []) → Puts f a h c (v ∷ w ∷ [])
puts_two e d p q = puts_first e p (puts_one d q)

-- lines in two parts
pub puts_both : {f g h : Bool} {a b c : Output} {x y : Lines} → Puts f a g b x → Puts g b h c y → Puts f a h c (x ++ y)
puts_both {f} {g} {h} {a} {b} {c} {x} {y} p q = puts_then f g h a b c x y p q

-- lines that are put where something is so, and others where it is not
pub puts_where : {f g : Bool} {a b : Output} {x : Lines} (is : Bool) (more : Lines) → is ≡ true → Puts f a g b x
    → Puts f a g b (if is then x else more)
puts_where {f} {g} {a} {b} {x} is more so p =
    subst (λ (s : Bool). Puts f a g b (if s then x else more)) (sym so) p

pub puts_else : {f g : Bool} {a b : Output} {more : Lines} (is : Bool) (x : Lines) → is ≡ false → Puts f a g b more
    → Puts f a g b (if is then x else more)
puts_else {f} {g} {a} {b} {more} is x so p =
    subst (λ (s : Bool). Puts f a g b (if s then x else more)) (sym so) p

-- and none where it is not
pub puts_unless : {f : Bool} {a : Output} (is : Bool) (x : Lines) → is ≡ false
    → Puts f a f a (if is then x else [])
puts_unless {f} {a} is x so = puts_else is x so (puts_none f a)

-- all of them
pub all_wrote : (a b : Output) (x : Lines) → Puts false a false b x → WroteLines a b x
all_wrote a b x p = p.puts a [] (Wrote-none a)

pub all_cut : (a b : Output) (x : Lines) → Puts false a true b x → CutShort a b x
all_cut a b x p = p.puts a [] (Wrote-none a)

pub ruleset puts =
    (puts_then, puts_none, puts_wrote, puts_cut, puts_nothing, puts_next, puts_below, all_wrote, all_cut)
