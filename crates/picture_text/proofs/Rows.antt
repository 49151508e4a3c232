-- Lines whose texts are known by equations, put behind others.
use Rattle.picture_text.proofs.Words.{◌≡◌, ℕ, ◌+◌, ◌-◌, ◌*◌, ◌/◌, ◌<◌, ◌≤◌, Bool, map, List, [], ◌∷◌, subst, sym}
use Rattle.picture_text.proofs.Words.{arith, flat_map, range_with_len, below, Output, Lines, Puts}
use Rattle.std.proofs.Math.Nat.{mul-le-mul_left}
use Rattle.ttp_base.proofs.Puts.{puts_none, puts_next, puts_then, puts_range}

pub one_more : (f g h : Bool) (a b c : Output) (line : ℕ → List ℕ) (k : ℕ) (one : List ℕ)
    → Puts f a g b (map line (below k)) → Puts g b h c (one ∷ []) → one ≡ line k
    → Puts f a h c (map line (below (k + 1)))
one_more f g h a b c line k one p q e =
    puts_next f g h a b c line k p (subst (λ (l : List ℕ). Puts g b h c (l ∷ [])) e q)

-- the lines of one slot more, of which some lines are known
pub slot_more : (f g h : Bool) (a b c : Output) (lines : ℕ → Lines) (first k : ℕ) (these : Lines)
    → Puts f a g b (flat_map lines (range_with_len first k)) → Puts g b h c these → these ≡ lines (first + k)
    → Puts f a h c (flat_map lines (range_with_len first (k + 1)))
slot_more f g h a b c lines first k these p q e =
    puts_range f g h a b c lines first k p (subst (Puts g b h c) e q)

module _ {X : Type 0} where
  -- what is left of a list: the line of its first item and those of the others, or none
  pub rest_first : (line : X → List ℕ) (old rest : List X) (x : X) (one : List ℕ) (g h i : Bool) (b c d : Output)
      → old ≡ x ∷ rest → Puts g b h c (one ∷ []) → one ≡ line x → Puts h c i d (map line rest)
      → Puts g b i d (map line old)
  rest_first line old rest x one g h i b c d e p s q =
      subst (λ (ys : List X). Puts g b i d (map line ys)) (sym e)
      (puts_then g h i b c d (line x ∷ []) (map line rest) (subst (λ (l : List ℕ). Puts g b h c (l ∷ [])) s p) q)

pub rest_none : {X : Type 0} (line : X → List ℕ) (old : List X) (f : Bool) (b : Output) → old ≡ []
    → Puts f b f b (map line old)
rest_none {X} line old f b e = subst (λ (ys : List X). Puts f b f b (map line ys)) (sym e) (puts_none f b)

-- a band of c columns begins within the slots that are shown
pub band_within : (first last c band : ℕ) → first ≤ last → 0 < c → band < (last - first) / c + 1
    → first + c * band ≤ last
band_within first last c band order some few =
    let low : band ≤ (last - first) / c = omega arith in
    omega (arith, mul-le-mul_left c low)
