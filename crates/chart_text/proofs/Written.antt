-- Lines that were put, in the order of a chart.
use Rattle.chart_text.proofs.Words.{◌≡◌, ℕ, ◌+◌, Bool, false, List, [], ◌∷◌, subst, sym, Result, OnOk}
use Rattle.chart_text.proofs.Words.{flat_map, Output, WroteLines, Lines, lines_below}
use Rattle.chart_text.proofs.Words.{Puts, puts_below, FaultTold, Size, list_lines}
use Rattle.chart_text.specs.Worst.{listed_lines}
use Rattle.std.proofs.Common.{Ok, Err, ◌↔◌}
use Rattle.std.specs.Result.{IsOk, OnErr}
use Rattle.ttp_base.specs.Outside.{CutShort}
use Rattle.chart_text.proofs.FromBelow.{end_ok, end_failed}
use Rattle.ttp_base.proofs.Puts.{puts_then, puts_none}

-- what is left of a list: the lines of its first item and those of the others, or none
pub left_first : {X : Type 0} (lines : X → Lines) (old rest : List X) (x : X) (g h i : Bool) (b c d : Output)
    → old ≡ x ∷ rest → Puts g b h c (lines x) → Puts h c i d (flat_map lines rest) → Puts g b i d (flat_map lines old)
left_first {X} lines old rest x g h i b c d e p q =
    subst (λ (ys : List X). Puts g b i d (flat_map lines ys)) (sym e)
    (puts_then g h i b c d (lines x) (flat_map lines rest) p q)

pub left_none : {X : Type 0} (lines : X → Lines) (old : List X) (f : Bool) (b : Output) → old ≡ []
    → Puts f b f b (flat_map lines old)
left_none {X} lines old f b e = subst (λ (ys : List X). Puts f b f b (flat_map lines ys)) (sym e) (puts_none f b)

module _ (size : Size) where
  -- what is left of the list of the worst
  pub list_first : (y z : ℕ) (old rest : List FaultTold) (x : FaultTold) (g h i : Bool) (b c d : Output)
      → old ≡ x ∷ rest → z ≡ y + 20 → Puts g b h c (listed_lines size y x) → Puts h c i d (list_lines size z rest)
      → Puts g b i d (list_lines size y old)
  list_first y z old rest x g h i b c d e next p q =
      subst (λ (ys : List FaultTold). Puts g b i d (list_lines size y ys)) (sym e)
      (puts_then g h i b c d (listed_lines size y x) (list_lines size (y + 20) rest) p
      (subst (λ (n : ℕ). Puts h c i d (list_lines size n rest)) next q))

-- along an equation of the lines
pub along : {f g : Bool} {a b : Output} {x y : Lines} → x ≡ y → Puts f a g b x → Puts f a g b y
along {f} {g} {a} {b} e p = subst (Puts f a g b) e p

module _ {f g h k : Bool} where
  -- the lines of one number more, and of no more
  pub columns_next : {a b c d : Output} (lines : ℕ → Lines) (n m : ℕ) (these : Lines)
      → Puts f a g b (lines_below lines n) → Puts g b h c these → these ≡ lines n → k ≡ h → d ≡ c → m ≡ n + 1
      → Puts f a k d (lines_below lines m)
  columns_next {a} {b} {c} {d} lines n m these p q same failed out more =
      let put : Puts f a h c (lines_below lines (n + 1)) = puts_below f g h a b c lines n p (along same q) in
      let moved : Puts f a k d (lines_below lines (n + 1)) =
      subst (λ (z : Output). Puts f a k z (lines_below lines (n + 1))) (sym out)
      (subst (λ (z : Bool). Puts f a z c (lines_below lines (n + 1))) (sym failed) put) in
      subst (λ (z : ℕ). Puts f a k d (lines_below lines z)) (sym more) moved

pub columns_same : {f g k : Bool} {a b d : Output} (lines : ℕ → Lines) (n m : ℕ) → Puts f a g b (lines_below lines n)
    → k ≡ g → d ≡ b → m ≡ n
    → Puts f a k d (lines_below lines m)
columns_same {f} {g} {k} {a} {b} {d} lines n m p failed out same =
    let moved : Puts f a k d (lines_below lines n) =
    subst (λ (z : Output). Puts f a k z (lines_below lines n)) (sym out)
    (subst (λ (z : Bool). Puts f a z b (lines_below lines n)) (sym failed) p) in
    subst (λ (z : ℕ). Puts f a k d (lines_below lines z)) (sym same) moved

-- How a chart ends whose sheet did not fail at its start.

pub chart_ok : {T E : Type 0} (r : Result T E) (v : T) (failed fails : Bool) (a b : Output) (x : Lines) → r ≡ Ok v
    → (IsOk r ↔ (fails ≡ false)) → failed ≡ false → Puts failed a fails b x
    → WroteLines a b x
chart_ok {T} {E} r v failed fails a b x is end start p =
    subst (λ (q : Result T E). OnOk q (WroteLines a b x)) is
    (end_ok r fails a b x end (subst (λ (f : Bool). Puts f a fails b x) start p))

pub chart_failed : {T E : Type 0} (r : Result T E) (e : E) (failed fails : Bool) (a b : Output) (x : Lines) → r ≡ Err e
    → (IsOk r ↔ (fails ≡ false)) → failed ≡ false → Puts failed a fails b x
    → CutShort a b x
chart_failed {T} {E} r e failed fails a b x is end start p =
    subst (λ (q : Result T E). OnErr q (CutShort a b x)) is
    (end_failed r fails a b x end (subst (λ (f : Bool). Puts f a fails b x) start p))
