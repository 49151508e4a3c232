-- What is known of the errors of a source, from one call to the next.
use Rattle.std.proofs.Common.{◌≡◌, ℕ, zero, suc, ◌+◌, List, [], ◌∷◌, ◌++◌, Option, Some, None}
use Rattle.std.proofs.Common.{ap, sym, ◌∙◌, append_assoc, arith, inl, inr, subst}
use Rattle.std.proofs.lemmas.List.{append-nil}
use Rattle.ttp_base.specs.declared.source.Trouble.{Trouble}
use Rattle.ttp_base.specs.declared.source.Trouble.TheVariants.{Interrupted}
use Rattle.ttp_base.specs.Errors.{Tells, interruptions, ToldNoFault, ToldFault}

abbrev Troubles : Type 0
Troubles = List Trouble

pub Tells-none : (a : Option Troubles) → Tells a a []
Tells-none None = tt
Tells-none (Some xs) = sym (append-nil xs)

-- errors that were told one after another
pub Tells-join : (a b c : Option Troubles) (x y : Troubles) → Tells a b x → Tells b c y → Tells a c (x ++ y)
Tells-join None b c x y p q = tt
Tells-join (Some xs) None c x y p q = absurd p
Tells-join (Some xs) (Some ys) None x y p q = absurd q
Tells-join (Some xs) (Some ys) (Some zs) x y p q = rw (q, p, append_assoc)

-- interruptions one after another
pub interruptions-join : (m n : ℕ) → interruptions m ++ interruptions n ≡ interruptions (m + n)
interruptions-join zero n = ap interruptions (omega arith)
interruptions-join (suc m) n =
    let more : suc (m + n) ≡ suc m + n = omega arith in
    ap (λ (l : Troubles). Interrupted ∷ l) (interruptions-join m n) ∙ ap interruptions more

-- one interruption more
pub one_more : (a b c : Option Troubles) (n : ℕ) (k : Trouble) → k ≡ Interrupted
    → Tells a b (interruptions n) → Tells b c (k ∷ []) → Tells a c (interruptions (n + 1))
one_more a b c n k is p q =
    let one = subst (λ (t : Trouble). Tells b c (t ∷ [])) is q in
    subst (λ (l : Troubles). Tells a c l) (interruptions-join n 1)
    (Tells-join a b c (interruptions n) (interruptions 1) p one)

-- one interruption
pub interrupted : (a b : Option Troubles) (k : Trouble) → k ≡ Interrupted → Tells a b (k ∷ []) → ToldNoFault a b
interrupted a b k is p = (1, subst (λ (t : Trouble). Tells a b (t ∷ [])) is p)

-- no fault in one call, and none in the next
pub no_fault-join : (a b c : Option Troubles) → ToldNoFault a b → ToldNoFault b c → ToldNoFault a c
no_fault-join a b c p q = (
  p.0 + q.0,
  subst (λ (l : Troubles). Tells a c l) (interruptions-join p.0 q.0)
      (Tells-join a b c (interruptions p.0) (interruptions q.0) p.1 q.1),
)

-- no fault in one call, and a fault in the next
pub fault-join : (a b c : Option Troubles) (k : Trouble) → ToldNoFault a b → ToldFault b c k → ToldFault a c k
fault-join a b c k p (inl q) =
    let all = Tells-join a b c (interruptions p.0) (interruptions q.1.0 ++ k ∷ []) p.1 q.1.1 in
    let front : interruptions p.0 ++ (interruptions q.1.0 ++ k ∷ []) ≡ interruptions (p.0 + q.1.0) ++ k ∷ [] =
    sym (append_assoc (interruptions p.0) (interruptions q.1.0) (k ∷ []))
    ∙ ap (λ (l : Troubles). l ++ k ∷ []) (interruptions-join p.0 q.1.0) in
    inl (q.0, (p.0 + q.1.0, subst (λ (l : Troubles). Tells a c l) front all))
fault-join a b c k p (inr q) =
    let all = Tells-join a b c (interruptions p.0) (interruptions q.1.0) p.1 q.1.2 in
    inr (
      q.0,
      (
        p.0 + q.1.0,
        omega (arith, q.1.1),
        subst (λ (l : Troubles). Tells a c l) (interruptions-join p.0 q.1.0) all,
      ),
    )
