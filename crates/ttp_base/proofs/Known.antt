-- What is known of the bytes of a reader and of a writer, from one call to the next.
use Rattle.std.proofs.Common.{ℕ, ◌+◌, List, [], ◌++◌, take, drop, Option, Some, None}
use Rattle.std.proofs.Common.{ap, sym, ◌∙◌, subst}
use Rattle.std.proofs.Math.Seq.{take-add}
use Rattle.std.specs.Io.KnownBytes.{Appends, Keeps, Consumes}
use Rattle.ttp_base.specs.Outside.{AppendsFront}
use Rattle.ttp_base.proofs.Written.{Appends-join}

pub Keeps-none : (a : Option (List ℕ)) → Keeps a a
Keeps-none None = tt
Keeps-none (Some xs) = λ i. xs

pub Keeps-join : (a b c : Option (List ℕ)) → Keeps a b → Keeps b c → Keeps a c
Keeps-join None b c p q = tt
Keeps-join (Some xs) None c p q = absurd p
Keeps-join (Some xs) (Some ys) None p q = absurd q
Keeps-join (Some xs) (Some ys) (Some zs) p q = q ∙ p

pub Keeps-Consumes : (a b c : Option (List ℕ)) (x : List ℕ) → Keeps a b → Consumes b c x → Consumes a c x
Keeps-Consumes None b c x p q = tt
Keeps-Consumes (Some xs) None c x p q = absurd p
Keeps-Consumes (Some xs) (Some ys) None x p q = absurd q
Keeps-Consumes (Some xs) (Some ys) (Some zs) x p q = sym p ∙ q

pub Keeps-Appends : (a b c : Option (List ℕ)) (x : List ℕ) → Keeps a b → Appends b c x → Appends a c x
Keeps-Appends None b c x p q = tt
Keeps-Appends (Some xs) None c x p q = absurd p
Keeps-Appends (Some xs) (Some ys) None x p q = absurd q
Keeps-Appends (Some xs) (Some ys) (Some zs) x p q = q ∙ ap (λ (l : List ℕ). l ++ x) p

-- the first bytes of a piece were written, and then the first ones of its rest
pub front_of_rest : (a b c : Option (List ℕ)) (piece : List ℕ) (done n : ℕ)
    → Appends a b (take done piece) → Appends b c (take n (drop done piece)) → Appends a c (take (done + n) piece)
front_of_rest a b c piece done n before more =
    subst (λ (t : List ℕ). Appends a c t) (sym (take-add done n piece))
    (Appends-join a b c (take done piece) (take n (drop done piece)) before more)

-- the first bytes of a piece were written, and then some first ones of its rest, or none
pub front_after : (a b c : Option (List ℕ)) (piece : List ℕ) (done : ℕ)
    → Appends a b (take done piece) → AppendsFront b c (drop done piece) → AppendsFront a c piece
front_after a b c piece done before more = (done + more.0, front_of_rest a b c piece done more.0 before more.1)
