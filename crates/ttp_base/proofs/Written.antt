-- Bytes that are written one after another.
use Rattle.std.proofs.Common.{List, ℕ, [], ◌++◌, Option, Some, None, sym, append_assoc}
use Rattle.std.proofs.lemmas.List.{append-nil}
use Rattle.std.specs.Io.KnownBytes.{Appends}

-- nothing was written yet
pub Appends-none : (a : Option (List ℕ)) → Appends a a []
Appends-none None = tt
Appends-none (Some xs) = sym (append-nil xs)

-- two texts, one after another
pub Appends-join : (a b c : Option (List ℕ)) (x y : List ℕ) → Appends a b x → Appends b c y → Appends a c (x ++ y)
Appends-join None b c x y p q = tt
Appends-join (Some xs) None c x y p q = absurd p
Appends-join (Some xs) (Some ys) None x y p q = absurd q
Appends-join (Some xs) (Some ys) (Some zs) x y p q = rw (q, p, append_assoc)
