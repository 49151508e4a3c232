-- What a sink was given, from one write to the next.
use Rattle.std.proofs.Common.{◌≡◌, ℕ, ◌+◌, ◌<◌, ◌≤◌, List, [], ◌∷◌, ◌++◌, subst, sym}
use Rattle.std.proofs.Common.{◌∙◌, refl, ap, append_assoc, length, take, arith}
use Rattle.std.proofs.lemmas.List.{append-nil, length-append}
use Rattle.std.proofs.lemmas.List.Folds.{concat-append}
use Rattle.std.specs.Prelude.{map}
use Rattle.std.specs.List.{concat}
use Rattle.std.specs.Io.KnownBytes.{Appends}
use Rattle.ttp_base.specs.NodeSet.{below}
use Rattle.ttp_base.specs.Outside.{AppendsFront, HasRisen, Output, Wrote, WroteLines, CutShort}
use Rattle.ttp_base.specs.Text.{Lines, lines_below}
use Rattle.ttp_base.proofs.Below.{flat_map-next, flat_map-split, map-next, map-split}
use Rattle.ttp_base.proofs.Written.{Appends-none, Appends-join}

-- nothing was written
pub Wrote-none : (o : Output) → Wrote o o []
Wrote-none o = record {
  bytes = Appends-none o.written;
  given = sym (append-nil o.pieces);
  quiet = refl;
  left = omega arith;
}

-- pieces, and then more of them
pub Wrote-join : (a b c : Output) (x y : List (List ℕ)) → Wrote a b x → Wrote b c y → Wrote a c (x ++ y)
Wrote-join a b c x y p q = record {
  bytes =
      subst (Appends a.written c.written) (sym (concat-append x y))
      (Appends-join a.written b.written c.written (concat x) (concat y) p.bytes q.bytes);
  given = rw (q.given, p.given, append_assoc) refl;
  quiet = q.quiet ∙ p.quiet;
  left = rw (concat-append x y, length-append) (omega (arith, p.left, q.left));
}

-- one piece was cut short
pub CutShort-one : (a b : Output) (piece : List ℕ) → AppendsFront a.written b.written piece → b.pieces ≡ a.pieces
    → HasRisen a.faults b.faults → a.faults ≤ b.faults → a.takes ≤ length piece → CutShort a b (piece ∷ [])
CutShort-one a b piece front same risen count short = record {
  whole = [];
  next = piece;
  rest = [];
  text = refl;
  given = same ∙ sym (append-nil a.pieces);
  front = front;
  risen = risen;
  count = count;
  short = rw (append-nil piece) short;
}

-- lines were written, and those after them were cut short
pub CutShort-after : (a b c : Output) (x y : Lines) → WroteLines a b x → CutShort b c y → CutShort a c (x ++ y)
CutShort-after a b c x y p q = record {
  whole = x ++ q.whole;
  next = q.next;
  rest = q.rest;
  text = ap (λ (lines : Lines). x ++ lines) q.text ∙ sym (append_assoc x q.whole (q.next ∷ q.rest));
  given = rw (q.given, p.given, append_assoc) refl;
  front =
      let n = q.front.0 in
      let joined =
      Appends-join a.written b.written c.written (concat x) (concat q.whole ++ take n q.next) p.bytes q.front.1 in
      (n, rw (concat-append x q.whole, append_assoc) joined);
  risen = subst (λ n. HasRisen n c.faults) p.quiet q.risen;
  count = subst (λ n. n ≤ c.faults) p.quiet q.count;
  short = rw (concat-append x y, length-append) (omega (arith, p.left, q.short));
}

-- lines that were cut short are with more lines behind them
pub CutShort-more : (a c : Output) (x y : Lines) → CutShort a c x → CutShort a c (x ++ y)
CutShort-more a c x y p = record {
  whole = p.whole;
  next = p.next;
  rest = p.rest ++ y;
  text = ap (λ (lines : Lines). lines ++ y) p.text ∙ append_assoc p.whole (p.next ∷ p.rest) y;
  given = p.given;
  front = p.front;
  risen = p.risen;
  count = p.count;
  short = rw (concat-append x y, length-append) (omega (arith, p.short));
}

-- Loops: a head and the lines of the numbers below k, and then those of k, whole or cut short.

pub WroteLines-below : (a b c : Output) (head : Lines) (lines : ℕ → Lines) (k : ℕ)
    → WroteLines a b (head ++ lines_below lines k) → WroteLines b c (lines k)
    → WroteLines a c (head ++ lines_below lines (k + 1))
WroteLines-below a b c head lines k before more =
    rw (flat_map-next lines k, ← append_assoc) (Wrote-join a b c (head ++ lines_below lines k) (lines k) before more)

pub CutShort-below : (a b c : Output) (head : Lines) (lines : ℕ → Lines) (k n : ℕ) → k < n
    → WroteLines a b (head ++ lines_below lines k) → CutShort b c (lines k)
    → CutShort a c (head ++ lines_below lines n)
CutShort-below a b c head lines k n less before cut =
    let split = flat_map-split lines k n less in
    rw (split.1, ← append_assoc head (lines_below lines k) (lines k ++ split.0))
    (CutShort-after a b c (head ++ lines_below lines k) (lines k ++ split.0) before
    (CutShort-more b c (lines k) split.0 cut))

-- The same where each number has one line.

pub WroteLines-each : (a b c : Output) (head : Lines) (line : ℕ → List ℕ) (k : ℕ)
    → WroteLines a b (head ++ map line (below k)) → WroteLines b c (line k ∷ [])
    → WroteLines a c (head ++ map line (below (k + 1)))
WroteLines-each a b c head line k before more =
    rw (map-next line k, ← append_assoc) (Wrote-join a b c (head ++ map line (below k)) (line k ∷ []) before more)

pub CutShort-each : (a b c : Output) (head : Lines) (line : ℕ → List ℕ) (k n : ℕ) → k < n
    → WroteLines a b (head ++ map line (below k)) → CutShort b c (line k ∷ [])
    → CutShort a c (head ++ map line (below n))
CutShort-each a b c head line k n less before cut =
    let split = map-split line k n less in
    rw (split.1, ← append_assoc)
    (CutShort-after a b c (head ++ map line (below k)) (line k ∷ split.0) before
    (CutShort-more b c (line k ∷ []) split.0 cut))
