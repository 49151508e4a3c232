-- Slots and counts of pieces, one after another.
use Rattle.chart_text.proofs.Words.{◌≡◌, ◌∙◌, ℕ, ◌+◌, ◌<◌, ◌^◌, nat_lt, Bool, true}
use Rattle.chart_text.proofs.Words.{false, ◌&&◌, ◌||◌, List, [], ◌∷◌, map, ap, sym}
use Rattle.chart_text.proofs.Words.{refl, arith, counts_sum, Piece, is_tried}
use Rattle.std.proofs.Common.{add-zero, zero-add, add_assoc}
use Rattle.std.proofs.lemmas.Bool.{lt-ltb, ltb-true}
use Rattle.campaign.specs.declared.cost.Counts.{Counts}
use Rattle.whole_campaign.specs.Due.{no_runs}
use Rattle.whole_campaign.specs.Readable.{counts_together, counts_fit}
use Rattle.chart_text.specs.Columns.{is_of_piece}

-- the slots of one piece more

either : (a b c : Bool) → ((a || b) || c) ≡ (a || (b || c))
either true b c = refl
either false b c = refl

pub piece-marked : (t : ℕ) (before after all : Bool) (left rest : List Piece) (piece : Piece) → left ≡ piece ∷ rest
    → after ≡ (before || is_of_piece t piece) → (before || is_tried left t) ≡ all → (after || is_tried rest t) ≡ all
piece-marked t before after all left rest piece is more known =
    ap (λ (b : Bool). b || is_tried rest t) more
    ∙ either before (is_of_piece t piece) (is_tried rest t)
    ∙ ap (λ (pieces : List Piece). before || is_tried pieces t) (sym is)
    ∙ known

pub none-marked : (t : ℕ) (mark all : Bool) (left : List Piece) → left ≡ []
    → (mark || is_tried left t) ≡ all → mark ≡ all
none-marked t true all left is known = known
none-marked t false all left is known = ap (λ (pieces : List Piece). is_tried pieces t) (sym is) ∙ known

-- no runs before others
pub none-first : (counts : Counts) → counts_together no_runs counts ≡ counts
none-first counts = λ i. record {
  runs = zero-add counts.runs i;
  same = zero-add counts.same i;
  hurt = zero-add counts.hurt i;
  split = zero-add counts.split i;
  torn = zero-add counts.torn i;
  dead = zero-add counts.dead i;
}

together-assoc : (a b c : Counts) → counts_together (counts_together a b) c ≡ counts_together a (counts_together b c)
together-assoc a b c = λ i. record {
  runs = add_assoc a.runs b.runs c.runs i;
  same = add_assoc a.same b.same c.same i;
  hurt = add_assoc a.hurt b.hurt c.hurt i;
  split = add_assoc a.split b.split c.split i;
  torn = add_assoc a.torn b.torn c.torn i;
  dead = add_assoc a.dead b.dead c.dead i;
}

-- what fits with more added to it fits

both-still : {a b p q : Bool} → (a ≡ true → p ≡ true) → (b ≡ true → q ≡ true) → (a && b) ≡ true → (p && q) ≡ true
both-still {a = true} f g is = rw (f refl) (g is)
both-still {a = false} f g is = cc

below : (n m : ℕ) → nat_lt (n + m) (2 ^ 64) ≡ true → nat_lt n (2 ^ 64) ≡ true
below n m fits =
    let small : n + m < 2 ^ 64 = ltb-true (n + m) (2 ^ 64) fits in
    lt-ltb n (2 ^ 64) (omega arith)

part-fits : (one other : Counts) → counts_fit (counts_together one other) ≡ true → counts_fit one ≡ true
part-fits one other =
    both-still
    (both-still
    (both-still
    (both-still (both-still (below one.runs other.runs) (below one.same other.same)) (below one.hurt other.hurt))
    (below one.split other.split)) (below one.torn other.torn)) (below one.dead other.dead)

-- one piece more

module _ (of : Piece → Counts) (sum all : Counts) (left rest : List Piece) (piece : Piece) (is : left ≡ piece ∷ rest)
    (known : counts_together sum (counts_sum (map of left)) ≡ all) where
  pub piece-added : counts_together (counts_together sum (of piece)) (counts_sum (map of rest)) ≡ all
  piece-added =
      together-assoc sum (of piece) (counts_sum (map of rest))
      ∙ ap (λ (pieces : List Piece). counts_together sum (counts_sum (map of pieces))) (sym is)
      ∙ known

  pub piece-fits : counts_fit all ≡ true → counts_fit (counts_together sum (of piece)) ≡ true
  piece-fits fits =
      part-fits (counts_together sum (of piece)) (counts_sum (map of rest)) (ap counts_fit piece-added ∙ fits)

-- Where no piece is left, the sum so far is the sum of all.
pub none-left : (of : Piece → Counts) (sum all : Counts) (left : List Piece) → left ≡ []
    → counts_together sum (counts_sum (map of left)) ≡ all → sum ≡ all
none-left of sum all left is known =
    sym (ap (λ (pieces : List Piece). counts_together sum (counts_sum (map of pieces))) is ∙ added)
    ∙ known
  where
    added : counts_together sum (counts_sum (map of [])) ≡ sum
    added = λ i. record {
      runs = add-zero sum.runs i;
      same = add-zero sum.same i;
      hurt = add-zero sum.hurt i;
      split = add-zero sum.split i;
      torn = add-zero sum.torn i;
      dead = add-zero sum.dead i;
    }
