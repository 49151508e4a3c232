-- Tallies of some faults, and of one more.
use Rattle.chart_text.proofs.Words.{◌≡◌, ◌∙◌, ℕ, ◌+◌, ◌^◌, ◌<◌, Bool, true, false, cond, List, [], ◌∷◌, length}
use Rattle.chart_text.proofs.Words.{refl, sym, ap, subst, arith, ◌==◌, Option, Some, None, FaultTold, Size, as_count}
use Rattle.chart_text.proofs.Words.{does_harm, look_number, fault_look, look_counts, first_doing, harmful_among}
use Rattle.chart_text.proofs.Words.{faults_told_of, IsTally, AreTallies, CanNote}
use Rattle.chart_text.proofs.Words.{Tally, Tallies, no_tally, tally_of, worst_of}
use Rattle.chart_text.proofs.Words.{count_by-le-length, length-filter}
use Rattle.std.specs.Option.{option_or}
use Rattle.std.proofs.Common.{suc, add-zero, set}
use Rattle.std.proofs.lemmas.Bool.{eqb-true, eq-eqb}
use Rattle.std.proofs.lemmas.Grind.{get_or-set_at}
use Rattle.std.proofs.lemmas.List.{get_or-set_other}
use Rattle.whole_campaign.specs.declared.shown.Doing.{Doing}
use Rattle.chart_text.proofs.Words.{◌≢◌, chart_y}
use Rattle.chart_text.specs.declared.sum.Summed.{Summed}
use Rattle.chart_text.specs.declared.sum.Summed.TheVariants as summed
use Rattle.chart_text.specs.Column.{block_of}
use Rattle.chart_text.specs.Columns.{chart_x}
use Rattle.chart_text.specs.Sums.{harmful_line, sends_class, sum_cell, tally_cell}
use Rattle.chart_text.proofs.Counting.{counted-all, counted-few, counted-start}

pub none-tallied : (size : Size) (all : List FaultTold) → IsTally size no_tally all all
none-tallied size all = record {
  long = refl;
  counted = counted-start (λ fault. look_number (fault_look size fault.shown)) 9 all;
  many = omega arith;
  harmful = omega arith;
  first = refl;
  worst = refl;
}

-- what a tally of all of them says
pub record IsTallied (size : Size) (tally : Tally) (all : List FaultTold) : Type 0 where
  pub counts : tally.counts ≡ look_counts size all
  pub many : tally.many ≡ length all
  pub harmful : tally.harmful ≡ harmful_among size all
  pub first : tally.first ≡ first_doing all
  pub worst : tally.worst ≡ worst_of size all

or-none : (first : Option Doing) → first ≡ option_or first None
or-none None = refl
or-none (Some d) = refl

pub tallied : (size : Size) (tally : Tally) (all : List FaultTold)
    → IsTally size tally [] all → IsTallied size tally all
tallied size tally all is = record {
  counts = counted-all (λ fault. look_number (fault_look size fault.shown)) 9 tally.counts all is.long is.counted;
  many = sym (add-zero tally.many) ∙ is.many;
  harmful = sym (add-zero tally.harmful) ∙ is.harmful;
  first = or-none tally.first ∙ is.first;
  worst = is.worst;
}

-- one more can be counted
pub tally-room : (size : Size) (tally : Tally) (left all : List FaultTold) → length all < 2 ^ 63
    → IsTally size tally left all → CanNote tally
tally-room size tally left all few is = record {
  many = omega (arith, is.many, few);
  harmful = omega (arith, is.harmful, few, count_by-le-length (λ fault. does_harm size fault.shown) all);
  counts = counted-few (λ fault. look_number (fault_look size fault.shown))
      tally.counts left all (2 ^ 63) few is.counted;
}

pub few-of-node : (k : ℕ) (all : List FaultTold) → length all < 2 ^ 63 → length (faults_told_of k all) < 2 ^ 63
few-of-node k all few =
    omega (
      arith,
      length-filter (λ fault. fault.shown.node == k) all,
      count_by-le-length (λ fault. fault.shown.node == k) all,
      few,
    )

-- steps of a tally
pub many-next : (n m : ℕ) → n + 1 + m ≡ n + suc m
many-next n m = omega arith

pub count-next : (n m all : ℕ) (is : Bool) → n + (cond is 1 0 + m) ≡ all → n + as_count is + m ≡ all
count-next n m all true known = omega (arith, known)
count-next n m all false known = omega (arith, known)

pub first-next : (first : Option Doing) (d : Doing) (more : Option Doing)
    → option_or (option_or first (Some d)) more ≡ option_or first (Some d)
first-next None d more = refl
first-next (Some e) d more = refl

-- the tally of each node, where one fault more is of this one
node-same : (k : ℕ) (x : FaultTold) (left : List FaultTold) (is : Bool) → (x.shown.node == k) ≡ is
    → faults_told_of k (x ∷ left) ≡ cond is (x ∷ faults_told_of k left) (faults_told_of k left)
node-same k x left is e = ap (λ (b : Bool). cond b (x ∷ faults_told_of k left) (faults_told_of k left)) e

pub node-more : (size : Size) (tally : Tally) (k : ℕ) (x : FaultTold) (left all : List FaultTold)
    → (x.shown.node == k) ≡ true → IsTally size tally (faults_told_of k (x ∷ left)) all
    → IsTally size tally (x ∷ faults_told_of k left) all
node-more size tally k x left all is known =
    subst (λ (ys : List FaultTold). IsTally size tally ys all) (node-same k x left true is) known

pub node-other : (size : Size) (tally : Tally) (k : ℕ) (x : FaultTold) (left all : List FaultTold)
    → (x.shown.node == k) ≡ false → IsTally size tally (faults_told_of k (x ∷ left)) all
    → IsTally size tally (faults_told_of k left) all
node-other size tally k x left all is known =
    subst (λ (ys : List FaultTold). IsTally size tally ys all) (node-same k x left false is) known

-- the tally of one node is another
set-same : (size : Size) (nodes : List Tally) (new : Tally) (n k : ℕ) (x : FaultTold) (left all : List FaultTold)
    → length nodes ≡ 24 → n ≡ x.shown.node → n < 24 → (is : Bool) → (x.shown.node == k) ≡ is
    → IsTally size (tally_of nodes k) (faults_told_of k (x ∷ left)) (faults_told_of k all)
    → ((l a : List FaultTold) → IsTally size (tally_of nodes n) (x ∷ l) a → IsTally size new l a)
    → IsTally size (tally_of (set nodes n new) k) (faults_told_of k left) (faults_told_of k all)
set-same size nodes new n k x left all long node less true is known step =
    let same : k ≡ n = sym (eqb-true x.shown.node k is) ∙ sym node in
    subst (λ (t : Tally). IsTally size t (faults_told_of k left) (faults_told_of k all))
    (sym (get_or-set_at nodes n k new _ same (omega (arith, less, long))))
    (step (faults_told_of k left) (faults_told_of k all)
    (subst (λ (m : ℕ). IsTally size (tally_of nodes m) (x ∷ faults_told_of k left) (faults_told_of k all)) same
    (node-more size (tally_of nodes k) k x left (faults_told_of k all) is known)))
set-same size nodes new n k x left all long node less false is known step =
    let other : k ≢ n = λ same.
    (let both : false ≡ true = sym is ∙ eq-eqb x.shown.node k (sym node ∙ sym same) in cc) in
    subst (λ (t : Tally). IsTally size t (faults_told_of k left) (faults_told_of k all))
    (sym (get_or-set_other nodes n k new _ other))
    (node-other size (tally_of nodes k) k x left (faults_told_of k all) is known)

pub set-each : (size : Size) (nodes : List Tally) (new : Tally) (n k : ℕ) (x : FaultTold) (left all : List FaultTold)
    → length nodes ≡ 24 → n ≡ x.shown.node → n < 24
    → IsTally size (tally_of nodes k) (faults_told_of k (x ∷ left)) (faults_told_of k all)
    → ((l a : List FaultTold) → IsTally size (tally_of nodes n) (x ∷ l) a → IsTally size new l a)
    → IsTally size (tally_of (set nodes n new) k) (faults_told_of k left) (faults_told_of k all)
set-each size nodes new n k x left all long node less known step =
    set-same size nodes new n k x left all long node less (x.shown.node == k) refl known step

-- one more can be counted in each tally
module _ (size : Size) (tallies : Tallies) (left all : List FaultTold) (few : length all < 2 ^ 63)
    (are : AreTallies size tallies left all) where
  pub room-whole : CanNote tallies.all
  room-whole = tally-room size tallies.all left all few are.whole

  pub room-each : (k : ℕ) → k < 24 → CanNote (tally_of tallies.nodes k)
  room-each k less =
      tally-room size (tally_of tallies.nodes k) (faults_told_of k left) (faults_told_of k all) (few-of-node k all few)
      (are.each k less)

pub tallies-whole : (size : Size) (tallies : Tallies) (left all : List FaultTold) → left ≡ []
    → AreTallies size tallies left all → AreTallies size tallies [] all
tallies-whole size tallies left all none are = subst (λ (ys : List FaultTold). AreTallies size tallies ys all) none are

-- The cells of tallies.

module _ (size : Size) (tally : Tally) (these : List FaultTold) (is : IsTallied size tally these) where
  pub sum-same : (name : Summed) (also : List ℕ) (x y : ℕ)
      → tally_cell size name also tally.many tally.counts tally.worst x y ≡ sum_cell size name also these x y
  sum-same name also x y = λ i. tally_cell size name also (is.many i) (is.counts i) (is.worst i) x y

  pub harmful-same : (x y : ℕ) → harmful_line tally.harmful x y ≡ harmful_line (harmful_among size these) x y
  harmful-same x y = ap (λ (n : ℕ). harmful_line n x y) is.harmful

pub block-some : (size : Size) (c t k : ℕ) (tally : Tally) (these : List FaultTold) → IsTallied size tally these
    → tally.many ≢ 0
    → tally_cell size (summed.OfCell t k) (sends_class tally.first) tally.many tally.counts tally.worst
    (chart_x size.nodes c) (chart_y size.nodes c k) ∷ []
    ≡ block_of size c t k these
block-some size c t k tally [] is some = absurd (some is.many)
block-some size c t k tally (x ∷ these) is some =
    λ i. tally_cell size (summed.OfCell t k) (sends_class (is.first i)) (is.many i) (is.counts i) (is.worst i)
    (chart_x size.nodes c) (chart_y size.nodes c k) ∷ []
