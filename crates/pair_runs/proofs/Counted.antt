-- Pairs that were counted and written, one after another.
use Rattle.std.proofs.Common.{◌≡◌, ℕ, ◌+◌, ◌≤◌, List, [], ◌++◌, length, sym, ap, subst, ◌∙◌, arith, append-nil}
use Rattle.std.proofs.Common.{append_assoc, length-append}
use Rattle.std.specs.Prelude.{map, filter}
use Rattle.std.proofs.lemmas.List.{map-append}
use Rattle.std.proofs.lemmas.List.Elements.{filter-append}
use Rattle.ttp_base.specs.Outside.{Output, WroteLines}
use Rattle.ttp_base.specs.Text.{Lines}
use Rattle.ttp_base.proofs.Outputs.{Wrote-none, Wrote-join}
use Rattle.fault_runs.specs.declared.put.CampaignFault.{CampaignFault}
use Rattle.fault_runs.specs.Ends.{LeftBy}
use Rattle.pair_runs.proofs.FromBelow.{leaves-after, leaves-more}
use Rattle.fault_pairs.specs.declared.pair.PairCounts.{PairCounts}
use Rattle.fault_pairs.specs.Classes.{has_line}
use Rattle.fault_pairs.specs.PairText.{lines_of_told}
use Rattle.fault_pairs.specs.Sums.{PairTold, pair_counts}
use Rattle.pair_classes.specs.declared.sums.Sums.{Sums}
use Rattle.pair_classes.specs.Ordered.{AreFewPairs}
use Rattle.pair_classes.specs.Summed.{AreSumsOf}
use Rattle.pair_runs.specs.declared.tally.Tally.{Tally}
use Rattle.pair_runs.specs.Counted.{HasFewSums, HasFewPairs, AddsTo, PutPairs, PutFirsts}

-- No count is more than a greater number.

pub pairs-weaker : (m n : ℕ) (counts : PairCounts) → AreFewPairs m counts → m ≤ n → AreFewPairs n counts
pairs-weaker m n counts few less = record {
  pairs = omega (arith, few.pairs, less);
  sum = omega (arith, few.sum, less);
  less = omega (arith, few.less, less);
  own = omega (arith, few.own, less);
  divided = omega (arith, few.divided, less);
  third = omega (arith, few.third, less);
  torn = omega (arith, few.torn, less);
  dead = omega (arith, few.dead, less);
}

pub sums-weaker : (distances m n : ℕ) (sums : Sums) → HasFewSums distances m sums → m ≤ n → HasFewSums distances n sums
sums-weaker distances m n sums has less = record {
  all = has.all;
  are = has.are;
  few = record {
    apart = λ d. pairs-weaker m n _ (has.few.apart d) less;
    kept = pairs-weaker m n sums.kept has.few.kept less;
    broken = pairs-weaker m n sums.broken has.few.broken less;
  };
}

pub few-weaker : (distances m n : ℕ) (tally : Tally)
    → HasFewPairs distances m tally → m ≤ n → HasFewPairs distances n tally
few-weaker distances m n tally has less = record {
  sums = sums-weaker distances m n tally.sums has.sums less;
  counts = pairs-weaker m n tally.counts has.counts less;
}

-- Added to sums.

pub adds-none : (sums : Sums) → AddsTo sums sums []
adds-none sums = record {
  few = λ distances most has. sums-weaker distances most (most + 0) sums has (omega arith);
  told = λ distances all are. subst (λ (l : List PairTold). AreSumsOf distances l sums) (sym (append-nil all)) are;
}

pub adds-join : (a b c : Sums) (xs ys : List PairTold) → AddsTo a b xs → AddsTo b c ys → AddsTo a c (xs ++ ys)
adds-join a b c xs ys first second = record {
  few = λ distances most has.
      sums-weaker distances (most + length xs + length ys) (most + length (xs ++ ys)) c
      (second.few distances (most + length xs) (first.few distances most has)) (omega (arith, length-append xs ys));
  told = λ distances all are.
      subst (λ (l : List PairTold). AreSumsOf distances l c) (append_assoc all xs ys)
      (second.told distances (all ++ xs) (first.told distances all are));
}

-- Counted and written.

pub lines-append : (xs ys : List PairTold) → lines_of_told (xs ++ ys) ≡ lines_of_told xs ++ lines_of_told ys
lines-append xs ys =
    ap (map (λ (told : PairTold). told.line)) (filter-append (λ (told : PairTold). has_line told.class) xs ys)
    ∙ map-append (λ (told : PairTold). told.line) (filter (λ (told : PairTold). has_line told.class) xs)
    (filter (λ (told : PairTold). has_line told.class) ys)

pub pairs-none : (o : Output) (tally : Tally) → PutPairs o o tally tally []
pairs-none o tally = record {
  wrote = Wrote-none o;
  sums = adds-none tally.sums;
  few = λ most few. pairs-weaker most (most + 0) tally.counts few (omega arith);
  counts = λ some are. are ∙ ap pair_counts (sym (append-nil some));
}

pub pairs-join : (o p q : Output) (t u v : Tally) (xs ys : List PairTold) → PutPairs o p t u xs → PutPairs p q u v ys
    → PutPairs o q t v (xs ++ ys)
pairs-join o p q t u v xs ys first second = record {
  wrote =
      subst (λ (lines : Lines). WroteLines o q lines) (sym (lines-append xs ys))
      (Wrote-join o p q (lines_of_told xs) (lines_of_told ys) first.wrote second.wrote);
  sums = adds-join t.sums u.sums v.sums xs ys first.sums second.sums;
  few = λ most few.
      pairs-weaker (most + length xs + length ys) (most + length (xs ++ ys)) v.counts
      (second.few (most + length xs) (first.few most few)) (omega (arith, length-append xs ys));
  counts = λ some are.
      second.counts (some ++ xs) (first.counts some are) ∙ ap pair_counts (append_assoc some xs ys);
}

-- what is known of a tally then
pub few-after : (distances most : ℕ) (o p : Output) (t u : Tally) (xs : List PairTold) → PutPairs o p t u xs
    → HasFewPairs distances most t → HasFewPairs distances (most + length xs) u
few-after distances most o p t u xs put has =
    record { sums = put.sums.few distances most has.sums; counts = put.few most has.counts }

-- First faults.

pub firsts-none : (o : Output) (tally : Tally) → PutFirsts o o tally tally [] []
firsts-none o tally = record { wrote = Wrote-none o; sums = adds-none tally.sums }

pub firsts-join : (o p q : Output) (t u v : Tally) (xs ys : List PairTold) (lines more : Lines)
    → PutFirsts o p t u xs lines
    → PutFirsts p q u v ys more → PutFirsts o q t v (xs ++ ys) (lines ++ more)
firsts-join o p q t u v xs ys lines more first second = record {
  wrote = Wrote-join o p q lines more first.wrote second.wrote;
  sums = adds-join t.sums u.sums v.sums xs ys first.sums second.sums;
}

-- Where it ends among others.

pub left-in : (why : CampaignFault) (a b d : Output) (x y rest all : Lines) → x ++ (y ++ rest) ≡ all → WroteLines a b x
    → LeftBy why b d y → LeftBy why a d all
left-in why a b d x y rest all is wrote left =
    subst (λ (lines : Lines). LeftBy why a d lines) (append_assoc x y rest ∙ is)
    (leaves-more why a d (x ++ y) rest (leaves-after why a b d x y wrote left))
