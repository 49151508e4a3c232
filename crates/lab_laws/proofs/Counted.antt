-- The counts of a piece, one fault after another, are those of all its faults.
use Rattle.lab_laws.proofs.Words.{◌≡◌, ℕ, zero, suc, ◌+◌, Bool, true, false, cond, not, List, [], ◌∷◌, ◌++◌}
use Rattle.lab_laws.proofs.Words.{length, refl, ap, ◌∙◌, arith, ◌==◌, nat_lt, map, filter, is_some, nat_tests}
use Rattle.lab_laws.proofs.Words.{Medl, Event, Script, Cost, Counts, Span, Summary, summary, summary_with}
use Rattle.lab_laws.proofs.Words.{FaultShown, Piece, no_runs, with_fault_counted, shown_of_run}
use Rattle.std.specs.Prelude.{count_by}
use Rattle.std.proofs.lemmas.List.Sums.{sum_by-cons}
use Rattle.campaign.specs.Lines.{is_same_cost, has_hurt, is_torn, is_dead, counts_of, costs_of}
use Rattle.campaign.specs.Lines.{kept_counts, broken_counts}
use Rattle.whole_campaign.specs.Due.{as_count, with_run, with_run_if}
use Rattle.lab_laws.specs.TakenCampaign.{piece_with}

-- two counts, added up
abbrev both : Counts → Counts → Counts
both c d = record {
  runs = c.runs + d.runs;
  same = c.same + d.same;
  hurt = c.hurt + d.hurt;
  split = c.split + d.split;
  torn = c.torn + d.torn;
  dead = c.dead + d.dead;
}

abbrev with_both : Piece → Counts → Counts → Piece
with_both piece kept broken =
    record { first = piece.first; last = piece.last; kept = both piece.kept kept; broken = both piece.broken broken }

one-if : (b : Bool) → as_count b ≡ cond b 1 0
one-if true = refl
one-if false = refl

one-counted : (a : ℕ) (p : Cost → Bool) (cost : Cost) (costs : List Cost) (b : Bool) → b ≡ p cost
    → a + as_count b + count_by p costs ≡ a + count_by p (cost ∷ costs)
one-counted a p cost costs b is =
    omega (arith, sum_by-cons (λ c. cond (p c) 1 0) cost costs, one-if b, ap {B = ℕ} (λ (t : Bool). cond t 1 0) is)

is-some : (n : ℕ) → nat_lt 0 n ≡ not (n == 0)
is-some zero = refl
is-some (suc n) = grind (arith, nat_tests)

module _ (list : Medl) (script : Script) where
  abbrev pub shown_of : Event → FaultShown
  shown_of e = shown_of_run list script 0 e (summary_with list script e)

  -- one run more, before others
  run-counted : (e : Event) (c : Counts) (costs : List Cost)
      → both (with_run (shown_of e) c) (counts_of list (summary list script).cost costs)
      ≡ both c (counts_of list (summary list script).cost ((summary_with list script e).cost ∷ costs))
  run-counted e c costs =
      let own = (summary list script).cost in
      let cost = (summary_with list script e).cost in λ i. record {
        runs = (let more : c.runs + 1 + length costs ≡ c.runs + length (cost ∷ costs) = omega arith in more) i;
        same = one-counted c.same (is_same_cost list own) cost costs (is_same_cost list own cost) refl i;
        hurt = one-counted c.hurt has_hurt cost costs (nat_lt 0 (length cost.hurt)) (is-some (length cost.hurt)) i;
        split = one-counted c.split (λ (k : Cost). is_some k.split) cost costs (is_some cost.split) refl i;
        torn = one-counted c.torn is_torn cost costs (is_torn cost) refl i;
        dead = one-counted c.dead is_dead cost costs (is_dead cost) refl i;
      }

  -- the place of a fault is not counted
  placed-run : (place : ℕ) (e : Event) (c : Counts) (b : Bool)
      → with_run_if b (shown_of e) c ≡ with_run_if b (shown_of_run list script place e (summary_with list script e)) c
  placed-run place e c true = refl
  placed-run place e c false = refl

  pub placed-counted : (place : ℕ) (e : Event) (piece : Piece)
      → with_fault_counted (shown_of e) piece
      ≡ with_fault_counted (shown_of_run list script place e (summary_with list script e)) piece
  placed-counted place e piece =
      let yes = (summary_with list script e).yes in λ i. record {
        first = piece.first;
        last = piece.last;
        kept = placed-run place e piece.kept yes i;
        broken = placed-run place e piece.broken (not yes) i;
      }

  -- a piece with the faults of some runs more
  abbrev pub counted : Piece → List Event → Piece
  counted piece [] = piece
  counted piece (e ∷ es) = counted (with_fault_counted (shown_of e) piece) es

  pub counted-append : (piece : Piece) (xs ys : List Event) → counted piece (xs ++ ys) ≡ counted (counted piece xs) ys
  counted-append piece [] ys = refl
  counted-append piece (x ∷ xs) ys = counted-append (with_fault_counted (shown_of x) piece) xs ys

  abbrev kept_of : List Event → Counts
  kept_of es = kept_counts list (summary list script).cost (map (summary_with list script) es)

  abbrev broken_of : List Event → Counts
  broken_of es = broken_counts list (summary list script).cost (map (summary_with list script) es)

  abbrev kept_runs : List Event → List Summary
  kept_runs es = filter (λ (s : Summary). s.yes) (map (summary_with list script) es)

  abbrev broken_runs : List Event → List Summary
  broken_runs es = filter (λ (s : Summary). not s.yes) (map (summary_with list script) es)

  abbrev counts : List Summary → Counts
  counts runs = counts_of list (summary list script).cost (costs_of runs)

  step-one : (e : Event) (c : Counts) (runs : List Summary) (b : Bool)
      → both (with_run_if b (shown_of e) c) (counts runs)
      ≡ both c (counts (cond b (summary_with list script e ∷ runs) runs))
  step-one e c runs true = run-counted e c (costs_of runs)
  step-one e c runs false = refl

  step : (e : Event) (piece : Piece) (es : List Event)
      → with_both (with_fault_counted (shown_of e) piece) (kept_of es) (broken_of es)
      ≡ with_both piece (kept_of (e ∷ es)) (broken_of (e ∷ es))
  step e piece es =
      let yes = (summary_with list script e).yes in λ i. record {
        first = piece.first;
        last = piece.last;
        kept = step-one e piece.kept (kept_runs es) yes i;
        broken = step-one e piece.broken (broken_runs es) (not yes) i;
      }

  more : (n : ℕ) → n ≡ n + 0
  more n = omega arith

  nothing : (c : Counts) → c ≡ both c no_runs
  nothing c = λ i. record {
    runs = more c.runs i;
    same = more c.same i;
    hurt = more c.hurt i;
    split = more c.split i;
    torn = more c.torn i;
    dead = more c.dead i;
  }

  before : (n : ℕ) → 0 + n ≡ n
  before n = omega arith

  nothing-before : (c : Counts) → both no_runs c ≡ c
  nothing-before c = λ i. record {
    runs = before c.runs i;
    same = before c.same i;
    hurt = before c.hurt i;
    split = before c.split i;
    torn = before c.torn i;
    dead = before c.dead i;
  }

  counted-all : (piece : Piece) (es : List Event) → counted piece es ≡ with_both piece (kept_of es) (broken_of es)
  counted-all piece [] = λ i. record {
    first = piece.first;
    last = piece.last;
    kept = nothing piece.kept i;
    broken = nothing piece.broken i;
  }
  counted-all piece (e ∷ es) = counted-all (with_fault_counted (shown_of e) piece) es ∙ step e piece es

  -- a piece that begins, with all its faults
  pub counted-begun : (range : Span) (es : List Event)
      → counted (record { first = range.first; last = range.last; kept = no_runs; broken = no_runs }) es
      ≡ piece_with list script range es
  counted-begun range es =
      counted-all (record { first = range.first; last = range.last; kept = no_runs; broken = no_runs }) es
      ∙ (λ i. record {
        first = range.first;
        last = range.last;
        kept = nothing-before (kept_of es) i;
        broken = nothing-before (broken_of es) i;
      })
