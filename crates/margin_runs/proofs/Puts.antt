-- What was written of a sweep, one value more at a time, and how it ends where it is not written whole.
use Rattle.std.proofs.Common.{◌≡◌, ℕ, ◌+◌, ◌≤◌, List, [], ◌∷◌, ◌++◌, length, ap, sym}
use Rattle.std.proofs.Common.{subst, ◌∙◌, append_assoc, length-append, arith}
use Rattle.std.proofs.lemmas.List.{map-append}
use Rattle.ttp_base.specs.Outside.{Output, WroteLines}
use Rattle.ttp_base.specs.Text.{Lines}
use Rattle.ttp_base.proofs.Outputs.{Wrote-join}
use Rattle.ttp_world.specs.declared.medl.Medl.{Medl}
use Rattle.clock_margins.specs.declared.margin.CostCounts.{CostCounts}
use Rattle.clock_margins.specs.declared.margin.Margin.{Margin}
use Rattle.clock_margins.specs.declared.margin.Sweep.{Sweep}
use Rattle.clock_margins.specs.Sums.{margin_of}
use Rattle.ttp_world.specs.declared.script.Script.{Script}
use Rattle.clock_margins.specs.MarginText.{range_line, margin_line, tolds_of, sweep_margin, sweep_lines}
use Rattle.std.specs.List.{cons_option}
use Rattle.clock_margins.specs.Outcomes.{ValueTold}
use Rattle.clock_margins.specs.Ranges.{Range, ranges_of}
use Rattle.margin_laws.specs.Behind.{closed_ranges, open_range}
use Rattle.margin_runs.proofs.FromBelow.{closed-open, closed-more, leaves-after, leaves-more}
use Rattle.margin_text.specs.declared.swept.Swept.{Swept}
use Rattle.margin_text.specs.declared.told.Told.{Told}
use Rattle.margin_text.specs.Taken.{value_told, IsSweptOf, HasFew, AreCountsUpTo}
use Rattle.fault_runs.specs.declared.put.CampaignFault.{CampaignFault}
use Rattle.fault_runs.specs.declared.put.CampaignFault.TheVariants as fault
use Rattle.fault_runs.specs.Ends.{LeftBy, LeftFewerBy}
use Rattle.margin_runs.specs.Tries.{range_lines, are_told}
use Rattle.margin_runs.specs.Written.{IsPutOf, closed_lines}

-- where not all lines stand, the first ones do
pub fewer-left : (why : CampaignFault) (a c : Output) (lines : Lines) → LeftFewerBy why a c lines → LeftBy why a c lines
fewer-left fault.Failed a c lines cut = cut
fewer-left fault.Memory a c lines few = record {
  whole = few.whole;
  rest = few.next ∷ few.rest;
  text = few.text;
  wrote = few.wrote;
}

-- no count is more than a greater number
pub few-more : (m n : ℕ) (swept : Swept) → m ≤ n → HasFew m swept → HasFew n swept
few-more m n swept less few = record {
  counts = record {
    nobody = omega (arith, less, few.counts.nobody);
    itself = omega (arith, less, few.counts.itself);
    others = omega (arith, less, few.counts.others);
  };
  closed = omega (arith, less, few.closed);
}

-- what sums them up has no greater counts
pub margin-few : (most reach : ℕ) (tolds : List ValueTold) (swept : Swept) (margin : Margin) → IsSweptOf tolds swept
    → HasFew (length tolds) swept → length tolds ≤ most → margin ≡ margin_of reach swept.fold.node tolds
    → AreCountsUpTo most margin.counts
margin-few most reach tolds swept margin is few less same =
    let counts : swept.fold.counts ≡ margin.counts = is.fold.counts ∙ sym (ap (λ (m : Margin). m.counts) same) in
    let fewer = few-more (length tolds) most swept less few in
    subst (AreCountsUpTo most) counts fewer.counts

pub counts-more : (m n : ℕ) (counts : CostCounts) → m ≤ n → AreCountsUpTo m counts → AreCountsUpTo n counts
counts-more m n counts less few = record {
  nobody = omega (arith, less, few.nobody);
  itself = omega (arith, less, few.itself);
  others = omega (arith, less, few.others);
}

-- one of those that are to be taken
pub told-parts : (tolds : List ValueTold) (all front : List Told) (x : Told) (rest : List Told)
    → all ≡ front ++ x ∷ rest
    → tolds ++ are_told all ≡ ((tolds ++ are_told front) ++ value_told x ∷ []) ++ are_told rest
told-parts tolds all front x rest is =
    ap (λ (xs : List Told). tolds ++ are_told xs) is
    ∙ ap (λ (xs : List ValueTold). tolds ++ xs) (map-append value_told front (x ∷ rest))
    ∙ sym (append_assoc tolds (are_told front) (value_told x ∷ are_told rest))
    ∙ sym (append_assoc (tolds ++ are_told front) (value_told x ∷ []) (are_told rest))

pub told-next : (tolds : List ValueTold) (front : List Told) (x : Told)
    → (tolds ++ are_told front) ++ value_told x ∷ [] ≡ tolds ++ are_told (front ++ x ∷ [])
told-next tolds front x =
    append_assoc tolds (are_told front) (value_told x ∷ [])
    ∙ ap (λ (xs : List ValueTold). tolds ++ xs) (sym (map-append value_told front (x ∷ [])))

module _ (list : Medl) (sweep : Sweep) where
  -- the lines of the ranges that one value more closes
  lines-next : (tolds : List ValueTold) (told : ValueTold) (closed : List Range)
      → closed_ranges (ranges_of (tolds ++ told ∷ [])) ≡ closed_ranges (ranges_of tolds) ++ closed
      → closed_lines list sweep tolds ++ range_lines list sweep closed ≡ closed_lines list sweep (tolds ++ told ∷ [])
  lines-next tolds told closed more =
      sym (map-append (range_line list sweep) (closed_ranges (ranges_of tolds)) closed)
      ∙ ap (range_lines list sweep) (sym more)

  pub put-next : (start before now : Output) (tolds : List ValueTold)
      (told : ValueTold) (old new : Swept) (closed : List Range)
      → IsPutOf start before list sweep tolds old → IsSweptOf (tolds ++ told ∷ []) new → new.fold.node ≡ old.fold.node
      → HasFew (length tolds + 1) new
      → closed_ranges (ranges_of (tolds ++ told ∷ [])) ≡ closed_ranges (ranges_of tolds) ++ closed
      → WroteLines before now (range_lines list sweep closed)
      → IsPutOf start now list sweep (tolds ++ told ∷ []) new
  put-next start before now tolds told old new closed put swept node few more wrote = record {
    swept = swept;
    node = node ∙ put.node;
    few = subst (λ (n : ℕ). HasFew n new) (sym (length-append tolds (told ∷ []))) few;
    wrote =
        subst (λ (lines : Lines). WroteLines start now lines) (lines-next tolds told closed more)
        (Wrote-join start before now (closed_lines list sweep tolds) (range_lines list sweep closed) put.wrote wrote);
  }

  pub left-next : (why : CampaignFault) (start before now : Output)
      (tolds : List ValueTold) (told : ValueTold) (old : Swept)
      (closed : List Range) → IsPutOf start before list sweep tolds old
      → closed_ranges (ranges_of (tolds ++ told ∷ [])) ≡ closed_ranges (ranges_of tolds) ++ closed
      → LeftBy why before now (range_lines list sweep closed)
      → LeftBy why start now (closed_lines list sweep (tolds ++ told ∷ []))
  left-next why start before now tolds told old closed put more left =
      subst (λ (lines : Lines). LeftBy why start now lines) (lines-next tolds told closed more)
      (leaves-after why start before now (closed_lines list sweep tolds) (range_lines list sweep closed) put.wrote left)

  -- with more values behind them
  pub left-more : (why : CampaignFault) (start now : Output) (tolds more : List ValueTold)
      → LeftBy why start now (closed_lines list sweep tolds)
      → LeftBy why start now (closed_lines list sweep (tolds ++ more))
  left-more why start now tolds more left =
      let front = closed-more tolds more in
      subst (λ (lines : Lines). LeftBy why start now lines)
      (sym (map-append (range_line list sweep) (closed_ranges (ranges_of tolds)) front.0)
      ∙ ap (range_lines list sweep) (sym front.1))
      (leaves-more why start now (closed_lines list sweep tolds) (range_lines list sweep front.0) left)

  -- where lines stand that were written, and no more
  pub none-left : (start now : Output) (tolds more : List ValueTold)
      → WroteLines start now (closed_lines list sweep tolds)
      → LeftBy fault.Memory start now (closed_lines list sweep (tolds ++ more))
  none-left start now tolds more wrote =
      let front = closed-more tolds more in
      record {
        whole = closed_lines list sweep tolds;
        rest = range_lines list sweep front.0;
        text =
            ap (range_lines list sweep) front.1
            ∙ map-append (range_line list sweep) (closed_ranges (ranges_of tolds)) front.0;
        wrote = wrote;
      }

-- The lines of a sweep: those of closed ranges, that of the open one, and that of the sweep.

module _ (list : Medl) (script : Script) (reach : ℕ) (sweep : Sweep) where
  abbrev tolds : List ValueTold
  tolds = tolds_of list script reach sweep

  abbrev pub last_lines : Lines
  last_lines = range_lines list sweep (cons_option (open_range (ranges_of tolds)) [])

  abbrev pub sum_line : List ℕ
  sum_line = margin_line sweep (sweep_margin list script reach sweep)

  pub sweep-whole : (closed_lines list sweep tolds ++ last_lines) ++ sum_line ∷ [] ≡ sweep_lines list script reach sweep
  sweep-whole =
      ap (λ (lines : Lines). lines ++ sum_line ∷ [])
      (sym (map-append (range_line list sweep) (closed_ranges (ranges_of tolds))
      (cons_option (open_range (ranges_of tolds)) []))
      ∙ ap (range_lines list sweep) (sym (closed-open (ranges_of tolds))))

  -- where it ends in those of closed ranges
  pub closed-left : (why : CampaignFault) (start now : Output) → LeftBy why start now (closed_lines list sweep tolds)
      → LeftBy why start now (sweep_lines list script reach sweep)
  closed-left why start now left =
      subst (λ (lines : Lines). LeftBy why start now lines) sweep-whole
      (leaves-more why start now (closed_lines list sweep tolds ++ last_lines) (sum_line ∷ [])
      (leaves-more why start now (closed_lines list sweep tolds) last_lines left))

  -- in that of the open one
  pub last-left : (why : CampaignFault) (start before now : Output)
      → WroteLines start before (closed_lines list sweep tolds)
      → LeftBy why before now last_lines → LeftBy why start now (sweep_lines list script reach sweep)
  last-left why start before now wrote left =
      subst (λ (lines : Lines). LeftBy why start now lines) sweep-whole
      (leaves-more why start now (closed_lines list sweep tolds ++ last_lines) (sum_line ∷ [])
      (leaves-after why start before now (closed_lines list sweep tolds) last_lines wrote left))

  -- in that of the sweep
  pub sum-left : (why : CampaignFault) (start before last now : Output)
      → WroteLines start before (closed_lines list sweep tolds) → WroteLines before last last_lines
      → LeftBy why last now (sum_line ∷ []) → LeftBy why start now (sweep_lines list script reach sweep)
  sum-left why start before last now closed opened left =
      subst (λ (lines : Lines). LeftBy why start now lines) sweep-whole
      (leaves-after why start last now (closed_lines list sweep tolds ++ last_lines) (sum_line ∷ [])
      (Wrote-join start before last (closed_lines list sweep tolds) last_lines closed opened) left)

  -- where all are written
  pub sweep-written : (start before last now : Output) → WroteLines start before (closed_lines list sweep tolds)
      → WroteLines before last last_lines → WroteLines last now (sum_line ∷ [])
      → WroteLines start now (sweep_lines list script reach sweep)
  sweep-written start before last now closed opened sum =
      subst (λ (lines : Lines). WroteLines start now lines) sweep-whole
      (Wrote-join start last now (closed_lines list sweep tolds ++ last_lines) (sum_line ∷ [])
      (Wrote-join start before last (closed_lines list sweep tolds) last_lines closed opened) sum)
