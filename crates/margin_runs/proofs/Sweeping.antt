-- Sweeps that were written, one more at a time.
use Rattle.std.proofs.Common.{◌≡◌, ℕ, ◌≤◌, Bool, true, false, cond, List, [], ◌∷◌, ◌++◌}
use Rattle.std.proofs.Common.{map, refl, ap, sym, subst, ◌∙◌, append-nil, arith}
use Rattle.std.specs.Prelude.{filter, flat_map}
use Rattle.std.proofs.lemmas.Grind.{flat_map-append}
use Rattle.std.proofs.lemmas.List.{map-append}
use Rattle.ttp_base.specs.Outside.{Output, WroteLines}
use Rattle.ttp_base.specs.Text.{Lines}
use Rattle.ttp_base.proofs.Outputs.{Wrote-join}
use Rattle.clock_margins.specs.declared.margin.Margin.{Margin}
use Rattle.clock_margins.specs.declared.margin.Sweep.{Sweep}
use Rattle.clock_margins.specs.declared.margin.Total.{Total}
use Rattle.clock_margins.specs.Sums.{total_of}
use Rattle.margin_text.specs.Taken.{IsFewOf}
use Rattle.fault_runs.specs.declared.put.CampaignFault.{CampaignFault}
use Rattle.fault_runs.specs.Ends.{LeftBy}
use Rattle.margin_runs.proofs.FromBelow.{leaves-after, leaves-more}
use Rattle.margin_runs.specs.declared.tried.SweepSetting.{SweepSetting}
use Rattle.margin_runs.specs.Written.{AreSwept, lines_of_sweep, lines_swept, margin_of_sweep}

pub total-more : (m n : ℕ) (total : Total) → m ≤ n → IsFewOf m total → IsFewOf n total
total-more m n total less few = record {
  sweeps = omega (arith, less, few.sweeps);
  values = omega (arith, less, few.values);
  counts = record {
    nobody = omega (arith, less, few.counts.nobody);
    itself = omega (arith, less, few.counts.itself);
    others = omega (arith, less, few.counts.others);
  };
}

module _ (common : SweepSetting) where
  pub lines-both : (xs ys : List Sweep)
      → lines_swept common (xs ++ ys) ≡ lines_swept common xs ++ lines_swept common ys
  lines-both xs ys = flat_map-append (lines_of_sweep common) xs ys

  pub lines-next : (swept : List Sweep) (sweep : Sweep)
      → lines_swept common swept ++ lines_of_sweep common sweep
      ≡ lines_swept common (swept ++ sweep ∷ [])
  lines-next swept sweep =
      ap (λ (lines : Lines). lines_swept common swept ++ lines)
      (sym (append-nil (lines_of_sweep common sweep)))
      ∙ sym (lines-both swept (sweep ∷ []))

  pub swept-next : (start before now : Output) (swept : List Sweep) (sweep : Sweep) (margin : Margin) (old new : Total)
      → AreSwept start before common swept old → WroteLines before now (lines_of_sweep common sweep)
      → margin ≡ margin_of_sweep common sweep
      → ((margins : List Margin) → old ≡ total_of margins → new ≡ total_of (margins ++ margin ∷ []))
      → AreSwept start now common (swept ++ sweep ∷ []) new
  swept-next start before now swept sweep margin old new are wrote is counted =
      let margins = map (margin_of_sweep common) swept in
      record {
        wrote =
            subst (λ (lines : Lines). WroteLines start now lines) (lines-next swept sweep)
            (Wrote-join start before now (lines_swept common swept)
            (lines_of_sweep common sweep) are.wrote
            wrote);
        total =
            counted margins are.total
            ∙ ap (λ (m : Margin). total_of (margins ++ m ∷ [])) is
            ∙ sym (ap total_of (map-append (margin_of_sweep common) swept (sweep ∷ [])));
      }

  pub swept-left : (why : CampaignFault) (start before now : Output)
      (swept : List Sweep) (sweep : Sweep) (total : Total)
      → AreSwept start before common swept total
      → LeftBy why before now (lines_of_sweep common sweep)
      → LeftBy why start now (lines_swept common (swept ++ sweep ∷ []))
  swept-left why start before now swept sweep total are left =
      subst (λ (lines : Lines). LeftBy why start now lines) (lines-next swept sweep)
      (leaves-after why start before now (lines_swept common swept)
      (lines_of_sweep common sweep) are.wrote
      left)

  -- with more sweeps behind them
  pub more-left : (why : CampaignFault) (start now : Output) (swept more : List Sweep)
      → LeftBy why start now (lines_swept common swept)
      → LeftBy why start now (lines_swept common (swept ++ more))
  more-left why start now swept more left =
      subst (λ (lines : Lines). LeftBy why start now lines) (sym (lines-both swept more))
      (leaves-more why start now (lines_swept common swept) (lines_swept common more) left)

-- The sweeps of those that pass a test, one after another.

pub picked : {X : Type 0} (make : ℕ → X) (p : ℕ → Bool) (ks : List ℕ)
    → map make (filter p ks) ≡ flat_map (λ k. cond (p k) (make k ∷ []) []) ks
picked make p [] = refl
picked make p (k ∷ ks) = by (p k) (picked make p ks)
  where
    by : (b : Bool) → map make (filter p ks) ≡ flat_map (λ j. cond (p j) (make j ∷ []) []) ks
        → map make (cond b (k ∷ filter p ks) (filter p ks))
        ≡ cond b (make k ∷ []) [] ++ flat_map (λ j. cond (p j) (make j ∷ []) []) ks
    by true rest = λ i. make k ∷ rest i
    by false rest = rest
