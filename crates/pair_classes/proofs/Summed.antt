-- Sums with one pair more.
use Rattle.std.proofs.Common.{◌≡◌, ℕ, ◌+◌, ◌<◌, Bool, true, false, cond, List}
use Rattle.std.proofs.Common.{[], ◌∷◌, ◌++◌, refl, ap, sym, subst, ◌∙◌, arith}
use Rattle.std.proofs.Common.{length, get_or, set, append-nil, inl, inr}
use Rattle.std.specs.Prelude.{filter, ◌==◌}
use Rattle.std.proofs.lemmas.Bool.{cases_eq, eq-eqb, ne_eqb}
use Rattle.std.proofs.lemmas.List.{get_or-set_same, get_or-set_other}
use Rattle.std.proofs.lemmas.List.Elements.{filter-append}
use Rattle.fault_pairs.specs.declared.pair.PairCounts.{PairCounts}
use Rattle.fault_pairs.specs.Sums.{PairTold, pair_counts, told_apart, are_so_far_apart}
use Rattle.pair_classes.specs.Ordered.{AreFewPairs}

pub one-more_few : (most : ℕ) (counts : PairCounts) → AreFewPairs most counts → AreFewPairs (most + 1) counts
one-more_few most counts are = record {
  pairs = omega (arith, are.pairs);
  sum = omega (arith, are.sum);
  less = omega (arith, are.less);
  own = omega (arith, are.own);
  divided = omega (arith, are.divided);
  third = omega (arith, are.third);
  torn = omega (arith, are.torn);
  dead = omega (arith, are.dead);
}

-- Of a distance.

abbrev at : List PairCounts → ℕ → PairCounts
at counts d = get_or counts d (pair_counts [])

pub set_few : (most : ℕ) (counts : List PairCounts) (i : ℕ) (new : PairCounts) → i < length counts
    → ((d : ℕ) → AreFewPairs most (at counts d)) → AreFewPairs (most + 1) new
    → (d : ℕ) → AreFewPairs (most + 1) (at (set counts i new) d)
set_few most counts i new inside are few d = elim (cases_eq d i) [
  | inl same ↦
      subst (λ j. AreFewPairs (most + 1) (at (set counts i new) j)) (sym same)
      (subst (AreFewPairs (most + 1)) (sym (get_or-set_same counts i new (pair_counts []) inside)) few)
  | inr other ↦
      subst (AreFewPairs (most + 1)) (sym (get_or-set_other counts i d new (pair_counts []) other))
      (one-more_few most (at counts d) (are d))
]

told-one : (b : Bool) (told : PairTold) (d : ℕ) → (told.apart == d) ≡ b
    → told_apart d (told ∷ []) ≡ cond b (told ∷ []) []
told-one b told d is = ap (λ c. cond c (told ∷ []) []) is

pub told-here : (tolds : List PairTold) (told : PairTold) → told_apart told.apart (tolds ++ told ∷ [])
    ≡ told_apart told.apart tolds ++ told ∷ []
told-here tolds told =
    filter-append (are_so_far_apart told.apart) tolds (told ∷ [])
    ∙ ap (λ more. told_apart told.apart tolds ++ more)
    (told-one true told told.apart (eq-eqb told.apart told.apart refl))

pub told-elsewhere : (tolds : List PairTold) (told : PairTold) (d : ℕ) → (told.apart == d) ≡ false
    → told_apart d (tolds ++ told ∷ []) ≡ told_apart d tolds
told-elsewhere tolds told d off =
    filter-append (are_so_far_apart d) tolds (told ∷ [])
    ∙ ap (λ more. told_apart d tolds ++ more) (told-one false told d off) ∙ append-nil (told_apart d tolds)

pub set_sums : (n : ℕ) (counts : List PairCounts) (new : PairCounts) (tolds : List PairTold) (told : PairTold)
    → told.apart < length counts
    → ((d : ℕ) → d < n → at counts d ≡ pair_counts (told_apart d tolds))
    → new ≡ pair_counts (told_apart told.apart tolds ++ told ∷ [])
    → (d : ℕ) → d < n → at (set counts told.apart new) d ≡ pair_counts (told_apart d (tolds ++ told ∷ []))
set_sums n counts new tolds told inside are is d less = elim (cases_eq d told.apart) [
  | inl same ↦
      ap (at (set counts told.apart new)) same
      ∙ get_or-set_same counts told.apart new (pair_counts []) inside ∙ is
      ∙ sym (ap pair_counts (told-here tolds told))
      ∙ sym (ap (λ j. pair_counts (told_apart j (tolds ++ told ∷ []))) same)
  | inr other ↦
      get_or-set_other counts told.apart d new (pair_counts []) other ∙ are d less
      ∙ sym (ap pair_counts (told-elsewhere tolds told d (ne_eqb told.apart d (λ same. other (sym same)))))
]

-- Of an answer.

pub told-in : (p : PairTold → Bool) (tolds : List PairTold) (told : PairTold) → p told ≡ true
    → filter p (tolds ++ told ∷ []) ≡ filter p tolds ++ told ∷ []
told-in p tolds told is =
    filter-append p tolds (told ∷ []) ∙ ap (λ b. filter p tolds ++ cond b (told ∷ []) []) is

pub told-out : (p : PairTold → Bool) (tolds : List PairTold) (told : PairTold) → p told ≡ false
    → filter p (tolds ++ told ∷ []) ≡ filter p tolds
told-out p tolds told is =
    filter-append p tolds (told ∷ []) ∙ ap (λ b. filter p tolds ++ cond b (told ∷ []) []) is
    ∙ append-nil (filter p tolds)
