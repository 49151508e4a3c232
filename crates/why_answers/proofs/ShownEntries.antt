-- The line of an entry shows what it names.
use Rattle.std.proofs.Common.{◌≡◌, inl, inr, true, List, [], ◌∷◌, sym, subst, filter}
use Rattle.std.proofs.lemmas.Bool.{false≢true}
use Rattle.std.proofs.lemmas.List.{reverse-append}
use Rattle.std.specs.Cmp.{both_ways}
use Rattle.std.specs.List.{AllByRecursion}
use Rattle.std.specs.Prelude.{reverse}
use Rattle.causes.specs.Story.{has_spot}
use Rattle.causes.specs.declared.cause.Spot.{Spot}
use Rattle.causes.specs.declared.cause.Told.{Told}
use Rattle.why_answers.proofs.SpotOrder.{each-has, has-append-left, has-append-right, has-cases, has-here, has-more}
use Rattle.why_answers.proofs.StoryOrder.{filter-keeps, filter-passes}
use Rattle.why_answers.specs.Stories.{AreNamedAbove, ShowsNamed, spots_told}

has-reverse : (e : Spot) (spots : List Spot) → has_spot spots e ≡ true → has_spot (reverse spots) e ≡ true
has-reverse e [] has = absurd (false≢true has)
has-reverse e (s ∷ spots) has =
    subst (λ (xs : List Spot). has_spot xs e ≡ true) (sym (reverse-append (s ∷ []) spots))
    (elim (has-cases e s spots has) [
      | inl same ↦ has-append-right e (reverse spots) (s ∷ [])
          (subst (λ (x : Spot). has_spot (x ∷ []) e ≡ true) same (has-here e []))
      | inr more ↦ has-append-left e (reverse spots) (s ∷ []) (has-reverse e spots more)
    ])

-- where all that is told of older entries is among some
each-shown : (spots : List Spot) (told : List Told)
    → ((e : Spot) → has_spot (spots_told told) e ≡ true → has_spot spots e ≡ true) → AreNamedAbove told
    → AllByRecursion (ShowsNamed spots) told
each-shown spots [] within above = tt
each-shown spots (t ∷ older) within above =
    let entries = t.cause.entries in (
      λ e. both_ways (has_spot (filter (has_spot entries) spots) e) (has_spot entries e)
          (λ shown. filter-passes (has_spot entries) e spots shown)
          (λ named. filter-keeps (has_spot entries) e spots
          (within e
          (has-more e t.spot (spots_told older)
          (each-has (λ x. has_spot (spots_told older) x ≡ true) entries e above.0 named)))
          named),
      each-shown spots older (λ e has. within e (has-more e t.spot (spots_told older) has)) above.1,
    )

pub named-shown : (told : List Told) → AreNamedAbove told → AllByRecursion (ShowsNamed (reverse (spots_told told))) told
named-shown told above =
    each-shown (reverse (spots_told told)) told (λ e has. has-reverse e (spots_told told) has) above
