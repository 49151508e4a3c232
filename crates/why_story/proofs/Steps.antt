-- One entry of a pass, by whether it is marked.
use Rattle.std.proofs.Common.{◌≡◌, ℕ, Bool, true, false, List, ◌∷◌, ◌++◌, ap, sym}
use Rattle.std.proofs.Common.{◌∙◌, filter, arith, ◌==◌, ◌≢◌, Result, Ok, Err}
use Rattle.std.proofs.lemmas.Bool.Decides.{nat_tests}
use Rattle.std.specs.Result.{OnOk}
use Rattle.causes.specs.RunSlots.{RunSlots}
use Rattle.causes.specs.Story.{has_spot, kept_of_told, rank_of_entry}
use Rattle.causes.specs.Story.{reached, told_spot, with_entries}
use Rattle.causes.specs.declared.cause.Spot.{Spot}
use Rattle.causes.specs.declared.cause.Told.{Told}
use Rattle.ttp_world.specs.declared.node.Entry.{Entry}

-- What is reached.

reached-if : RunSlots → List Spot → Spot → List Spot → Bool → List Told
reached-if run marks s older b =
    elim b as (λ x. List Told) [
      | false ↦ reached run marks older
      | true ↦ told_spot run s ∷ reached run ((told_spot run s).cause.entries ++ marks) older
    ]

pub reached-no : (run : RunSlots) (marks : List Spot) (s : Spot) (older : List Spot) → has_spot marks s ≡ false
    → reached run marks (s ∷ older) ≡ reached run marks older
unfolding reached-if
reached-no run marks s older none = ap (reached-if run marks s older) none

pub reached-yes : (run : RunSlots) (marks : List Spot) (s : Spot) (older : List Spot) → has_spot marks s ≡ true
    → reached run marks (s ∷ older) ≡ told_spot run s ∷ reached run ((told_spot run s).cause.entries ++ marks) older
unfolding reached-if
reached-yes run marks s older here = ap (reached-if run marks s older) here

-- What is kept.

kept-if : List Spot → List Spot → Told → List Told → Bool → List Told
kept-if back marks t older b =
    elim b as (λ x. List Told) [
      | false ↦ kept_of_told back marks older
      | true ↦
          with_entries t (filter (has_spot back) t.cause.entries)
          ∷ kept_of_told back (filter (has_spot back) t.cause.entries ++ marks) older
    ]

pub kept-no : (back marks : List Spot) (t : Told) (older : List Told) → has_spot marks t.spot ≡ false
    → kept_of_told back marks (t ∷ older) ≡ kept_of_told back marks older
unfolding kept-if
kept-no back marks t older none = ap (kept-if back marks t older) none

pub kept-yes : (back marks : List Spot) (t : Told) (older : List Told) → has_spot marks t.spot ≡ true
    → kept_of_told back marks (t ∷ older)
    ≡ with_entries t (filter (has_spot back) t.cause.entries)
    ∷ kept_of_told back (filter (has_spot back) t.cause.entries ++ marks) older
unfolding kept-if
kept-yes back marks t older here = ap (kept-if back marks t older) here

-- what follows where there is a value
pub on-ok : {X E : Type 0} {P Q : Type 0} (r : Result X E) → (P → Q) → OnOk r P → OnOk r Q
on-ok (Ok x) more is = more is
on-ok (Err e) more is = is

-- an entry has a rank, or another
pub is-rank : (e f : Entry) (r rank : ℕ) → r ≡ rank_of_entry e → e ≡ f → r ≡ rank → (rank_of_entry f == rank) ≡ true
is-rank e f r rank is same here =
    let of : rank_of_entry f ≡ rank = sym (ap rank_of_entry same) ∙ (sym is ∙ here) in grind (arith, nat_tests)

pub not-rank : (e f : Entry) (r rank : ℕ) → r ≡ rank_of_entry e → e ≡ f → r ≢ rank → (rank_of_entry f == rank) ≡ false
not-rank e f r rank is same other =
    let of : rank_of_entry f ≢ rank = λ here. other (is ∙ (ap rank_of_entry same ∙ here)) in grind (arith, nat_tests)
