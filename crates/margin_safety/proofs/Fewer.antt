-- Fewer nodes hold no more memberships.
use Rattle.std.proofs.Common.{◌≡◌, ℕ, Bool, true, false, ◌&&◌, ◌||◌, not, List, []}
use Rattle.std.proofs.Common.{◌∷◌, length, Option, Some, None, refl, ap, sym, ◌∙◌}
use Rattle.std.specs.Prelude.{◌==◌, if◌then◌else◌}
use Rattle.std.specs.List.{filter_map, cons_option, list_any}
use Rattle.std.specs.Str.{bytes_eq}
use Rattle.std.proofs.lemmas.Bool.{false≢true}
use Rattle.ttp_world.specs.declared.medl.Medl.{Medl}
use Rattle.ttp_world.specs.declared.script.Script.{Script}
use Rattle.ttp_world.specs.Diary.{History, diary_of}
use Rattle.ttp_world.specs.Hypothesis.{nodes_of}
use Rattle.ttp_world.specs.Returning.{is_sound}
use Rattle.ttp_world.specs.Safety.{newest_slot, members_of_node}
use Rattle.ttp_world.proofs.NumberWords.{bytes_eq-same}
use Rattle.ttp_world.proofs.SmallTests.{spelled as same_bytes}
use Rattle.campaign.specs.declared.cost.Span.{Span}
use Rattle.campaign.specs.Cost.{faulty_by_test, is_firm, firm_members, each_once}
use Rattle.campaign.specs.Cost.{has_two, is_split, span_after, split_span}
use Rattle.clock_margins.specs.Outcomes.{is_sound_beside, is_split_beside, was_split_beside, costs_by, is_others}
use Rattle.run_costs.proofs.ForAbove.{two-others}

abbrev is_other : List ℕ → List ℕ → Bool
is_other m x = not (bytes_eq m x)

-- no set is another than this one
abbrev NoOther : List ℕ → List (List ℕ) → Type 0
NoOther m sets = list_any (is_other m) sets ≡ false

or-left : (a b : Bool) → (a || b) ≡ false → a ≡ false
or-left true b is = is
or-left false b is = refl

or-right : (a b : Bool) → (a || b) ≡ false → b ≡ false
or-right true b is = absurd (false≢true (sym is))
or-right false b is = is

-- one membership at most
one_only : (sets : List (List ℕ)) (m : List ℕ) → NoOther m sets → has_two (each_once sets) ≡ false
one_only [] m none = refl
one_only (x ∷ sets) m none =
    let same : m ≡ x = same_bytes m x
    (found (bytes_eq m x) (or-left (is_other m x) (list_any (is_other m) sets) none)) in
    two-others x sets ∙ ap (λ (y : List ℕ). list_any (is_other y) sets) (sym same)
    ∙ or-right (is_other m x) (list_any (is_other m) sets) none
  where
    found : (b : Bool) → not b ≡ false → b ≡ true
    found true is = refl
    found false is = absurd (false≢true (sym is))

-- items without some of them

behind_one : (m : List ℕ) (a : Option (List ℕ)) (rest : List (List ℕ)) → NoOther m (cons_option a rest) → NoOther m rest
behind_one m None rest none = none
behind_one m (Some x) rest none = or-right (is_other m x) (list_any (is_other m) rest) none

fewer-one : (m : List ℕ) (a b : Option (List ℕ)) (rest less : List (List ℕ))
    → ((x : List ℕ) → b ≡ Some x → a ≡ Some x) → NoOther m (cons_option a rest) → NoOther m less
    → NoOther m (cons_option b less)
fewer-one m a None rest less fewer none behind = behind
fewer-one m None (Some x) rest less fewer none behind = absurd (let both : None ≡ Some x = fewer x refl in cc)
fewer-one m (Some y) (Some x) rest less fewer none behind =
    let same : y ≡ x = (let both : Some y ≡ Some x = fewer x refl in cc) in
    (λ i. is_other m (sym same i) || behind i)
    ∙ ap (λ (b : Bool). b || false) (or-left (is_other m y) (list_any (is_other m) rest) none)

none-fewer : (f g : ℕ → Option (List ℕ)) → ((k : ℕ) (x : List ℕ) → g k ≡ Some x → f k ≡ Some x) → (m : List ℕ)
    → (ks : List ℕ) → NoOther m (filter_map f ks) → NoOther m (filter_map g ks)
none-fewer f g fewer m [] none = refl
none-fewer f g fewer m (k ∷ ks) none =
    fewer-one m (f k) (g k) (filter_map f ks) (filter_map g ks) (fewer k) none
    (none-fewer f g fewer m ks (behind_one m (f k) (filter_map f ks) none))

-- one membership at most, or none at all

none-at-all : (f g : ℕ → Option (List ℕ)) → ((k : ℕ) (x : List ℕ) → g k ≡ Some x → f k ≡ Some x) → (ks : List ℕ)
    → filter_map f ks ≡ [] → filter_map g ks ≡ []
none-at-all f g fewer [] none = refl
none-at-all f g fewer (k ∷ ks) none = by (f k) (g k) (fewer k) none (none-at-all f g fewer ks)
  where
    by : (a b : Option (List ℕ)) → ((x : List ℕ) → b ≡ Some x → a ≡ Some x) → cons_option a (filter_map f ks) ≡ []
        → (filter_map f ks ≡ [] → filter_map g ks ≡ []) → cons_option b (filter_map g ks) ≡ []
    by (Some y) b fewer none rest = absurd (cc)
    by None (Some x) fewer none rest = absurd (let both : None ≡ Some x = fewer x refl in cc)
    by None None fewer none rest = rest none

two-fewer : (f g : ℕ → Option (List ℕ)) → ((k : ℕ) (x : List ℕ) → g k ≡ Some x → f k ≡ Some x) → (ks : List ℕ)
    → has_two (each_once (filter_map f ks)) ≡ false → has_two (each_once (filter_map g ks)) ≡ false
two-fewer f g fewer ks one = by (filter_map f ks) refl one
  where
    by : (sets : List (List ℕ)) → filter_map f ks ≡ sets → has_two (each_once sets) ≡ false
        → has_two (each_once (filter_map g ks)) ≡ false
    by [] is one = ap (λ (sets : List (List ℕ)). has_two (each_once sets)) (none-at-all f g fewer ks is)
    by (m ∷ sets) is one =
        let others : NoOther m sets = sym (two-others m sets) ∙ one in
        let all : NoOther m (m ∷ sets) =
        ap (λ (b : Bool). not b || list_any (is_other m) sets) (bytes_eq-same m) ∙ others in
        one_only (filter_map g ks) m (none-fewer f g fewer m ks (ap (list_any (is_other m)) is ∙ all))

-- Memberships of correct nodes but one.

module _ (list : Medl) (script : Script) (k : ℕ) where
  fewer-members : (history : History) (slot j : ℕ) (x : List ℕ)
      → firm_members list history (is_sound_beside list script k slot) j ≡ Some x
      → firm_members list history (is_sound script (faulty_by_test list script slot) slot) j ≡ Some x
  fewer-members history slot j x is =
      by (is_firm (diary_of history j)) (not (j == k)) (is_sound script (faulty_by_test list script slot) slot j) is
    where
      by : (a b c : Bool) → (if a && (b && c) then Some (members_of_node list history j) else None) ≡ Some x
          → (if a && c then Some (members_of_node list history j) else None) ≡ Some x
      by true true true is = is
      by true true false is = is
      by true false true is = absurd (cc)
      by true false false is = absurd (cc)
      by false b c is = absurd (cc)

  unsplit-here : (history : History) → is_split list script history ≡ false
      → is_split_beside list script k history ≡ false
  unsplit-here history one =
      let slot = newest_slot history in
      two-fewer (firm_members list history (is_sound script (faulty_by_test list script slot) slot))
      (firm_members list history (is_sound_beside list script k slot)) (fewer-members history slot) (nodes_of list) one

  span-none : (slot : ℕ) (split : Bool) (before : Option Span) → span_after slot split before ≡ None
      → (split ≡ false) × (before ≡ None)
  span-none slot true before is = absurd (cc)
  span-none slot false before is = (refl, is)

  pub never-split : (history : History) → split_span list script history ≡ None
      → was_split_beside list script k history ≡ false
  never-split [] none = refl
  never-split (row ∷ history) none =
      let parts = span-none (length history) (is_split list script (row ∷ history))
      (split_span list script history) none in
      let here = unsplit-here (row ∷ history) parts.0 in
      let rest = never-split history parts.1 in
      λ i. here i || rest i

-- whom nobody else hurt costs
pub costs-none : (hurt : List ℕ) (own : Bool) → hurt ≡ [] → is_others (costs_by (not (length hurt == 0)) own) ≡ false
costs-none hurt own none = ap (λ (nodes : List ℕ). is_others (costs_by (not (length nodes == 0)) own)) none ∙ by own
  where
    by : (b : Bool) → is_others (costs_by false b) ≡ false
    by true = refl
    by false = refl
