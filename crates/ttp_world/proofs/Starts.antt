-- The start that the hypothesis test knows: one node starts alone, and each node that is ever on is on by then.
use Rattle.ttp_world.proofs.Words.{◌≡◌, ◌≢◌, ℕ, zero, suc, ◌+◌, ◌<◌, ◌≤◌, Bool, true, false, not, ◌||◌, List, [], ◌∷◌}
use Rattle.ttp_world.proofs.Words.{length, Option, Some, None, refl, ap, sym, subst, ◌∙◌, inl, inr, arith}
use Rattle.ttp_world.proofs.Words.{if◌then◌else◌, AllByRecursion, filter, range_with_len, cases_eq, eqb-true, eq-eqb}
use Rattle.ttp_world.proofs.Words.{ne_eqb, both_ways, none-some, same_Some, has_node, each-below, has_node-sieve, Medl}
use Rattle.ttp_world.proofs.Words.{Script, ClusterStart, lesser, least_of, is_on}
use Rattle.std.specs.List.{filter_map}
use Rattle.ttp_world.specs.Hypothesis.{start_slot, is_exactly, starts_in, are_all_on}
use Rattle.ttp_world.specs.Hypothesis.{only_starter, start_in, start_of, nodes_of}
use Rattle.ttp_world.specs.Script.{is_ever_on}
use Rattle.ttp_world.specs.Starts.{StartsAlone}
use Rattle.ttp_world.proofs.Filters.{each-sieve}

-- what is found is the only one that passes
only-found : (slot : ℕ) (ks : List ℕ) (start : ClusterStart) → only_starter slot ks ≡ Some start
    → (ks ≡ start.node ∷ []) × (start.slot ≡ slot)
only-found slot [] start is = absurd (none-some start is)
only-found slot (k ∷ []) start is = (cc, cc)
only-found slot (k ∷ j ∷ ks) start is = absurd (none-some start is)

-- the parts of a start that is found
pub record Found (list : Medl) (script : Script) (start : ClusterStart) : Type 0 where
  pub least : least_of (filter_map (start_slot list script) (nodes_of list)) ≡ Some start.slot
  pub on : are_all_on list script start.slot ≡ true
  pub only : filter (starts_in list script start.slot) (nodes_of list) ≡ start.node ∷ []

found-at : (list : Medl) (script : Script) (start : ClusterStart) (slot : ℕ) (all : Bool)
    → least_of (filter_map (start_slot list script) (nodes_of list)) ≡ Some slot → are_all_on list script slot ≡ all
    → (if all then only_starter slot (filter (starts_in list script slot) (nodes_of list)) else None) ≡ Some start
    → Found list script start
found-at list script start slot true least on is =
    let only = only-found slot (filter (starts_in list script slot) (nodes_of list)) start is in
    record {
      least = least ∙ ap Some (sym only.1);
      on = ap (are_all_on list script) only.1 ∙ on;
      only = ap (λ t. filter (starts_in list script t) (nodes_of list)) only.1 ∙ only.0;
    }
found-at list script start slot false least on is = absurd (none-some start is)

found-in : (list : Medl) (script : Script) (start : ClusterStart) (least : Option ℕ)
    → least_of (filter_map (start_slot list script) (nodes_of list)) ≡ least
    → start_in list script least ≡ Some start
    → Found list script start
found-in list script start None least is = absurd (none-some start is)
found-in list script start (Some slot) least is =
    found-at list script start slot (are_all_on list script slot) least refl is

pub found-start : (list : Medl) (script : Script) (start : ClusterStart) → start_of list script ≡ Some start
    → Found list script start
found-start list script start is =
    found-in list script start (least_of (filter_map (start_slot list script) (nodes_of list))) refl is

exactly : (slot : ℕ) (found : Option ℕ) → is_exactly slot found ≡ true → found ≡ Some slot
exactly slot None is = absurd (both_ways false refl is)
exactly slot (Some t) is = ap Some (eqb-true t slot is)

-- The least of some numbers is at most each of them.

abbrev AtMost : ℕ → Option ℕ → Type 0
AtMost m None = ⊥
AtMost m (Some least) = least ≤ m

at_most-first : (m : ℕ) (rest : Option ℕ) → AtMost m (lesser m rest)
at_most-first m None = omega arith
at_most-first m (Some least) = omega arith

at_most-later : (m n : ℕ) (rest : Option ℕ) → AtMost m rest → AtMost m (lesser n rest)
at_most-later m n None rest = absurd rest
at_most-later m n (Some least) rest = omega arith

at_most-here : (f : ℕ → Option ℕ) (a m : ℕ) (ks : List ℕ) (found : Option ℕ) → f a ≡ found → found ≡ Some m
    → AtMost m (least_of (filter_map f (a ∷ ks)))
at_most-here f a m ks None is some = absurd (none-some m some)
at_most-here f a m ks (Some n) is some =
    let same : n ≡ m = same_Some n m some in
    rw (is, same) (at_most-first m (least_of (filter_map f ks)))

at_most-there : (f : ℕ → Option ℕ) (a m : ℕ) (ks : List ℕ) (found : Option ℕ) → f a ≡ found
    → AtMost m (least_of (filter_map f ks))
    → AtMost m (least_of (filter_map f (a ∷ ks)))
at_most-there f a m ks None is rest = rw is rest
at_most-there f a m ks (Some n) is rest = rw is (at_most-later m n (least_of (filter_map f ks)) rest)

least-range : (f : ℕ → Option ℕ) (a n k m : ℕ) → a ≤ k → k < a + n → f k ≡ Some m
    → AtMost m (least_of (filter_map f (range_with_len a n)))
least-range f a zero k m from to is = absurd (omega arith)
least-range f a (suc n) k m from to is = elim (cases_eq a k) [
  | inl same ↦ at_most-here f a m (range_with_len (a + 1) n) (f a) refl (ap f same ∙ is)
  | inr other ↦
      at_most-there f a m (range_with_len (a + 1) n) (f a) refl
      (least-range f (a + 1) n k m (omega arith) (omega arith) is)
]

pub alone-start : (list : Medl) (script : Script) (start : ClusterStart) → start_of list script ≡ Some start
    → StartsAlone list script start
alone-start list script start is =
    let n = length list.slots in
    let found = found-start list script start is in
    let starts = starts_in list script start.slot in
    let first : (start.node < n) × (starts start.node ≡ true) =
    (subst (AllByRecursion (λ k. (k < n) × (starts k ≡ true))) found.only (each-sieve starts n)).0 in
    record {
      node = first.0;
      due = exactly start.slot (start_slot list script start.node) first.1;
      others = λ k slot less other due.
          let bound : start.slot ≤ slot =
          subst (AtMost slot) found.least
          (least-range (start_slot list script) 0 n k slot (omega arith) (omega arith) due) in
          let off : starts k ≡ false =
          sym (has_node-sieve starts n k less) ∙ ap (λ ks. has_node ks k) found.only
          ∙ ap (λ b. b || false) (ne_eqb start.node k (λ same. other (sym same))) in
          let apart : slot ≢ start.slot =
          λ same. both_ways (starts k) off (ap (is_exactly start.slot) due ∙ eq-eqb slot start.slot same) in
          omega arith;
    }

pub on-by : (ever on : Bool) → (not ever || on) ≡ true → ever ≡ true → on ≡ true
on-by true on either ever = either
on-by false on either ever = absurd (both_ways false refl ever)

pub on-start : (list : Medl) (script : Script) (start : ClusterStart) (k : ℕ) → start_of list script ≡ Some start
    → k < length list.slots → is_ever_on script k ≡ true
    → is_on script k start.slot ≡ true
on-start list script start k is less ever =
    on-by (is_ever_on script k) (is_on script k start.slot)
    (each-below (λ j. not (is_ever_on script j) || is_on script j start.slot) (length list.slots) k
    (found-start list script start is).on less) ever
