-- The start of a script of the generator: all nodes are on, and the least that may start does.
use Rattle.script_gen.proofs.Words.{◌≡◌, ℕ, zero, suc, ◌+◌, ◌*◌, ◌<◌, ◌≤◌, Bool, true, false, cond, not, ◌||◌, List, []}
use Rattle.script_gen.proofs.Words.{◌∷◌, length, replicate, get_or, unwrap_or, Option, Some, None, refl, ap, sym, subst}
use Rattle.script_gen.proofs.Words.{◌∙◌, inl, inr, arith, nat_lt, slice_get, filter, filter_map, cons_option}
use Rattle.script_gen.proofs.Words.{range_with_len, cases_eq, eq-eqb, ne_eqb, le-leb, le-ltb, lt-ltb}
use Rattle.script_gen.proofs.Words.{unwrap_or-slice_get, all-below, Medl, Script, least_of, nodes_of, no_plan}
use Rattle.script_gen.proofs.Words.{may_start, is_ever_on, is_on, first_starter, starter_of, start_slot_of}
use Rattle.std.proofs.Common.{option_map, zero-add}
use Rattle.std.specs.Prelude.{IfSome}
use Rattle.std.specs.List.{position_or_len}
use Rattle.std.proofs.lemmas.List.Sums.{position_or_len_is}
use Rattle.std.proofs.lemmas.Bool.{or_right}
use Rattle.std.proofs.lemmas.List.{get_or-replicate}
use Rattle.std.proofs.lemmas.List.Quantifiers.{position-Some}
use Rattle.ttp_world.specs.declared.medl.SlotPlan.{SlotPlan}
use Rattle.ttp_world.specs.Hypothesis.{ClusterStart, lesser, start_slot, is_exactly, starts_in, are_all_on}
use Rattle.ttp_world.specs.Hypothesis.{only_starter, start_in, start_of}
use Rattle.ttp_world.specs.Script.{on_slot, has_come}
use Rattle.script_gen.proofs.Parts.{IsGenerated}
use Rattle.script_gen.proofs.Ranges.{filter-only}

-- Who is on.

pub on-is : (list : Medl) (number : ℕ) (script : Script) (k : ℕ) → IsGenerated list number script
    → k < length list.slots → on_slot script k ≡ Some 0
on-is list number script k is less =
    ap (λ on. unwrap_or (slice_get on k) None) is.on
    ∙ unwrap_or-slice_get (replicate (length list.slots) (Some 0)) k None
    ∙ get_or-replicate (length list.slots) k (Some 0) None less

pub on-always : (list : Medl) (number : ℕ) (script : Script) (k slot : ℕ) → IsGenerated list number script
    → k < length list.slots → is_on script k slot ≡ true
on-always list number script k slot is less =
    ap (has_come slot) (on-is list number script k is less) ∙ le-leb 0 slot (omega arith)

-- Who starts.

pub record IsFirst (list : Medl) (k0 : ℕ) : Type 0 where
  pub node : k0 < length list.slots
  pub may : may_start list k0 ≡ true
  pub before : (k : ℕ) → k < k0 → may_start list k ≡ false

may-at : (list : Medl) (k : ℕ) → may_start list k ≡ (get_or list.slots k no_plan).start
may-at list k = ap (λ (plan : SlotPlan). plan.start) (unwrap_or-slice_get list.slots k no_plan)

pub first-is : (list : Medl) (k0 : ℕ) → first_starter list ≡ Some k0 → IsFirst list k0
first-is list k0 is =
    let parts = position-Some (λ (plan : SlotPlan). plan.start) list.slots k0 no_plan is in
    record {
      node = parts.0;
      may = may-at list k0 ∙ parts.1;
      before = λ k less. may-at list k ∙ parts.2 k less;
    }

-- numbers of a range, of which some have a slot so far behind them
abbrev AreBehind : (ℕ → Option ℕ) → (ℕ → Bool) → ℕ → ℕ → Type 0
AreBehind slot may base n = (k : ℕ) → k < n → slot k ≡ cond (may k) (Some (base + k)) None

abbrev IsFrom : ℕ → Option ℕ → Type 0
IsFrom low found = IfSome found (λ slot. low ≤ slot)

from-lesser : (low slot : ℕ) (rest : Option ℕ) → low ≤ slot → IsFrom low rest → IsFrom low (lesser slot rest)
from-lesser low slot None here rest = here
from-lesser low slot (Some other) here rest = omega arith

from-step : (f : ℕ → Option ℕ) (may : Bool) (base a low : ℕ) (ks : List ℕ) → f a ≡ cond may (Some (base + a)) None
    → low ≤ base + a → IsFrom low (least_of (filter_map f ks))
    → IsFrom low (least_of (filter_map f (a ∷ ks)))
from-step f true base a low ks is here rest = rw is (from-lesser low (base + a) (least_of (filter_map f ks)) here rest)
from-step f false base a low ks is here rest = rw is rest

least-from : (f : ℕ → Option ℕ) (may : ℕ → Bool) (base low a n m : ℕ) → AreBehind f may base m → a + n ≤ m
    → low ≤ base + a → IsFrom low (least_of (filter_map f (range_with_len a n)))
least-from f may base low a zero m are fits from = tt
least-from f may base low a (suc n) m are fits from =
    from-step f (may a) base a low (range_with_len (a + 1) n) (are a (omega arith)) from
    (least-from f may base low (a + 1) n m are (omega arith) (omega arith))

lesser-from : (slot : ℕ) (rest : Option ℕ) → IsFrom slot rest → lesser slot rest ≡ Some slot
lesser-from slot None from = refl
lesser-from slot (Some other) from = ap Some (omega arith)

least-range : (f : ℕ → Option ℕ) (may : ℕ → Bool) (base a n m t : ℕ) → AreBehind f may base m → a + n ≤ m
    → may t ≡ true → ((k : ℕ) → k < t → may k ≡ false) → a ≤ t → t < a + n
    → least_of (filter_map f (range_with_len a n)) ≡ Some (base + t)
least-range f may base a zero m t are fits may_t before from to = absurd (omega arith)
least-range f may base a (suc n) m t are fits may_t before from to = elim (cases_eq a t) [
  | inl same ↦
      let here : f a ≡ Some (base + a) =
      are a (omega arith) ∙ ap (λ b. cond b (Some (base + a)) None) (ap may same ∙ may_t) in
      ap (λ found. least_of (cons_option found (filter_map f (range_with_len (a + 1) n)))) here
      ∙ lesser-from (base + a) (least_of (filter_map f (range_with_len (a + 1) n)))
      (least-from f may base (base + a) (a + 1) n m are (omega arith) (omega arith))
      ∙ ap (λ k. Some (base + k)) same
  | inr other ↦
      let here : f a ≡ None =
      are a (omega arith) ∙ ap (λ b. cond b (Some (base + a)) None) (before a (omega arith)) in
      ap (λ found. least_of (cons_option found (filter_map f (range_with_len (a + 1) n)))) here
      ∙ least-range f may base (a + 1) n m t are (omega arith) may_t before (omega arith) (omega arith)
]

-- The start.

abbrev pub start_at : Medl → ClusterStart
start_at list = record { slot = start_slot_of list; node = starter_of list }

behind : (list : Medl) (number : ℕ) (script : Script) → IsGenerated list number script
    → AreBehind (start_slot list script) (may_start list) (2 * length list.slots) (length list.slots)
behind list number script is k less =
    ap (λ on. cond (may_start list k) (option_map (λ on. on + 2 * length list.slots + k) on) None)
    (on-is list number script k is less)
    ∙ ap (λ behind. cond (may_start list k) (Some (behind + k)) None) (zero-add (2 * length list.slots))

exactly-other : (may : Bool) (base slot k t : ℕ) → slot ≡ base + t → (k ≡ t → ⊥)
    → is_exactly slot (cond may (Some (base + k)) None) ≡ false
exactly-other true base slot k t at other = ne_eqb (base + k) slot (λ same. other (omega arith))
exactly-other false base slot k t at other = refl

starts-only : (list : Medl) (number : ℕ) (script : Script) → IsGenerated list number script
    → IsFirst list (starter_of list)
    → filter (starts_in list script (start_slot_of list)) (nodes_of list) ≡ starter_of list ∷ []
starts-only list number script is first =
    let n = length list.slots in
    let t = starter_of list in
    let starts = starts_in list script (start_slot_of list) in
    let due : starts t ≡ true =
    ap (is_exactly (start_slot_of list))
    (behind list number script is t first.node ∙ ap (λ b. cond b (Some (2 * n + t)) None) first.may)
    ∙ eq-eqb (2 * n + t) (start_slot_of list) refl in
    filter-only starts n t due
    (λ k less other. ap (is_exactly (start_slot_of list)) (behind list number script is k less)
    ∙ exactly-other (may_start list k) (2 * n) (start_slot_of list) k t refl other) first.node

all-on : (list : Medl) (number : ℕ) (script : Script) (slot : ℕ) → IsGenerated list number script
    → are_all_on list script slot ≡ true
all-on list number script slot is =
    all-below (λ k. not (is_ever_on script k) || is_on script k slot) (length list.slots)
    (λ k less. or_right (not (is_ever_on script k)) (is_on script k slot)
    (on-always list number script k slot is less))

starter-is : (list : Medl) (k0 : ℕ) → first_starter list ≡ Some k0 → starter_of list ≡ k0
starter-is list k0 is = ap (λ found. unwrap_or found 0) is

pub starter-first : (list : Medl) (k0 : ℕ) → first_starter list ≡ Some k0 → IsFirst list (starter_of list)
starter-first list k0 is = subst (IsFirst list) (sym (starter-is list k0 is)) (first-is list k0 is)

pub start_of-generated : (list : Medl) (number : ℕ) (script : Script) → IsGenerated list number script
    → IsFirst list (starter_of list) → start_of list script ≡ Some (start_at list)
start_of-generated list number script is first =
    let n = length list.slots in
    let least : least_of (filter_map (start_slot list script) (nodes_of list)) ≡ Some (start_slot_of list) =
    least-range (start_slot list script) (may_start list) (2 * n) 0 n n (starter_of list)
    (behind list number script is) (omega arith) first.may first.before (omega arith) (omega (arith, first.node)) in
    ap (start_in list script) least
    ∙ ap (λ b. cond b (only_starter (start_slot_of list)
    (filter (starts_in list script (start_slot_of list)) (nodes_of list))) None)
    (all-on list number script (start_slot_of list) is)
    ∙ ap (only_starter (start_slot_of list)) (starts-only list number script is first)

-- The least node that may start, as it is looked for.

pub starter-at : (list : Medl) (k : ℕ) → k < length list.slots → ((j : ℕ) → j < k → may_start list j ≡ false)
    → may_start list k ≡ true → k ≡ starter_of list
starter-at list k less before may =
    let starts = λ (plan : SlotPlan). plan.start in
    let place =
    position_or_len_is starts list.slots k no_plan (omega arith) (λ j small. sym (may-at list j) ∙ before j small)
    (λ within. sym (may-at list k) ∙ may) in
    let some : nat_lt (position_or_len starts list.slots) (length list.slots) ≡ true =
    lt-ltb _ _ (omega (arith, place)) in
    sym (ap (λ b. unwrap_or (cond b (Some (position_or_len starts list.slots)) None) 0) some ∙ place)

pub starter-nowhere : (list : Medl) → ((j : ℕ) → j < length list.slots → may_start list j ≡ false)
    → 0 ≡ starter_of list
starter-nowhere list none =
    let starts = λ (plan : SlotPlan). plan.start in
    let place =
    position_or_len_is starts list.slots (length list.slots) no_plan (omega arith)
    (λ j small. sym (may-at list j) ∙ none j small) (λ within. absurd (omega arith)) in
    let past : nat_lt (position_or_len starts list.slots) (length list.slots) ≡ false =
    le-ltb _ _ (omega (arith, place)) in
    sym (ap (λ b. unwrap_or (cond b (Some (position_or_len starts list.slots)) None) 0) past)
