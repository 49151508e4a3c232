-- The slots since a node's own entry, one after another.
use Rattle.std.proofs.Common.{◌≡◌, ℕ, zero, suc, ◌+◌, ◌-◌, ◌<◌, ◌≤◌, Bool, true}
use Rattle.std.proofs.Common.{false, cond, [], ◌∷◌, length, take, filter}
use Rattle.std.proofs.Common.{ltb, ap, sym, ◌∙◌, refl, arith, inl, inr}
use Rattle.std.proofs.lemmas.Bool.{cases_eq, le-ltb, lt-ltb}
use Rattle.causes.specs.RunSlots.{RunSlot, RunSlots, back_to, entry_in_slot, since_own}
use Rattle.entry_causes.proofs.FromBelow.{length-past_slots_in, past_slots_in-next, past_slots_in-suc}
use Rattle.entry_causes.proofs.FromBelow.{past_slots_in-zero, slot_in-number}
use Rattle.run_rows.specs.Rows.{past_slots_in, slot_in}
use Rattle.ttp_world.specs.Acknowledgement.{is_sent_or_joined}
use Rattle.ttp_world.specs.declared.medl.Medl.{Medl}
use Rattle.ttp_world.specs.declared.node.Entry.{Entry}
use Rattle.ttp_world.specs.declared.script.Script.{Script}

-- The slots since the own entry are the newest ones, so many.

back-short : (p : Entry → Bool) (k : ℕ) (run : RunSlots) → length (back_to p k run) ≤ length run
back-short p k [] = omega arith
back-short p k (s ∷ before) =
    short (p (entry_in_slot k s)) s before (back_to p k before) (back-short p k before)
  where
    short : (b : Bool) (s : RunSlot) (before back : RunSlots) → length back ≤ length before
        → length (elim b as (λ c. RunSlots) [ true ↦ s ∷ before | false ↦ back ]) ≤ length (s ∷ before)
    short true s before back less = omega arith
    short false s before back less = omega (arith, less)

since-newest : (k : ℕ) (run : RunSlots)
    → since_own k run ≡ take (length run - length (back_to is_sent_or_joined k run)) run
since-newest k [] = refl
since-newest k (s ∷ before) =
    step (is_sent_or_joined (entry_in_slot k s)) s before (since_own k before) (back_to is_sent_or_joined k before)
    (back-short is_sent_or_joined k before) (since-newest k before)
  where
    step : (b : Bool) (s : RunSlot) (before since back : RunSlots) → length back ≤ length before
        → since ≡ take (length before - length back) before
        → (elim b as (λ c. RunSlots) [ true ↦ [] | false ↦ s ∷ since ])
        ≡ take (suc (length before)
        - length (elim b as (λ c. RunSlots) [ true ↦ s ∷ before | false ↦ back ])) (s ∷ before)
    step true s before since back less is =
        let none : suc (length before) - suc (length before) ≡ 0 = omega arith in
        sym (ap (λ (n : ℕ). take n (s ∷ before)) none)
    step false s before since back less is =
        let some : suc (length before) - length back ≡ suc (length before - length back) = omega (arith, less) in
        ap (λ (slots : RunSlots). s ∷ slots) is ∙ sym (ap (λ (n : ℕ). take n (s ∷ before)) some)

pub since-take : (list : Medl) (script : Script) (before from k : ℕ)
    → back_to is_sent_or_joined k (past_slots_in list script before) ≡ past_slots_in list script from
    → since_own k (past_slots_in list script before) ≡ take (before - from) (past_slots_in list script before)
since-take list script before from k is =
    let run = past_slots_in list script before in
    let all = length-past_slots_in list script before in
    let own = ap length is ∙ length-past_slots_in list script from in
    since-newest k run ∙ (λ i. take (all i - own i) run)

-- One slot more.

pub take-up : (list : Medl) (script : Script) (at from : ℕ) → from ≤ at
    → take (at + 1 - from) (past_slots_in list script (at + 1))
    ≡ slot_in list script at ∷ take (at - from) (past_slots_in list script at)
take-up list script at from within =
    let count : at + 1 - from ≡ suc (at - from) = omega (arith, within) in
    ap (take (at + 1 - from)) (past_slots_in-next list script at)
    ∙ ap (λ (n : ℕ). take n (slot_in list script at ∷ past_slots_in list script at)) count

pub take-nothing : (list : Medl) (script : Script) (at from : ℕ) → at ≤ from
    → take (at - from) (past_slots_in list script at) ≡ []
take-nothing list script at from past =
    let none : at - from ≡ 0 = omega (arith, past) in
    ap (λ (n : ℕ). take n (past_slots_in list script at)) none

-- no more than all
pub take-limit : (list : Medl) (script : Script) (slot from limit : ℕ) → from ≡ slot - limit
    → take (slot - from) (past_slots_in list script slot) ≡ take limit (past_slots_in list script slot)
take-limit list script slot from limit is =
    take-most (past_slots_in list script slot) (slot - from) limit
    (let count = length-past_slots_in list script slot in omega (arith, is, count))
    (let count = length-past_slots_in list script slot in omega (arith, is, count))
  where
    take-most : (run : RunSlots) (n limit : ℕ) → n ≤ limit → (n < limit → length run ≤ n) → take n run ≡ take limit run
    take-most [] zero zero few all = refl
    take-most [] zero (suc limit) few all = refl
    take-most [] (suc n) zero few all = refl
    take-most [] (suc n) (suc limit) few all = refl
    take-most (s ∷ run) zero zero few all = refl
    take-most (s ∷ run) zero (suc limit) few all = absurd (let none = all (omega arith) in omega (arith, none))
    take-most (s ∷ run) (suc n) zero few all = absurd (omega (arith, few))
    take-most (s ∷ run) (suc n) (suc limit) few all =
        ap (λ (slots : RunSlots). s ∷ slots)
        (take-most run n limit (omega (arith, few))
        (λ less. let most = all (omega (arith, less)) in omega (arith, most)))

-- those before one of them
keep-all : (list : Medl) (script : Script) (slot n m : ℕ) → n ≤ slot
    → filter (λ s. ltb s.begun.number slot) (take m (past_slots_in list script n))
    ≡ take m (past_slots_in list script n)
keep-all list script slot zero zero within =
    ap (λ run. filter (λ s. ltb s.begun.number slot) (take 0 run)) (past_slots_in-zero list script)
    ∙ sym (ap (take 0) (past_slots_in-zero list script))
keep-all list script slot zero (suc m) within =
    ap (λ run. filter (λ s. ltb s.begun.number slot) (take (suc m) run)) (past_slots_in-zero list script)
    ∙ sym (ap (take (suc m)) (past_slots_in-zero list script))
keep-all list script slot (suc n) zero within =
    ap (λ run. filter (λ s. ltb s.begun.number slot) (take 0 run)) (past_slots_in-suc list script n)
    ∙ sym (ap (take 0) (past_slots_in-suc list script n))
keep-all list script slot (suc n) (suc m) within =
    let less : ltb n slot ≡ true = lt-ltb n slot (omega (arith, within)) in
    let here : ltb (slot_in list script n).begun.number slot ≡ true =
    ap (λ (k : ℕ). ltb k slot) (slot_in-number list script n) ∙ less in
    let rest = take m (past_slots_in list script n) in
    ap (λ run. filter (λ s. ltb s.begun.number slot) (take (suc m) run)) (past_slots_in-suc list script n)
    ∙ ap (λ (b : Bool).
    cond b (slot_in list script n ∷ filter (λ s. ltb s.begun.number slot) rest)
    (filter (λ s. ltb s.begun.number slot) rest))
    here
    ∙ ap (λ (run : RunSlots). slot_in list script n ∷ run) (keep-all list script slot n m (omega (arith, within)))
    ∙ sym (ap (take (suc m)) (past_slots_in-suc list script n))

pub keep-before : (list : Medl) (script : Script) (slot n from : ℕ) → slot ≤ n
    → filter (λ s. ltb s.begun.number slot) (take (n - from) (past_slots_in list script n))
    ≡ take (slot - from) (past_slots_in list script slot)
keep-before list script slot zero from within =
    let empty : RunSlots = [] in
    ap (λ run. filter (λ s. ltb s.begun.number slot) (take (0 - from) run)) (past_slots_in-zero list script)
    ∙ (let none : 0 - from ≡ 0 = omega arith in
    let none_slot : slot - from ≡ 0 = omega (arith, within) in
    ap (λ (m : ℕ). filter (λ s. ltb s.begun.number slot) (take m empty)) none
    ∙ sym (ap (λ (m : ℕ). take m (past_slots_in list script slot)) none_slot))
keep-before list script slot (suc n) from within = elim (cases_eq slot (suc n)) [
  | inl same ↦
      keep-all list script slot (suc n) (suc n - from) (omega (arith, same))
      ∙ (λ i. take (sym same i - from) (past_slots_in list script (sym same i)))
  | inr other ↦ elim (cases_eq (suc n - from) 0) [
    | inl none ↦
        let none_slot : slot - from ≡ 0 = omega (arith, none, within, other) in
        ap (λ (m : ℕ). filter (λ s. ltb s.begun.number slot) (take m (past_slots_in list script (suc n)))) none
        ∙ sym (ap (λ (m : ℕ). take m (past_slots_in list script slot)) none_slot)
    | inr some ↦
        let count : suc n - from ≡ suc (n - from) = omega (arith, some) in
        let past : ltb n slot ≡ false = le-ltb n slot (omega (arith, within, other)) in
        let here : ltb (slot_in list script n).begun.number slot ≡ false =
        ap (λ (k : ℕ). ltb k slot) (slot_in-number list script n) ∙ past in
        let rest = take (n - from) (past_slots_in list script n) in
        (λ i. filter (λ s. ltb s.begun.number slot) (take (count i) (past_slots_in-suc list script n i)))
        ∙ ap (λ (b : Bool).
        cond b (slot_in list script n ∷ filter (λ s. ltb s.begun.number slot) rest)
        (filter (λ s. ltb s.begun.number slot) rest)) here
        ∙ keep-before list script slot n from (omega (arith, within, other))
  ]
]

-- a walk up to a slot, or from one that is not before it
pub take-end : (list : Medl) (script : Script) (at slot from : ℕ) → slot ≤ at → from ≤ at → at - from ≤ slot - from
    → take (at - from) (past_slots_in list script at) ≡ take (slot - from) (past_slots_in list script slot)
take-end list script at slot from past within few = elim (cases_eq at slot) [
  | inl same ↦ (λ i. take (same i - from) (past_slots_in list script (same i)))
  | inr other ↦
      take-nothing list script at from (omega (arith, past, within, few, other))
      ∙ sym (take-nothing list script slot from (omega (arith, past, within, few, other)))
]
