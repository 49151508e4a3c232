-- What a node said before a slot is of a slot before it.
use Rattle.std.proofs.Common.{◌≡◌, ℕ, zero, suc, ◌-◌, ◌<◌, ◌≤◌, Bool, true, false}
use Rattle.std.proofs.Common.{cond, List, [], ◌∷◌, Option, None, Some}
use Rattle.std.proofs.Common.{ap, sym, ◌∙◌, subst, arith, refl, drop}
use Rattle.causes.specs.Members.{if_join, newest_entry_of}
use Rattle.causes.specs.RunSlots.{RunSlot, RunSlots, entry_in_slot, is_joined, is_started, node_spot}
use Rattle.causes.specs.Said.{joined_from, said, speaks_of}
use Rattle.causes.specs.declared.cause.Spot.{Spot}
use Rattle.entry_causes.proofs.Past.{entry_at_spot-before}
use Rattle.entry_causes.proofs.Walks.{said-none, step_by}
use Rattle.entry_causes.proofs.FromBelow.{past_slots_in-suc, past_slots_in-zero, slot_in-number}
use Rattle.run_rows.specs.Rows.{past_slots_in, slot_in}
use Rattle.ttp_world.specs.declared.medl.Medl.{Medl}
use Rattle.ttp_world.specs.declared.script.Script.{Script}

step-slot : (speaks : Bool) (from : Option ℕ) (s : RunSlot) (x n : ℕ) (on : Spot) (rest : ℕ → Spot) → s.begun.number ≡ n
    → on.slot ≤ n → ((p : ℕ) → (rest p).slot ≤ n)
    → (step_by speaks from s x on rest).slot ≤ n
step-slot false from s x n on rest is on_within within = on_within
step-slot true None s x n on rest is on_within within = omega (arith, is)
step-slot true (Some p) s x n on rest is on_within within =
    started (is_started (entry_in_slot p s)) s p n (rest p) is (within p)
  where
    started : (b : Bool) (s : RunSlot) (p n : ℕ) (rest : Spot) → s.begun.number ≡ n → rest.slot ≤ n
        → (elim b as (λ c. Spot) [ true ↦ node_spot p s | false ↦ rest ]).slot ≤ n
    started true s p n rest is within = omega (arith, is)
    started false s p n rest is within = within

pub said-slot : (list : Medl) (script : Script) (n x j : ℕ) → (said x j (past_slots_in list script n)).slot ≤ n - 1
said-slot list script zero x j =
    let none = ap (λ (spot : Spot). spot.slot) (said-none list script 0 x j refl) in omega (arith, none)
said-slot list script (suc n) x j =
    let past = past_slots_in list script n in
    subst (λ (run : RunSlots). (said x j run).slot ≤ suc n - 1) (sym (past_slots_in-suc list script n))
    (let within =
    step-slot (speaks_of x j (slot_in list script n))
    (joined_from x (slot_in list script n)) (slot_in list script n) x n
    (said x j past) (λ p. said p j past) (slot_in-number list script n)
    (let before = said-slot list script n x j in omega (arith, before))
    (λ p. let before = said-slot list script n p j in omega (arith, before)) in
    omega (arith, within))

-- Where the node that holds another joined, this is a cause.

abbrev pub if_joined : Bool → Spot → List Spot
if_joined joined spot = cond joined (spot ∷ []) []

drop-none : (n : ℕ) (spot : Spot) → if_joined (is_joined (newest_entry_of spot.node (drop n []))) spot ≡ []
drop-none zero spot = refl
drop-none (suc n) spot = refl

pub if_join-none : (list : Medl) (script : Script) (n : ℕ) (spot : Spot) → n ≡ 0
    → if_join (past_slots_in list script n) spot ≡ []
if_join-none list script n spot none =
    ap (λ (run : RunSlots). if_join run spot) (ap (past_slots_in list script) none ∙ past_slots_in-zero list script)
    ∙ drop-none (0 - suc spot.slot) spot

pub if_join-before : (list : Medl) (script : Script) (n : ℕ) (spot : Spot) → spot.slot < n
    → if_join (past_slots_in list script n) spot
    ≡ if_joined (is_joined (entry_in_slot spot.node (slot_in list script spot.slot))) spot
if_join-before list script n spot less =
    ap (λ e. if_joined (is_joined e) spot) (entry_at_spot-before list script n spot less)
