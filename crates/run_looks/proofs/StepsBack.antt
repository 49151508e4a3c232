-- One slot back.
use Rattle.std.proofs.Common.{◌≡◌, ℕ, ◌-◌, ◌<◌, Bool, true, false, cond, [], ◌∷◌, ◌++◌, length, suc, ap, sym, ◌∙◌, refl}
use Rattle.causes.specs.RunSlots.{RunSlot, RunSlots, back_to, entry_in_slot, is_judged_so, judged_since_own, judged_so}
use Rattle.causes.specs.RunSlots.{node_spot, since_own, spots_at_node}
use Rattle.run_looks.specs.Back.{judged_in}
use Rattle.run_looks.proofs.FromBelow.{slot_in-number, past_slots_in-down, past_slots_in-zero}
use Rattle.run_rows.specs.Rows.{slot_in, past_slots_in}
use Rattle.ttp_world.specs.Acknowledgement.{is_sent_or_joined}
use Rattle.ttp_world.specs.declared.medl.Medl.{Medl}
use Rattle.ttp_world.specs.declared.node.Entry.{Entry}
use Rattle.ttp_world.specs.declared.node.Verdict.{Verdict}
use Rattle.ttp_world.specs.declared.script.Script.{Script}

-- Back to an entry of a kind.

step-found : (p : Entry → Bool) (k : ℕ) (s : RunSlot) (before : RunSlots) → p (entry_in_slot k s) ≡ true
    → back_to p k (s ∷ before) ≡ s ∷ before
step-found p k s before found =
    ap (λ (b : Bool). elim b as (λ c. RunSlots) [ true ↦ s ∷ before | false ↦ back_to p k before ]) found

step-on : (p : Entry → Bool) (k : ℕ) (s : RunSlot) (before : RunSlots) → p (entry_in_slot k s) ≡ false
    → back_to p k (s ∷ before) ≡ back_to p k before
step-on p k s before other =
    ap (λ (b : Bool). elim b as (λ c. RunSlots) [ true ↦ s ∷ before | false ↦ back_to p k before ]) other

pub back-none : (p : Entry → Bool) (k : ℕ) (list : Medl) (script : Script) (slot : ℕ) → slot ≡ 0
    → back_to p k (past_slots_in list script slot) ≡ past_slots_in list script slot
back-none p k list script slot none =
    let empty : past_slots_in list script slot ≡ [] =
    ap (past_slots_in list script) none ∙ past_slots_in-zero list script in
    ap (back_to p k) empty ∙ sym empty

pub back-found : (p : Entry → Bool) (k : ℕ) (list : Medl) (script : Script) (slot : ℕ) → 0 < slot
    → p (entry_in_slot k (slot_in list script (slot - 1))) ≡ true
    → back_to p k (past_slots_in list script slot) ≡ past_slots_in list script slot
back-found p k list script slot some found =
    let down = past_slots_in-down list script slot some in
    ap (back_to p k) down
    ∙ step-found p k (slot_in list script (slot - 1)) (past_slots_in list script (slot - 1)) found
    ∙ sym down

pub back-on : (p : Entry → Bool) (k : ℕ) (list : Medl) (script : Script) (slot : ℕ) → 0 < slot
    → p (entry_in_slot k (slot_in list script (slot - 1))) ≡ false
    → back_to p k (past_slots_in list script slot) ≡ back_to p k (past_slots_in list script (slot - 1))
back-on p k list script slot some other =
    ap (back_to p k) (past_slots_in-down list script slot some)
    ∙ step-on p k (slot_in list script (slot - 1)) (past_slots_in list script (slot - 1)) other

-- Judgements since the own entry.

one-more : (b : Bool) (k : ℕ) (s : RunSlot) (more : RunSlots)
    → spots_at_node k (cond b (s ∷ more) more) ≡ cond b (node_spot k s ∷ []) [] ++ spots_at_node k more
one-more true k s more = refl
one-more false k s more = refl

-- the own entry ends them
judged-ends : (p : Verdict → Bool) (k : ℕ) (s : RunSlot) (before : RunSlots)
    → is_sent_or_joined (entry_in_slot k s) ≡ true
    → judged_since_own p k (s ∷ before) ≡ []
judged-ends p k s before own =
    ap (λ (b : Bool).
    spots_at_node k
    (judged_so p k (elim b as (λ c. RunSlots) [ true ↦ [] | false ↦ s ∷ since_own k before ]))) own

-- another is one more, if it is such a judgement
judged-goes : (p : Verdict → Bool) (k : ℕ) (s : RunSlot) (before : RunSlots)
    → is_sent_or_joined (entry_in_slot k s) ≡ false
    → judged_since_own p k (s ∷ before) ≡ judged_in p k s ++ judged_since_own p k before
judged-goes p k s before other =
    ap (λ (b : Bool).
    spots_at_node k
    (judged_so p k (elim b as (λ c. RunSlots) [ true ↦ [] | false ↦ s ∷ since_own k before ]))) other
    ∙ one-more (is_judged_so p (entry_in_slot k s)) k s (judged_so p k (since_own k before))

pub judged-none : (p : Verdict → Bool) (k : ℕ) (list : Medl) (script : Script) (slot : ℕ) → slot ≡ 0
    → judged_since_own p k (past_slots_in list script slot) ≡ []
judged-none p k list script slot none =
    ap (judged_since_own p k) (ap (past_slots_in list script) none ∙ past_slots_in-zero list script)

pub judged-own : (p : Verdict → Bool) (k : ℕ) (list : Medl) (script : Script) (slot : ℕ) → 0 < slot
    → is_sent_or_joined (entry_in_slot k (slot_in list script (slot - 1))) ≡ true
    → judged_since_own p k (past_slots_in list script slot) ≡ []
judged-own p k list script slot some own =
    ap (judged_since_own p k) (past_slots_in-down list script slot some)
    ∙ judged-ends p k (slot_in list script (slot - 1)) (past_slots_in list script (slot - 1)) own

pub judged-on : (p : Verdict → Bool) (k : ℕ) (list : Medl) (script : Script) (slot : ℕ) → 0 < slot
    → is_sent_or_joined (entry_in_slot k (slot_in list script (slot - 1))) ≡ false
    → judged_since_own p k (past_slots_in list script slot)
    ≡ judged_in p k (slot_in list script (slot - 1)) ++ judged_since_own p k (past_slots_in list script (slot - 1))
judged-on p k list script slot some other =
    ap (judged_since_own p k) (past_slots_in-down list script slot some)
    ∙ judged-goes p k (slot_in list script (slot - 1)) (past_slots_in list script (slot - 1)) other

-- The entry of a slot, where it is such a judgement or not.

pub judged_in-true : (p : Verdict → Bool) (k : ℕ) (list : Medl) (script : Script) (slot : ℕ)
    → is_judged_so p (entry_in_slot k (slot_in list script slot)) ≡ true
    → record { slot = slot; node = k } ∷ [] ≡ judged_in p k (slot_in list script slot)
judged_in-true p k list script slot judged =
    (λ i. record { slot = sym (slot_in-number list script slot) i; node = k } ∷ [])
    ∙ sym (ap (λ (b : Bool). cond b (node_spot k (slot_in list script slot) ∷ []) []) judged)

-- How many there are.

pub count-in : (p : Verdict → Bool) (k : ℕ) (list : Medl) (script : Script) (slot : ℕ) → 0 < slot
    → is_sent_or_joined (entry_in_slot k (slot_in list script (slot - 1))) ≡ false
    → is_judged_so p (entry_in_slot k (slot_in list script (slot - 1))) ≡ true
    → length (judged_since_own p k (past_slots_in list script slot))
    ≡ suc (length (judged_since_own p k (past_slots_in list script (slot - 1))))
count-in p k list script slot some other judged =
    ap length (judged-on p k list script slot some other)
    ∙ ap (λ (b : Bool).
    length (cond b (node_spot k (slot_in list script (slot - 1)) ∷ []) []
    ++ judged_since_own p k (past_slots_in list script (slot - 1)))) judged

pub count-out : (p : Verdict → Bool) (k : ℕ) (list : Medl) (script : Script) (slot : ℕ) → 0 < slot
    → is_sent_or_joined (entry_in_slot k (slot_in list script (slot - 1))) ≡ false
    → is_judged_so p (entry_in_slot k (slot_in list script (slot - 1))) ≡ false
    → length (judged_since_own p k (past_slots_in list script slot))
    ≡ length (judged_since_own p k (past_slots_in list script (slot - 1)))
count-out p k list script slot some other judged =
    ap length (judged-on p k list script slot some other)
    ∙ ap (λ (b : Bool).
    length (cond b (node_spot k (slot_in list script (slot - 1)) ∷ []) []
    ++ judged_since_own p k (past_slots_in list script (slot - 1)))) judged
