-- At the place of a slot it is the turn of the slot's node.
use Rattle.safety_laws.proofs.PlanWords.{◌≡◌, ◌≢◌, ℕ, zero, suc, ◌+◌, ◌*◌, ◌/◌, ◌%◌, ◌<◌, ◌≤◌, Bool, true, false, cond}
use Rattle.safety_laws.proofs.PlanWords.{length, refl, ap, sym, ◌∙◌, mod-lt, arith, ◌==◌, mod-add-div', mod-eq_of_lt}
use Rattle.safety_laws.proofs.PlanWords.{eqb-true, eqb-false, mod-mul-add, Medl, FaultPlan, sender}
use Rattle.ttp_world.specs.Diary.{Place, next_place}
use Rattle.safety_laws.specs.Places.{planned_place}

-- the remainder of the next number
next-mod : (n a : ℕ) (last : Bool) → 0 < n → (suc (a % n) == n) ≡ last → suc a % n ≡ cond last 0 (suc (a % n))
next-mod n a true some last =
    let whole : a % n + (a / n) * n ≡ a = mod-add-div' a n in
    let round : suc (a % n) ≡ n = eqb-true _ _ last in
    let more : (a / n + 1) * n ≡ (a / n) * n + n = omega arith in
    let next : suc a ≡ (a / n + 1) * n + 0 = omega arith in
    ap (λ t. t % n) next ∙ mod-mul-add (a / n + 1) n 0 some
next-mod n a false some inside =
    let whole : a % n + (a / n) * n ≡ a = mod-add-div' a n in
    let less : a % n < n = mod-lt a some in
    let other = eqb-false _ _ inside in
    let next : suc a ≡ (a / n) * n + suc (a % n) = omega arith in
    let fits : suc (a % n) < n = lt-of-ne (suc (a % n)) n (omega arith) other in
    ap (λ t. t % n) next ∙ mod-mul-add (a / n) n (suc (a % n)) fits
  where
    lt-of-ne : (m k : ℕ) → m ≤ k → m ≢ k → m < k
    lt-of-ne m k few other = omega arith

slot-next : (list : Medl) (place : Place) (n : ℕ) (last : Bool) → n ≡ length list.slots → (suc place.slot == n) ≡ last
    → (next_place list place).slot ≡ cond last 0 (suc place.slot)
slot-next list place n true same last =
    let here : (suc place.slot == length list.slots) ≡ true = ap (λ m. suc place.slot == m) (sym same) ∙ last in
    rw here
slot-next list place n false same inside =
    let here : (suc place.slot == length list.slots) ≡ false = ap (λ m. suc place.slot == m) (sym same) ∙ inside in
    let next : place.slot + 1 ≡ suc place.slot = omega arith in
    rw here next

pub place-sender : (list : Medl) (plan : FaultPlan) (slot : ℕ) → plan.nodes ≡ length list.slots
    → plan.starter < plan.nodes
    → (planned_place list plan slot).slot ≡ sender plan slot
place-sender list plan zero same less =
    let none : plan.starter + 0 ≡ plan.starter = omega arith in
    sym (ap (λ t. t % plan.nodes) none ∙ mod-eq_of_lt less)
place-sender list plan (suc slot) same less =
    let n = plan.nodes in
    let place = planned_place list plan slot in
    let before : place.slot ≡ sender plan slot = place-sender list plan slot same less in
    let last = suc (sender plan slot) == n in
    let next : suc (plan.starter + slot) ≡ plan.starter + suc slot = omega arith in
    slot-next list place n last same (ap (λ t. suc t == n) before) ∙ ap (λ t. cond last 0 (suc t)) before
    ∙ sym (next-mod n (plan.starter + slot) last (omega arith) refl) ∙ ap (λ t. t % n) next
