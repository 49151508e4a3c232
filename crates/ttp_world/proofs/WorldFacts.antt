-- What lists, scripts and worlds have at their places.
use Rattle.ttp_world.proofs.Words.{◌≡◌, ℕ, zero, suc, ◌-◌, ◌≤◌, get_or, refl, arith, Some, true, Bool, length, sym, []}
use Rattle.ttp_world.proofs.Words.{◌∷◌, ◌+◌, ◌||◌, List, ◌++◌, list_any-append, AllByRecursion, filter, unwrap_or, ◌==◌}
use Rattle.ttp_world.proofs.Words.{filter-none, same_sieve, has_node-sieve, below, has_node, is_correct, IsBounded}
use Rattle.ttp_world.proofs.Words.{ClusterStart, IsValid, no_plan, plan_at, AreNodes, verdict_of_view, IsValidEvent}
use Rattle.ttp_world.proofs.Words.{Medl, SlotPlan, Ack, ChannelView, Event, Script}
use Rattle.std.specs.Prelude.{slice_get}
use Rattle.ttp_world.proofs.ListFacts.{all_there}
use Rattle.ttp_world.specs.Medl.{IsValidSlot}
use Rattle.ttp_world.specs.Returning.{no_slot, slots_before}
use Rattle.ttp_world.specs.declared.node.Ack.TheVariants as ack
use Rattle.ttp_world.specs.declared.node.ChannelView.TheVariants as view
use Rattle.ttp_world.specs.declared.script.Event.TheVariants as event

pub event-bounded : (list : Medl) (script : Script) (e : Event) → IsValidEvent list script e → IsBounded e
event-bounded list script (event.Error node value from to) valid = valid.1
event-bounded list script (event.Jump node value slot) valid = valid.1
event-bounded list script e valid = tt

pub get-none : (list : Medl) (script : Script) (start : ClusterStart) (slot i : ℕ) → slot ≤ i
    → get_or (slots_before list script start slot) i no_slot ≡ no_slot
get-none list script start zero i from = refl
get-none list script start (suc slot) zero from = absurd (omega arith)
get-none list script start (suc slot) (suc i) from = get-none list script start slot i (omega arith)

pub payload_few : (list : Medl) (k : ℕ) (plan : SlotPlan) → IsValid list → slice_get list.slots k ≡ Some plan
    → plan.payload ≤ 240
payload_few list k plan valid here =
    (all_there (IsValidSlot list.rounds list.modes) list.slots k plan valid.slots here).payload

-- only the first candidate is correct
pub first_of_correct : (v : ChannelView) (a : Ack) → is_correct (verdict_of_view v a) ≡ true → v ≡ view.First
first_of_correct view.First a is = refl
first_of_correct view.Second ack.Closed is = cc
first_of_correct _ _ is = cc

pub AreNodes-filter : (list : Medl) (p : ℕ → Bool) → AreNodes list (filter p (below (length list.slots)))
AreNodes-filter list p =
    let n = length list.slots in
    same_sieve p (has_node (filter p (below n))) n (λ j within. sym (has_node-sieve p n j within))

pub AreNodes-nil : (list : Medl) → AreNodes list []
AreNodes-nil list = sym (filter-none (has_node []) 0 (length list.slots) (λ j _. refl))

pub has_node-append : (xs ys : List ℕ) (k : ℕ) → has_node (xs ++ ys) k ≡ (has_node xs k || has_node ys k)
has_node-append xs ys k = list_any-append (λ j. j == k) xs ys

slot-short : (rounds modes : ℕ) (plans : List SlotPlan) (k : ℕ) → AllByRecursion (IsValidSlot rounds modes) plans
    → (unwrap_or (slice_get plans k) no_plan).payload ≤ 240
slot-short rounds modes [] k valid = omega arith
slot-short rounds modes (plan ∷ plans) zero valid = valid.0.payload
slot-short rounds modes (plan ∷ plans) (suc k) valid = slot-short rounds modes plans k valid.1

-- a payload is no longer than a list gives one
pub plan-short : (list : Medl) (k : ℕ) → IsValid list → (plan_at list k).payload ≤ 240
plan-short list k valid = slot-short list.rounds list.modes list.slots k valid.slots
