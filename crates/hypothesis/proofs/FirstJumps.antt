-- The first jumps of nodes, one event more.
use Rattle.hypothesis.proofs.Words.{◌≡◌, ◌≢◌, ℕ, ◌+◌, ◌<◌, ◌≤◌, ℤ, false, ◌&&◌, ◌||◌, List, length, get_or, take, set}
use Rattle.hypothesis.proofs.Words.{refl, ap, sym, ◌∙◌, inl, inr, arith, ◌==◌, nat_lt, cases_eq, ne_eqb, nat_tests}
use Rattle.hypothesis.proofs.Words.{get_or-set_same, get_or-set_other, Event, is_jump_before, AreFirstJumps}
use Rattle.std.proofs.lemmas.Bool.{eq-eqb}
use Rattle.std.proofs.lemmas.List.Folds.{list_any_more}
use Rattle.ttp_world.specs.declared.script.Event.TheVariants as event
use Rattle.ttp_world.proofs.MemberSets.{or-false}

earlier : (new old slot : ℕ) → new < old → (nat_lt old slot || nat_lt new slot) ≡ nat_lt new slot
earlier new old slot less = grind (arith, nat_tests)

later : (new old slot : ℕ) → old ≤ new → (nat_lt old slot || nat_lt new slot) ≡ nat_lt old slot
later new old slot from = grind (arith, nat_tests)

no_jump-before : (e : Event) → ((node : ℕ) (value : ℤ) (at : ℕ) → e ≢ event.Jump node value at) → (k slot : ℕ)
    → is_jump_before k slot e ≡ false
no_jump-before (event.Jump node value at) other k slot = absurd (other node value at refl)
no_jump-before _ other k slot = refl

-- an event that is no jump changes nothing
pub first_jumps-other : (events : List Event) (i : ℕ) (e : Event) (first : List ℕ) → i < length events
    → get_or events i e ≡ e → ((node : ℕ) (value : ℤ) (at : ℕ) → e ≢ event.Jump node value at)
    → AreFirstJumps (take i events) first → AreFirstJumps (take (i + 1) events) first
first_jumps-other events i e first less here other so_far k slot small fits =
    list_any_more (is_jump_before k slot) events i e less
    ∙ (λ j. so_far k slot small fits j || is_jump_before k slot (here j))
    ∙ ap (λ b. nat_lt (get_or first k 0) slot || b) (no_jump-before e other k slot)
    ∙ or-false (nat_lt (get_or first k 0) slot)

among : (k node at slot old new : ℕ) → (k ≡ node → (nat_lt old slot || nat_lt at slot) ≡ nat_lt new slot)
    → (k ≢ node → new ≡ old) → (nat_lt old slot || ((node == k) && nat_lt at slot)) ≡ nat_lt new slot
among k node at slot old new same other = elim (cases_eq k node) [
  | inl is ↦ rw (eq-eqb node k (sym is)) (same is)
  | inr apart ↦ rw (ne_eqb node k (λ is. apart (sym is)), other apart) (or-false (nat_lt old slot))
]

-- a jump that is earlier than the first so far is the first
pub first_jumps-earlier : (events : List Event) (i : ℕ) (e : Event) (first : List ℕ) (node at : ℕ) → i < length events
    → get_or events i e ≡ e → ((k slot : ℕ) → is_jump_before k slot e ≡ ((node == k) && nat_lt at slot))
    → node < length first → at < get_or first node 0 → AreFirstJumps (take i events) first
    → AreFirstJumps (take (i + 1) events) (set first node at)
first_jumps-earlier events i e first node at less here is within soon so_far k slot small fits =
    list_any_more (is_jump_before k slot) events i e less
    ∙ (λ j. so_far k slot small fits j || is_jump_before k slot (here j))
    ∙ ap (λ b. nat_lt (get_or first k 0) slot || b) (is k slot)
    ∙ among k node at slot (get_or first k 0) (get_or (set first node at) k 0)
    (λ same. ap (λ n. nat_lt (get_or first n 0) slot || nat_lt at slot) same
    ∙ earlier at (get_or first node 0) slot soon ∙ ap (λ n. nat_lt n slot)
    (sym (ap (λ n. get_or (set first node at) n 0) same ∙ get_or-set_same first node at 0 within)))
    (λ other. get_or-set_other first node k at 0 other)

-- and one that is not leaves it
pub first_jumps-later : (events : List Event) (i : ℕ) (e : Event) (first : List ℕ) (node at : ℕ) → i < length events
    → get_or events i e ≡ e → ((k slot : ℕ) → is_jump_before k slot e ≡ ((node == k) && nat_lt at slot))
    → get_or first node 0 ≤ at → AreFirstJumps (take i events) first → AreFirstJumps (take (i + 1) events) first
first_jumps-later events i e first node at less here is late so_far k slot small fits =
    list_any_more (is_jump_before k slot) events i e less
    ∙ (λ j. so_far k slot small fits j || is_jump_before k slot (here j))
    ∙ ap (λ b. nat_lt (get_or first k 0) slot || b) (is k slot)
    ∙ among k node at slot (get_or first k 0) (get_or first k 0)
    (λ same. ap (λ n. nat_lt (get_or first n 0) slot || nat_lt at slot) same ∙ later at (get_or first node 0) slot late
    ∙ ap (λ n. nat_lt (get_or first n 0) slot) (sym same)) (λ other. refl)
