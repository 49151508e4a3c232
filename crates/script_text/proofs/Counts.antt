-- Counts of writes, one for each node and slot.
use Rattle.script_text.proofs.Terms.{◌≡◌, ℕ, ◌+◌, ◌*◌, ◌<◌, ◌==◌, ◌&&◌, Bool, true, false, List, length, get_or, set}
use Rattle.script_text.proofs.Terms.{get_or-set_same, arith, refl, ◌∙◌, if◌then◌else◌, nat_tests}
use Rattle.std.proofs.Common.{◌≢◌}
use Rattle.std.proofs.Common.{get_or-set_other}
use Rattle.std.proofs.lemmas.Nat.{same_from_place}

-- one more at the place of a node and a slot
counted_at : (xs : List ℕ) (n node slot k t count : ℕ) (same_node same_slot : Bool) → node < n → k < n
    → slot * n + node < length xs → count ≡ get_or xs (slot * n + node) 0 + 1
    → (node == k) ≡ same_node → (slot == t) ≡ same_slot
    → get_or (set xs (slot * n + node) count) (t * n + k) 0
    ≡ get_or xs (t * n + k) 0 + (if same_node && same_slot then 1 else 0)
counted_at xs n node slot k t count true true node_in k_in within is node_is slot_is =
    let node_same : node ≡ k = grind (arith, nat_tests) in
    let slot_same : slot ≡ t = grind (arith, nat_tests) in
    rw (← node_same, ← slot_same) (get_or-set_same xs (slot * n + node) count 0 within ∙ is)
counted_at xs n node slot k t count false same_slot node_in k_in within is node_is slot_is =
    let apart : t * n + k ≢ slot * n + node =
    λ e. let both = same_from_place t k slot node n k_in node_in e in grind (arith, nat_tests) in
    let other = get_or-set_other xs (slot * n + node) (t * n + k) count 0 apart in omega (arith, other)
counted_at xs n node slot k t count true false node_in k_in within is node_is slot_is =
    let apart : t * n + k ≢ slot * n + node =
    λ e. let both = same_from_place t k slot node n k_in node_in e in grind (arith, nat_tests) in
    let other = get_or-set_other xs (slot * n + node) (t * n + k) count 0 apart in omega (arith, other)

pub counted : (xs : List ℕ) (n node slot k t count : ℕ) → node < n → k < n → slot * n + node < length xs
    → count ≡ get_or xs (slot * n + node) 0 + 1
    → get_or (set xs (slot * n + node) count) (t * n + k) 0
    ≡ get_or xs (t * n + k) 0 + (if (node == k) && (slot == t) then 1 else 0)
counted xs n node slot k t count node_in k_in within is =
    counted_at xs n node slot k t count (node == k) (slot == t) node_in k_in within is refl refl
