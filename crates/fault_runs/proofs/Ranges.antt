-- The faults of a range of slots, slot by slot.
use Rattle.fault_runs.proofs.Words.{◌≡◌, ℕ, ◌+◌, ◌*◌, ◌<◌, ◌≤◌, Bool, true, false, cond, ◌&&◌, List, [], ◌∷◌, ◌++◌}
use Rattle.fault_runs.proofs.Words.{length, get_or, refl, ap, sym, subst, ◌∙◌, arith, map, filter, nat_le, IsValid}
use Rattle.fault_runs.proofs.Words.{append-nil, list_any, length-append, inl, inr}
use Rattle.fault_runs.proofs.Words.{get_or-map, length-map, below, Medl, Entry}
use Rattle.fault_runs.proofs.Words.{Script, History, faults_in, row_of, zeros_world, tried_in, tried_before, entries_of}
use Rattle.std.proofs.Common.{zero, suc, ◌-◌}
use Rattle.std.specs.Prelude.{All, flat_map, min}
use Rattle.std.proofs.lemmas.List.Elements.{All-nil}
use Rattle.single_faults.specs.Tried.{MayStand}
use Rattle.fault_runs.proofs.FromBelow.{faults_in-stand, next_row, zeros-next}
use Rattle.std.proofs.lemmas.List.FromFn.{length-map-range_with_len, length-range_with_len}
use Rattle.std.proofs.lemmas.Bool.{cases_eq, cases_lt, lt-leb, and_right}
use Rattle.ttp_base.proofs.Below.{flat_map-next}
use Rattle.std.proofs.lemmas.List.{ext_get_or}
use Rattle.ttp_world.specs.declared.node.Entry.TheVariants as entry
use Rattle.ttp_world.specs.declared.node.NodeState.{NodeState}
use Rattle.ttp_world.specs.declared.script.Event.TheVariants as event
use Rattle.ttp_world.specs.Diary.{entry_of}
use Rattle.ttp_world.specs.Medium.{is_sending}
use Rattle.campaign.specs.Tried.{losses_from, losses_of, jump_sizes, jumps_of, faults_of}
use Rattle.campaign.specs.Tried.{is_hearing, is_timed, faults_from}
use Rattle.run_costs.specs.States.{off_state, AreShown}
use Rattle.ttp_world.proofs.ZerosWorlds.{length-zeros_world}

-- of those that pass a test, or nothing of the others
flat_map-filter-if : {X : Type 0} (p : ℕ → Bool) (f : ℕ → List X) (k : ℕ) (ks : List ℕ) (b : Bool)
    → flat_map f (filter p ks) ≡ flat_map (λ j. cond (p j) (f j) []) ks
    → flat_map f (cond b (k ∷ filter p ks) (filter p ks)) ≡ cond b (f k) [] ++ flat_map (λ j. cond (p j) (f j) []) ks
flat_map-filter-if p f k ks true rest = ap (λ ys. f k ++ ys) rest
flat_map-filter-if p f k ks false rest = rest

pub flat_map-filter : {X : Type 0} (p : ℕ → Bool) (f : ℕ → List X) (ks : List ℕ)
    → flat_map f (filter p ks) ≡ flat_map (λ k. cond (p k) (f k) []) ks
flat_map-filter p f [] = refl
flat_map-filter p f (k ∷ ks) = flat_map-filter-if p f k ks (p k) (flat_map-filter p f ks)

-- the faults of a range are those that are tried in the slots of the script
pub tried-whole : (list : Medl) (script : Script) (first last : ℕ)
    → tried_before list script first last script.slots
    ≡ faults_from list script (zeros_world list script script.slots) first last
tried-whole list script first last =
    sym (flat_map-filter (λ slot. nat_le first slot && nat_le slot last)
    (λ slot. faults_in list script (row_of (zeros_world list script script.slots) slot) slot) (below script.slots))

-- How many there are.

losses-few : (script : Script) (row : List Entry) (slot k : ℕ) → length (losses_of script row slot k) ≤ 12
losses-few script row slot k =
    few (is_sending (entry_of row k)) (is_hearing (entry_of row k) && list_any is_sending row)
  where
    few : (a b : Bool) → length (cond a (losses_from (event.Send k) script slot)
        (cond b (losses_from (event.Receive k) script slot) [])) ≤ 12
    few true b = omega arith
    few false true = omega arith
    few false false = omega arith

jumps-few : (list : Medl) (row : List Entry) (slot k : ℕ) → length (jumps_of list row slot k) ≤ 4
jumps-few list row slot k = few (is_timed (entry_of row k))
  where
    few : (a : Bool) → length (cond a (map (λ z. event.Jump k z slot) (jump_sizes list)) []) ≤ 4
    few true = omega arith
    few false = omega arith

faults-few : (list : Medl) (script : Script) (row : List Entry) (slot k : ℕ)
    → length (faults_of list script row slot k) ≤ 16
faults-few list script row slot k =
    let both = length-append (losses_of script row slot k) (jumps_of list row slot k) in
    omega (arith, both, losses-few script row slot k, jumps-few list row slot k)

flat_map-few : {X : Type 0} (most : ℕ) (f : ℕ → List X) (ks : List ℕ) → ((k : ℕ) → length (f k) ≤ most)
    → length (flat_map f ks) ≤ most * length ks
flat_map-few most f [] few = omega arith
flat_map-few most f (k ∷ ks) few =
    let both = length-append (f k) (flat_map f ks) in
    let rest = flat_map-few most f ks few in
    let here = few k in
    grind (arith, both, rest, here)

slot-few : (list : Medl) (script : Script) (row : List Entry) (slot : ℕ) → length list.slots ≤ 24
    → length (faults_in list script row slot) ≤ 384
slot-few list script row slot small =
    let few =
    flat_map-few 16 (faults_of list script row slot) (below (length list.slots)) (faults-few list script row slot) in
    let count = length-range_with_len 0 (length list.slots) in
    omega (arith, few, count, small)

pub tried-few : (list : Medl) (script : Script) (first last slot : ℕ) → length list.slots ≤ 24
    → length (tried_in list script first last slot) ≤ 384
tried-few list script first last slot small =
    few (nat_le first slot && nat_le slot last)
  where
    few : (b : Bool)
        → length (cond b (faults_in list script (row_of (zeros_world list script script.slots) slot) slot) []) ≤ 384
    few true = slot-few list script (row_of (zeros_world list script script.slots) slot) slot small
    few false = omega arith

-- The row of a slot.

row-older : (row : List Entry) (history : History) (slot : ℕ) → slot < length history
    → row_of (row ∷ history) slot ≡ row_of history slot
row-older row history slot older =
    let place : suc (length history) - suc slot ≡ suc (length history - suc slot) = omega (arith, older) in
    ap (λ n. get_or (row ∷ history) n []) place

-- in the whole run it is the newest one of the run up to it
pub zeros-row : (list : Medl) (script : Script) (slot slots : ℕ) → slot < slots
    → row_of (zeros_world list script slots) slot ≡ next_row list script slot
zeros-row list script slot zero none = absurd (omega (arith, none))
zeros-row list script slot (suc slots) within = elim (cases_eq slot slots) [
  | inl same ↦
      let newest : suc (length (zeros_world list script slots)) - suc slot ≡ 0 =
      omega (arith, length-zeros_world list script slots, same) in
      ap (λ n. get_or (next_row list script slots ∷ zeros_world list script slots) n []) newest
      ∙ ap (next_row list script) (sym same)
  | inr other ↦
      let less : slot < slots = omega (arith, within, other) in
      row-older (next_row list script slots) (zeros_world list script slots) slot
      (omega (arith, less, length-zeros_world list script slots))
      ∙ zeros-row list script slot slots less
]

pub length-next_row : (list : Medl) (script : Script) (slot : ℕ)
    → length (next_row list script slot) ≡ length list.slots
length-next_row list script slot = length-map-range_with_len _ 0 (length list.slots)

-- what is shown of the nodes after a slot says what they did in it
pub shown-row : (list : Medl) (script : Script) (slot : ℕ) (states : List NodeState) → slot < script.slots
    → AreShown list script (zeros_world list script (slot + 1)) states
    → entries_of states ≡ row_of (zeros_world list script script.slots) slot
shown-row list script slot states within shown =
    let row = next_row list script slot in
    let after : AreShown list script (row ∷ zeros_world list script slot) states =
    subst (λ (h : History). AreShown list script h states) (zeros-next list script slot) shown in
    let count : length (entries_of states) ≡ length row =
    length-map states (λ (state : NodeState). state.entry) ∙ shown.count
    ∙ sym (length-next_row list script slot) in
    ext_get_or entry.Off (entries_of states) row count
    (λ k inside.
    let node : k < length list.slots = omega (arith, inside, count, length-next_row list script slot) in
    get_or-map (λ (state : NodeState). state.entry) states k off_state entry.Off (omega (arith, node, shown.count))
    ∙ ap (λ (state : NodeState). state.entry) (after.nodes k node))
    ∙ sym (zeros-row list script slot script.slots within)

-- Each may stand in the script.
pub tried-stand : (list : Medl) (script : Script) (first last slot : ℕ) → IsValid list → slot < script.slots
    → All (MayStand list script) (tried_in list script first last slot)
tried-stand list script first last slot valid inside = stand (nat_le first slot && nat_le slot last)
  where
    stand : (b : Bool) → All (MayStand list script)
        (cond b (faults_in list script (row_of (zeros_world list script script.slots) slot) slot) [])
    stand true = faults_in-stand list script (row_of (zeros_world list script script.slots) slot) slot valid inside
    stand false = All-nil (MayStand list script)

-- No slot behind the range has any.

tried-past : (list : Medl) (script : Script) (first last slot : ℕ) → last < slot
    → tried_in list script first last slot ≡ []
tried-past list script first last slot past =
    let faults = faults_in list script (row_of (zeros_world list script script.slots) slot) slot in
    ap (λ b. cond b faults []) (and_right (nat_le first slot) (nat_le slot last) (lt-leb slot last past))

tried-more : (list : Medl) (script : Script) (first last n m : ℕ) → last < n
    → tried_before list script first last (n + m) ≡ tried_before list script first last n
tried-more list script first last n zero past =
    ap (tried_before list script first last) (let same : n + 0 ≡ n = omega arith in same)
tried-more list script first last n (suc m) past =
    let next : n + suc m ≡ n + m + 1 = omega arith in
    ap (tried_before list script first last) next
    ∙ flat_map-next (tried_in list script first last) (n + m)
    ∙ ap (λ faults. tried_before list script first last (n + m) ++ faults)
    (tried-past list script first last (n + m) (omega (arith, past)))
    ∙ append-nil (tried_before list script first last (n + m))
    ∙ tried-more list script first last n m past

-- those of so many slots are all, where the range ends before
pub tried-to : (list : Medl) (script : Script) (first last end n : ℕ) → end ≡ min (suc last) script.slots → end ≤ n
    → n ≤ script.slots → tried_before list script first last n ≡ tried_before list script first last script.slots
tried-to list script first last end n is past few = elim (cases_lt last script.slots) [
  | inl inside ↦
      let here : suc last + (n - suc last) ≡ n = omega (arith, is, inside, past) in
      let all : suc last + (script.slots - suc last) ≡ script.slots = omega (arith, inside) in
      ap (tried_before list script first last) (sym here)
      ∙ tried-more list script first last (suc last) (n - suc last) (omega arith)
      ∙ sym (tried-more list script first last (suc last) (script.slots - suc last) (omega arith))
      ∙ ap (tried_before list script first last) all
  | inr behind ↦
      let here : n ≡ script.slots = omega (arith, is, behind, past, few) in
      ap (tried_before list script first last) here
]
