-- The rows of a run, slot after slot.
use Rattle.std.proofs.Common.{◌≡◌, ℕ, zero, suc, ◌+◌, ◌*◌, ◌<◌, ◌≤◌, List, [], ◌++◌, length, ap, sym, subst, ◌∙◌}
use Rattle.std.proofs.Common.{append_assoc, arith, get_or, inl, inr, length-append, map, ◌∷◌}
use Rattle.std.proofs.Math.Nat.{eq-or-lt_of_le, suc-mul}
use Rattle.std.proofs.lemmas.List.FromFn.{get_or-map-range_with_len, length-map-range_with_len}
use Rattle.std.proofs.lemmas.List.{get_or-append-add, get_or_append_left}
use Rattle.causes.specs.RunSlots.{RunSlot}
use Rattle.run_rows.specs.Rows.{node_row, rows_in, rows_of, slot_in}
use Rattle.run_rows.specs.declared.row.NodeRow.{NodeRow}
use Rattle.ttp_base.proofs.Below.{map-next}
use Rattle.ttp_base.specs.NodeSet.{below}
use Rattle.ttp_world.specs.declared.medl.Medl.{Medl}
use Rattle.ttp_world.specs.declared.script.Script.{Script}

pub length-rows_in : (list : Medl) (script : Script) (slots : ℕ)
    → length (rows_in list script slots) ≡ slots * length list.slots
length-rows_in list script zero = omega arith
length-rows_in list script (suc slot) =
    let n = length list.slots in
    length-append (rows_in list script slot) (rows_of list (slot_in list script slot))
    ∙ (λ i. length-rows_in list script slot i
    + length-map-range_with_len (λ k. node_row k (slot_in list script slot)) 0 n i)
    ∙ sym (suc-mul slot n)

-- the place of a row
pub place-lt : (slots t k n : ℕ) → t < slots → k < n → t * n + k < slots * n
place-lt zero t k n less node = absurd (omega arith)
place-lt (suc slot) t k n less node =
    let within : t ≤ slot = omega arith in
    elim (eq-or-lt_of_le within) [
      | inl same ↦ rw (suc-mul, same) (omega arith)
      | inr lower ↦ rw suc-mul (omega (arith, place-lt slot t k n lower node))
    ]

-- each is the one that is asked for
pub row-at : (list : Medl) (script : Script) (slots t k : ℕ) (d : NodeRow) → t < slots → k < length list.slots
    → get_or (rows_in list script slots) (t * length list.slots + k) d ≡ node_row k (slot_in list script t)
row-at list script zero t k d less node = absurd (omega arith)
row-at list script (suc slot) t k d less node =
    let n = length list.slots in
    let before = rows_in list script slot in
    let here = rows_of list (slot_in list script slot) in
    let within : t ≤ slot = omega arith in
    elim (eq-or-lt_of_le within) [
      | inl same ↦
          let place : t * n + k ≡ length before + k =
          ap (λ (m : ℕ). m * n + k) same ∙ ap (λ (m : ℕ). m + k) (sym (length-rows_in list script slot)) in
          ap (λ (i : ℕ). get_or (before ++ here) i d) place
          ∙ get_or-append-add before here k d
          ∙ get_or-map-range_with_len (λ j. node_row j (slot_in list script slot)) 0 n k k d node (omega arith)
          ∙ ap (λ (m : ℕ). node_row k (slot_in list script m)) (sym same)
      | inr lower ↦
          let inside : t * n + k < length before =
          subst (λ (m : ℕ). t * n + k < m) (sym (length-rows_in list script slot)) (place-lt slot t k n lower node) in
          get_or_append_left before here d (t * n + k) inside ∙ row-at list script slot t k d lower node
    ]

-- The rows of one node more in a slot.
pub rows-next : (s : RunSlot) (rows old : List NodeRow) (k : ℕ) (row : NodeRow)
    → rows ≡ old ++ map (λ j. node_row j s) (below k) → row ≡ node_row k s
    → rows ++ row ∷ [] ≡ old ++ map (λ j. node_row j s) (below (k + 1))
rows-next s rows old k row are is =
    (λ i. are i ++ is i ∷ [])
    ∙ append_assoc old (map (λ j. node_row j s) (below k)) (node_row k s ∷ [])
    ∙ ap (λ (more : List NodeRow). old ++ more) (sym (map-next (λ j. node_row j s) k))
