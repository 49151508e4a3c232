-- The slots of a run, by number, and the entries of one in the order turned round.
use Rattle.std.proofs.Common.{◌≡◌, ℕ, zero, suc, ◌-◌, ◌<◌, ◌==◌, Bool, true, false, List, [], ◌∷◌, ◌++◌, length}
use Rattle.std.proofs.Common.{get_or, drop, drop-cons, filter, map, ap, sym, ◌∙◌, refl, arith, append_assoc, add-one}
use Rattle.std.proofs.Math.Seq.{drop-length}
use Rattle.std.proofs.lemmas.List.{append-nil, map-append, reverse-append, length-drop}
use Rattle.std.specs.Prelude.{reverse, if◌then◌else◌}
use Rattle.std.proofs.lemmas.List.Concat.{flat_map-cons}
use Rattle.std.proofs.lemmas.List.Elements.{filter-append}
use Rattle.ttp_base.specs.NodeSet.{below}
use Rattle.ttp_base.proofs.Below.{below-next}
use Rattle.ttp_world.specs.Diary.{History}
use Rattle.ttp_world.specs.declared.medl.Medl.{Medl}
use Rattle.ttp_world.specs.declared.node.Entry.{Entry}
use Rattle.ttp_world.specs.declared.script.Script.{Script}
use Rattle.causes.specs.LinesOf.{spots_in}
use Rattle.causes.specs.Members.{entry_at_spot, newest_entry_of}
use Rattle.causes.specs.RunSlots.{RunSlot, RunSlots, entry_in_slot, node_spot, slot_of_run, slots_of_run}
use Rattle.causes.specs.Story.{rank_of_entry, spots_back, spots_back_in, spots_of_rank}
use Rattle.causes.specs.declared.cause.Spot.{Spot}
use Rattle.why_story.specs.Passes.{of_rank, rank_back, slot_back}
use Rattle.why_story.specs.RunSource.{spot_at, slots_up_to}

-- Slots by number.

pub length-run : (list : Medl) (script : Script) (history : History)
    → length (slots_of_run list script history) ≡ length history
length-run list script [] = refl
length-run list script (row ∷ history) = ap suc (length-run list script history)

drop-run : (list : Medl) (script : Script) (history : History) (n : ℕ)
    → drop n (slots_of_run list script history) ≡ slots_of_run list script (drop n history)
drop-run list script history zero = refl
drop-run list script [] (suc n) = refl
drop-run list script (row ∷ history) (suc n) = drop-run list script history n

-- the first so many rows of a history
abbrev pub rows_before : History → ℕ → History
rows_before history count = drop (length history - count) history

pub slots_up_to-rows : (list : Medl) (script : Script) (history : History) (count : ℕ)
    → slots_up_to (slots_of_run list script history) count ≡ slots_of_run list script (rows_before history count)
slots_up_to-rows list script history count =
    ap (λ (n : ℕ). drop (n - count) (slots_of_run list script history)) (length-run list script history)
    ∙ drop-run list script history (length history - count)

-- none
pub slots_up_to-none : (run : RunSlots) → slots_up_to run 0 ≡ []
slots_up_to-none run =
    let whole : length run - 0 ≡ length run = omega arith in
    ap (λ (n : ℕ). drop n run) whole ∙ drop-length run

-- all
pub slots_up_to-all : (run : RunSlots) (count : ℕ) → count ≡ length run → slots_up_to run count ≡ run
slots_up_to-all run count all =
    let none : length run - count ≡ 0 = omega (arith, all) in
    ap (λ (n : ℕ). drop n run) none

-- one row of a history, and those before it
pub record Row (history : History) (t : ℕ) : Type 0 where
  pub row : List Entry
  pub next : rows_before history (suc t) ≡ row ∷ rows_before history t
  pub count : length (rows_before history t) ≡ t

pub row_at : (history : History) (t : ℕ) → t < length history → Row history t
row_at history t within =
    let at = length history - suc t in
    let next : suc at ≡ length history - t = omega (arith, within) in record {
      row = get_or history at [];
      next = drop-cons history at [] (omega (arith, within))
          ∙ ap (λ (n : ℕ). get_or history at [] ∷ drop n history) next;
      count = length-drop (length history - t) history ∙ omega (arith, within);
    }

-- The entries of a slot.

-- those of one rank, of so many nodes
one_back : (f : ℕ → Spot) (p : ℕ → Bool) (n : ℕ) (b : Bool) → p n ≡ b
    → reverse (map f (filter p (n ∷ []))) ≡ (if b then f n ∷ [] else [])
one_back f p n true is = rw is refl
one_back f p n false is = rw is refl

more_back : (f : ℕ → Spot) (p : ℕ → Bool) (n : ℕ)
    → reverse (map f (filter p (below (suc n))))
    ≡ (if p n then f n ∷ [] else []) ++ reverse (map f (filter p (below n)))
more_back f p n =
    ap (λ (ks : List ℕ). reverse (map f (filter p ks))) (ap below (sym (add-one n)) ∙ below-next n)
    ∙ (ap (λ (ks : List ℕ). reverse (map f ks)) (filter-append p (below n) (n ∷ []))
    ∙ (ap reverse (map-append f (filter p (below n)) (filter p (n ∷ [])))
    ∙ (reverse-append (map f (filter p (below n))) (map f (filter p (n ∷ [])))
    ∙ ap (λ (x : List Spot). x ++ reverse (map f (filter p (below n)))) (one_back f p n (p n) refl))))

-- what a run shows of a slot is the slot's
pub record IsSlot (run : RunSlots) (t : ℕ) (s : RunSlot) : Type 0 where
  pub number : s.begun.number ≡ t
  pub entries : (k : ℕ) → entry_at_spot run (spot_at t k) ≡ entry_in_slot k s

rank_back-slot : (run : RunSlots) (t : ℕ) (s : RunSlot) (rank n : ℕ) → IsSlot run t s
    → reverse (spots_in s (filter (λ k. rank_of_entry (entry_in_slot k s) == rank) (below n))) ≡ rank_back run t rank n
rank_back-slot run t s rank zero is = refl
rank_back-slot run t s rank (suc n) is =
    more_back (λ k. node_spot k s) (λ k. rank_of_entry (entry_in_slot k s) == rank) n
    ∙ (ap (λ (e : Entry). (if rank_of_entry e == rank then node_spot n s ∷ [] else [])
    ++ reverse (spots_in s (filter (λ k. rank_of_entry (entry_in_slot k s) == rank) (below n)))) (sym (is.entries n))
    ∙ (ap (λ (number : ℕ). (if rank_of_entry (entry_at_spot run (spot_at t n)) ==
    rank then spot_at number n ∷ [] else [])
    ++ reverse (spots_in s (filter (λ k. rank_of_entry (entry_in_slot k s) == rank) (below n)))) is.number
    ∙ ap (λ (rest : List Spot). of_rank run rank (spot_at t n) ++ rest) (rank_back-slot run t s rank n is)))

three_back : (a b c : List Spot) → reverse (a ++ (b ++ (c ++ []))) ≡ reverse c ++ (reverse b ++ reverse a)
three_back a b c =
    reverse-append a (b ++ (c ++ []))
    ∙ (ap (λ (x : List Spot). x ++ reverse a) (reverse-append b (c ++ []))
    ∙ (ap (λ (x : List Spot). (reverse x ++ reverse b) ++ reverse a) (append-nil c)
    ∙ append_assoc (reverse c) (reverse b) (reverse a)))

slot_back-slot : (run : RunSlots) (t : ℕ) (s : RunSlot) (nodes : ℕ) → IsSlot run t s → nodes ≡ length s.begun.list.slots
    → spots_back_in s ≡ slot_back run nodes t
slot_back-slot run t s nodes is same =
    let back : (rank : ℕ) → reverse (spots_of_rank s rank) ≡ rank_back run t rank nodes =
    λ rank. rank_back-slot run t s rank (length s.begun.list.slots) is ∙ ap (rank_back run t rank) (sym same) in
    three_back (spots_of_rank s 0) (spots_of_rank s 1) (spots_of_rank s 2)
    ∙ (ap (λ (x : List Spot). x ++ (reverse (spots_of_rank s 1) ++ reverse (spots_of_rank s 0))) (back 2)
    ∙ (ap (λ (x : List Spot). rank_back run t 2 nodes ++ (x ++ reverse (spots_of_rank s 0))) (back 1)
    ∙ ap (λ (x : List Spot). rank_back run t 2 nodes ++ (rank_back run t 1 nodes ++ x)) (back 0)))

-- The entries of a run, slot by slot.
pub spots_back-next : (list : Medl) (script : Script) (history : History) (t nodes : ℕ) → t < length history
    → nodes ≡ length list.slots
    → spots_back (slots_up_to (slots_of_run list script history) (suc t))
    ≡ slot_back (slots_of_run list script history) nodes t
    ++ spots_back (slots_up_to (slots_of_run list script history) t)
spots_back-next list script history t nodes within same =
    let run = slots_of_run list script history in
    let here = row_at history t within in
    let s = slot_of_run list script (rows_before history t) here.row in
    let next : slots_up_to run (suc t) ≡ s ∷ slots_up_to run t =
    slots_up_to-rows list script history (suc t)
    ∙ (ap (slots_of_run list script) here.next
    ∙ ap (λ (before : RunSlots). s ∷ before) (sym (slots_up_to-rows list script history t))) in
    let is : IsSlot run t s = record {
      number = here.count;
      entries = λ k. ap (newest_entry_of k) next;
    } in
    ap spots_back next
    ∙ (flat_map-cons spots_back_in s (slots_up_to run t)
    ∙ ap (λ (x : List Spot). x ++ spots_back (slots_up_to run t)) (slot_back-slot run t s nodes is same))
