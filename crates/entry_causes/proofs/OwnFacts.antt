-- What nodes judged since their own entries, one slot more at a time.
use Rattle.std.proofs.Common.{◌≡◌, ℕ, zero, suc, ◌+◌, ◌-◌, ◌<◌, ◌≤◌, Bool, true}
use Rattle.std.proofs.Common.{false, cond, not, ◌||◌, List, [], ◌∷◌, ◌++◌}
use Rattle.std.proofs.Common.{Some, length, filter, map, take, refl, ap, sym, ◌∙◌, arith, inl, inr}
use Rattle.std.proofs.lemmas.Bool.{cases_eq, eq-eqb, ne_eqb}
use Rattle.std.proofs.lemmas.List.{append-nil}
use Rattle.std.specs.List.{flat_map}
use Rattle.std.specs.Prelude.{◌==◌, is_some}
use Rattle.causes.specs.Listening.{listening_sources}
use Rattle.causes.specs.Members.{newest_entry_of}
use Rattle.causes.specs.Missed.{missed_cause}
use Rattle.causes.specs.OwnSlots.{lacked_by, lacked_in, oldest, start_again}
use Rattle.causes.specs.RunSlots.{RunSlot, RunSlots, doubted_in, entry_in_slot, is_judged_so, judged_so, node_spot}
use Rattle.causes.specs.RunSlots.{slots_to, spots_at_node}
use Rattle.causes.specs.Sources as causes
use Rattle.causes.specs.Sources.{only_entries, with_sources}
use Rattle.causes.specs.declared.cause.Spot.{Spot}
use Rattle.entry_causes.proofs.Past.{slots_to-past, spot-in}
use Rattle.entry_causes.proofs.Since.{take-up}
use Rattle.entry_causes.specs.Told.{settled_in}
use Rattle.entry_causes.proofs.FromBelow.{past_slots_in-down, past_slots_in-next, past_slots_in-zero, slot_in-number}
use Rattle.run_rows.specs.Rows.{past_slots_in, slot_in}
use Rattle.ttp_base.specs.NodeSet.{has_node}
use Rattle.ttp_world.specs.Acknowledgement.{is_correct}
use Rattle.ttp_world.specs.declared.medl.Medl.{Medl}
use Rattle.ttp_world.specs.declared.node.Entry.TheVariants as entry
use Rattle.ttp_world.specs.declared.node.Verdict.{Verdict}
use Rattle.ttp_world.specs.declared.node.Verdict.TheVariants as verdict
use Rattle.ttp_world.specs.declared.script.Script.{Script}

-- Another start.

pub again-none : (list : Medl) (script : Script) (behind k : ℕ) → behind ≡ 0
    → start_again k (past_slots_in list script behind) ≡ []
again-none list script behind k none =
    ap (start_again k) (ap (past_slots_in list script) none ∙ past_slots_in-zero list script)

again-by : (listens : Bool) (k : ℕ) (spot : Spot) (sources : causes.Sources)
    → not (length sources.entries == 0) ≡ listens
    → cond (length sources.entries == 0) [] (spot ∷ []) ≡ cond listens (spot ∷ []) []
again-by listens k spot sources is =
    turned (length sources.entries == 0) spot ∙ ap (λ (b : Bool). cond b (spot ∷ []) []) is
  where
    turned : (b : Bool) (spot : Spot) → cond b [] (spot ∷ []) ≡ cond (not b) (spot ∷ []) []
    turned true spot = refl
    turned false spot = refl

pub again-down : (list : Medl) (script : Script) (behind k : ℕ) (listens : Bool) → 0 < behind
    → not (length (listening_sources k (past_slots_in list script (behind - 1))).entries == 0) ≡ listens
    → start_again k (past_slots_in list script behind) ≡ cond listens (record { slot = behind - 1; node = k } ∷ []) []
again-down list script behind k listens some is =
    ap (start_again k) (past_slots_in-down list script behind some)
    ∙ again-by listens k (node_spot k (slot_in list script (behind - 1)))
    (listening_sources k (past_slots_in list script (behind - 1))) is
    ∙ ap (λ (spot : Spot). cond listens (spot ∷ []) []) (spot-in list script (behind - 1) k)

-- Entries that settled a doubt.

pub settled-cons : (k : ℕ) (s : RunSlot) (rest : RunSlots)
    → only_entries (settled_in k (s ∷ rest))
    ≡ with_sources (only_entries (settled_in k (s ∷ []))) (only_entries (settled_in k rest))
settled-cons k s rest =
    ap only_entries
    (by_tests (is_judged_so is_correct (entry_in_slot k s)) k s (judged_so is_correct k rest))
  where
    by_doubt : (doubts : Bool) (k : ℕ) (s : RunSlot) (rest : RunSlots)
        → spots_at_node k (cond doubts (s ∷ rest) rest)
        ≡ spots_at_node k (cond doubts (s ∷ []) []) ++ spots_at_node k rest
    by_doubt true k s rest = refl
    by_doubt false k s rest = refl

    by_tests : (judged : Bool) (k : ℕ) (s : RunSlot) (rest : RunSlots)
        → spots_at_node k (filter (λ u. is_some (doubted_in k u)) (cond judged (s ∷ rest) rest))
        ≡ spots_at_node k (filter (λ u. is_some (doubted_in k u)) (cond judged (s ∷ []) []))
        ++ spots_at_node k (filter (λ u. is_some (doubted_in k u)) rest)
    by_tests false k s rest = refl
    by_tests true k s rest = by_doubt (is_some (doubted_in k s)) k s (filter (λ u. is_some (doubted_in k u)) rest)

-- whether an entry is one of them
pub settled-by : (k : ℕ) (s : RunSlot) (judged doubts : Bool) → is_judged_so is_correct (entry_in_slot k s) ≡ judged
    → is_some (doubted_in k s) ≡ doubts
    → settled_in k (s ∷ []) ≡ cond judged (cond doubts (node_spot k s ∷ []) []) []
settled-by k s judged doubts j d =
    ap (λ (b : Bool). spots_at_node k (filter (λ u. is_some (doubted_in k u)) (cond b (s ∷ []) []))) j
    ∙ by_test judged k s doubts d
  where
    by_doubt : (doubts : Bool) (k : ℕ) (s : RunSlot)
        → spots_at_node k (cond doubts (s ∷ []) []) ≡ cond doubts (node_spot k s ∷ []) []
    by_doubt true k s = refl
    by_doubt false k s = refl

    by_test : (judged : Bool) (k : ℕ) (s : RunSlot) (doubts : Bool) → is_some (doubted_in k s) ≡ doubts
        → spots_at_node k (filter (λ u. is_some (doubted_in k u)) (cond judged (s ∷ []) []))
        ≡ cond judged (cond doubts (node_spot k s ∷ []) []) []
    by_test false k s doubts d = refl
    by_test true k s doubts d = ap (λ (b : Bool). spots_at_node k (cond b (s ∷ []) [])) d ∙ by_doubt doubts k s

-- Sets that are gathered from some slots.

pub told-cons : (f : RunSlot → List ℕ) (p : Verdict → Bool) (k : ℕ) (s : RunSlot) (rest : RunSlots)
    → flat_map f (judged_so p k (s ∷ rest)) ≡ flat_map f (judged_so p k (s ∷ [])) ++ flat_map f (judged_so p k rest)
told-cons f p k s rest = by_test (is_judged_so p (entry_in_slot k s)) f s (judged_so p k rest)
  where
    by_test : (judged : Bool) (f : RunSlot → List ℕ) (s : RunSlot) (rest : RunSlots)
        → flat_map f (cond judged (s ∷ rest) rest) ≡ flat_map f (cond judged (s ∷ []) []) ++ flat_map f rest
    by_test true f s rest = ap (λ (xs : List ℕ). xs ++ flat_map f rest) (sym (append-nil (f s)))
    by_test false f s rest = refl

pub peers-cons : (f : RunSlot → ℕ) (p : Verdict → Bool) (k : ℕ) (s : RunSlot) (rest : RunSlots)
    → map f (judged_so p k (s ∷ rest)) ≡ map f (judged_so p k (s ∷ [])) ++ map f (judged_so p k rest)
peers-cons f p k s rest = by_test (is_judged_so p (entry_in_slot k s)) f s (judged_so p k rest)
  where
    by_test : (judged : Bool) (f : RunSlot → ℕ) (s : RunSlot) (rest : RunSlots)
        → map f (cond judged (s ∷ rest) rest) ≡ map f (cond judged (s ∷ []) []) ++ map f rest
    by_test true f s rest = refl
    by_test false f s rest = refl

-- one of a kind or not
pub judged-is : (p : Verdict → Bool) (k : ℕ) (s : RunSlot) (judged : Bool) → is_judged_so p (entry_in_slot k s) ≡ judged
    → judged_so p k (s ∷ []) ≡ cond judged (s ∷ []) []
judged-is p k s judged is = ap (λ (b : Bool). cond b (s ∷ []) []) is

-- The first of a kind.

pub first-none : (p : Verdict → Bool) (list : Medl) (script : Script) (at from k : ℕ) → from ≤ at
    → judged_so p k (take (at - from) (past_slots_in list script at)) ≡ []
    → is_judged_so p (entry_in_slot k (slot_in list script at)) ≡ false
    → judged_so p k (take (at + 1 - from) (past_slots_in list script (at + 1))) ≡ []
first-none p list script at from k within none other =
    ap (judged_so p k) (take-up list script at from within)
    ∙ ap (λ (b : Bool).
    cond b (slot_in list script at ∷ judged_so p k (take (at - from) (past_slots_in list script at)))
    (judged_so p k (take (at - from) (past_slots_in list script at)))) other
    ∙ none

first-here : (p : Verdict → Bool) (list : Medl) (script : Script) (at from k : ℕ) → from ≤ at
    → judged_so p k (take (at - from) (past_slots_in list script at)) ≡ []
    → is_judged_so p (entry_in_slot k (slot_in list script at)) ≡ true
    → judged_so p k (take (at + 1 - from) (past_slots_in list script (at + 1))) ≡ slot_in list script at ∷ []
first-here p list script at from k within none is =
    ap (judged_so p k) (take-up list script at from within)
    ∙ ap (λ (b : Bool).
    cond b (slot_in list script at ∷ judged_so p k (take (at - from) (past_slots_in list script at)))
    (judged_so p k (take (at - from) (past_slots_in list script at)))) is
    ∙ ap (λ (slots : RunSlots). slot_in list script at ∷ slots) none

oldest-some : (judged : Bool) (s first : RunSlot) (slots : RunSlots) → oldest slots ≡ Some first
    → oldest (cond judged (s ∷ slots) slots) ≡ Some first
oldest-some true s first [] is = absurd cc
oldest-some true s first (u ∷ slots) is = is
oldest-some false s first slots is = is

oldest-later : (p : Verdict → Bool) (list : Medl) (script : Script) (from k d at : ℕ) (first : RunSlot) → from ≤ at
    → oldest (judged_so p k (take (at - from) (past_slots_in list script at))) ≡ Some first
    → oldest (judged_so p k (take (d + at - from) (past_slots_in list script (d + at)))) ≡ Some first
oldest-later p list script from k zero at first within is =
    let same : at ≡ 0 + at = omega arith in
    (λ i. oldest (judged_so p k (take (sym same i - from) (past_slots_in list script (sym same i))))) ∙ is
oldest-later p list script from k (suc d) at first within is =
    let next : suc d + at ≡ d + at + 1 = omega arith in
    let some : from ≤ d + at = omega (arith, within) in
    (λ i. oldest (judged_so p k (take (next i - from) (past_slots_in list script (next i)))))
    ∙ ap (λ (slots : RunSlots). oldest (judged_so p k slots)) (take-up list script (d + at) from some)
    ∙ oldest-some (is_judged_so p (entry_in_slot k (slot_in list script (d + at)))) (slot_in list script (d + at)) first
    (judged_so p k (take (d + at - from) (past_slots_in list script (d + at))))
    (oldest-later p list script from k d at first within is)

pub oldest-is : (p : Verdict → Bool) (list : Medl) (script : Script) (before at from k : ℕ) → from ≤ at → at < before
    → judged_so p k (take (at - from) (past_slots_in list script at)) ≡ []
    → is_judged_so p (entry_in_slot k (slot_in list script at)) ≡ true
    → oldest (judged_so p k (take (before - from) (past_slots_in list script before))) ≡ Some (slot_in list script at)
oldest-is p list script before at from k within less none is =
    let count : before ≡ (before - (at + 1)) + (at + 1) = omega (arith, less) in
    (λ i. oldest (judged_so p k (take (count i - from) (past_slots_in list script (count i)))))
    ∙ oldest-later p list script from k (before - (at + 1)) (at + 1) (slot_in list script at) (omega (arith, within))
    (ap oldest (first-here p list script at from k within none is))

-- An own entry.

pub newest_entry-none : (list : Medl) (script : Script) (behind k : ℕ) → behind ≡ 0
    → newest_entry_of k (past_slots_in list script behind) ≡ entry.Off
newest_entry-none list script behind k none =
    ap (newest_entry_of k) (ap (past_slots_in list script) none ∙ past_slots_in-zero list script)

pub newest_entry-down : (list : Medl) (script : Script) (behind k : ℕ) → 0 < behind
    → newest_entry_of k (past_slots_in list script behind) ≡ entry_in_slot k (slot_in list script (behind - 1))
newest_entry-down list script behind k some = ap (newest_entry_of k) (past_slots_in-down list script behind some)

-- What senders hold, by the slots up to each.

pub lacked-at : (list : Medl) (script : Script) (before slot k : ℕ) → slot < before
    → lacked_in k (slots_to (past_slots_in list script before) (slot_in list script slot).begun.number)
    ≡ lacked_by k (missed_cause k (slot_in list script slot) (past_slots_in list script slot) verdict.Incorrect).because
lacked-at list script before slot k less =
    ap (λ (n : ℕ). lacked_in k (slots_to (past_slots_in list script before) n)) (slot_in-number list script slot)
    ∙ ap (lacked_in k) (slots_to-past list script before slot less ∙ past_slots_in-next list script slot)

pub told-same : (f g : RunSlot → List ℕ) (p : Verdict → Bool) (k : ℕ) (s : RunSlot) → f s ≡ g s
    → flat_map f (judged_so p k (s ∷ [])) ≡ flat_map g (judged_so p k (s ∷ []))
told-same f g p k s is = by_test (is_judged_so p (entry_in_slot k s)) f g s is
  where
    by_test : (judged : Bool) (f g : RunSlot → List ℕ) (s : RunSlot) → f s ≡ g s
        → flat_map f (cond judged (s ∷ []) []) ≡ flat_map g (cond judged (s ∷ []) [])
    by_test true f g s is = ap (λ (xs : List ℕ). xs ++ []) is
    by_test false f g s is = refl

-- Tests in either order.

pub sieves-swap : (p q : RunSlot → Bool) (slots : RunSlots) → filter q (filter p slots) ≡ filter p (filter q slots)
sieves-swap p q [] = refl
sieves-swap p q (s ∷ slots) =
    passes (p s) q s (filter p slots)
    ∙ ap (λ (rest : RunSlots). cond (p s) (cond (q s) (s ∷ rest) rest) rest) (sieves-swap p q slots)
    ∙ turned (p s) (q s) s (filter p (filter q slots))
    ∙ sym (passes (q s) p s (filter q slots))
  where
    passes : (a : Bool) (q : RunSlot → Bool) (s : RunSlot) (rest : RunSlots)
        → filter q (cond a (s ∷ rest) rest) ≡ cond a (cond (q s) (s ∷ filter q rest) (filter q rest)) (filter q rest)
    passes true q s rest = refl
    passes false q s rest = refl

    turned : (a b : Bool) (s : RunSlot) (rest : RunSlots)
        → cond a (cond b (s ∷ rest) rest) rest ≡ cond b (cond a (s ∷ rest) rest) rest
    turned true true s rest = refl
    turned true false s rest = refl
    turned false true s rest = refl
    turned false false s rest = refl

-- A set of one.

pub has_node-one : (k j : ℕ) → has_node (k ∷ []) j ≡ (j == k)
has_node-one k j = elim (cases_eq j k) [
  | inl same ↦ ap (λ (b : Bool). b || false) (eq-eqb k j (sym same)) ∙ sym (eq-eqb j k same)
  | inr other ↦ ap (λ (b : Bool). b || false) (ne_eqb k j (λ turned. other (sym turned))) ∙ sym (ne_eqb j k other)
]

pub has_node-other : (k j n : ℕ) → j < n → n ≤ k → has_node (k ∷ []) j ≡ false
has_node-other k j n less past = has_node-one k j ∙ ne_eqb j k (λ same. omega (arith, less, past, same))
