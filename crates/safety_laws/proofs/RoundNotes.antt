-- What a sound node notes in a slot of a plan, and how many deviations it has noted in a round.
use Rattle.safety_laws.proofs.Words.{◌≡◌, ℕ, suc, ◌+◌, ◌<◌, ◌≤◌, ℤ, Bool, true, false, cond, ◌&&◌, List, [], ◌∷◌}
use Rattle.safety_laws.proofs.Words.{length, Some, None, refl, ap, sym, subst, ◌∙◌, mod-lt, arith, ◌==◌, option_to_list}
use Rattle.safety_laws.proofs.Words.{false_from_ne_true, has_node, Medl, Entry, Script, notes_in, stint_notes, History}
use Rattle.safety_laws.proofs.Words.{entry_of, diary_of, continues_stint, Place, next_place, stint_place, ClusterStart}
use Rattle.safety_laws.proofs.Words.{plan_at, TellsOf, place_continued, notes_anew, notes_more, first_slot_first}
use Rattle.safety_laws.proofs.Words.{later_slot_later, FaultPlan, sender, enters, fate_of, is_good_slot, is_measured}
use Rattle.safety_laws.proofs.Words.{tally, FollowsPlan, planned_place, sound-from, place-sender, IsSoundIn}
use Rattle.safety_laws.proofs.Words.{NotesNothing, NotedInSlot, IsTight}
use Rattle.std.proofs.lemmas.List.{length-append}
use Rattle.ttp_world.specs.declared.node.Entry.TheVariants as entry
use Rattle.safety_laws.proofs.FromBelow.{begun_place, told_goes as goes-telling}

-- One entry.

pub goes-silent : (e : Entry) → NotesNothing e → continues_stint e ≡ true
goes-silent (entry.Judged sender v deviation) none = refl
goes-silent _ none = absurd none

one-note : (sync : Bool) (d : ℤ) → length (cond sync (d ∷ []) []) ≡ cond sync 1 0
one-note true d = refl
one-note false d = refl

no-note : (sync : Bool) (none : List ℤ) → cond sync none none ≡ none
no-note true none = refl
no-note false none = refl

one-telling : (list : Medl) (script : Script) (history : History) (p k : ℕ) (place : Place) (e : Entry)
    → TellsOf list script history p k e → length (notes_in list place e) ≡ cond (plan_at list place.slot).sync 1 0
one-telling list script history p k place (entry.Sent message) tells = one-note (plan_at list place.slot).sync _
one-telling list script history p k place (entry.Judged sender v deviation) tells =
    let sync = (plan_at list place.slot).sync in
    subst (λ b. length (cond sync (option_to_list (cond b (Some deviation) None)) []) ≡ cond sync 1 0) (sym tells.0)
    (one-note sync deviation)
one-telling list script history p k place _ tells = absurd tells

pub none-silent : (list : Medl) (place : Place) (e : Entry) → NotesNothing e → notes_in list place e ≡ []
none-silent list place (entry.Judged sender v deviation) none =
    let sync = (plan_at list place.slot).sync in
    subst (λ b. cond sync (option_to_list (cond b (Some deviation) None)) [] ≡ []) (sym none) (no-note sync [])
none-silent list place _ none = absurd none

-- One slot of a plan.

pub sender-in : (list : Medl) (script : Script) (start : ClusterStart) (plan : FaultPlan) (slot : ℕ)
    → FollowsPlan list script start plan → sender plan slot < length list.slots
sender-in list script start plan slot follows =
    let less : sender plan slot < plan.nodes = mod-lt (plan.starter + slot) (omega (arith, follows.good.count.0)) in
    omega (arith, less, follows.nodes)

pub place-slot : (list : Medl) (script : Script) (start : ClusterStart) (plan : FaultPlan) (slot : ℕ)
    → FollowsPlan list script start plan → (planned_place list plan slot).slot ≡ sender plan slot
place-slot list script start plan slot follows = place-sender list plan slot follows.nodes follows.good.starter.0

-- the list measures clocks in a slot where the plan does
sync-planned : (list : Medl) (script : Script) (start : ClusterStart) (plan : FaultPlan) (slot : ℕ)
    → FollowsPlan list script start plan
    → (plan_at list (planned_place list plan slot).slot).sync ≡ has_node plan.measured (sender plan slot)
sync-planned list script start plan slot follows =
    ap (λ m. (plan_at list m).sync) (place-slot list script start plan slot follows)
    ∙ sym (follows.measured (sender plan slot) (sender-in list script start plan slot follows))

goes-on : (list : Medl) (script : Script) (plan : FaultPlan) (slot k : ℕ) (row : List Entry) (history : History)
    (good : Bool) → is_good_slot plan slot ≡ good → NotedInSlot list script plan slot row history
    → IsSoundIn list plan slot k → enters plan slot k ≡ false → continues_stint (entry_of row k) ≡ true
goes-on list script plan slot k row history true is noted p none =
    goes-telling list script history (sender plan slot) k (entry_of row k) (noted.good k is p none)
goes-on list script plan slot k row history false is noted p none = goes-silent (entry_of row k) (noted.other k is p)

-- a sound node goes on that does not enter
pub sound-goes : (list : Medl) (script : Script) (plan : FaultPlan) (slot k : ℕ) (row : List Entry) (history : History)
    → NotedInSlot list script plan slot row history → IsSoundIn list plan slot k → enters plan slot k ≡ false
    → continues_stint (entry_of row k) ≡ true
sound-goes list script plan slot k row history =
    goes-on list script plan slot k row history (is_good_slot plan slot) refl

new-notes : (list : Medl) (script : Script) (start : ClusterStart) (plan : FaultPlan) (slot k : ℕ) (row : List Entry)
    (history : History) (good : Bool) → is_good_slot plan slot ≡ good → FollowsPlan list script start plan
    → NotedInSlot list script plan slot row history → IsSoundIn list plan slot k → enters plan slot k ≡ false
    → length (notes_in list (planned_place list plan slot) (entry_of row k)) ≡ cond (is_measured plan slot) 1 0
new-notes list script start plan slot k row history true is follows noted p none =
    one-telling list script history (sender plan slot) k (planned_place list plan slot) (entry_of row k)
    (noted.good k is p none) ∙ ap (λ b. cond b 1 0) (sync-planned list script start plan slot follows)
    ∙ ap (λ b. cond (b && has_node plan.measured (sender plan slot)) 1 0) (sym is)
new-notes list script start plan slot k row history false is follows noted p none =
    ap length (none-silent list (planned_place list plan slot) (entry_of row k) (noted.other k is p))
    ∙ ap (λ b. cond (b && has_node plan.measured (sender plan slot)) 1 0) (sym is)

-- The index of a slot in its round.

pub index-next : (list : Medl) (script : Script) (start : ClusterStart) (plan : FaultPlan) (slot : ℕ) (last : Bool)
    → (suc (planned_place list plan slot).slot == length list.slots) ≡ last → FollowsPlan list script start plan
    → sender plan (suc slot) ≡ cond last 0 (suc (sender plan slot))
index-next list script start plan slot last is follows =
    sym (place-slot list script start plan (suc slot) follows) ∙ next last is
    ∙ ap (λ m. cond last 0 (suc m)) (place-slot list script start plan slot follows)
  where
    next : (b : Bool) → (suc (planned_place list plan slot).slot == length list.slots) ≡ b
        → (planned_place list plan (suc slot)).slot ≡ cond b 0 (suc (planned_place list plan slot).slot)
    next true ends = rw ends
    next false inside =
        let more : (planned_place list plan slot).slot + 1 ≡ suc (planned_place list plan slot).slot = omega arith in
        rw inside more

-- After a slot of the plan each sound node is at the slot's place, and it has noted one deviation for each measured
-- slot of its round, if that began after the start and it did not enter in it.
pub record Counted (list : Medl) (plan : FaultPlan) (slot : ℕ) (history : History) : Type 0 where
  pub places : (k : ℕ) → IsSoundIn list plan slot k
      → stint_place list k (diary_of history k) ≡ planned_place list plan slot
  pub notes : (k from : ℕ) → IsSoundIn list plan slot k → 0 < from → from + sender plan slot ≡ slot
      → ((turn : ℕ) → from ≤ turn → turn ≤ slot → enters plan turn k ≡ false)
      → length (stint_notes list k (diary_of history k)) ≡ tally (is_measured plan) from (suc (sender plan slot))

pub counted-start : (list : Medl) (script : Script) (start : ClusterStart) (plan : FaultPlan) (row : List Entry)
    (history : History) → ((k : ℕ) → IsSoundIn list plan 0 k
    → stint_place list k (diary_of (row ∷ history) k) ≡ planned_place list plan 0) → Counted list plan 0 (row ∷ history)
counted-start list script start plan row history places =
    record { places = places; notes = λ k from p later is never. absurd (omega (arith, later, is)) }

place-next : (list : Medl) (script : Script) (plan : FaultPlan) (slot k : ℕ) (row : List Entry) (history : History)
    → NotedInSlot list script plan (suc slot) row history → IsSoundIn list plan (suc slot) k
    → enters plan (suc slot) k ≡ false → stint_place list k (diary_of history k) ≡ planned_place list plan slot
    → stint_place list k (diary_of (row ∷ history) k) ≡ planned_place list plan (suc slot)
place-next list script plan slot k row history noted p none is =
    place_continued list k (diary_of history k) (entry_of row k)
    (sound-goes list script plan (suc slot) k row history noted p none) ∙ ap (next_place list) is

-- a node that is sound after the next slot, and does not enter in it, is so after this one
pub sound-back : (list : Medl) (plan : FaultPlan) (slot k : ℕ) → enters plan (suc slot) k ≡ false
    → IsSoundIn list plan (suc slot) k → IsSoundIn list plan slot k
sound-back list plan slot k none p = (p.0, sound-from plan (suc slot) k (fate_of plan slot k) none p.1)

plus-none : (n : ℕ) → n + 0 ≡ n
plus-none n = omega arith

pub counted-next : (list : Medl) (script : Script) (start : ClusterStart) (plan : FaultPlan) (slot : ℕ)
    (row : List Entry)
    (history : History) → FollowsPlan list script start plan → NotedInSlot list script plan (suc slot) row history
    → Counted list plan slot history → Counted list plan (suc slot) (row ∷ history)
counted-next list script start plan slot row history follows noted before = record {
  places = places;
  notes = λ k from p later is never.
      notes k from p later is never (suc (planned_place list plan slot).slot == length list.slots) refl;
}
  where
    places : (k : ℕ) → IsSoundIn list plan (suc slot) k
        → stint_place list k (diary_of (row ∷ history) k) ≡ planned_place list plan (suc slot)
    places k p = by (enters plan (suc slot) k) refl
      where
        by : (entered : Bool) → enters plan (suc slot) k ≡ entered
            → stint_place list k (diary_of (row ∷ history) k) ≡ planned_place list plan (suc slot)
        by true enter =
            begun_place list script history (sender plan (suc slot)) k (planned_place list plan (suc slot))
            (diary_of history k) (entry_of row k) (noted.begins k p.0 enter)
        by false none =
            place-next list script plan slot k row history noted p none
            (before.places k (sound-back list plan slot k none p))

    fresh : (k : ℕ) → IsSoundIn list plan (suc slot) k → enters plan (suc slot) k ≡ false
        → length (notes_in list (planned_place list plan (suc slot)) (entry_of row k))
        ≡ cond (is_measured plan (suc slot)) 1 0
    fresh k p none =
        new-notes list script start plan (suc slot) k row history
        (is_good_slot plan (suc slot)) refl follows noted p none

    notes : (k from : ℕ) → IsSoundIn list plan (suc slot) k → 0 < from → from + sender plan (suc slot) ≡ suc slot
        → ((turn : ℕ) → from ≤ turn → turn ≤ suc slot → enters plan turn k ≡ false)
        → (last : Bool) → (suc (planned_place list plan slot).slot == length list.slots) ≡ last
        → length (stint_notes list k (diary_of (row ∷ history) k))
        ≡ tally (is_measured plan) from (suc (sender plan (suc slot)))
    notes k from p later is never true ends =
        let index : sender plan (suc slot) ≡ 0 = index-next list script start plan slot true ends follows in
        let here : from + 0 ≡ suc slot = omega (arith, is, index) in
        ap length (notes_anew list k (diary_of history k) (entry_of row k) (planned_place list plan (suc slot))
        (places k p) (first_slot_first (planned_place list plan (suc slot)) (entry_of row k)
        (place-slot list script start plan (suc slot) follows ∙ index)))
        ∙ fresh k p (never (suc slot) (omega (arith, is)) (omega arith))
        ∙ ap (λ t. cond (is_measured plan t) 1 0) (sym here) ∙ sym (plus-none (cond (is_measured plan (from + 0)) 1 0))
        ∙ ap (λ m. tally (is_measured plan) from (suc m)) (sym index)
    notes k from p later is never false inside =
        let index : sender plan (suc slot) ≡ suc (sender plan slot) =
        index-next list script start plan slot false inside follows in
        let here : from + suc (sender plan slot) ≡ suc slot = omega (arith, is, index) in
        let none : enters plan (suc slot) k ≡ false = never (suc slot) (omega (arith, is)) (omega arith) in
        ap length (notes_more list k (diary_of history k) (entry_of row k) (planned_place list plan (suc slot))
        (places k p) (later_slot_later (planned_place list plan (suc slot)) (entry_of row k) (sender plan slot)
        (place-slot list script start plan (suc slot) follows ∙ index)
        (sound-goes list script plan (suc slot) k row history noted p none)))
        ∙ length-append (notes_in list (planned_place list plan (suc slot)) (entry_of row k))
        (stint_notes list k (diary_of history k)) ∙ (λ i. fresh k p none i
        + before.notes k from (sound-back list plan slot k none p) later (omega (arith, here))
        (λ turn after to. never turn after (omega (arith, to))) i)
        ∙ ap (λ t. cond (is_measured plan t) 1 0 + tally (is_measured plan) from (suc (sender plan slot))) (sym here)
        ∙ ap (λ m. tally (is_measured plan) from (suc m)) (sym index)

-- A tight slot.

-- no node enters in it
pub tight-stays : (plan : FaultPlan) (slot k : ℕ) → IsTight plan slot → enters plan slot k ≡ false
tight-stays plan slot k tight = false_from_ne_true (enters plan slot k) (λ enter.
    let soon = tight slot k (omega arith) enter in
    omega (arith, soon))

-- and the slots before it in its round are tight too
pub tight-back : (plan : FaultPlan) (slot : ℕ) → sender plan (suc slot) ≡ suc (sender plan slot)
    → IsTight plan (suc slot)
    → IsTight plan slot
tight-back plan slot index tight turn k to enter =
    let soon = tight turn k (omega (arith, to)) enter in
    omega (arith, soon, index)
