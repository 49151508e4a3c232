-- The entries of a node's newest whole round that gave no clock, and the join that began its stint.
use Rattle.std.proofs.Common.{◌≡◌, ℕ, suc, ◌+◌, ◌-◌, ◌<◌, ◌≤◌, Bool, true, false}
use Rattle.std.proofs.Common.{cond, ◌&&◌, List, [], ◌∷◌, length, refl}
use Rattle.std.proofs.Common.{take, drop, ap, sym, ◌∙◌, arith, inl, inr}
use Rattle.std.proofs.lemmas.Bool.{cases_lt}
use Rattle.std.proofs.lemmas.List.{take_all}
use Rattle.std.specs.Prelude.{None, Option, Some, filter, nat_le}
use Rattle.causes.specs.Clocks.{is_unread, stint_join, unread_before, unread_entries, was_averaged}
use Rattle.causes.specs.Listening.{join_cause}
use Rattle.causes.specs.RunSlots.{RunSlot, RunSlots, back_to, entry_in_slot, is_joined}
use Rattle.causes.specs.RunSlots.{node_spot, place_of_node, spots_at_node}
use Rattle.causes.specs.Sources.{has_sources, sources_of}
use Rattle.causes.specs.declared.cause.Spot.{Spot}
use Rattle.entry_causes.proofs.Past.{drop-past, spot-in, take-down, take-none}
use Rattle.entry_causes.specs.Notes.{unread_in}
use Rattle.entry_causes.proofs.FromBelow.{length-past_slots_in, past_slots_in-down, past_slots_in-next}
use Rattle.entry_causes.proofs.FromBelow.{past_slots_in-suc, past_slots_in-zero, slot_in-list, slot_in-number}
use Rattle.run_rows.specs.Rows.{past_slots_in, slot_in}
use Rattle.ttp_world.specs.Diary.{begins_stint}
use Rattle.ttp_world.specs.declared.medl.Medl.{Medl}
use Rattle.ttp_world.specs.declared.script.Script.{Script}

-- One slot after another.

spots_if : (x : ℕ) (s : RunSlot) (keeps : Bool) (rest : RunSlots)
    → spots_at_node x (cond keeps (s ∷ rest) rest)
    ≡ cond keeps (node_spot x s ∷ spots_at_node x rest) (spots_at_node x rest)
spots_if x s true rest = refl
spots_if x s false rest = refl

unread-by : (list : Medl) (script : Script) (x stint at from : ℕ) (keeps : Bool) → from < at
    → keeps ≡ (nat_le stint (at - 1) && is_unread list (entry_in_slot x (slot_in list script (at - 1))))
    → unread_in list x stint (take (at - from) (past_slots_in list script at))
    ≡ cond keeps
    (record { slot = at - 1; node = x }
    ∷ unread_in list x stint (take (at - 1 - from) (past_slots_in list script (at - 1))))
    (unread_in list x stint (take (at - 1 - from) (past_slots_in list script (at - 1))))
unread-by list script x stint at from keeps some is =
    let s = slot_in list script (at - 1) in
    let rest = take (at - 1 - from) (past_slots_in list script (at - 1)) in
    let tells = λ (s : RunSlot). nat_le stint s.begun.number && is_unread list (entry_in_slot x s) in
    ap (unread_in list x stint) (take-down list script at from some)
    ∙ spots_if x s (tells s) (filter tells rest)
    ∙ (λ i. cond (nat_le stint (slot_in-number list script (at - 1) i) && is_unread list (entry_in_slot x s))
    (spot-in list script (at - 1) x i ∷ unread_in list x stint rest) (unread_in list x stint rest))
    ∙ ap (λ (b : Bool). cond b (record { slot = at - 1; node = x } ∷ unread_in list x stint rest)
    (unread_in list x stint rest))
    (sym is)

pub unread-in : (list : Medl) (script : Script) (x stint at from : ℕ) (keeps : Bool) → from < at
    → keeps ≡ (nat_le stint (at - 1) && is_unread list (entry_in_slot x (slot_in list script (at - 1)))) → keeps ≡ true
    → unread_in list x stint (take (at - from) (past_slots_in list script at))
    ≡ record { slot = at - 1; node = x }
    ∷ unread_in list x stint (take (at - 1 - from) (past_slots_in list script (at - 1)))
unread-in list script x stint at from keeps some is here =
    let rest = unread_in list x stint (take (at - 1 - from) (past_slots_in list script (at - 1))) in
    unread-by list script x stint at from keeps some is
    ∙ ap (λ (b : Bool). cond b (record { slot = at - 1; node = x } ∷ rest) rest) here

pub unread-out : (list : Medl) (script : Script) (x stint at from : ℕ) (keeps : Bool) → from < at
    → keeps ≡ (nat_le stint (at - 1) && is_unread list (entry_in_slot x (slot_in list script (at - 1)))) → keeps ≡ false
    → unread_in list x stint (take (at - from) (past_slots_in list script at))
    ≡ unread_in list x stint (take (at - 1 - from) (past_slots_in list script (at - 1)))
unread-out list script x stint at from keeps some is other =
    let rest = unread_in list x stint (take (at - 1 - from) (past_slots_in list script (at - 1))) in
    unread-by list script x stint at from keeps some is
    ∙ ap (λ (b : Bool). cond b (record { slot = at - 1; node = x } ∷ rest) rest) other

pub unread-none : (list : Medl) (script : Script) (x stint at from : ℕ) → at ≤ from
    → unread_in list x stint (take (at - from) (past_slots_in list script at)) ≡ []
unread-none list script x stint at from past = ap (unread_in list x stint) (take-none list script at from past)

-- The newest whole round.

round-taken : (list : Medl) (script : Script) (first n : ℕ)
    → take n (past_slots_in list script first) ≡ take (first - (first - n)) (past_slots_in list script first)
round-taken list script first n = elim (cases_lt first n) [
  | inl less ↦
      let all : first - (first - n) ≡ first = omega (arith, less) in
      take_all n (past_slots_in list script first) (omega (arith, less, length-past_slots_in list script first))
      ∙ sym (ap (λ (k : ℕ). take k (past_slots_in list script first)) all
      ∙ take_all first (past_slots_in list script first) (omega (arith, length-past_slots_in list script first)))
  | inr more ↦
      let same : n ≡ first - (first - n) = omega (arith, more) in
      ap (λ (k : ℕ). take k (past_slots_in list script first)) same
]

unread-dropped : (list : Medl) (script : Script) (slot x stint : ℕ)
    → length (back_to begins_stint x (past_slots_in list script slot)) ≡ stint
    → unread_entries x (slot_in list script slot) (past_slots_in list script slot)
    ≡ unread_before x stint (past_slots_in list script (slot + 1 - (place_of_node x (slot_in list script slot)).slot))
unread-dropped list script slot x stint is =
    let back = (place_of_node x (slot_in list script slot)).slot in
    (λ i. unread_before x (is i) (drop back (sym (past_slots_in-next list script slot) i)))
    ∙ ap (unread_before x stint) (drop-past list script (slot + 1) back)

pub unread-early : (list : Medl) (script : Script) (slot x stint back : ℕ)
    → length (back_to begins_stint x (past_slots_in list script slot)) ≡ stint
    → back ≡ (place_of_node x (slot_in list script slot)).slot → slot < back
    → unread_entries x (slot_in list script slot) (past_slots_in list script slot) ≡ []
unread-early list script slot x stint back is same early =
    let none : slot + 1 - back ≡ 0 = omega (arith, early) in
    unread-dropped list script slot x stint is
    ∙ ap (λ (m : ℕ). unread_before x stint (past_slots_in list script (slot + 1 - m))) (sym same)
    ∙ ap (λ (m : ℕ). unread_before x stint (past_slots_in list script m)) none
    ∙ ap (unread_before x stint) (past_slots_in-zero list script)

abbrev unless : Bool → List Spot → List Spot
unless averaged spots = elim averaged [ true ↦ [] | false ↦ spots ]

unread-round : (list : Medl) (script : Script) (slot x stint back : ℕ) (averaged : Bool)
    → length (back_to begins_stint x (past_slots_in list script slot)) ≡ stint
    → back ≡ (place_of_node x (slot_in list script slot)).slot → back ≤ slot
    → averaged ≡ was_averaged x (slot_in list script (slot - back))
    → unread_entries x (slot_in list script slot) (past_slots_in list script slot)
    ≡ unless averaged
    (unread_in list x stint (take (slot - back - (slot - back - length list.slots))
    (past_slots_in list script (slot - back))))
unread-round list script slot x stint back averaged is same late averages =
    let first = slot - back in
    let next : slot + 1 - back ≡ suc first = omega (arith, late) in
    unread-dropped list script slot x stint is
    ∙ ap (λ (m : ℕ). unread_before x stint (past_slots_in list script (slot + 1 - m))) (sym same)
    ∙ ap (λ (m : ℕ). unread_before x stint (past_slots_in list script m)) next
    ∙ ap (unread_before x stint) (past_slots_in-suc list script first)
    ∙ (λ i. unless (sym averages i)
    (unread_in (slot_in-list list script first i) x stint
    (take (length (slot_in-list list script first i).slots) (past_slots_in list script first))))
    ∙ ap (λ (slots : RunSlots). unless averaged (unread_in list x stint slots))
    (round-taken list script first (length list.slots))

pub unread-averaged : (list : Medl) (script : Script) (slot x stint back : ℕ) (averaged : Bool)
    → length (back_to begins_stint x (past_slots_in list script slot)) ≡ stint
    → back ≡ (place_of_node x (slot_in list script slot)).slot → back ≤ slot
    → averaged ≡ was_averaged x (slot_in list script (slot - back)) → averaged ≡ true
    → unread_entries x (slot_in list script slot) (past_slots_in list script slot) ≡ []
unread-averaged list script slot x stint back averaged is same late averages here =
    unread-round list script slot x stint back averaged is same late averages
    ∙ ap (λ (b : Bool). unless b
    (unread_in list x stint (take (slot - back - (slot - back - length list.slots))
    (past_slots_in list script (slot - back)))))
    here

pub unread-here : (list : Medl) (script : Script) (slot x stint back : ℕ) (averaged : Bool)
    → length (back_to begins_stint x (past_slots_in list script slot)) ≡ stint
    → back ≡ (place_of_node x (slot_in list script slot)).slot → back ≤ slot
    → averaged ≡ was_averaged x (slot_in list script (slot - back)) → averaged ≡ false
    → unread_entries x (slot_in list script slot) (past_slots_in list script slot)
    ≡ unread_in list x stint
    (take (slot - back - (slot - back - length list.slots)) (past_slots_in list script (slot - back)))
unread-here list script slot x stint back averaged is same late averages other =
    unread-round list script slot x stint back averaged is same late averages
    ∙ ap (λ (b : Bool). unless b
    (unread_in list x stint (take (slot - back - (slot - back - length list.slots))
    (past_slots_in list script (slot - back)))))
    other

-- The join that began a stint.

abbrev pub if_at : Bool → ℕ → Option ℕ
if_at joins slot = elim joins [ true ↦ Some slot | false ↦ None ]

pub stint_join-none : (list : Medl) (script : Script) (x slot : ℕ) → slot ≡ 0
    → stint_join x (past_slots_in list script slot) ≡ None
stint_join-none list script x slot none =
    ap (stint_join x) (ap (past_slots_in list script) none ∙ past_slots_in-zero list script)

pub stint_join-by : (list : Medl) (script : Script) (x slot : ℕ) (joins caused : Bool) → 0 < slot
    → joins ≡ is_joined (entry_in_slot x (slot_in list script (slot - 1)))
    → caused ≡ has_sources (sources_of
    (join_cause x (slot_in list script (slot - 1)) (past_slots_in list script (slot - 1))))
    → stint_join x (past_slots_in list script slot) ≡ if_at (joins && caused) (slot - 1)
stint_join-by list script x slot joins caused some joined causes =
    ap (stint_join x) (past_slots_in-down list script slot some)
    ∙ (λ i. if_at (sym joined i && sym causes i) (slot_in-number list script (slot - 1) i))
