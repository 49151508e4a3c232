-- Why a node listens, waits, joins and starts, by the slots of a run.
use Rattle.std.proofs.Common.{◌≡◌, ℕ, suc, ◌+◌, ◌-◌, ◌<◌, ◌≤◌, Bool, true, false}
use Rattle.std.proofs.Common.{cond, not, ◌&&◌, ◌||◌, [], ◌∷◌, length}
use Rattle.std.proofs.Common.{filter, map, take, refl, ap, sym, ◌∙◌, arith}
use Rattle.std.specs.List.{list_any}
use Rattle.std.specs.Prelude.{◌==◌}
use Rattle.causes.specs.Listening.{back_to_listening, is_empty, kept_from_joining, listening_by, listening_from}
use Rattle.causes.specs.Listening.{listening_node, listening_since, listening_sources, missing_by, sources_before_join}
use Rattle.causes.specs.Listening.{wait_sources, would_send}
use Rattle.causes.specs.RunSlots.{RunSlot, RunSlots, entry_in_slot, is_retried, is_waited}
use Rattle.causes.specs.Sources as causes
use Rattle.causes.specs.Sources.{all_sources, no_sources, with_sources}
use Rattle.entry_causes.proofs.Past.{spot-in, take-down, take-none}
use Rattle.entry_causes.specs.Told.{is_named}
use Rattle.entry_causes.proofs.FromBelow.{length-past_slots_in, past_slots_in-down, past_slots_in-next}
use Rattle.entry_causes.proofs.FromBelow.{past_slots_in-zero}
use Rattle.run_rows.specs.Rows.{past_slots_in, slot_in}
use Rattle.ttp_world.specs.declared.medl.Medl.{Medl}
use Rattle.ttp_world.specs.declared.node.Entry.{Entry}
use Rattle.ttp_world.specs.declared.node.Entry.TheVariants as entry
use Rattle.ttp_world.specs.declared.script.Script.{Script}

past-none : (list : Medl) (script : Script) (slot : ℕ) → slot ≡ 0 → past_slots_in list script slot ≡ []
past-none list script slot none = ap (past_slots_in list script) none ∙ past_slots_in-zero list script

-- What made a node listen.

pub listening-none : (list : Medl) (script : Script) (before from k : ℕ)
    → back_to_listening k (past_slots_in list script before) ≡ past_slots_in list script from → from ≡ 0
    → listening_sources k (past_slots_in list script before) ≡ no_sources
listening-none list script before from k is none = ap (listening_since k) (is ∙ past-none list script from none)

pub listening-down : (list : Medl) (script : Script) (before from k : ℕ)
    → back_to_listening k (past_slots_in list script before) ≡ past_slots_in list script from → 0 < from
    → listening_sources k (past_slots_in list script before)
    ≡ listening_by k (slot_in list script (from - 1) ∷ past_slots_in list script (from - 1))
    (slot_in list script (from - 1)) (entry_in_slot k (slot_in list script (from - 1)))
listening-down list script before from k is some =
    ap (listening_since k) (is ∙ past_slots_in-down list script from some)

named-by : (k : ℕ) (run : RunSlots) (s : RunSlot) (e : Entry)
    → not (length (listening_by k run s e).entries == 0) ≡ is_named e
named-by k run s entry.Retried = refl
named-by k run s e = refl

pub named-none : (list : Medl) (script : Script) (before from k : ℕ)
    → back_to_listening k (past_slots_in list script before) ≡ past_slots_in list script from → from ≡ 0
    → not (length (listening_sources k (past_slots_in list script before)).entries == 0) ≡ false
named-none list script before from k is none =
    ap (λ (s : causes.Sources). not (length s.entries == 0)) (listening-none list script before from k is none)

pub named-down : (list : Medl) (script : Script) (before from k : ℕ)
    → back_to_listening k (past_slots_in list script before) ≡ past_slots_in list script from → 0 < from
    → not (length (listening_sources k (past_slots_in list script before)).entries == 0)
    ≡ is_named (entry_in_slot k (slot_in list script (from - 1)))
named-down list script before from k is some =
    ap (λ (s : causes.Sources). not (length s.entries == 0)) (listening-down list script before from k is some)
    ∙ named-by k (slot_in list script (from - 1) ∷ past_slots_in list script (from - 1))
    (slot_in list script (from - 1))
    (entry_in_slot k (slot_in list script (from - 1)))

-- A wait.

pub kept-down : (list : Medl) (script : Script) (at from : ℕ) (f : RunSlot → causes.Sources) → from < at
    → all_sources (map f (take (at - from) (past_slots_in list script at)))
    ≡ with_sources (f (slot_in list script (at - 1)))
    (all_sources (map f (take (at - 1 - from) (past_slots_in list script (at - 1)))))
kept-down list script at from f some =
    ap (λ (slots : RunSlots). all_sources (map f slots)) (take-down list script at from some)

pub kept-none : (list : Medl) (script : Script) (at from : ℕ) (f : RunSlot → causes.Sources) → at ≤ from
    → all_sources (map f (take (at - from) (past_slots_in list script at))) ≡ no_sources
kept-none list script at from f past =
    ap (λ (slots : RunSlots). all_sources (map f slots)) (take-none list script at from past)

pub wait-none : (list : Medl) (script : Script) (slots k : ℕ) → slots ≡ 0
    → wait_sources k (past_slots_in list script slots) ≡ no_sources
wait-none list script slots k none = ap (wait_sources k) (past-none list script slots none)

pub wait-next : (list : Medl) (script : Script) (slot from k : ℕ) → from ≤ slot
    → from ≡ listening_from k (past_slots_in list script slot)
    → wait_sources k (past_slots_in list script (slot + 1))
    ≡ with_sources (listening_sources k (past_slots_in list script slot))
    (with_sources (kept_from_joining k (slot_in list script slot))
    (all_sources (map (kept_from_joining k) (take (slot - from) (past_slots_in list script slot)))))
wait-next list script slot from k within is =
    let past = past_slots_in list script slot in
    let count : suc (length past) - listening_from k past ≡ suc (slot - from) =
    (let before = length-past_slots_in list script slot in omega (arith, before, is, within)) in
    ap (wait_sources k) (past_slots_in-next list script slot)
    ∙ ap (λ (n : ℕ). with_sources (listening_sources k past)
    (all_sources (map (kept_from_joining k) (take n (slot_in list script slot ∷ past))))) count

pub wait-back : (list : Medl) (script : Script) (before k : ℕ) → 0 < before
    → wait_sources k (past_slots_in list script (before - 1 + 1)) ≡ wait_sources k (past_slots_in list script before)
wait-back list script before k some =
    let same : before - 1 + 1 ≡ before = omega (arith, some) in
    ap (λ (n : ℕ). wait_sources k (past_slots_in list script n)) same

-- What was before a join.

pub before_join-none : (list : Medl) (script : Script) (before k : ℕ) → before ≡ 0
    → sources_before_join k (past_slots_in list script before) ≡ no_sources
before_join-none list script before k none = ap (sources_before_join k) (past-none list script before none)

abbrev if_waited : Bool → causes.Sources → causes.Sources → causes.Sources
if_waited waited a b = elim waited [ true ↦ a | false ↦ b ]

before_join-down : (list : Medl) (script : Script) (before k : ℕ) → 0 < before
    → sources_before_join k (past_slots_in list script before)
    ≡ if_waited (is_waited (entry_in_slot k (slot_in list script (before - 1))))
    (wait_sources k (past_slots_in list script before)) (listening_sources k (past_slots_in list script before))
before_join-down list script before k some =
    let down = past_slots_in-down list script before some in
    ap (sources_before_join k) down
    ∙ (λ i. if_waited (is_waited (entry_in_slot k (slot_in list script (before - 1)))) (wait_sources k (sym down i))
    (listening_sources k (sym down i)))

pub before_join-waited : (list : Medl) (script : Script) (before k : ℕ) → 0 < before
    → is_waited (entry_in_slot k (slot_in list script (before - 1))) ≡ true
    → sources_before_join k (past_slots_in list script before) ≡ wait_sources k (past_slots_in list script before)
before_join-waited list script before k some waited =
    before_join-down list script before k some
    ∙ ap (λ (b : Bool).
    if_waited b (wait_sources k (past_slots_in list script before))
    (listening_sources k (past_slots_in list script before)))
    waited

pub before_join-other : (list : Medl) (script : Script) (before k : ℕ) → 0 < before
    → is_waited (entry_in_slot k (slot_in list script (before - 1))) ≡ false
    → sources_before_join k (past_slots_in list script before) ≡ listening_sources k (past_slots_in list script before)
before_join-other list script before k some other =
    before_join-down list script before k some
    ∙ ap (λ (b : Bool).
    if_waited b (wait_sources k (past_slots_in list script before))
    (listening_sources k (past_slots_in list script before)))
    other

-- A test of some slots, from the newest on.

pub any-down : (p h : RunSlot → Bool) (list : Medl) (script : Script) (at from : ℕ) → from < at
    → list_any p (filter h (take (at - from) (past_slots_in list script at)))
    ≡ ((h (slot_in list script (at - 1)) && p (slot_in list script (at - 1)))
    || list_any p (filter h (take (at - 1 - from) (past_slots_in list script (at - 1)))))
any-down p h list script at from some =
    ap (λ (slots : RunSlots). list_any p (filter h slots)) (take-down list script at from some)
    ∙ by_test (h (slot_in list script (at - 1))) p (slot_in list script (at - 1))
    (filter h (take (at - 1 - from) (past_slots_in list script (at - 1))))
  where
    by_test : (keeps : Bool) (p : RunSlot → Bool) (s : RunSlot) (rest : RunSlots)
        → list_any p (cond keeps (s ∷ rest) rest) ≡ ((keeps && p s) || list_any p rest)
    by_test true p s rest = refl
    by_test false p s rest = refl

pub any-none : (p h : RunSlot → Bool) (list : Medl) (script : Script) (at from : ℕ) → at ≤ from
    → list_any p (filter h (take (at - from) (past_slots_in list script at))) ≡ false
any-none p h list script at from past =
    ap (λ (slots : RunSlots). list_any p (filter h slots)) (take-none list script at from past)

pub empty-down : (h : RunSlot → Bool) (list : Medl) (script : Script) (at from : ℕ) → from < at
    → not (is_empty (filter h (take (at - from) (past_slots_in list script at))))
    ≡ (h (slot_in list script (at - 1))
    || not (is_empty (filter h (take (at - 1 - from) (past_slots_in list script (at - 1))))))
empty-down h list script at from some =
    ap (λ (slots : RunSlots). not (is_empty (filter h slots))) (take-down list script at from some)
    ∙ by_test (h (slot_in list script (at - 1))) (slot_in list script (at - 1))
    (filter h (take (at - 1 - from) (past_slots_in list script (at - 1))))
  where
    by_test : (keeps : Bool) (s : RunSlot) (rest : RunSlots)
        → not (is_empty (cond keeps (s ∷ rest) rest)) ≡ (keeps || not (is_empty rest))
    by_test true s rest = refl
    by_test false s rest = refl

pub empty-none : (h : RunSlot → Bool) (list : Medl) (script : Script) (at from : ℕ) → at ≤ from
    → not (is_empty (filter h (take (at - from) (past_slots_in list script at)))) ≡ false
empty-none h list script at from past =
    ap (λ (slots : RunSlots). not (is_empty (filter h slots))) (take-none list script at from past)

-- Other nodes that did not send.

pub missing-none : (list : Medl) (script : Script) (behind q : ℕ) (audible : RunSlots) → behind ≡ 0
    → missing_by q audible (past_slots_in list script behind) ≡ []
missing-none list script behind q audible none = ap (missing_by q audible) (past-none list script behind none)

pub missing-down : (list : Medl) (script : Script) (behind q : ℕ) (audible : RunSlots) (would : Bool) → 0 < behind
    → list_any (would_send q (slot_in list script (behind - 1))) audible ≡ would
    → missing_by q audible (past_slots_in list script behind)
    ≡ cond would (record { slot = behind - 1; node = q } ∷ []) []
missing-down list script behind q audible would some is =
    ap (missing_by q audible) (past_slots_in-down list script behind some)
    ∙ (λ i. cond (is i) (spot-in list script (behind - 1) q i ∷ []) [])

pub listening_node-none : (list : Medl) (script : Script) (before q : ℕ) → before ≡ 0
    → listening_node q (past_slots_in list script before) ≡ []
listening_node-none list script before q none = ap (listening_node q) (past-none list script before none)

pub listening_node-down : (list : Medl) (script : Script) (before q : ℕ) (listens : Bool) → 0 < before
    → (is_waited (entry_in_slot q (slot_in list script (before - 1)))
    || is_retried (entry_in_slot q (slot_in list script (before - 1)))) ≡ listens
    → listening_node q (past_slots_in list script before)
    ≡ cond listens (record { slot = before - 1; node = q } ∷ []) []
listening_node-down list script before q listens some is =
    ap (listening_node q) (past_slots_in-down list script before some)
    ∙ (λ i. cond (is i) (spot-in list script (before - 1) q i ∷ []) [])
