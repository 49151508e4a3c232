-- Which frames sound nodes accept: that of each good slot, and no other.
use Rattle.safety_laws.proofs.Words.{◌≡◌, ◌≢◌, ℕ, zero, suc, ◌+◌, ◌<◌, ◌≤◌, Bool, true, false, ◌&&◌, List, [], ◌∷◌}
use Rattle.safety_laws.proofs.Words.{length, refl, ap, sym, subst, ◌∙◌, inl, inr, arith, ◌==◌, cases_eq, eq-eqb, ne_eqb}
use Rattle.safety_laws.proofs.Words.{false≢true, Medl, Entry, Script, History, entry_of, diary_of, continues_stint}
use Rattle.safety_laws.proofs.Words.{place_of, ClusterStart, IsLegal, delivered_of, new_messages, SlotNumbers, Numbers}
use Rattle.safety_laws.proofs.Words.{slot_after, messages_chosen, row_in, world, node_past, legal-older, row_of_world}
use Rattle.safety_laws.proofs.Words.{length-world, IsIn, FaultPlan, sender, enters, is_sound_after, is_good_slot, Fate}
use Rattle.safety_laws.proofs.Words.{IsSoundIn, StartedByPlan, NotesNothing, NotedInSlot, IsBegunAlone, IsTurn}
use Rattle.safety_laws.proofs.Words.{message_given, AcceptsAlikeSince, StandsAlikeSince, planned_place, none-enters}
use Rattle.safety_laws.proofs.Words.{IsSoundAt, IsByFate, IsByPlan, sound-fate}
use Rattle.std.proofs.Math.Bool.{and-false, and-true}
use Rattle.ttp_world.specs.declared.node.Entry.TheVariants as entry
use Rattle.safety_laws.proofs.Persists.{sound-earlier}
use Rattle.safety_laws.specs.SameFrames.{accepts, sends_frame, AcceptsAlike}
use Rattle.safety_laws.specs.SameFrames.{begins_at_zero}
use Rattle.safety_laws.proofs.Receivers.{sound-judge, judges-good}
use Rattle.safety_laws.proofs.Delivered.{is_judgement, delivers-unjudged, messages-alike, messages-other, messages-own}
use Rattle.safety_laws.proofs.Delivered.{given-good}
use Rattle.safety_laws.proofs.WorldSteps.{in-row, stayed-before, own-sent, notes-other, started-by_plan}
use Rattle.safety_laws.proofs.Together.{KeepsClocks, turn-next, run-by_plan}
use Rattle.safety_laws.proofs.FromBelow.{told_goes as tells-on}
use Rattle.safety_laws.proofs.RoundNotes.{goes-silent as nothing-on}

-- By the plan the frame of node p is accepted in a slot.
abbrev is_accepted_by : FaultPlan → ℕ → ℕ → Bool
is_accepted_by plan slot p = is_good_slot plan slot && (sender plan slot == p)

-- One entry.

silent-accepts : (p : ℕ) (e : Entry) → NotesNothing e → accepts p e ≡ false
silent-accepts p (entry.Judged sender v deviation) none = ap (λ b. (sender == p) && b) none ∙ and-false (sender == p)
silent-accepts p _ none = absurd none

silent-sends : (e : Entry) → NotesNothing e → sends_frame e ≡ false
silent-sends (entry.Judged sender v deviation) none = refl
silent-sends _ none = absurd none

silent-gives : (list : Medl) (script : Script) (slot k : ℕ) (e : Entry) → sends_frame e ≡ false
    → message_given list script slot k e ≡ []
silent-gives list script slot k (entry.Sent message) silent = absurd (false≢true (sym silent))
silent-gives list script slot k _ silent = refl

-- In a turn.

module _ {list : Medl} {script : Script} {start : ClusterStart} {plan : FaultPlan} {turn : ℕ} {new : SlotNumbers}
    {numbers : Numbers} (t : IsTurn list script start plan turn new numbers) (stay : plan.returns ≡ []) where
  made : List Entry
  made =
      row_in (slot_after list script (world list script numbers))
      (messages_chosen list script (length numbers) new.sent)

  -- what a sound node makes of another's slot
  record Judges (k : ℕ) : Type 0 where
    accepts_by_plan : (p : ℕ) → accepts p (entry_of made k) ≡ is_accepted_by plan (suc turn) p
    silent : sends_frame (entry_of made k) ≡ false

  judges : (k : ℕ) → IsSoundIn list plan (suc turn) k → sender plan (suc turn) ≢ k → Judges k
  unfolding made
  judges k sound other = by (is_good_slot plan (suc turn)) refl
    where
      by : (good : Bool) → is_good_slot plan (suc turn) ≡ good → Judges k
      by true good =
          let was = stayed-before t stay in
          let judge = sound-judge t k sound.0 other (was k sound.1) in
          let judged = judges-good t k sound.0 other (was k sound.1) good (was (sender plan (suc turn)) good) sound.1 in
          record {
            accepts_by_plan = λ p.
                in-row t (λ e. accepts p e ≡ is_accepted_by plan (suc turn) p) k _ sound.0 judged.entry (and-true _
                ∙ ap (λ owner. owner == p) judge.owner ∙ ap (λ b. b && (sender plan (suc turn) == p)) (sym good));
            silent = in-row t (λ e. sends_frame e ≡ false) k _ sound.0 judged.entry refl;
          }
      by false wrong =
          let none = notes-other t k wrong sound in
          record {
            accepts_by_plan = λ p.
                silent-accepts p (entry_of made k) none ∙ ap (λ b. b && (sender plan (suc turn) == p)) (sym wrong);
            silent = silent-sends (entry_of made k) none;
          }

  -- and of its own
  own-sends : (k : ℕ) → IsSoundIn list plan (suc turn) k → sender plan (suc turn) ≡ k
      → (p : ℕ) → accepts p (entry_of made k) ≡ false
  unfolding made
  own-sends k sound own p = ap (accepts p) (own-sent t k sound own).1

  -- so each accepts another's frame by the plan
  by-plan : (k p : ℕ) → IsSoundIn list plan (suc turn) k → p ≢ k
      → accepts p (entry_of made k) ≡ is_accepted_by plan (suc turn) p
  by-plan k p sound apart = elim (cases_eq (sender plan (suc turn)) k) [
    | inl own ↦
        own-sends k sound own p ∙ sym (ap (λ b. is_good_slot plan (suc turn) && b)
        (ne_eqb (sender plan (suc turn)) p (λ same. apart (sym same ∙ own))) ∙ and-false (is_good_slot plan (suc turn)))
    | inr other ↦ (judges k sound other).accepts_by_plan p
  ]

  -- and one that sends is the slot's sender
  sends-own : (k : ℕ) → IsSoundIn list plan (suc turn) k → sends_frame (entry_of made k) ≡ true
      → sender plan (suc turn) ≡ k
  sends-own k sound sends = elim (cases_eq (sender plan (suc turn)) k) [
    | inl own ↦ own
    | inr other ↦ absurd (false≢true (sym (judges k sound other).silent ∙ sends))
  ]

  -- of each node's frame the others get what it sent
  given-next : (j k : ℕ) → IsSoundIn list plan (suc turn) j → IsSoundIn list plan (suc turn) k → j ≢ k
      → new_messages k (delivered_of list script (world list script numbers) made j)
      ≡ message_given list script (length (world list script numbers)) k (entry_of made k)
  unfolding made
  given-next j k sound_j sound_k apart =
      elim (cases_eq (sender plan (suc turn)) k) [
        | inl own ↦
            subst (λ p. new_messages p (delivered_of list script (world list script numbers)
            (row_of_world list script new numbers) j)
            ≡ message_given list script (length numbers) p (entry_of (row_of_world list script new numbers) p)) own
            (given-good t stay
            (ap (is_sound_after plan (suc turn)) own ∙ sound_k.1) j sound_j (λ same. apart (sym same ∙ own)))
        | inr other ↦
            messages-other t stay j k sound_j (λ same. apart (sym same)) other ∙ sym (silent-gives list script
            (length numbers) k (entry_of (row_of_world list script new numbers) k) (judges k sound_k other).silent)
      ]
      ∙ ap (λ slot. message_given list script slot k (entry_of (row_of_world list script new numbers) k))
      (sym (length-world list script numbers))

  pub alike-next : AcceptsAlike list script (is_sound_after plan (suc turn))
      (row_of_world list script new numbers) (world list script numbers)
  unfolding made
  alike-next = record {
    third = λ j k p sound_j sound_k apart_j apart_k. by-plan j p sound_j apart_j ∙ sym (by-plan k p sound_k apart_k);
    sent = λ j k sound_j sound_k apart sends.
        let own = sends-own k sound_k sends in
        by-plan j k sound_j (λ same. apart (sym same)) ∙ (λ i. (ap (is_sound_after plan (suc turn)) own ∙ sound_k.1) i
        && eq-eqb (sender plan (suc turn)) k own i);
    received = messages-alike t stay;
    given = given-next;
    own = messages-own t stay;
  }

-- In the slot of the start nobody judges.

record BeginsQuietly (e : Entry) : Type 0 where
  accepts_none : (p : ℕ) → accepts p e ≡ false
  silent : sends_frame e ≡ false
  unjudged : is_judgement e ≡ false

begins-quietly : (list : Medl) (script : Script) (start : ClusterStart) (plan : FaultPlan) (row : List Entry)
    (history : History) (k : ℕ) → StartedByPlan list script start plan row history → IsSoundIn list plan 0 k
    → BeginsQuietly (entry_of row k)
begins-quietly list script start plan row history k started sound = elim (cases_eq k start.node) [
  | inl same ↦
      let is : entry_of row k ≡ entry.Started = ap (entry_of row) same ∙ started.starter in
      record { accepts_none = λ p. ap (accepts p) is; silent = ap sends_frame is; unjudged = ap is_judgement is }
  | inr other ↦
      let is = started.joins k sound other in
      record { accepts_none = λ p. ap (accepts p) is; silent = ap sends_frame is; unjudged = ap is_judgement is }
]

alike-started : (list : Medl) (script : Script) (start : ClusterStart) (plan : FaultPlan) (row : List Entry)
    (history : History) → StartedByPlan list script start plan row history
    → AcceptsAlike list script (is_sound_after plan 0) row history
alike-started list script start plan row history started = record {
  third = λ j k p sound_j sound_k apart_j apart_k.
      (begins-quietly list script start plan row history j started sound_j).accepts_none p
      ∙ sym ((begins-quietly list script start plan row history k started sound_k).accepts_none p);
  sent = λ j k sound_j sound_k apart sends.
      absurd (false≢true (sym (begins-quietly list script start plan row history k started sound_k).silent ∙ sends));
  received = λ j k p sound_j sound_k apart_j apart_k. ap (new_messages p) (delivers-unjudged list script history row j
      (begins-quietly list script start plan row history j started sound_j).unjudged)
      ∙ sym (ap (new_messages p) (delivers-unjudged list script history row k
      (begins-quietly list script start plan row history k started sound_k).unjudged));
  given = λ j k sound_j sound_k apart. ap (new_messages k) (delivers-unjudged list script history row j
      (begins-quietly list script start plan row history j started sound_j).unjudged) ∙ sym (silent-gives list script
      (length history) k (entry_of row k) (begins-quietly list script start plan row history k started sound_k).silent);
  own = λ k sound. ap (new_messages k) (delivers-unjudged list script history row k
      (begins-quietly list script start plan row history k started sound).unjudged);
}

-- A smaller group accepts alike as well.

abbrev pub IsAmong : Medl → (ℕ → Bool) → (ℕ → Bool) → Type 0
IsAmong list less group = (k : ℕ) → IsIn list less k → group k ≡ true

alike-among : (list : Medl) (script : Script) (less group : ℕ → Bool) (row : List Entry) (history : History)
    → IsAmong list less group → AcceptsAlike list script group row history → AcceptsAlike list script less row history
alike-among list script less group row history among alike = record {
  third = λ j k p of_j of_k. alike.third j k p (of_j.0, among j of_j) (of_k.0, among k of_k);
  sent = λ j k of_j of_k. alike.sent j k (of_j.0, among j of_j) (of_k.0, among k of_k);
  received = λ j k p of_j of_k. alike.received j k p (of_j.0, among j of_j) (of_k.0, among k of_k);
  given = λ j k of_j of_k. alike.given j k (of_j.0, among j of_j) (of_k.0, among k of_k);
  own = λ k of_k. alike.own k (of_k.0, among k of_k);
}

-- Before the start nothing is asked.
none-since : (list : Medl) (script : Script) (group : ℕ → Bool) (s : ℕ) (history : History) → length history ≤ s
    → AcceptsAlikeSince list script group s history
none-since list script group s [] early = tt
none-since list script group s (row ∷ history) early =
    ((λ from. absurd (omega (arith, from, early))), none-since list script group s history (omega (arith, early)))

-- The run.
module _ {list : Medl} {script : Script} {start : ClusterStart} {plan : FaultPlan}
    (is : IsBegunAlone list script start plan) (clocks : KeepsClocks list script start plan)
    (stay : plan.returns ≡ []) where
  pub alike-run : (group : ℕ → Bool) (turn : ℕ) (numbers : Numbers) → IsAmong list group (is_sound_after plan turn)
      → length numbers ≡ suc (start.slot + turn) → start.slot + turn < script.slots → IsLegal list script numbers
      → AcceptsAlikeSince list script group start.slot (world list script numbers)
  alike-run group turn [] among number within legal = tt
  alike-run group zero (new ∷ numbers) among number within legal =
      let now : length numbers ≡ start.slot = omega (arith, number) in (
        (λ from. alike-among list script group (is_sound_after plan 0) _ (world list script numbers) among
            (alike-started list script start plan _ (world list script numbers)
            (started-by_plan list script start plan new numbers is now))),
        none-since list script group start.slot (world list script numbers)
            (let before = length-world list script numbers in omega (arith, now, before)),
      )
  alike-run group (suc turn) (new ∷ numbers) among number within legal =
      let before = run-by_plan list script start plan is clocks turn numbers (omega (arith, number))
      (omega (arith, within)) (legal-older list script new numbers legal) in
      let t =
      turn-next list script start plan is clocks turn new numbers (omega (arith, number)) within legal before in (
        (λ from. alike-among list script group (is_sound_after plan (suc turn)) _ (world list script numbers) among
            (alike-next t stay)),
        alike-run group turn numbers (λ k of_k. sound-earlier plan turn (suc turn) k stay (omega arith) (among k of_k))
            (omega (arith, number)) (omega (arith, within)) (legal-older list script new numbers legal),
      )

-- Sound nodes have been active since the start, in a stint that began at time 0, and stand at the plan's place.

-- One entry.

begun-zero : (list : Medl) (script : Script) (start : ClusterStart) (plan : FaultPlan) (row : List Entry)
    (history : History) (k : ℕ) → StartedByPlan list script start plan row history → IsSoundIn list plan 0 k
    → begins_at_zero (entry_of row k) ≡ true
begun-zero list script start plan row history k started sound = elim (cases_eq k start.node) [
  | inl same ↦ ap begins_at_zero (ap (entry_of row) same ∙ started.starter)
  | inr other ↦ ap begins_at_zero (started.joins k sound other)
]

noted-on : (list : Medl) (script : Script) (plan : FaultPlan) (slot : ℕ) (row : List Entry) (history : History) (k : ℕ)
    → NotedInSlot list script plan slot row history → IsSoundIn list plan slot k → enters plan slot k ≡ false
    → continues_stint (entry_of row k) ≡ true
noted-on list script plan slot row history k noted sound none = by (is_good_slot plan slot) refl
  where
    by : (good : Bool) → is_good_slot plan slot ≡ good → continues_stint (entry_of row k) ≡ true
    by true good = tells-on list script history (sender plan slot) k (entry_of row k) (noted.good k good sound none)
    by false wrong = nothing-on (entry_of row k) (noted.other k wrong sound)

-- Places.

by_plan-place : (list : Medl) (script : Script) (start : ClusterStart) (plan : FaultPlan) (turn : ℕ) (history : History)
    (k : ℕ) → IsByPlan list script start plan turn history → IsSoundIn list plan turn k
    → place_of list k (diary_of history k) ≡ planned_place list plan turn
by_plan-place list script start plan turn history k is sound =
    let at : IsSoundAt list plan turn k (node_past list script history k) =
    subst (λ (f : Fate). IsByFate list plan turn k (node_past list script history k) f) (sound-fate _ sound.1)
    (is.holds.nodes k sound.0) in
    at.place

-- Before the start nothing is asked.
none-before : (list : Medl) (group : ℕ → Bool) (s : ℕ) (history : History) → length history ≤ s
    → StandsAlikeSince list group s history
none-before list group s [] early = tt
none-before list group s (row ∷ history) early =
    ((λ from. absurd (omega (arith, from, early))), none-before list group s history (omega (arith, early)))

-- The run.
module _ {list : Medl} {script : Script} {start : ClusterStart} {plan : FaultPlan}
    (is : IsBegunAlone list script start plan) (clocks : KeepsClocks list script start plan)
    (stay : plan.returns ≡ []) where
  pub stands-run : (group : ℕ → Bool) (turn : ℕ) (numbers : Numbers) → IsAmong list group (is_sound_after plan turn)
      → length numbers ≡ suc (start.slot + turn) → start.slot + turn < script.slots → IsLegal list script numbers
      → StandsAlikeSince list group start.slot (world list script numbers)
  stands-run group turn [] among number within legal = tt
  stands-run group zero (new ∷ numbers) among number within legal =
      let by_plan = run-by_plan list script start plan is clocks zero (new ∷ numbers) number within legal in
      let before = length-world list script numbers in (
        (λ from. record {
          begins = λ k of_k now.
              begun-zero list script start plan _ (world list script numbers) k by_plan.noted (of_k.0, among k of_k);
          goes_on = λ k of_k later. absurd (omega (arith, later, before, number));
          places = λ j k of_j of_k. by_plan-place list script start plan zero _ j by_plan (of_j.0, among j of_j)
              ∙ sym (by_plan-place list script start plan zero _ k by_plan (of_k.0, among k of_k));
        }),
        none-before list group start.slot (world list script numbers) (omega (arith, before, number)),
      )
  stands-run group (suc turn) (new ∷ numbers) among number within legal =
      let by_plan = run-by_plan list script start plan is clocks (suc turn) (new ∷ numbers) number within legal in
      let before = length-world list script numbers in (
        (λ from. record {
          begins = λ k of_k now. absurd (omega (arith, now, before, number));
          goes_on = λ k of_k later. noted-on list script plan (suc turn) _ (world list script numbers) k by_plan.noted.1
              (of_k.0, among k of_k) (none-enters plan (suc turn) k stay);
          places = λ j k of_j of_k. by_plan-place list script start plan (suc turn) _ j by_plan (of_j.0, among j of_j)
              ∙ sym (by_plan-place list script start plan (suc turn) _ k by_plan (of_k.0, among k of_k));
        }),
        stands-run group turn numbers (λ k of_k. sound-earlier plan turn (suc turn) k stay (omega arith) (among k of_k))
            (omega (arith, number)) (omega (arith, within)) (legal-older list script new numbers legal),
      )
