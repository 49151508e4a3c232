-- A group that ran as a company did so without some of its nodes.
use Rattle.safety_laws.proofs.Words.{◌≡◌, ℕ, zero, suc, ◌+◌, ◌-◌, ◌*◌, ◌<◌, ◌≤◌, Bool, true, false, List, [], ◌∷◌}
use Rattle.safety_laws.proofs.Words.{length, ◌⊎◌, inl, inr, pos, refl, ap, sym, subst, ◌∙◌, arith, ◌==◌, IsTrue}
use Rattle.safety_laws.proofs.Words.{list_any, eqb-true, eq-eqb, both_ways, false_from_ne_true, Medl, Entry, Script}
use Rattle.safety_laws.proofs.Words.{stint_notes, History, entry_of, diary_of, next_place, place_of, ClusterStart}
use Rattle.safety_laws.proofs.Words.{jump_of, BeginsOn, IsIn, BeganTogether, continued_active, Return, FaultPlan}
use Rattle.safety_laws.proofs.Words.{sender, is_armed_by, enters, is_sound_fate, fate_of, is_sound_after, is_good_slot}
use Rattle.safety_laws.proofs.Words.{is_measured, tally, IsGoodPlan, FollowsPlan, planned_place, four-measured}
use Rattle.safety_laws.proofs.Words.{sound-from, enters-by, entry-is, entry-good, entry-from, armed-lost, sender-stays}
use Rattle.safety_laws.proofs.Words.{NoneEnters, IsNewestEntry, IsSoundIn, NotedInSlot, NotedByPlan}
use Rattle.std.proofs.Math.Nat.{eq-or-lt_of_le}
use Rattle.ttp_world.specs.Clock.{notes_of}
use Rattle.ttp_world.specs.Diary.{ends_round}
use Rattle.precision.specs.Together.{NotedAlike, Nothing, OneFrame, EndsLaterRound}
use Rattle.precision.specs.Company.{AreCalm, IsCalmIn, IsNotedOf, StayedInCompany, GrewTogether, RanAsCompany}
use Rattle.safety_laws.proofs.FromBelow.{place_of-active, notes_of-active}
use Rattle.safety_laws.proofs.FateTells.{armed-fallen}
use Rattle.safety_laws.proofs.Persists.{lost-unsound}
use Rattle.safety_laws.proofs.Returns.{any-of, of-any, armed-by}
use Rattle.safety_laws.proofs.Returns.{Itself, Before, After, entry-beside}
use Rattle.safety_laws.proofs.RoundNotes.{none-silent, place-slot, sender-in, sound-goes, Counted}
use Rattle.safety_laws.proofs.BeganTogether.{began, number-of, counted-run}

-- each node of a group is in another
abbrev pub AreIn : (ℕ → Bool) → (ℕ → Bool) → Type 0
AreIn less group = (k : ℕ) → less k ≡ true → group k ≡ true

member-in : (list : Medl) (less group : ℕ → Bool) (k : ℕ) → AreIn less group → IsIn list less k → IsIn list group k
member-in list less group k all p = (p.0, all k p.1)

began-in : (list : Medl) (script : Script) (less group : ℕ → Bool) (row : List Entry) (history : History)
    → AreIn less group → BeganTogether list script group row history → BeganTogether list script less row history
began-in list script less group row history all began = record {
  sender = began.sender;
  place = began.place;
  inside = began.inside;
  begins = λ k p. began.begins k (member-in list less group k all p);
}

noted-in : (list : Medl) (script : Script) (less group : ℕ → Bool) (row : List Entry) (history : History)
    → AreIn less group → NotedAlike list script group row history → NotedAlike list script less row history
noted-in list script less group row history all (Nothing none) =
    Nothing (λ k p. none k (member-in list less group k all p))
noted-in list script less group row history all (OneFrame sender tells) =
    OneFrame sender (λ k p. tells k (member-in list less group k all p))

noted-of-in : (list : Medl) (script : Script) (before less group : ℕ → Bool) (row : List Entry) (history : History)
    → (all : AreIn less group) → (noted : NotedAlike list script group row history)
    → IsNotedOf list script before group row history noted
    → IsNotedOf list script before less row history (noted-in list script less group row history all noted)
unfolding noted-in
noted-of-in list script before less group row history all (Nothing none) is = tt
noted-of-in list script before less group row history all (OneFrame sender tells) is = is

stayed-in : (list : Medl) (script : Script) (may_grow : Bool) (before less group : ℕ → Bool) (newest : ℕ)
    (row : List Entry) (history : History)
    → AreIn less group → StayedInCompany list script may_grow before group newest row history
    → StayedInCompany list script may_grow before less newest row history
stayed-in list script may_grow before less group newest row history all stayed = record {
  less = λ k p. stayed.less k (member-in list less group k all p);
  together = record {
    active = λ k p. stayed.together.active k (member-in list less group k all p);
    noted = noted-in list script less group row history all stayed.together.noted;
    enough = λ k p ends. stayed.together.enough k (member-in list less group k all p) ends;
  };
  noted = λ grows. noted-of-in list script before less group row history all stayed.together.noted (stayed.noted grows);
}

grew-in : (list : Medl) (script : Script) (before less group : ℕ → Bool) (newest : ℕ) (row : List Entry)
    (history : History) → AreIn less group → GrewTogether list script before group newest row history
    → GrewTogether list script before less newest row history
grew-in list script before less group newest row history all grew = record {
  later = grew.later;
  sender = grew.sender;
  member = grew.member;
  tells = λ k p there. grew.tells k (member-in list less group k all p) there;
  begins = λ k p away. grew.begins k (member-in list less group k all p) away;
}

pub company-in : (list : Medl) (script : Script) (may_grow : Bool) (less group : ℕ → Bool) (newest : ℕ)
    (history : History) → AreIn less group → RanAsCompany list script may_grow group newest history
    → RanAsCompany list script may_grow less newest history
company-in list script may_grow less group newest [] all ran = absurd ran
company-in list script may_grow less group newest (row ∷ history) all (calm, inl began) =
    let still = λ (k : ℕ) (p : IsIn list less k). calm k (member-in list less group k all p) in
    (still, inl (began.0, began-in list script less group row history all began.1))
company-in list script may_grow less group newest (row ∷ history) all (calm, inr (inl stayed)) =
    let still = λ (k : ℕ) (p : IsIn list less k). calm k (member-in list less group k all p) in
    let stays = stayed-in list script may_grow stayed.0 less group newest row history all stayed.1.1 in
    (still, inr (inl (stayed.0, (stayed.1.0, stays))))
company-in list script may_grow less group newest (row ∷ history) all (calm, inr (inr grew)) =
    let run = grew.1.1 in
    let still = λ (k : ℕ) (p : IsIn list less k). calm k (member-in list less group k all p) in
    let grows = grew-in list script run.0 less group run.1.0 row history all run.1.1.1 in
    (still, inr (inr (grew.0, (grew.1.0, (run.0, (run.1.0, (run.1.1.0, grows)))))))

-- The sound nodes of a plan run as a company from the start on, and grow by each return.

-- Entries.

-- none enters in a slot, or some node does
entry-or-none : (plan : FaultPlan) (slot : ℕ) → slot < plan.slots
    → ((k : ℕ) → enters plan slot k ≡ false) ⊎ ((k : ℕ) × (enters plan slot k ≡ true))
entry-or-none plan slot within = by (list_any is_there plan.returns) refl
  where
    is_there : Return → Bool
    is_there r = r.entered == slot

    by : (some : Bool) → list_any is_there plan.returns ≡ some
        → ((k : ℕ) → enters plan slot k ≡ false) ⊎ ((k : ℕ) × (enters plan slot k ≡ true))
    by true is =
        let found = any-of is_there plan.returns is in
        let r = found.0 in
        let at : r.entered ≡ slot = eqb-true r.entered slot found.1.1 in
        inr (
          r.node,
          subst (λ t. enters plan t r.node ≡ true) at (enters-by plan r found.1.0 (omega (arith, at, within))),
        )
    by false none = inl (λ k. false_from_ne_true (enters plan slot k) (λ is.
        let entry = entry-is plan slot k is in
        both_ways (list_any is_there plan.returns) none
        (of-any is_there plan.returns entry.return entry.among (eq-eqb entry.return.entered slot entry.entered))))

-- a node that enters was not sound
entry-unsound : (plan : FaultPlan) (slot k : ℕ) → IsGoodPlan plan → enters plan (suc slot) k ≡ true
    → is_sound_after plan slot k ≡ false
entry-unsound plan slot k good is = elim (entry-from plan slot k good is) [
  | inl armed ↦ lost-unsound (fate_of plan slot k) (armed-lost plan slot k good armed)
  | inr listens ↦ ap is_sound_fate listens.1
]

sound-stays : (plan : FaultPlan) (slot k : ℕ) → IsGoodPlan plan → is_sound_after plan slot k ≡ true
    → enters plan (suc slot) k ≡ false
sound-stays plan slot k good sound = false_from_ne_true (enters plan (suc slot) k) (λ is.
    both_ways (is_sound_after plan slot k) (entry-unsound plan slot k good is) sound)

new-enters : (plan : FaultPlan) (slot k : ℕ) → is_sound_after plan (suc slot) k ≡ true
    → is_sound_after plan slot k ≡ false
    → enters plan (suc slot) k ≡ true
new-enters plan slot k sound away = by (enters plan (suc slot) k) refl
  where
    by : (b : Bool) → enters plan (suc slot) k ≡ b → enters plan (suc slot) k ≡ true
    by true is = is
    by false none =
        absurd (both_ways (is_sound_after plan slot k) away
        (sound-from plan (suc slot) k (fate_of plan slot k) none sound))

-- the entry after the newest one comes two rounds later
entry-later : (plan : FaultPlan) (slot newest k : ℕ) → IsGoodPlan plan → IsNewestEntry plan slot newest
    → enters plan (suc slot) k ≡ true → newest + 2 * plan.nodes ≤ suc slot
entry-later plan slot newest k good is enter =
    let found = entry-is plan (suc slot) k enter in
    let r = found.return in
    let of_r = good.returns r found.among in
    let at = found.entered in
    elim is.by [
      | inl first ↦
          let lost = armed-fallen plan of_r.was.0 r.node good
          (subst (λ t. is_armed_by plan t r.node ≡ true) of_r.was.1.0 (armed-by plan r found.among)) in
          omega (arith, first, lost.early, of_r.was.1.0, of_r.after, at)
      | inr other ↦ elim (entry-beside plan r newest other.0 good found.among other.1) [
        | Itself same ↦ absurd (omega (arith, same, at, is.within))
        | Before early ↦ omega (arith, early, of_r.after, at)
        | After late ↦ absurd (omega (arith, late, at, is.within))
      ]
    ]

-- One slot.

module _ {list : Medl} {script : Script} {start : ClusterStart} {plan : FaultPlan}
    (follows : FollowsPlan list script start plan) where
  -- the clocks of sound nodes do not jump
  pub sound-calm : (slot : ℕ) (history : History) → length history ≡ start.slot + slot → length history < script.slots
      → AreCalm list script (is_sound_after plan slot) history
  sound-calm slot history number within k p =
      subst (λ t. jump_of script k t ≡ pos 0) (sym number)
      (follows.clocks slot k p.0 (omega (arith, number, within)) p.1)

  -- the sender of a good slot was one of the sound nodes
  sender-calm : (slot : ℕ) (history : History) → length history ≡ start.slot + suc slot → length history < script.slots
      → is_good_slot plan (suc slot) ≡ true
      → IsCalmIn list script (is_sound_after plan slot) history (sender plan (suc slot))
  sender-calm slot history number within good =
      let e = sender plan (suc slot) in
      let inside = sender-in list script start plan (suc slot) follows in (
        (
          inside,
          sound-from plan (suc slot) e (fate_of plan slot e) (sender-stays plan (suc slot) follows.good) good,
        ),
        sound-calm (suc slot) history number within e (inside, good),
      )

  noted-alike : (slot : ℕ) (row : List Entry) (history : History) (good : Bool)
      → ((k : ℕ) → enters plan slot k ≡ false) → is_good_slot plan slot ≡ good
      → NotedInSlot list script plan slot row history → NotedAlike list script (is_sound_after plan slot) row history
  noted-alike slot row history true none is noted = OneFrame (sender plan slot) (λ k p. noted.good k is p (none k))
  noted-alike slot row history false none is noted =
      Nothing (λ k p. none-silent list (place_of list k (diary_of (row ∷ history) k)) (entry_of row k)
      (noted.other k is p))

  noted-of : (slot : ℕ) (row : List Entry) (history : History) (good : Bool)
      → (none : (k : ℕ) → enters plan (suc slot) k ≡ false)
      → (is : is_good_slot plan (suc slot) ≡ good) → (noted : NotedInSlot list script plan (suc slot) row history)
      → length history ≡ start.slot + suc slot → length history < script.slots
      → IsNotedOf list script (is_sound_after plan slot) (is_sound_after plan (suc slot)) row history
      (noted-alike (suc slot) row history good none is noted)
  unfolding noted-alike
  noted-of slot row history true none is noted number within = sender-calm slot history number within is
  noted-of slot row history false none is noted number within = tt

  -- four measured slots were in each round that began after the newest entry
  noted-four : (slot newest k : ℕ) (row : List Entry) (history : History) → suc slot < plan.slots
      → length history ≡ start.slot + suc slot → IsNewestEntry plan (suc slot) newest
      → NotedInSlot list script plan (suc slot) row history → Counted list plan (suc slot) (row ∷ history)
      → IsSoundIn list plan (suc slot) k → enters plan (suc slot) k ≡ false
      → EndsLaterRound list (start.slot + newest) k row history
      → 4 ≤ length (notes_of list k (diary_of (row ∷ history) k))
  noted-four slot newest k row history within number is noted counted p none ends =
      let goes = continued_active (entry_of row k)
      (sound-goes list script plan (suc slot) k row history noted p none) in
      let place : place_of list k (diary_of (row ∷ history) k) ≡ planned_place list plan (suc slot) =
      place_of-active list k (diary_of history k) (entry_of row k) goes ∙ counted.places k p in
      let index = place-slot list script start plan (suc slot) follows in
      let last : suc (sender plan (suc slot)) ≡ length list.slots =
      ap suc (sym index) ∙ eqb-true (suc (planned_place list plan (suc slot)).slot) (length list.slots)
      (sym (ap (ends_round list) place) ∙ ends.0) in
      let from = suc (suc slot) - plan.nodes in
      let round : from + plan.nodes ≡ suc (suc slot) = omega (arith, ends.1, number, follows.nodes) in
      let many : 4 ≤ tally (is_measured plan) from plan.nodes =
      four-measured plan (suc slot) from follows.good within round in
      let count : length (stint_notes list k (diary_of (row ∷ history) k))
      ≡ tally (is_measured plan) from (suc (sender plan (suc slot))) =
      counted.notes k from p (omega (arith, ends.1, number, follows.nodes)) (omega (arith, round, last, follows.nodes))
      (λ turn low high. is.none turn k (omega (arith, low, ends.1, number, follows.nodes)) high) in
      let whole : plan.nodes ≡ suc (sender plan (suc slot)) = follows.nodes ∙ sym last in
      subst (λ n. 4 ≤ n) (ap (tally (is_measured plan) from) whole ∙ sym count
      ∙ ap length (sym (notes_of-active list k (diary_of history k) (entry_of row k) goes))) many

  -- a slot in which none enters
  stayed : (may_grow : Bool) (slot newest : ℕ)
      (row : List Entry) (history : History) → length history ≡ start.slot + suc slot
      → length history < script.slots → IsNewestEntry plan (suc slot) newest
      → ((k : ℕ) → enters plan (suc slot) k ≡ false)
      → NotedInSlot list script plan (suc slot) row history → Counted list plan (suc slot) (row ∷ history)
      → StayedInCompany list script may_grow (is_sound_after plan slot) (is_sound_after plan (suc slot))
      (start.slot + newest) row history
  stayed may_grow slot newest row history number within is none noted counted = record {
    less = λ k p. sound-from plan (suc slot) k (fate_of plan slot k) (none k) p.1;
    together = record {
      active = λ k p. sound-goes list script plan (suc slot) k row history noted p (none k);
      noted = noted-alike (suc slot) row history (is_good_slot plan (suc slot)) none refl noted;
      enough = λ k p ends. noted-four slot newest k row history
          (omega (arith, within, number, follows.slots)) number is noted counted p (none k) ends;
    };
    noted = λ grows. noted-of slot row history (is_good_slot plan (suc slot)) none refl noted number within;
  }

  -- a slot in which some node does
  grew : (slot newest r : ℕ) (row : List Entry) (history : History) → length history ≡ start.slot + suc slot
      → length history < script.slots → IsNewestEntry plan slot newest → enters plan (suc slot) r ≡ true
      → NotedInSlot list script plan (suc slot) row history → Counted list plan slot history
      → GrewTogether list script (is_sound_after plan slot) (is_sound_after plan (suc slot)) (start.slot + newest) row
      history
  grew slot newest r row history number within is enter noted counted =
      let e = sender plan (suc slot) in
      let good = (entry-good plan (suc slot) r follows.good enter).0 in
      let calm = sender-calm slot history number within good in
      let later = entry-later plan slot newest r follows.good is enter in
      record {
        later = omega (arith, later, number, follows.nodes);
        sender = e;
        member = calm;
        tells = λ k p there. noted.good k good p (sound-stays plan slot k follows.good there);
        begins = λ k p away. subst (λ at. BeginsOn list script history e at k (entry_of row k))
            (ap (next_place list) (sym (counted.places e calm.0)))
            (noted.begins k p.0 (new-enters plan slot k p.1 away));
      }

  -- The run.

  -- where a node enters, some may
  grows : (may_grow : Bool) (slot k : ℕ) → (may_grow ≡ false → NoneEnters plan slot)
      → enters plan slot k ≡ true → IsTrue may_grow
  grows true slot k stay is = refl
  grows false slot k stay is = absurd (both_ways (enters plan slot k) (stay refl slot k (omega arith)) is)

  newest-same : (slot newest : ℕ) → IsNewestEntry plan slot newest → ((k : ℕ) → enters plan (suc slot) k ≡ false)
      → IsNewestEntry plan (suc slot) newest
  newest-same slot newest is none = record {
    within = omega (arith, is.within);
    by = is.by;
    none = λ turn k low high. elim (eq-or-lt_of_le high) [
      | inl same ↦ subst (λ t. enters plan t k ≡ false) (sym same) (none k)
      | inr less ↦ is.none turn k low (omega (arith, less))
    ];
  }

  -- where none may come, none entered
  pub ran-company : (may_grow : Bool) (slot : ℕ) (history : History) → NotedByPlan list script start plan slot history
      → length history ≤ script.slots → (may_grow ≡ false → NoneEnters plan slot)
      → (newest : ℕ) × (IsNewestEntry plan slot newest
      × RanAsCompany list script may_grow (is_sound_after plan slot) (start.slot + newest) history)
  ran-company may_grow slot [] noted within stay = absurd noted
  ran-company may_grow zero (row ∷ history) noted within stay =
      let number : length history ≡ start.slot + 0 = omega (arith, noted.number) in (
        0,
        (
          record {
            within = omega arith;
            by = inl refl;
            none = λ turn k low high. absurd (omega (arith, low, high));
          },
          (
            sound-calm 0 history number (omega (arith, within)),
            inl (number, began list script start plan row history follows noted),
          ),
        ),
      )
  ran-company may_grow (suc slot) (row ∷ history) noted within stay =
      let number : length history ≡ start.slot + suc slot =
      omega (arith, number-of list script start plan slot history noted.0) in
      let less : length history < script.slots = omega (arith, within) in
      let run = ran-company may_grow slot history noted.0 (omega (arith, within))
      (λ fixed turn k upto. stay fixed turn k (omega (arith, upto))) in
      let calm = sound-calm (suc slot) history number less in
      elim (entry-or-none plan (suc slot) (omega (arith, less, number, follows.slots))) [
        | inl none ↦
            let is = newest-same slot run.0 run.1.0 none in
            let stays = stayed may_grow slot run.0 row history number less is none noted.1
            (counted-run list script start plan (suc slot) (row ∷ history) follows noted) in
            (run.0, (is, (calm, inr (inl (is_sound_after plan slot, (run.1.1, stays))))))
        | inr some ↦
            let is : IsNewestEntry plan (suc slot) (suc slot) = record {
              within = omega arith;
              by = inr some;
              none = λ turn k low high. absurd (omega (arith, low, high));
            } in
            let may = grows may_grow (suc slot) some.0 stay some.1 in
            let grown = grew slot run.0 some.0 row history number less run.1.0 some.1 noted.1
            (counted-run list script start plan slot history follows noted.0) in
            let was : ℕ → Bool = is_sound_after plan slot in
            (suc slot, (is, (calm, inr (inr (number, (may, (was, (start.slot + run.0, (run.1.1, grown)))))))))
      ]
