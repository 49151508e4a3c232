-- Nodes that run as a company: in each slot all are at the same place, and their clocks are held.
use Rattle.std.proofs.Common.{◌≡◌, ℕ, suc, ◌+◌, ◌<◌, ◌≤◌, ℤ, pos, ◌+ℤ◌, ◌-ℤ◌, ◌≤ℤ◌, Bool, true, false}
use Rattle.std.proofs.Common.{◌⊎◌, inl, inr, List, [], ◌∷◌, length, None, cond, refl, ap, sym, subst, ◌∙◌, arith}
use Rattle.std.proofs.Common.{add-one}
use Rattle.std.specs.Prelude.{◌==◌, ◌||◌, All, IsTrue}
use Rattle.std.proofs.lemmas.Bool.{cond_both, eqb-true, eqb-false, false≢true}
use Rattle.std.proofs.lemmas.Int.{ints}
use Rattle.std.proofs.lemmas.List.Elements.{All-nil, All-cons}
use Rattle.ttp_world.specs.declared.medl.Medl.{Medl}
use Rattle.ttp_world.specs.declared.node.Entry.{Entry}
use Rattle.ttp_world.specs.declared.script.Script.{Script}
use Rattle.ttp_world.specs.After.{is_active_entry}
use Rattle.ttp_world.specs.Clock.{join_deviation, notes_in, begins_round, stint_notes, offset_of}
use Rattle.ttp_world.specs.Diary.{History, entry_of, diary_of, continues_stint, begins_stint, Place, next_place}
use Rattle.ttp_world.specs.Diary.{stint_place, place_of, ends_round}
use Rattle.ttp_world.specs.Hypothesis.{needed, clocks_broken}
use Rattle.ttp_world.specs.Medium.{surroundings_in, surroundings_of}
use Rattle.ttp_world.specs.Medl.{IsValid, plan_at}
use Rattle.ttp_world.specs.Script.{drift_of, jump_of}
use Rattle.precision.specs.Spread.{spread, spread_rejoining, needed_rejoining}
use Rattle.precision.specs.Together.{IsIn, BeganTogether, NotedAlike, Nothing, OneFrame, TellsOf}
use Rattle.precision.specs.Together.{RanTogether}
use Rattle.precision.specs.Together.{NoneJumps, IsCommonRun, clock_at, measured, HoldsClocksWithin}
use Rattle.precision.specs.Together.{HoldsDeviationsWithin}
use Rattle.precision.specs.Company.{AreCalm, IsCalmIn, IsNotedOf, StayedInCompany, GrewTogether, RanAsCompany}
use Rattle.precision.specs.Company.{IsCompanyRun, IsCompanySettled, HoldsCompanyClocksWithin, HoldsSettledClocksWithin}
use Rattle.precision.specs.Company.{HoldsCompanyDeviationsWithin, HoldsSettledDeviationsWithin}
use Rattle.precision.proofs.Averages.{IsUpTo, Locate}
use Rattle.precision.proofs.Frames.{frame_of, frame_of-node, RunsFrom, moved, begun_stint, begun_place, begun_set}
use Rattle.precision.proofs.Frames.{begun_near, frames_at, begun_noted, told_noted, told_goes, joins_nothing}
use Rattle.precision.proofs.ClockBounds.{drift_within, error_within}
use Rattle.precision.proofs.Rounds.{Held, Slot, IsSame, Comes, WasThere, IsNew, held_part, held_begun, held_next}
use Rattle.precision.proofs.Rounds.{held_grown, held_corrected, frame_come, correction, corrected_last}
use Rattle.precision.proofs.Rounds.{corrected_inside, AreWithin, after_average, drifted, entry_width, product_twice}
use Rattle.precision.proofs.Rounds.{settled_within, company_within}
use Rattle.precision.proofs.Entries.{begun_active, continued_active, place_of-active, notes_of-active, place_continued}
use Rattle.precision.proofs.Entries.{begins_no_stint, notes_next, begun_round_first, offset_corrected, clock_at-still}
use Rattle.ttp_world.proofs.MemberSets.{or-false as or_none}
use Rattle.ttp_world.proofs.SmallTests.{not_zero as suc_some, plus_none}

-- node k's clock after a history, and its notes of the newest slot's round
abbrev pub clock_after : Medl → Script → History → ℕ → ℤ
clock_after list script history k = offset_of list k (diary_of history k) (surroundings_of script history k)

abbrev pub round_notes : Medl → History → ℕ → List ℤ
round_notes list history k = stint_notes list k (diary_of history k)

-- its notes of the round of a coming slot at this place
abbrev notes_before : Medl → History → Place → ℕ → List ℤ
notes_before list history place k = cond (place.slot == 0) [] (round_notes list history k)

-- the group is at one place, and its clocks are held
record Kept (list : Medl) (script : Script) (may_grow : Bool) (group : ℕ → Bool) (l : ℕ) (history : History)
    : Type 0 where
  -- of the coming slot
  place : Place
  inside : place.slot < length list.slots
  places : (k : ℕ) → IsIn list group k → next_place list (stint_place list k (diary_of history k)) ≡ place
  width : ℤ
  held : Held list may_grow (IsIn list group) l (length history) place.slot width (clock_after list script history)
      (notes_before list history place)

-- each node of it runs within its bounds in the slot after a history, and doesn't jump
record RunsOn (list : Medl) (script : Script) (group : ℕ → Bool) (history : History) : Type 0 where
  up : pos 0 ≤ℤ list.drift
  error_up : pos 0 ≤ℤ list.error
  runs : (k : ℕ) → IsIn list group k → RunsFrom list script history k (clock_after list script history k)
  calm : AreCalm list script group history

-- One slot more.

-- the clock in the slot as it is set by a frame on which the node joins, before it drifts, and after it
abbrev set_clock : Medl → Script → List Entry → History → ℕ → ℤ
set_clock list script row history k = clock_after list script history k +ℤ join_deviation (entry_of row k)

abbrev later_clock : Medl → Script → List Entry → History → ℕ → ℤ
later_clock list script row history k =
    moved script k (clock_after list script history k) (join_deviation (entry_of row k))

-- the notes of the slot's round that were before it
abbrev carried : Medl → List Entry → History → Place → ℕ → List ℤ
carried list row history place k = cond (begins_round place (entry_of row k)) [] (round_notes list history k)

abbrev added : Medl → List Entry → Place → ℕ → List ℤ
added list row place k = notes_in list place (entry_of row k)

next_inside : (list : Medl) (place : Place) → place.slot < length list.slots
    → (next_place list place).slot < length list.slots
next_inside list place inside =
    cond_both (suc place.slot == length list.slots) _ _ (λ (there : Place). there.slot < length list.slots)
    (λ last. omega arith) (λ other. omega (arith, eqb-false (suc place.slot) (length list.slots) other))

-- what a slot makes of a group that is at one place in it
record IsAt (list : Medl) (script : Script) (group : ℕ → Bool) (l : ℕ) (row : List Entry) (history : History)
    (place : Place) : Type 0 where
  on : RunsOn list script group history
  began : l ≤ length history
  inside : place.slot < length list.slots
  active : (k : ℕ) → IsIn list group k → is_active_entry (entry_of row k) ≡ true
  places : (k : ℕ) → IsIn list group k → stint_place list k (diary_of (row ∷ history) k) ≡ place
  enough : suc place.slot ≡ length list.slots → l + length list.slots < suc (length history)
      → (k : ℕ) → IsIn list group k
      → 4 ≤ length (round_notes list (row ∷ history) k)

-- a node of a group that grows: of before, or one that comes
record IsRight (list : Medl) (script : Script) (before : ℕ → Bool) (p : ℕ) (row : List Entry) (history : History)
    (place : Place) (k : ℕ) : Type 0 where
  active : is_active_entry (entry_of row k) ≡ true
  placed : stint_place list k (diary_of (row ∷ history) k) ≡ place
  comes : Comes list (IsIn list before) p (clock_after list script history) (set_clock list script row history)
      (notes_before list history place) (carried list row history place) k
  noted : Locate (list.error +ℤ list.drift) (later_clock list script row history k) (added list row place k)
      (frames_at list place (frame_of list script history p))

-- where a frame is noted, it is near a clock
frames_near : (w x c : ℤ) (sync : Bool) → IsUpTo w (x -ℤ c) → All (λ y. IsUpTo w (y -ℤ c)) (cond sync (x ∷ []) [])
frames_near w x c true near = All-cons (λ y. IsUpTo w (y -ℤ c)) x [] near (All-nil (λ y. IsUpTo w (y -ℤ c)))
frames_near w x c false near = All-nil (λ y. IsUpTo w (y -ℤ c))

-- the frame of a node that doesn't jump in the slot
frame_calm : (list : Medl) (script : Script) (before : ℕ → Bool) (history : History) (p : ℕ)
    → IsCalmIn list script before history p → frame_of list script history p ≡ clock_after list script history p
frame_calm list script before history p calm =
    frame_of-node list script history p calm.0.0 ∙ clock_at-still list script history p calm.1

module _ (list : Medl) (script : Script) (row : List Entry) (history : History) where
  abbrev clock : ℕ → ℤ
  clock = clock_after list script history

  abbrev set : ℕ → ℤ
  set = set_clock list script row history

  abbrev later : ℕ → ℤ
  later = later_clock list script row history

  abbrev all_notes : ℕ → List ℤ
  all_notes = round_notes list (row ∷ history)

  clock_next : (k : ℕ) (place : Place) → jump_of script k (length history) ≡ pos 0
      → is_active_entry (entry_of row k) ≡ true → stint_place list k (diary_of (row ∷ history) k) ≡ place
      → clock_after list script (row ∷ history) k ≡ later k +ℤ correction list place.slot (all_notes k)
  clock_next k place still active is =
      offset_corrected list k (diary_of history k) (surroundings_of script history k) (entry_of row k)
      (surroundings_in script (length history) row k) place active is
      ∙ ap (λ j. (clock k +ℤ (j +ℤ (drift_of script k +ℤ join_deviation (entry_of row k))))
      +ℤ correction list place.slot (all_notes k)) still

  carried_begun : (place : Place) (k : ℕ) → begins_stint (entry_of row k) ≡ true → carried list row history place k ≡ []
  carried_begun place k begins =
      ap (λ b. cond b [] (round_notes list history k)) (begun_round_first place (entry_of row k) begins)

  -- a node that goes on is as it was
  goes_same : (before : ℕ → Bool) (place : Place) (k : ℕ) → IsIn list before k → continues_stint (entry_of row k) ≡ true
      → IsSame (IsIn list before) clock set (notes_before list history place) (carried list row history place) k
  goes_same before place k member goes = record {
    member = member;
    same_clock = ap (λ z. clock k +ℤ z) (joins_nothing (entry_of row k) goes) ∙ plus_none (clock k);
    same_notes = ap (λ b. cond ((place.slot == 0) || b) [] (round_notes list history k))
        (begins_no_stint (entry_of row k) goes)
        ∙ ap (λ b. cond b [] (round_notes list history k)) (or_none (place.slot == 0));
  }

  -- it tells of a frame
  goes_noted : (place : Place) (p k : ℕ) → RunsFrom list script history k (clock k)
      → TellsOf list script history p k (entry_of row k)
      → Locate (list.error +ℤ list.drift) (later k) (added list row place k)
      (frames_at list place (frame_of list script history p))
  goes_noted place p k runs tells =
      subst (λ z. Locate (list.error +ℤ list.drift) (moved script k (clock k) z)
      (added list row place k) (frames_at list place (frame_of list script history p)))
      (sym (joins_nothing (entry_of row k) (told_goes list script history p k (entry_of row k) tells)))
      (told_noted list script history p k place (clock k) (entry_of row k) runs tells)

  module _ (group : ℕ → Bool) (l : ℕ) (on : RunsOn list script group history) where
    after_slot : (may_grow : Bool) (place : Place) (width : ℤ) → IsAt list script group l row history place
        → Held list may_grow (IsIn list group) l (length history) place.slot width set (carried list row history place)
        → Slot list may_grow (IsIn list group) (drifted list width place.slot) set later (added list row place)
        → Kept list script may_grow group l (row ∷ history)
    after_slot may_grow place width at held slot = record {
      place = next_place list place;
      inside = next_inside list place at.inside;
      places = λ k p. ap (next_place list) (at.places k p);
      width = after.0;
      held = after.1;
    }
      where
        next : Held list may_grow (IsIn list group) l (suc (length history)) (suc place.slot) width later all_notes
        next =
            held_next on.up held slot
            (λ k p. notes_next list k (diary_of history k) (entry_of row k) place (at.places k p))

        moves : (k : ℕ) → IsIn list group k
            → clock_after list script (row ∷ history) k ≡ later k +ℤ correction list place.slot (all_notes k)
        moves k p = clock_next k place (on.calm k p) (at.active k p) (at.places k p)

        after : (w : ℤ) × Held list may_grow (IsIn list group) l (suc (length history)) (next_place list place).slot w
            (clock_after list script (row ∷ history)) (notes_before list (row ∷ history) (next_place list place))
        after =
            cond_both (suc place.slot == length list.slots) _ _
            (λ (there : Place). (w : ℤ) × Held list may_grow (IsIn list group) l (suc (length history)) there.slot w
            (clock_after list script (row ∷ history)) (notes_before list (row ∷ history) there)) (λ last.
            let ends : suc place.slot ≡ length list.slots = eqb-true (suc place.slot) (length list.slots) last in
            let average = held_corrected list on.up on.error_up (IsIn list group) l (suc (length history)) width later
            all_notes may_grow (omega (arith, at.began)) (rw ends at next) (at.enough ends) in (
              average.0,
              held_part {width = average.0} average.1 (λ k p. record {
                member = p;
                same_clock = corrected_last list place.slot (all_notes k) (later k)
                    (clock_after list script (row ∷ history) k) last (moves k p);
                same_notes = refl;
              }),
            )) (λ other. rw (add-one place.slot) (
              width,
              held_part next (λ k p. record {
                member = p;
                same_clock = corrected_inside list place.slot (all_notes k) (later k)
                    (clock_after list script (row ∷ history) k) other (moves k p);
                same_notes = ap (λ b. cond b [] (all_notes k)) (suc_some place.slot);
              }),
            ))

    -- Beginning.

    began_kept : (may_grow : Bool) → length history ≡ l → BeganTogether list script group row history
        → Kept list script may_grow group l (row ∷ history)
    began_kept may_grow first began =
        after_slot may_grow place width (record {
          on = on;
          began = omega (arith, first);
          inside = began.inside;
          active = λ k p. begun_active (entry_of row k) (begins k p);
          places = λ k p. begun_place list script history began.sender k place (diary_of history k) (entry_of row k)
              (began.begins k p);
          enough = λ ends late k p. absurd (omega (arith, late, first, began.inside));
        }) (held_part (held_begun list on.up on.error_up {group = IsIn list group} frame {clock = set} first set_near)
        (λ k p. record { member = p; same_clock = refl; same_notes = carried_begun place k (begins k p) })) (record {
          moved = λ k p. omega (arith, ints, (on.runs k p).drift);
          frames = frames_at list place frame;
          noted = λ k p. begun_noted list script history began.sender k place (list.error +ℤ list.drift) (later k) frame
              (entry_of row k) (began.begins k p)
              (begun_near list script history began.sender k place (clock k) (entry_of row k) (on.runs k p)
              (began.begins k p));
          near = λ grows k p. frames_near (drifted list width place.slot) frame (set k) (plan_at list place.slot).sync
              (omega (arith, ints, set_near k p, on.error_up, product_twice list.drift place.slot on.up));
        })
      where
        place : Place
        place = began.place

        width : ℤ
        width = list.error +ℤ list.error

        frame : ℤ
        frame = frame_of list script history began.sender

        begins : (k : ℕ) → IsIn list group k → begins_stint (entry_of row k) ≡ true
        begins k p = begun_stint list script history began.sender k place (entry_of row k) (began.begins k p)

        set_near : (k : ℕ) → IsIn list group k → IsUpTo list.error (set k -ℤ frame)
        set_near k p =
            begun_set list script history began.sender k place (clock k) (entry_of row k) (on.runs k p)
            (began.begins k p)

    -- Going on.

    stayed_slot : (may_grow : Bool) (before : ℕ → Bool) (place : Place) (width : ℤ)
        → ((k : ℕ) → IsIn list group k → place_of list k (diary_of (row ∷ history) k) ≡ place)
        → (same : (k : ℕ) → IsIn list group k
        → IsSame (IsIn list before) clock set (notes_before list history place) (carried list row history place) k)
        → AreWithin (IsIn list before) clock (drifted list width place.slot)
        → (noted : NotedAlike list script group row history)
        → (IsTrue may_grow → IsNotedOf list script before group row history noted)
        → Slot list may_grow (IsIn list group) (drifted list width place.slot) set later (added list row place)
    stayed_slot may_grow before place width places same apart (Nothing none) from = record {
      moved = λ k p. omega (arith, ints, (on.runs k p).drift);
      frames = [];
      noted = λ k p. rw (← places k p, none k p) tt;
      near = λ grows k p. All-nil (λ y. IsUpTo (drifted list width place.slot) (y -ℤ set k));
    }
    stayed_slot may_grow before place width places same apart (OneFrame p tells) from = record {
      moved = λ k q. omega (arith, ints, (on.runs k q).drift);
      frames = frames_at list place (frame_of list script history p);
      noted = λ k q. goes_noted place p k (on.runs k q) (tells k q);
      near = λ grows k q. frames_near (drifted list width place.slot) (frame_of list script history p) (set k)
          (plan_at list place.slot).sync (let calm = frame_calm list script before history p (from grows) in
          let before_k = apart p k (from grows).0 (same k q).member in
          omega (arith, ints, calm, (same k q).same_clock, before_k, apart k p (same k q).member (from grows).0));
    }

    stayed_kept : (may_grow : Bool) (before : ℕ → Bool) → l < length history
        → StayedInCompany list script may_grow before group l row history → Kept list script may_grow before l history
        → Kept list script may_grow group l (row ∷ history)
    stayed_kept may_grow before older stayed kept =
        after_slot may_grow place kept.width (record {
          on = on;
          began = omega (arith, older);
          inside = kept.inside;
          active = active;
          places = places;
          enough = enough;
        }) (held_part kept.held same)
        (stayed_slot may_grow before place kept.width public_places same kept.held.apart stayed.together.noted
        stayed.noted)
      where
        place : Place
        place = kept.place

        member : (k : ℕ) → IsIn list group k → IsIn list before k
        member k p = (p.0, stayed.less k p)

        active : (k : ℕ) → IsIn list group k → is_active_entry (entry_of row k) ≡ true
        active k p = continued_active (entry_of row k) (stayed.together.active k p)

        places : (k : ℕ) → IsIn list group k → stint_place list k (diary_of (row ∷ history) k) ≡ place
        places k p =
            place_continued list k (diary_of history k) (entry_of row k) (stayed.together.active k p)
            ∙ kept.places k (member k p)

        public_places : (k : ℕ) → IsIn list group k → place_of list k (diary_of (row ∷ history) k) ≡ place
        public_places k p = place_of-active list k (diary_of history k) (entry_of row k) (active k p) ∙ places k p

        same : (k : ℕ) → IsIn list group k
            → IsSame (IsIn list before) clock set (notes_before list history place) (carried list row history place) k
        same k p = goes_same before place k (member k p) (stayed.together.active k p)

        enough : suc place.slot ≡ length list.slots → l + length list.slots < suc (length history)
            → (k : ℕ) → IsIn list group k → 4 ≤ length (all_notes k)
        enough ends late k p =
            let last : (suc place.slot == length list.slots) ≡ true = grind arith in
            subst (λ ns. 4 ≤ length ns) (notes_of-active list k (diary_of history k) (entry_of row k) (active k p))
            (stayed.together.enough k p (ap (ends_round list) (public_places k p) ∙ last, omega (arith, late)))

    -- Growing.

    grew_kept : (before : ℕ → Bool) (older : ℕ) → length history ≡ l
        → GrewTogether list script before group older row history → Kept list script true before older history
        → Kept list script true group l (row ∷ history)
    grew_kept before older first grew kept =
        after_slot true place (entry_width list true) (record {
          on = on;
          began = omega (arith, first);
          inside = kept.inside;
          active = λ k p. (by_before k p).active;
          places = λ k p. (by_before k p).placed;
          enough = λ ends late k p. absurd (omega (arith, late, first, kept.inside));
        }) (held_grown list on.up on.error_up place.slot grew.sender kept.width grew.member.0 narrow (IsIn list group)
        older l (length history) first (λ k p. (by_before k p).comes) kept.held) (record {
          moved = λ k p. omega (arith, ints, (on.runs k p).drift);
          frames = frames_at list place (frame_of list script history grew.sender);
          noted = λ k p. (by_before k p).noted;
          near = λ grows k p. frames_near (drifted list (entry_width list true) place.slot)
              (frame_of list script history grew.sender) (set k) (plan_at list place.slot).sync
              (rw calm (frame_come list on.up on.error_up place.slot grew.sender kept.width grew.member.0 narrow k
              kept.held.apart (by_before k p).comes));
        })
      where
        place : Place
        place = kept.place

        calm : frame_of list script history grew.sender ≡ clock grew.sender
        calm = frame_calm list script before history grew.sender grew.member

        narrow : kept.width ≤ℤ after_average list
        narrow = kept.held.wide.settled (omega (arith, kept.inside, grew.later))

        was_there : (k : ℕ) → IsIn list group k → before k ≡ true
            → IsRight list script before grew.sender row history place k
        was_there k p there =
            let tells = grew.tells k p there in
            let goes = told_goes list script history grew.sender k (entry_of row k) tells in
            record {
              active = continued_active (entry_of row k) goes;
              placed = place_continued list k (diary_of history k) (entry_of row k) goes ∙ kept.places k (p.0, there);
              comes = WasThere (goes_same before place k (p.0, there) goes);
              noted = goes_noted place grew.sender k (on.runs k p) tells;
            }

        is_new : (k : ℕ) → IsIn list group k → before k ≡ false
            → IsRight list script before grew.sender row history place k
        is_new k p away =
            let start = next_place list (stint_place list grew.sender (diary_of history grew.sender)) in
            let begins = grew.begins k p away in
            let stint = begun_stint list script history grew.sender k start (entry_of row k) begins in
            record {
              active = begun_active (entry_of row k) stint;
              placed = begun_place list script history grew.sender k start (diary_of history k) (entry_of row k) begins
                  ∙ kept.places grew.sender grew.member.0;
              comes = IsNew (rw (← calm)
                  (begun_set list script history grew.sender k start (clock k) (entry_of row k) (on.runs k p) begins))
                  (carried_begun place k stint);
              noted = subst (λ (there : Place). Locate (list.error +ℤ list.drift) (later k) (added list row there k)
                  (frames_at list there (frame_of list script history grew.sender)))
                  (kept.places grew.sender grew.member.0)
                  (begun_noted list script history grew.sender k start (list.error +ℤ list.drift) (later k)
                  (frame_of list script history grew.sender) (entry_of row k) begins
                  (begun_near list script history grew.sender k start (clock k) (entry_of row k) (on.runs k p) begins));
            }

        by_before : (k : ℕ) → IsIn list group k → IsRight list script before grew.sender row history place k
        by_before k p = test (before k) refl
          where
            test : (b : Bool) → before k ≡ b → IsRight list script before grew.sender row history place k
            test true there = was_there k p there
            test false away = is_new k p away

-- The whole run.

ran_after : (list : Medl) (script : Script) (may_grow : Bool) (group : ℕ → Bool) (l : ℕ) (history : History)
    → RanAsCompany list script may_grow group l history → l < length history
ran_after list script may_grow group l [] ran = absurd ran
ran_after list script may_grow group l (row ∷ history) (calm, inl began) = omega (arith, began.0)
ran_after list script may_grow group l (row ∷ history) (calm, inr (inl stayed)) =
    omega (arith, ran_after list script may_grow stayed.0 l history stayed.1.0)
ran_after list script may_grow group l (row ∷ history) (calm, inr (inr grew)) = omega (arith, grew.0)

module _ (list : Medl) (script : Script) (valid : IsValid list) (bounds : clocks_broken list script ≡ None) where
  runs_on : (group : ℕ → Bool) (history : History) → length history < script.slots
      → AreCalm list script group history → RunsOn list script group history
  runs_on group history within calm = record {
    up = valid.drift.0;
    error_up = valid.error.0;
    runs = λ k p. record {
      inside = p.0;
      before = clock_at-still list script history k (calm k p);
      drift = drift_within list script k bounds p.0;
      error = error_within list script (length history) k bounds within p.0;
      error_up = valid.error.0;
    };
    calm = calm;
  }

  kept : (may_grow : Bool) (group : ℕ → Bool) (l : ℕ) (history : History) → length history ≤ script.slots
      → RanAsCompany list script may_grow group l history → Kept list script may_grow group l history
  kept may_grow group l [] within ran = absurd ran
  kept may_grow group l (row ∷ history) within (calm, inl began) =
      began_kept list script row history group l (runs_on group history (omega (arith, within)) calm) may_grow began.0
      began.1
  kept may_grow group l (row ∷ history) within (calm, inr (inl stayed)) =
      stayed_kept list script row history group l (runs_on group history (omega (arith, within)) calm) may_grow stayed.0
      (ran_after list script may_grow stayed.0 l history stayed.1.0) stayed.1.1
      (kept may_grow stayed.0 l history (omega (arith, within)) stayed.1.0)
  kept true group l (row ∷ history) within (calm, inr (inr grew)) =
      let run = grew.1.1 in
      grew_kept list script row history group l (runs_on group history (omega (arith, within)) calm) run.0 run.1.0
      grew.0 run.1.1.1 (kept true run.0 run.1.0 history (omega (arith, within)) run.1.1.0)
  kept false group l (row ∷ history) within (calm, inr (inr grew)) = absurd (false≢true grew.1.0)

-- a group that stayed together is a company to which none may come
together_calm : (list : Medl) (script : Script) (group : ℕ → Bool) (s : ℕ) (history : History)
    → RanTogether list script group s history → s < length history
together_calm list script group s [] ran = absurd ran
together_calm list script group s (row ∷ history) (inl began) = omega (arith, began.0)
together_calm list script group s (row ∷ history) (inr stayed) =
    omega (arith, together_calm list script group s history stayed.0)

together_ran : (list : Medl) (script : Script) (group : ℕ → Bool) (s : ℕ) (history : History)
    → NoneJumps list script group s (length history) → RanTogether list script group s history
    → RanAsCompany list script false group s history
together_ran list script group s [] jumps ran = absurd ran
together_ran list script group s (row ∷ history) jumps (inl began) =
    (λ k p. jumps k (length history) p (omega (arith, began.0)) (omega arith), inl began)
together_ran list script group s (row ∷ history) jumps (inr stayed) =
    let after : s < length history = together_calm list script group s history stayed.0 in (
      λ k p. jumps k (length history) p (omega (arith, after)) (omega arith),
      inr (inl (
        group,
        (
          together_ran list script group s history (λ k slot p low high. jumps k slot p low (omega (arith, high)))
              stayed.0,
          record { less = λ k p. p.1; together = stayed.1; noted = λ grows. absurd (false≢true grows) },
        ),
      )),
    )

common_company : (list : Medl) (script : Script) (group : ℕ → Bool) (s : ℕ) (history : History)
    → IsCommonRun list script group s history → IsCompanyRun list script false group s history
common_company list script group s history run =
    let after : s < length history = together_calm list script group s history run.together in
    record {
      bounds = run.bounds;
      within = run.within;
      calm = λ k p. run.jumps k (length history) p (omega (arith, after)) (omega arith);
      together = together_ran list script group s history run.jumps run.together;
    }

-- The bounds.

at_beginning : (list : Medl) (script : Script) (group : ℕ → Bool) (history : History) (k : ℕ)
    → AreCalm list script group history → IsIn list group k
    → clock_at list script history k ≡ clock_after list script history k
at_beginning list script group history k calm p = clock_at-still list script history k (calm k p)

-- by how many slots of the round are over
settled_round : (list : Medl) (script : Script) (may_grow : Bool) (group : ℕ → Bool) (l : ℕ) (history : History) (j : ℕ)
    → (ran : Kept list script may_grow group l history) → IsIn list group j
    → IsCompanySettled list may_grow group l history
    → (may_grow ≡ false) ⊎ (l + length list.slots + ran.place.slot < length history)
settled_round list script may_grow group l history j ran p (inl fixed) = inl fixed
settled_round list script may_grow group l history j ran p (inr (inl late)) = inr (omega (arith, late, ran.inside))
settled_round list script may_grow group l history j ran p (inr (inr late)) =
    inr (subst (λ (there : Place). l + length list.slots + there.slot < length history) (ran.places j p) (late j p))

pub settled_clocks : (list : Medl) → IsValid list → HoldsSettledClocksWithin list (spread list)
unfolding HoldsSettledClocksWithin
settled_clocks list valid script may_grow group l history run settled j k p q =
    let ran = kept list script valid run.bounds may_grow group l history run.within run.together in
    rw (at_beginning list script group history j run.calm p, at_beginning list script group history k run.calm q)
    (settled_within list valid.drift.0 valid.error.0 ran.inside ran.held
    (settled_round list script may_grow group l history j ran p settled) j k p q)

pub company_clocks : (list : Medl) → IsValid list → HoldsCompanyClocksWithin list (spread_rejoining list)
unfolding HoldsCompanyClocksWithin
company_clocks list valid script may_grow group l history run j k p q =
    let ran = kept list script valid run.bounds may_grow group l history run.within run.together in
    rw (at_beginning list script group history j run.calm p, at_beginning list script group history k run.calm q)
    (company_within list valid.drift.0 valid.error.0 ran.inside ran.held j k p q)

pub clocks_within : (list : Medl) → IsValid list → HoldsClocksWithin list (spread list)
unfolding HoldsClocksWithin HoldsSettledClocksWithin
clocks_within list valid script group s history run =
    settled_clocks list valid script false group s history (common_company list script group s history run) (inl refl)

-- Deviations.

-- what is measured is further off than the clocks by a reading error at most
measured_within : (list : Medl) (script : Script) (history : History) (bound : ℤ) (r p : ℕ)
    → clocks_broken list script ≡ None → length history < script.slots → r < length list.slots → p < length list.slots
    → (clock_at list script history p -ℤ clock_at list script history r) ≤ℤ bound
    → (clock_at list script history r -ℤ clock_at list script history p) ≤ℤ bound
    → IsUpTo (bound +ℤ list.error) (measured list script history r p)
measured_within list script history bound r p bounds within at from apart back =
    let error = error_within list script (length history) r bounds within at in
    omega (arith, ints, frame_of-node list script history p from, frame_of-node list script history r at, error)

pub settled_deviations : (list : Medl) → IsValid list → HoldsSettledDeviationsWithin list (needed list)
unfolding HoldsSettledClocksWithin HoldsSettledDeviationsWithin
settled_deviations list valid script may_grow group l history run settled within r p a b =
    let near = measured_within list script history (spread list) r p run.bounds within a.0 b.0
    (settled_clocks list valid script may_grow group l history run settled p r b a)
    (settled_clocks list valid script may_grow group l history run settled r p a b) in
    omega (arith, ints, near)

pub company_deviations : (list : Medl) → IsValid list → HoldsCompanyDeviationsWithin list (needed_rejoining list)
unfolding HoldsCompanyClocksWithin HoldsCompanyDeviationsWithin
company_deviations list valid script may_grow group l history run within r p a b =
    let near = measured_within list script history (spread_rejoining list) r p run.bounds within a.0 b.0
    (company_clocks list valid script may_grow group l history run p r b a)
    (company_clocks list valid script may_grow group l history run r p a b) in
    omega (arith, ints, near)

pub deviations_within : (list : Medl) → IsValid list → HoldsDeviationsWithin list (needed list)
unfolding HoldsDeviationsWithin HoldsSettledDeviationsWithin
deviations_within list valid script group s history run =
    settled_deviations list valid script false group s history (common_company list script group s history run)
    (inl refl)
