-- The clocks of the nodes of a plan that loses none, where one sender may be two-faced: after each slot, and what they
-- measure in the next.
use Rattle.two_faced.proofs.Words.{◌≡◌, ℕ, zero, suc, ◌+◌, ◌-◌, ◌<◌, ◌≤◌, ℤ, pos, ◌+ℤ◌, ◌-ℤ◌, ◌≤ℤ◌, Bool, true, false}
use Rattle.two_faced.proofs.Words.{cond, List, [], ◌∷◌, length, inl, inr, refl, ap, sym, subst, ◌∙◌, arith, ◌==◌}
use Rattle.two_faced.proofs.Words.{cases_eq, ints, has_node, Medl, Entry, Script, notes_in, History, entry_of}
use Rattle.two_faced.proofs.Words.{ClusterStart, plan_at, drift_of, jump_of, reading_error, node_past, measured, IsUpTo}
use Rattle.two_faced.proofs.Words.{clock_at-still, frame_of, frame_of-node, product_up, AreWithin, clock_after}
use Rattle.two_faced.proofs.Words.{FaultPlan, sender, planned_place, none-enters, IsSoundIn, NotedInSlot, clock_moved}
use Rattle.two_faced.proofs.Words.{sender-in, bound}
use Rattle.std.proofs.lemmas.Bool.{eqb-true}
use Rattle.ttp_world.specs.declared.node.Entry.TheVariants as entry
use Rattle.ttp_world.specs.Clock.{join_deviation}
use Rattle.ttp_world.specs.Conduct.{cold_start_cstate}
use Rattle.ttp_world.specs.Diary.{diary_of, start_place, begins_stint, continues_stint}
use Rattle.ttp_world.specs.Diary.{stint_place}
use Rattle.ttp_world.specs.Medium.{surroundings_in, surroundings_of}
use Rattle.ttp_world.specs.Reception.{is_within_window}
use Rattle.two_faced.proofs.FromBelow.{begun_active, offset_corrected, notes_anew, begun_round_first, correction}
use Rattle.two_faced.proofs.FromBelow.{corrected_last, corrected_inside, product_once as one_drift, round_notes}
use Rattle.two_faced.proofs.FromBelow.{four-measured, first-sender, clock-next, notes-next, index-of, Counted}
use Rattle.two_faced.proofs.FromBelow.{sound-goes, place-slot, number-of, counted-run}
use Rattle.safety_laws.specs.Fates.{is_measured, tally}
use Rattle.safety_laws.specs.NotedByPlan.{StartedByPlan, NotedByPlan}
use Rattle.two_faced.proofs.PulledNotes.{Locate, AreTurns, test_of}
use Rattle.two_faced.proofs.FacedRounds.{width, in_round, Round, round_begins, round_goes, round_ends}
use Rattle.two_faced.proofs.FacedRounds.{round_within, in_round_bound}
use Rattle.two_faced.proofs.FacedSlots.{IsFacing, Group, to_sound, of_sound, drifts, errors, errors_first}
use Rattle.two_faced.proofs.FacedSlots.{stay, frame_is, have_drifted, slot_notes}
use Rattle.ttp_world.proofs.SmallTests.{plus_none}

-- The correction.

-- the round with which the next slot begins, after slot m of one
abbrev After : Medl → (ℕ → Type 0) → ℕ → ℕ → ℕ → ℕ → Bool → (ℕ → ℤ) → (ℕ → List ℤ) → Type 0
After list group z s t m last clock notes =
    Round list group z s t (cond last 0 (suc m)) clock (λ k. cond last [] (notes k))

round_same : (list : Medl) (group : ℕ → Type 0) (z s t q : ℕ) (clock same : ℕ → ℤ) (notes : ℕ → List ℤ)
    → ((k : ℕ) → group k → same k ≡ clock k) → Round list group z s t q clock notes
    → Round list group z s t q same notes
round_same list group z s t q clock same notes is r = record {
  began = r.began;
  apart = r.apart;
  first = r.first;
  moved = λ k p. rw (is k p) (r.moved k p);
  senders = r.senders;
  turns = r.turns;
  noted = λ k p. rw (is k p) (r.noted k p);
}

module _ (list : Medl) (group : ℕ → Type 0) where
  after_slot : (z s t m : ℕ) (clock after : ℕ → ℤ) (notes : ℕ → List ℤ) → pos 0 ≤ℤ list.drift → pos 0 ≤ℤ list.error
      → s < t → Round list group z s t (suc m) clock notes
      → (suc m ≡ length list.slots → s + length list.slots < t → (k : ℕ) → group k → 4 ≤ length (notes k))
      → ((k : ℕ) → group k → after k ≡ clock k +ℤ correction list m (notes k)) → (last : Bool)
      → (suc m == length list.slots) ≡ last → After list group z s t m last after notes
  after_slot z s t m clock after notes up some later r enough is true last =
      let ends : suc m ≡ length list.slots = eqb-true (suc m) (length list.slots) last in
      let apart = round_ends list group z s t (suc m) clock notes up some ends r (enough ends) in
      round_begins list group z s t after up later (λ j k p q. rw (
        corrected_last list m (notes j) (clock j) (after j) last (is j p),
        corrected_last list m (notes k) (clock k) (after k) last (is k q),
      ) (apart j k p q))
  after_slot z s t m clock after notes up some later r enough is false inside =
      round_same list group z s t (suc m) clock after notes
      (λ k p. corrected_inside list m (notes k) (clock k) (after k) inside (is k p)) r

-- what the entry of a node in the slot of the start says, on a frame of node p
record BegunEntry (list : Medl) (script : Script) (history : History) (p k : ℕ) (e : Entry) : Type 0 where
  begins : begins_stint e ≡ true
  place : stint_place list k (e ∷ diary_of history k) ≡ start_place p
  notes : notes_in list (start_place p) e ≡ cond (plan_at list p).sync (pos 0 ∷ []) []
  near : IsUpTo list.error ((clock_after list script history k +ℤ join_deviation e) -ℤ frame_of list script history p)

module _ (list : Medl) (script : Script) (start : ClusterStart) (z : ℕ) (plan : FaultPlan)
    (f : IsFacing list script start z plan) where
  up : pos 0 ≤ℤ list.drift
  up = f.valid.drift.0

  some : pos 0 ≤ℤ list.error
  some = f.valid.error.0

  abbrev p : ℕ
  p = start.node

  -- The start.

  module _ (row : List Entry) (history : History) (started : StartedByPlan list script start plan row history)
      (within : start.slot < script.slots) where
    abbrev x : ℤ
    x = frame_of list script history p

    abbrev sync : Bool
    sync = (plan_at list p).sync

    first_still : (k : ℕ) → Group list plan k → jump_of script k (length history) ≡ pos 0
    first_still k a =
        let here : start.slot + 0 ≡ length history = omega (arith, started.number) in
        subst (λ t. jump_of script k t ≡ pos 0) here (f.follows.clocks 0 k a.0 (omega (arith, within))
        (to_sound list script start z plan f 0 k a).1)

    frame_first : (k : ℕ) → Group list plan k → frame_of list script history k ≡ clock_after list script history k
    frame_first k a = frame_of-node list script history k a.0 ∙ clock_at-still list script history k (first_still k a)

    starts : (k : ℕ) → Group list plan k → k ≡ p → BegunEntry list script history p k entry.Started
    starts k a same = record {
      begins = refl;
      place = ap start_place same;
      notes = refl;
      near = rw (← same) (omega (arith, ints, frame_first k a, some));
    }

    abbrev joined : ℕ → Entry
    joined k = entry.Joined p (cold_start_cstate p) (measured list script history k p)

    joins : (k : ℕ) → Group list plan k → BegunEntry list script history p k (joined k)
    joins k a = record {
      begins = refl;
      place = refl;
      notes = refl;
      near =
          let error : IsUpTo list.error (reading_error script k (length history)) =
          rw started.number (errors_first list script start z plan f k a.0 within) in
          omega (arith, ints, frame_first k a, error);
    }

    begun : (k : ℕ) → Group list plan k → BegunEntry list script history p k (entry_of row k)
    begun k a = elim (cases_eq k p) [
      | inl same ↦
          subst (BegunEntry list script history p k) (sym (ap (entry_of row) same ∙ started.starter)) (starts k a same)
      | inr other ↦
          subst (BegunEntry list script history p k)
          (sym (started.joins k (to_sound list script start z plan f 0 k a) other)) (joins k a)
    ]

    abbrev began : ℕ → ℤ
    began k = clock_after list script history k +ℤ join_deviation (entry_of row k)

    abbrev clock : ℕ → ℤ
    clock k =
        clock_after list script history k
        +ℤ (jump_of script k (length history) +ℤ (drift_of script k +ℤ join_deviation (entry_of row k)))

    begins_near : AreWithin (Group list plan) began (list.error +ℤ list.error)
    begins_near j k a b = omega (arith, ints, (begun j a).near, (begun k b).near)

    starter_in : Group list plan p
    starter_in =
        let good = f.follows.good.starter in
        let starter = f.follows.starter in
        (omega (arith, starter, f.follows.nodes, good.0), ap (has_node plan.begin) (sym starter) ∙ good.1)

    frame_began : began p ≡ x
    frame_began =
        ap (λ (e : Entry). clock_after list script history p +ℤ join_deviation e) started.starter
        ∙ plus_none (clock_after list script history p) ∙ sym (frame_first p starter_in)

    turn_first : (b : Bool) → AreTurns (Group list plan) (suc p) (cond b (p ∷ []) [])
    turn_first true = (starter_in, omega arith, tt)
    turn_first false = tt

    note_first : (b : Bool) (k : ℕ) → Group list plan k
        → Locate z (width list (suc p)) began (clock k) (cond b (pos 0 ∷ []) []) (cond b (p ∷ []) [])
    note_first true k a = (
      λ other. let drift = drifts list script start z plan f k a.0 in
          omega (arith, ints, first_still k a, drift, one_drift list.drift p up, (begun k a).near, frame_began),
      tt,
    )
    note_first false k a = tt

    notes_first : (k : ℕ) → Group list plan k → round_notes list (row ∷ history) k ≡ cond sync (pos 0 ∷ []) []
    notes_first k a =
        notes_anew list k (diary_of history k) (entry_of row k) (start_place p) (begun k a).place
        (begun_round_first (start_place p) (entry_of row k) (begun k a).begins) ∙ (begun k a).notes

    round_first : Round list (Group list plan) z start.slot (suc (length history)) (suc p) clock
        (round_notes list (row ∷ history))
    round_first = record {
      began = began;
      apart = λ j k a b. omega (arith, ints, product_up list.drift (length list.slots) up, some, begins_near j k a b);
      first = λ early. begins_near;
      moved = λ k a. let drift = drifts list script start z plan f k a.0 in
          omega (arith, ints, first_still k a, drift, one_drift list.drift p up);
      senders = cond sync (p ∷ []) [];
      turns = turn_first sync;
      noted = λ k a. rw (notes_first k a) (note_first sync k a);
    }

    clock_first : (k : ℕ) → Group list plan k → clock_after list script (row ∷ history) k
        ≡ clock k +ℤ correction list p (round_notes list (row ∷ history) k)
    clock_first k a =
        offset_corrected list k (diary_of history k) (surroundings_of script history k) (entry_of row k)
        (surroundings_in script (length history) row k) (start_place p)
        (begun_active (entry_of row k) (begun k a).begins) (begun k a).place

    after_start : After list (Group list plan) z start.slot (suc (length history)) p (suc p == length list.slots)
        (clock_after list script (row ∷ history)) (round_notes list (row ∷ history))
    after_start =
        let number = started.number in
        after_slot list (Group list plan) z start.slot (suc (length history)) p clock
        (clock_after list script (row ∷ history)) (round_notes list (row ∷ history)) up some (omega (arith, number))
        round_first (λ ends late. absurd (omega (arith, late, number, f.valid.count.0))) clock_first
        (suc p == length list.slots) refl

  -- A later slot.

  -- the round with which the slot after a turn begins
  abbrev pub Begins : ℕ → History → Type 0
  Begins turn history =
      Round list (Group list plan) z start.slot (length history) (sender plan (suc turn))
      (clock_after list script history)
      (λ k. cond (suc (sender plan turn) == length list.slots) [] (round_notes list history k))

  begins-of : (turn : ℕ) (history : History)
      → After list (Group list plan) z start.slot (length history) (sender plan turn)
      (suc (sender plan turn) == length list.slots) (clock_after list script history) (round_notes list history)
      → Begins turn history
  begins-of turn history after = rw (index-of list script start plan turn f.follows) after

  module _ (turn : ℕ) (row : List Entry) (history : History) (before : NotedByPlan list script start plan turn history)
      (noted : NotedInSlot list script plan (suc turn) row history) (within : start.slot + suc turn < script.slots)
      (begins : Begins turn history) where
    number : length history ≡ start.slot + suc turn
    number = let count = number-of list script start plan turn history before in omega (arith, count)

    abbrev q : ℕ
    q = sender plan (suc turn)

    index : (planned_place list plan (suc turn)).slot ≡ q
    index = place-slot list script start plan (suc turn) f.follows

    counted : Counted list plan (suc turn) (row ∷ history)
    counted = counted-run list script start plan (suc turn) (row ∷ history) f.follows (before, noted)

    place : (k : ℕ) → Group list plan k
        → stint_place list k (diary_of (row ∷ history) k) ≡ planned_place list plan (suc turn)
    place k a = counted.places k (to_sound list script start z plan f (suc turn) k a)

    goes : (k : ℕ) → Group list plan k → continues_stint (entry_of row k) ≡ true
    goes k a =
        sound-goes list script plan (suc turn) k row history noted (to_sound list script start z plan f (suc turn) k a)
        (none-enters plan (suc turn) k (stay list script start z plan f))

    uncorrected : Round list (Group list plan) z start.slot (suc (length history)) (suc q)
        (clock_moved list script history) (round_notes list (row ∷ history))
    uncorrected =
        round_goes list (Group list plan) z start.slot (length history) q (clock_after list script history)
        (clock_moved list script history)
        (λ k. cond (suc (sender plan turn) == length list.slots) [] (round_notes list history k))
        (λ k. notes_in list (planned_place list plan (suc turn)) (entry_of row k)) (round_notes list (row ∷ history)) up
        begins (have_drifted list script start z plan f turn history number within) (slot_notes list script start z plan
        f turn history number within start.slot (length history)
        (λ k. cond (suc (sender plan turn) == length list.slots) [] (round_notes list history k)) begins row noted)
        (λ k a. notes-next list row history k (sender plan turn) (planned_place list plan (suc turn))
        (suc (sender plan turn) == length list.slots) (goes k a) (place k a)
        (index ∙ index-of list script start plan turn f.follows))

    enough : suc q ≡ length list.slots → start.slot + length list.slots < suc (length history)
        → (k : ℕ) → Group list plan k → 4 ≤ length (round_notes list (row ∷ history) k)
    enough ends late k a =
        let from = suc (suc turn) - plan.nodes in
        let round : from + plan.nodes ≡ suc (suc turn) = omega (arith, late, number, f.follows.nodes) in
        let whole : plan.nodes ≡ suc q = f.follows.nodes ∙ sym ends in
        let many : 4 ≤ tally (is_measured plan) from plan.nodes =
        four-measured plan (suc turn) from f.follows.good (omega (arith, within, f.follows.slots)) round in
        let count : length (round_notes list (row ∷ history) k) ≡ tally (is_measured plan) from (suc q) =
        counted.notes k from (to_sound list script start z plan f (suc turn) k a)
        (omega (arith, round, late, number, f.follows.nodes)) (omega (arith, round, whole))
        (λ turn after to. none-enters plan turn k (stay list script start z plan f)) in
        subst (λ n. 4 ≤ n) (ap (tally (is_measured plan) from) whole ∙ sym count) many

    clock_is : (k : ℕ) → Group list plan k → clock_after list script (row ∷ history) k
        ≡ clock_moved list script history k +ℤ correction list q (round_notes list (row ∷ history) k)
    clock_is k a =
        clock-next list script row history k (planned_place list plan (suc turn)) (goes k a) (place k a)
        ∙ ap (λ m. clock_moved list script history k +ℤ correction list m (round_notes list (row ∷ history) k)) index

    begins-next : Begins (suc turn) (row ∷ history)
    begins-next =
        begins-of (suc turn) (row ∷ history) (after_slot list (Group list plan) z start.slot (suc (length history)) q
        (clock_moved list script history) (clock_after list script (row ∷ history)) (round_notes list (row ∷ history))
        up some (omega (arith, number)) uncorrected enough clock_is (suc q == length list.slots) refl)

  -- The run.

  begins-first : (row : List Entry) (history : History) → StartedByPlan list script start plan row history
      → start.slot < script.slots → Begins 0 (row ∷ history)
  begins-first row history started within =
      let first : p ≡ sender plan 0 = sym f.follows.starter ∙ sym (first-sender plan f.follows.good) in
      begins-of 0 (row ∷ history)
      (subst (λ m. After list (Group list plan) z start.slot (suc (length history)) m (suc m == length list.slots)
      (clock_after list script (row ∷ history)) (round_notes list (row ∷ history))) first
      (after_start row history started within))

  pub begins-run : (turn : ℕ) (history : History) → NotedByPlan list script start plan turn history
      → length history ≤ script.slots → Begins turn history
  begins-run turn [] noted within = absurd noted
  begins-run zero (row ∷ history) noted within =
      begins-first row history noted (let number = noted.number in omega (arith, number, within))
  begins-run (suc turn) (row ∷ history) noted within =
      let number = number-of list script start plan turn history noted.0 in
      begins-next turn row history noted.0 noted.1 (omega (arith, number, within))
      (begins-run turn history noted.0 (omega (arith, within)))

  turn-inside : (turn : ℕ) → sender plan turn ≤ length list.slots
  turn-inside turn = let inside = sender-in list script start plan turn f.follows in omega (arith, inside)

  -- in each slot, any two clocks are so far apart
  near-run : (turn : ℕ) (history : History) → NotedByPlan list script start plan turn history
      → length history ≤ script.slots → AreWithin (Group list plan) (clock_after list script history) (in_round list)
  near-run turn history noted within =
      round_within list (Group list plan) z start.slot (length history) (sender plan (suc turn))
      (clock_after list script history)
      (λ k. cond (suc (sender plan turn) == length list.slots) [] (round_notes list history k)) up
      (turn-inside (suc turn)) (begins-run turn history noted within)

  pub faced-clocks : (turn : ℕ) (history : History) → NotedByPlan list script start plan turn history
      → length history ≤ script.slots → (j k : ℕ) → IsSoundIn list plan turn j → IsSoundIn list plan turn k
      → ((node_past list script history j).offset -ℤ (node_past list script history k).offset) ≤ℤ bound list
  faced-clocks turn history noted within j k a b =
      let near = near-run turn history noted within j k (of_sound list script start z plan f turn j a)
      (of_sound list script start z plan f turn k b) in
      omega (arith, ints, near, in_round_bound list up)

  pub faced-window : (turn : ℕ) (history : History) → NotedByPlan list script start plan turn history
      → start.slot + suc turn < script.slots → (r s : ℕ) → IsSoundIn list plan (suc turn) r
      → IsSoundIn list plan (suc turn) s → is_within_window list (measured list script history r s) ≡ true
  faced-window turn history noted within r s a b =
      let count = number-of list script start plan turn history noted in
      let number : length history ≡ start.slot + suc turn = omega (arith, count) in
      let hears = of_sound list script start z plan f (suc turn) r a in
      let sends = of_sound list script start z plan f (suc turn) s b in
      let near = near-run turn history noted (omega (arith, number, within)) in
      let sent = frame_is list script start z plan f turn history number within s sends in
      let heard = frame_is list script start z plan f turn history number within r hears in
      let error = errors list script start z plan f r (length history) a.0 (omega (arith, number, within)) in
      test_of list.window (measured list script history r s)
      (omega (arith, ints, sent, heard, error, near s r sends hears, near r s hears sends, in_round_bound list up))
