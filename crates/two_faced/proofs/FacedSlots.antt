-- What the nodes of a plan that loses none note in one slot, where one sender may be two-faced.
use Rattle.two_faced.proofs.Words.{◌≡◌, ◌≢◌, ℕ, suc, ◌+◌, ◌-◌, ◌*◌, ◌<◌, ℤ, pos, ◌+ℤ◌, ◌-ℤ◌, ◌≤ℤ◌, Bool, true, false}
use Rattle.two_faced.proofs.Words.{cond, ◌&&◌, List, [], ◌∷◌, ◌++◌, length, Some, refl, ap, sym, subst, ◌∙◌, arith}
use Rattle.two_faced.proofs.Words.{◌==◌, int_max, ne_eqb, ints, has_node, Medl, Entry, Script, notes_in, History}
use Rattle.two_faced.proofs.Words.{entry_of, ClusterStart, IsValid, plan_at, drift_of, jump_of, reading_error, TellsOf}
use Rattle.two_faced.proofs.Words.{measured, IsUpTo, clock_at-still, frame_of, frame_of-node, drift_in, product_more}
use Rattle.two_faced.proofs.Words.{HaveDrifted, clock_after, FaultPlan, sender, is_good_slot, FollowsPlan}
use Rattle.two_faced.proofs.Words.{planned_place, none-enters, IsSoundIn, NotedInSlot, clock_moved, sender-in, bound}
use Rattle.two_faced.proofs.Words.{HasFacedClocks}
use Rattle.std.proofs.Common.{◌%◌}
use Rattle.std.specs.Prelude.{nat_le}
use Rattle.std.proofs.lemmas.Bool.{and_left, and_right}
use Rattle.ttp_world.specs.declared.node.Entry.TheVariants as entry
use Rattle.ttp_world.specs.Diary.{Place}
use Rattle.ttp_world.specs.Hypothesis.{expected_sender}
use Rattle.precision.specs.Together.{IsIn}
use Rattle.two_faced.proofs.FromBelow.{wider_of as wider_upto, drift-moves as drift_moves, none-silent}
use Rattle.two_faced.proofs.FromBelow.{within_bound as upto_of_test}
use Rattle.two_faced.specs.Errors.{is_faced_slot, allowed_error}
use Rattle.two_faced.proofs.QuietPlan.{sound-always, none-returns}
use Rattle.two_faced.proofs.PulledNotes.{Locate, AreTurns, AreTurns-later}
use Rattle.two_faced.proofs.FacedRounds.{width, Round, SlotNotes}

-- what the law asks of list, script and plan
pub record IsFacing (list : Medl) (script : Script) (start : ClusterStart) (z : ℕ) (plan : FaultPlan) : Type 0 where
  pub valid : IsValid list
  pub follows : FollowsPlan list script start plan
  pub none : plan.incidents ≡ []
  pub clocks : HasFacedClocks list script start z

-- the nodes that begin
abbrev pub Group : Medl → FaultPlan → ℕ → Type 0
Group list plan k = IsIn list (has_node plan.begin) k

-- Errors.

allowed_within : (faced : Bool) (e w : ℤ) → e ≤ℤ w → cond faced (int_max e w) e ≤ℤ w
allowed_within true e w h = grind (arith, ints)
allowed_within false e w h = h

module _ (list : Medl) (script : Script) (start : ClusterStart) (z : ℕ) (plan : FaultPlan)
    (f : IsFacing list script start z plan) where
  pub stay : plan.returns ≡ []
  stay = none-returns plan f.follows.good f.none

  pub to_sound : (slot k : ℕ) → Group list plan k → IsSoundIn list plan slot k
  to_sound slot k p = (p.0, sound-always plan slot k f.none stay ∙ p.1)

  pub of_sound : (slot k : ℕ) → IsSoundIn list plan slot k → Group list plan k
  of_sound slot k p = (p.0, sym (sound-always plan slot k f.none stay) ∙ p.1)

  pub drifts : (k : ℕ) → k < length list.slots → IsUpTo list.drift (drift_of script k)
  drifts k node = upto_of_test list.drift (drift_of script k) (f.clocks.drifts k node)

  -- in each slot of the run reading errors leave the bound within the window
  pub errors : (k slot : ℕ) → k < length list.slots → slot < script.slots
      → IsUpTo (list.window -ℤ bound list) (reading_error script k slot)
  errors k slot node within =
      wider_upto (allowed_error list z (Some start) slot) (list.window -ℤ bound list) (reading_error script k slot)
      (allowed_within (is_faced_slot list z (Some start) slot) list.error (list.window -ℤ bound list)
      (omega (arith, ints, f.clocks.window))) (upto_of_test (allowed_error list z (Some start) slot)
      (reading_error script k slot) (f.clocks.errors k slot node within))

  -- in another node's slot, and before two rounds are over, they keep the list's bound
  error_of : (k slot : ℕ) → k < length list.slots → slot < script.slots → is_faced_slot list z (Some start) slot ≡ false
      → IsUpTo list.error (reading_error script k slot)
  error_of k slot node within usual =
      rw usual at (upto_of_test (allowed_error list z (Some start) slot) (reading_error script k slot)
      (f.clocks.errors k slot node within))

  pub errors_first : (k : ℕ) → k < length list.slots → start.slot < script.slots
      → IsUpTo list.error (reading_error script k start.slot)
  errors_first k node within =
      error_of k start.slot node within (early (length list.slots) (omega (arith, f.valid.count.0)))
    where
      early : (n : ℕ) → 0 < n
          → (nat_le (start.slot + 2 * n) start.slot && (expected_sender list start start.slot == z)) ≡ false
      early n some =
          let late : nat_le (start.slot + 2 * n) start.slot ≡ false = grind arith in
          and_left (nat_le (start.slot + 2 * n) start.slot) (expected_sender list start start.slot == z) late

  sender_same : (slot turn : ℕ) → slot ≡ start.slot + turn → expected_sender list start slot ≡ sender plan turn
  sender_same slot turn is =
      let since : slot - start.slot ≡ turn = omega (arith, is) in
      (λ i. (start.node + since i) % length list.slots)
      ∙ (λ i. (sym f.follows.starter i + turn) % sym f.follows.nodes i)

  pub errors_beside : (k turn slot : ℕ) → k < length list.slots → slot < script.slots → slot ≡ start.slot + turn
      → sender plan turn ≢ z → IsUpTo list.error (reading_error script k slot)
  errors_beside k turn slot node within is other =
      error_of k slot node within
      (ap (λ p. nat_le (start.slot + 2 * length list.slots) slot && (p == z)) (sender_same slot turn is)
      ∙ and_right (nat_le (start.slot + 2 * length list.slots) slot) (sender plan turn == z)
      (ne_eqb (sender plan turn) z other))

-- One note.

one_located : (z p : ℕ) (w c d : ℤ) (began : ℕ → ℤ) (sync : Bool) → (p ≢ z → IsUpTo w ((c +ℤ d) -ℤ began p))
    → Locate z w began c (cond sync (d ∷ []) []) (cond sync (p ∷ []) [])
one_located z p w c d began true near = (near, tt)
one_located z p w c d began false near = tt

told_located : (list : Medl) (script : Script) (history : History) (z p k : ℕ) (place : Place) (w c : ℤ)
    (began : ℕ → ℤ) (e : Entry) → TellsOf list script history p k e
    → (k ≡ p → p ≢ z → IsUpTo w ((c +ℤ pos 0) -ℤ began p))
    → ((d : ℤ) → d ≡ measured list script history k p → p ≢ z → IsUpTo w ((c +ℤ d) -ℤ began p))
    → Locate z w began c (notes_in list place e) (cond (plan_at list place.slot).sync (p ∷ []) [])
told_located list script history z p k place w c began (entry.Sent message) tells own other =
    one_located z p w c (pos 0) began (plan_at list place.slot).sync (own tells)
told_located list script history z p k place w c began (entry.Judged sender v deviation) tells own other =
    rw tells.0 (one_located z p w c deviation began (plan_at list place.slot).sync (other deviation tells.1))
told_located list script history z p k place w c began _ tells own other = absurd tells

-- The slot of the turn after this one.

module _ (list : Medl) (script : Script) (start : ClusterStart) (z : ℕ) (plan : FaultPlan)
    (f : IsFacing list script start z plan) (turn : ℕ) (history : History)
    (number : length history ≡ start.slot + suc turn) (within : start.slot + suc turn < script.slots) where
  pub still : (k : ℕ) → Group list plan k → jump_of script k (length history) ≡ pos 0
  still k p =
      subst (λ t. jump_of script k t ≡ pos 0) (sym number) (f.follows.clocks (suc turn) k p.0 within
      (to_sound list script start z plan f (suc turn) k p).1)

  -- a node's frame lies where its clock was after the slot before
  pub frame_is : (k : ℕ) → Group list plan k → frame_of list script history k ≡ clock_after list script history k
  frame_is k p = frame_of-node list script history k p.0 ∙ clock_at-still list script history k (still k p)

  pub have_drifted : HaveDrifted list (Group list plan) (clock_after list script history)
      (clock_moved list script history)
  have_drifted k p =
      drift_moves (clock_after list script history k) (jump_of script k (length history)) (drift_of script k) list.drift
      (still k p) (drifts list script start z plan f k p.0)

  sender_turn : is_good_slot plan (suc turn) ≡ true → Group list plan (sender plan (suc turn))
  sender_turn good =
      of_sound list script start z plan f (suc turn) (sender plan (suc turn))
      (sender-in list script start plan (suc turn) f.follows, good)

  module _ (s t : ℕ) (notes : ℕ → List ℤ)
      (r : Round list (Group list plan) z s t (sender plan (suc turn)) (clock_after list script history) notes)
      (row : List Entry) (noted : NotedInSlot list script plan (suc turn) row history) where
    abbrev q : ℕ
    q = sender plan (suc turn)

    more : drift_in list (suc q) ≡ drift_in list q +ℤ list.drift
    more = product_more list.drift q f.valid.drift.0

    own : (k : ℕ) → Group list plan k → k ≡ q → q ≢ z
        → IsUpTo (width list (suc q)) ((clock_moved list script history k +ℤ pos 0) -ℤ r.began q)
    own k p is other =
        let began : r.began k ≡ r.began q = ap r.began is in
        let drift = drifts list script start z plan f k p.0 in
        omega (arith, ints, more, still k p, drift, r.moved k p, began, f.valid.error.0)

    heard : (k : ℕ) → Group list plan k → Group list plan q → (d : ℤ) → d ≡ measured list script history k q → q ≢ z
        → IsUpTo (width list (suc q)) ((clock_moved list script history k +ℤ d) -ℤ r.began q)
    heard k p sends d is other =
        let error = errors_beside list script start z plan f k (suc turn) (length history) p.0
        (omega (arith, number, within)) number other in
        let drift = drifts list script start z plan f k p.0 in
        omega (arith, ints, more, still k p, drift, r.moved q sends, error, frame_is q sends, frame_is k p)

    abbrev sync : Bool
    sync = (plan_at list (planned_place list plan (suc turn)).slot).sync

    turn_in : (b : Bool) (senders : List ℕ) → Group list plan q → AreTurns (Group list plan) q senders
        → AreTurns (Group list plan) (suc q) (cond b (q ∷ []) [] ++ senders)
    turn_in true senders p turns = (p, omega arith, turns)
    turn_in false senders p turns = AreTurns-later (Group list plan) q senders turns

    by_good : (good : Bool) → is_good_slot plan (suc turn) ≡ good
        → SlotNotes list (Group list plan) z q r.began (clock_moved list script history)
        (λ k. notes_in list (planned_place list plan (suc turn)) (entry_of row k))
    by_good true good = record {
      new = cond sync (q ∷ []) [];
      turn = λ senders turns. turn_in sync senders (sender_turn good) turns;
      noted = λ k p. told_located list script history z q k (planned_place list plan (suc turn)) (width list (suc q))
          (clock_moved list script history k) r.began (entry_of row k)
          (noted.good k good (to_sound list script start z plan f (suc turn) k p)
          (none-enters plan (suc turn) k (stay list script start z plan f))) (own k p) (heard k p (sender_turn good));
    }
    by_good false wrong = record {
      new = [];
      turn = λ senders turns. AreTurns-later (Group list plan) q senders turns;
      noted = λ k p. rw (none-silent list (planned_place list plan (suc turn)) (entry_of row k)
          (noted.other k wrong (to_sound list script start z plan f (suc turn) k p))) tt;
    }

    pub slot_notes : SlotNotes list (Group list plan) z q r.began (clock_moved list script history)
        (λ k. notes_in list (planned_place list plan (suc turn)) (entry_of row k))
    slot_notes = by_good (is_good_slot plan (suc turn)) refl
