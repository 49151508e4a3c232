-- What sound nodes noted in a round lies near 0, and tells where frames were that lay near each sound node's clock.
use Rattle.safety_laws.proofs.Words.{◌≡◌, ℕ, suc, ◌+◌, ◌*◌, ◌<◌, ℤ, pos, ◌+ℤ◌, ◌-ℤ◌, ◌*ℤ◌, ◌≤ℤ◌, Bool, true, false}
use Rattle.safety_laws.proofs.Words.{cond, List, [], ◌∷◌, ◌++◌, length, Some, None, refl, ap, sym, subst, ◌∙◌, arith}
use Rattle.safety_laws.proofs.Words.{◌==◌, All, option_to_list, ints, All-nil, Medl, Entry, Script, notes_in, History}
use Rattle.safety_laws.proofs.Words.{entry_of, diary_of, continues_stint, Place, stint_place, ClusterStart, needed}
use Rattle.safety_laws.proofs.Words.{drift_share, surroundings_in, surroundings_of, plan_at, IsValid, drift_of}
use Rattle.safety_laws.proofs.Words.{reading_error, jump_of, spread, TellsOf, measured, clock_at, IsUpTo, AreNear}
use Rattle.safety_laws.proofs.Words.{drift_within, error_within, continued_active, notes_anew, notes_more}
use Rattle.safety_laws.proofs.Words.{first_slot_first, later_slot_later, clock_at-still, frame_of, frame_of-node}
use Rattle.safety_laws.proofs.Words.{drift_in, correction, product_up, clock_after, round_notes, FaultPlan, sender}
use Rattle.safety_laws.proofs.Words.{is_good_slot, FollowsPlan, planned_place, IsSoundIn, NotedInSlot, GoesOnByPlan}
use Rattle.safety_laws.proofs.Words.{IsTight}
use Rattle.std.proofs.lemmas.List.Elements.{All-cons}
use Rattle.ttp_world.specs.declared.node.Entry.TheVariants as entry
use Rattle.safety_laws.proofs.FromBelow.{offset_corrected, joins_nothing, product_once as once}
use Rattle.safety_laws.proofs.Apart.{noted_width}
use Rattle.safety_laws.proofs.Bounds.{tight-clocks, tight-deviations}
use Rattle.safety_laws.proofs.RoundNotes.{none-silent, sender-in, place-slot, index-next, tight-stays}
use Rattle.safety_laws.proofs.BeganTogether.{number-of}

-- A node that goes on.

-- its clock after a slot but for a correction
abbrev pub clock_moved : Medl → Script → History → ℕ → ℤ
clock_moved list script history k =
    clock_after list script history k +ℤ (jump_of script k (length history) +ℤ (drift_of script k +ℤ pos 0))

pub clock-next : (list : Medl) (script : Script) (row : List Entry) (history : History) (k : ℕ) (place : Place)
    → continues_stint (entry_of row k) ≡ true → stint_place list k (diary_of (row ∷ history) k) ≡ place
    → clock_after list script (row ∷ history) k
    ≡ clock_moved list script history k +ℤ correction list place.slot (round_notes list (row ∷ history) k)
clock-next list script row history k place goes is =
    offset_corrected list k (diary_of history k) (surroundings_of script history k) (entry_of row k)
    (surroundings_in script (length history) row k) place (continued_active (entry_of row k) goes) is
    ∙ ap (λ z. (clock_after list script history k +ℤ (jump_of script k (length history) +ℤ (drift_of script k +ℤ z)))
    +ℤ correction list place.slot (round_notes list (row ∷ history) k)) (joins_nothing (entry_of row k) goes)

-- its notes of the round
pub notes-next : (list : Medl) (row : List Entry) (history : History) (k m : ℕ) (place : Place) (last : Bool)
    → continues_stint (entry_of row k) ≡ true → stint_place list k (diary_of (row ∷ history) k) ≡ place
    → place.slot ≡ cond last 0 (suc m) → round_notes list (row ∷ history) k
    ≡ notes_in list place (entry_of row k) ++ cond last [] (round_notes list history k)
notes-next list row history k m place true goes is index =
    notes_anew list k (diary_of history k) (entry_of row k) place is (first_slot_first place (entry_of row k) index)
    ∙ sym (append-none (notes_in list place (entry_of row k)))
  where
    append-none : (ns : List ℤ) → ns ++ [] ≡ ns
    append-none [] = refl
    append-none (n ∷ ns) = ap (λ rest. n ∷ rest) (append-none ns)
notes-next list row history k m place false goes is index =
    notes_more list k (diary_of history k) (entry_of row k) place is
    (later_slot_later place (entry_of row k) m index goes)

-- A tight slot of the plan after others, and what is known then.
pub record NextSlot (list : Medl) (script : Script) (start : ClusterStart) (plan : FaultPlan) (slot : ℕ)
    (row : List Entry)
    (history : History) : Type 0 where
  pub before : GoesOnByPlan list script start plan slot history
  pub noted : NotedInSlot list script plan (suc slot) row history
  pub tight : IsTight plan (suc slot)

pub index-of : (list : Medl) (script : Script) (start : ClusterStart) (plan : FaultPlan) (slot : ℕ)
    → FollowsPlan list script start plan
    → sender plan (suc slot) ≡ cond (suc (sender plan slot) == length list.slots) 0 (suc (sender plan slot))
index-of list script start plan slot follows =
    index-next list script start plan slot (suc (sender plan slot) == length list.slots)
    (ap (λ m. suc m == length list.slots) (place-slot list script start plan slot follows)) follows

module _ {list : Medl} {script : Script} {start : ClusterStart} {plan : FaultPlan} {slot : ℕ} {history : History}
    (is : GoesOnByPlan list script start plan slot history) where
  pub still-of : (k : ℕ) → IsSoundIn list plan (suc slot) k → jump_of script k (length history) ≡ pos 0
  still-of k p =
      let here : start.slot + suc slot ≡ length history =
      omega (arith, number-of list script start plan slot history is.noted) in
      subst (λ t. jump_of script k t ≡ pos 0) here (is.follows.planned.clocks (suc slot) k p.0 is.within p.1)

pub needed-up : (list : Medl) → IsValid list → pos 0 ≤ℤ needed list
needed-up list valid = up-of list.drift list.error (length list.slots) valid.drift.0 valid.error.0
  where
    share-up : (d : ℤ) (n : ℕ) → pos 0 ≤ℤ d → pos 0 ≤ℤ (d *ℤ pos (4 * n))
    share-up d n up = product_up d (4 * n) up

    sum-up : (share e : ℤ) → pos 0 ≤ℤ share → pos 0 ≤ℤ e → pos 0 ≤ℤ (share +ℤ (e *ℤ pos 3 +ℤ pos 1))
    sum-up share e up some = omega (arith, ints, up, some)

    up-of : (d e : ℤ) (n : ℕ) → pos 0 ≤ℤ d → pos 0 ≤ℤ e → pos 0 ≤ℤ (d *ℤ pos (4 * n) +ℤ (e *ℤ pos 3 +ℤ pos 1))
    up-of d e n up some = sum-up (d *ℤ pos (4 * n)) e (share-up d n up) some

-- What is so of each note of a slot.

all-cond : (P : ℤ → Type 0) (sync : Bool) (d : ℤ) → P d → All P (cond sync (d ∷ []) [])
all-cond P true d here = All-cons P d [] here (All-nil P)
all-cond P false d here = All-nil P

told-each : (P : ℤ → Type 0) (list : Medl) (script : Script) (history : History) (p k : ℕ) (place : Place) (e : Entry)
    → TellsOf list script history p k e → (k ≡ p → P (pos 0))
    → ((d : ℤ) → d ≡ measured list script history k p → P d) → All P (notes_in list place e)
told-each P list script history p k place (entry.Sent message) tells own other =
    all-cond P (plan_at list place.slot).sync (pos 0) (own tells)
told-each P list script history p k place (entry.Judged sender v deviation) tells own other =
    let sync = (plan_at list place.slot).sync in
    subst (λ b. All P (cond sync (option_to_list (cond b (Some deviation) None)) [])) (sym tells.0)
    (all-cond P sync deviation (other deviation tells.1))
told-each P list script history p k place _ tells own other = absurd tells

-- a sound node's clock at the beginning of the slot, its drift in it, and that it does not jump
record RunsIn (list : Medl) (script : Script) (history : History) (k : ℕ) : Type 0 where
  inside : k < length list.slots
  still : jump_of script k (length history) ≡ pos 0
  begun : clock_at list script history k ≡ clock_after list script history k
  drift : IsUpTo list.drift (drift_of script k)
  error : IsUpTo list.error (reading_error script k (length history))

pub drift-moves : (o j d q : ℤ) → j ≡ pos 0 → IsUpTo q d → IsUpTo q ((o +ℤ (j +ℤ (d +ℤ pos 0))) -ℤ o)
drift-moves o j d q still h = (omega (arith, ints, still, h.0, h.1), omega (arith, ints, still, h.0, h.1))

-- two clocks that began no further apart than the spread
record AreTwo (share e q : ℤ) (a b x y : ℤ) : Type 0 where
  above : (a -ℤ b) ≤ℤ (share +ℤ (e *ℤ pos 2 +ℤ pos 1))
  below : (b -ℤ a) ≤ℤ (share +ℤ (e *ℤ pos 2 +ℤ pos 1))
  first : IsUpTo q (x -ℤ a)
  second : IsUpTo q (y -ℤ b)

own-near : (share e q w a b x y : ℤ) → AreTwo share e q a b x y → pos 0 ≤ℤ e
    → ((share +ℤ (e *ℤ pos 3 +ℤ pos 1)) +ℤ (q +ℤ q)) ≤ℤ w → IsUpTo w ((x +ℤ pos 0) -ℤ y)
own-near share e q w a b x y two up wide = (
  omega (arith, ints, two.above, two.below, two.first.0, two.first.1, two.second.0, two.second.1, up, wide),
  omega (arith, ints, two.above, two.below, two.first.0, two.first.1, two.second.0, two.second.1, up, wide),
)

module _ (share e q w a b x y f g d r : ℤ) where
  -- the deviation d that the first measured of a frame f
  other-near : d ≡ (f -ℤ g) +ℤ r → g ≡ a → (f -ℤ b) ≤ℤ (share +ℤ (e *ℤ pos 2 +ℤ pos 1))
      → (b -ℤ f) ≤ℤ (share +ℤ (e *ℤ pos 2 +ℤ pos 1)) → IsUpTo q (x -ℤ a) → IsUpTo q (y -ℤ b) → IsUpTo e r
      → ((share +ℤ (e *ℤ pos 3 +ℤ pos 1)) +ℤ (q +ℤ q)) ≤ℤ w → IsUpTo w ((x +ℤ d) -ℤ y)
  other-near is here above below first second error wide = (
    omega (arith, ints, is, here, above, below, first.0, first.1, second.0, second.1, error.0, error.1, wide),
    omega (arith, ints, is, here, above, below, first.0, first.1, second.0, second.1, error.0, error.1, wide),
  )

width-fits : (n a d : ℤ) → d ≤ℤ a → (n +ℤ (d +ℤ d)) ≤ℤ (n +ℤ (a +ℤ a))
width-fits n a d few = omega (arith, ints, few)

same-bound : (a b c d w : ℤ) → a ≡ c → b ≡ d → (a -ℤ b) ≤ℤ w → (c -ℤ d) ≤ℤ w
same-bound a b c d w is was h = omega (arith, ints, is, was, h)

module _ {list : Medl} {script : Script} {start : ClusterStart} {plan : FaultPlan} {slot : ℕ} {row : List Entry}
    {history : History} (s : NextSlot list script start plan slot row history) where
  noted-each : (P : ℤ → Type 0) (k : ℕ) (good : Bool) → is_good_slot plan (suc slot) ≡ good
      → IsSoundIn list plan (suc slot) k → (k ≡ sender plan (suc slot) → P (pos 0))
      → (IsSoundIn list plan (suc slot) (sender plan (suc slot)) → (d : ℤ)
      → d ≡ measured list script history k (sender plan (suc slot)) → P d)
      → All P (notes_in list (planned_place list plan (suc slot)) (entry_of row k))
  noted-each P k true is p own other =
      told-each P list script history (sender plan (suc slot)) k (planned_place list plan (suc slot)) (entry_of row k)
      (s.noted.good k is p (tight-stays plan (suc slot) k s.tight)) own
      (other (sender-in list script start plan (suc slot) s.before.follows.planned, is))
  noted-each P k false is p own other =
      subst (All P)
      (sym (none-silent list (planned_place list plan (suc slot)) (entry_of row k) (s.noted.other k is p))) (All-nil P)

  -- the newest notes of sound nodes lie near 0
  pub small-new : (k : ℕ) → IsSoundIn list plan (suc slot) k
      → All (IsUpTo (needed list)) (notes_in list (planned_place list plan (suc slot)) (entry_of row k))
  small-new k p =
      noted-each (IsUpTo (needed list)) k (is_good_slot plan (suc slot)) refl p
      (λ own. zero-upto (needed list) (needed-up list s.before.valid)) (λ q d is. subst (IsUpTo (needed list)) (sym is)
      (tight-deviations s.before s.tight k (sender plan (suc slot)) p q))
    where
      zero-upto : (w : ℤ) → pos 0 ≤ℤ w → IsUpTo w (pos 0)
      zero-upto w up = (omega (arith, ints, up), up)

  -- and tell of frames near each sound node's clock
  runs-in : (k : ℕ) → IsSoundIn list plan (suc slot) k → RunsIn list script history k
  runs-in k p =
      let still = still-of s.before k p in
      let number = number-of list script start plan slot history s.before.noted in
      record {
        inside = p.0;
        still = still;
        begun = clock_at-still list script history k still;
        drift = drift_within list script k s.before.follows.bounds.clocks p.0;
        error = error_within list script (length history) k s.before.follows.bounds.clocks
            (omega (arith, number, s.before.within)) p.0;
      }

  pub sound-moved : (k : ℕ) → IsSoundIn list plan (suc slot) k
      → IsUpTo list.drift (clock_moved list script history k -ℤ clock_after list script history k)
  sound-moved k p =
      drift-moves (clock_after list script history k) (jump_of script k (length history)) (drift_of script k) list.drift
      (runs-in k p).still (runs-in k p).drift

  pub near-new : (x k : ℕ) → IsSoundIn list plan (suc slot) x → IsSoundIn list plan (suc slot) k
      → AreNear (noted_width list (sender plan (suc slot))) (clock_moved list script history x)
      (clock_moved list script history k) (notes_in list (planned_place list plan (suc slot)) (entry_of row x))
  near-new x k p q =
      noted-each (λ d. IsUpTo width ((clock_moved list script history x +ℤ d) -ℤ clock_moved list script history k)) x
      (is_good_slot plan (suc slot)) refl p
      (λ own. own-near (drift_share list) list.error list.drift width (clock_after list script history x)
      (clock_after list script history k) (clock_moved list script history x) (clock_moved list script history k)
      (record { above = apart x k p q; below = apart k x q p; first = sound-moved x p; second = sound-moved k q })
      s.before.valid.error.0 wide)
      (λ sound d is. other-near (drift_share list) list.error list.drift width (clock_after list script history x)
      (clock_after list script history k) (clock_moved list script history x) (clock_moved list script history k)
      (frame_of list script history e) (frame_of list script history x) d (reading_error script x (length history)) is
      (frame_of-node list script history x p.0 ∙ (runs-in x p).begun) (same-bound (clock_after list script history e)
      (clock_after list script history k) (frame_of list script history e) (clock_after list script history k)
      (spread list) (sym (frame_of-node list script history e sound.0 ∙ (runs-in e sound).begun)) refl
      (apart e k sound q)) (same-bound (clock_after list script history k) (clock_after list script history e)
      (clock_after list script history k) (frame_of list script history e) (spread list) refl
      (sym (frame_of-node list script history e sound.0 ∙ (runs-in e sound).begun)) (apart k e q sound))
      (sound-moved x p) (sound-moved k q) (runs-in x p).error wide)
    where
      e : ℕ
      e = sender plan (suc slot)

      width : ℤ
      width = noted_width list (sender plan (suc slot))

      apart : (i j : ℕ) → IsSoundIn list plan (suc slot) i → IsSoundIn list plan (suc slot) j
          → (clock_after list script history i -ℤ clock_after list script history j) ≤ℤ spread list
      apart i j a b =
          same-bound (clock_at list script history i) (clock_at list script history j)
          (clock_after list script history i) (clock_after list script history j) (spread list) (runs-in i a).begun
          (runs-in j b).begun (tight-clocks s.before s.tight i j a b)

      wide : (needed list +ℤ (list.drift +ℤ list.drift)) ≤ℤ noted_width list (sender plan (suc slot))
      wide = width-fits (needed list) (drift_in list (suc (sender plan (suc slot)))) list.drift
          (once list.drift (sender plan (suc slot)) s.before.valid.drift.0)
