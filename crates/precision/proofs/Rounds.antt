-- A company's clocks and notes: what an entry, one slot more, and the correction at the end of a round make of them.
--
-- The clocks are those before slot t, of whose round q slots are over. The newest entry is slot l, before it or at t.
use Rattle.std.proofs.Common.{◌≡◌, ℕ, suc, ◌+◌, ◌*◌, ◌<◌, ◌≤◌, ℤ, pos, negsuc, ◌+ℤ◌, ◌-ℤ◌, ◌*ℤ◌, ◌≤ℤ◌, Bool}
use Rattle.std.proofs.Common.{true, false, cond, ◌⊎◌, inl, inr, List, [], ◌∷◌, ◌++◌, length, refl, ap, sym, subst, ◌∙◌}
use Rattle.std.proofs.Common.{mul-le-mul_left, arith, length-append}
use Rattle.std.specs.Prelude.{◌==◌, All}
use Rattle.std.proofs.lemmas.Bool.{false≢true}
use Rattle.std.proofs.lemmas.Int.{ints}
use Rattle.std.proofs.lemmas.List.Elements.{All-nil, All-append, All-head, All-tail, All-cons, All-weaker}
use Rattle.ttp_world.specs.declared.medl.Medl.{Medl}
use Rattle.ttp_world.specs.Clock.{fta}
use Rattle.precision.specs.Spread.{spread, spread_rejoining}
use Rattle.precision.proofs.Averages.{IsUpTo, Locate, LocateNewest, AreNear, length-located, fta-few, corrected_apart}
use Rattle.precision.proofs.Averages.{corrected_near}
use Rattle.ttp_world.proofs.SmallTests.{plus_none}

-- How far a clock drifts in some slots.

abbrev pub drift_in : Medl → ℕ → ℤ
drift_in list m = list.drift *ℤ pos m

-- how far apart clocks are after a round's average
abbrev pub after_average : Medl → ℤ
after_average list =
    (drift_in list (length list.slots) +ℤ drift_in list (length list.slots)) +ℤ ((list.error +ℤ list.error) +ℤ pos 1)

-- how far apart a group's clocks have drifted that were so far apart before this round
abbrev pub drifted : Medl → ℤ → ℕ → ℤ
drifted list before q = before +ℤ (drift_in list q +ℤ drift_in list q)

-- how far apart they were then, but for drifts, in the round of the newest entry: some clocks are within a reading
-- error of one of the others' there, or where none came later, all of one frame
abbrev pub entry_width : Medl → Bool → ℤ
entry_width list true = after_average list +ℤ list.error
entry_width list false = list.error +ℤ list.error

-- and how far at the most, in whichever round: after that of an entry, some corrected their clocks and some did not
abbrev pub most_width : Medl → Bool → ℤ
most_width list true =
    after_average list
    +ℤ ((drift_in list (length list.slots) +ℤ drift_in list (length list.slots)) +ℤ (list.error +ℤ list.error))
most_width list false = after_average list

-- Products with a number of slots.

pub product_more : (d : ℤ) (m : ℕ) → pos 0 ≤ℤ d → d *ℤ pos (suc m) ≡ d *ℤ pos m +ℤ d
product_more (pos a) m up = omega (arith, ints)
product_more (negsuc a) m up = absurd (omega (arith, ints, up))

pub product_upto : (d : ℤ) (m n : ℕ) → pos 0 ≤ℤ d → m ≤ n → (d *ℤ pos m) ≤ℤ (d *ℤ pos n)
product_upto (pos a) m n up few = omega (arith, ints, mul-le-mul_left a few)
product_upto (negsuc a) m n up few = absurd (omega (arith, ints, up))

pub product_four : (d : ℤ) (n : ℕ) → pos 0 ≤ℤ d
    → d *ℤ pos (4 * n) ≡ (d *ℤ pos n +ℤ d *ℤ pos n) +ℤ (d *ℤ pos n +ℤ d *ℤ pos n)
product_four (pos a) n up = omega (arith, ints)
product_four (negsuc a) n up = absurd (omega (arith, ints, up))

product_six : (d : ℤ) (n : ℕ) → pos 0 ≤ℤ d
    → d *ℤ pos (6 * n)
    ≡ (d *ℤ pos n +ℤ d *ℤ pos n) +ℤ ((d *ℤ pos n +ℤ d *ℤ pos n) +ℤ (d *ℤ pos n +ℤ d *ℤ pos n))
product_six (pos a) n up = omega (arith, ints)
product_six (negsuc a) n up = absurd (omega (arith, ints, up))

pub product_up : (d : ℤ) (n : ℕ) → pos 0 ≤ℤ d → pos 0 ≤ℤ (d *ℤ pos n)
product_up (pos a) n up = omega (arith, ints)
product_up (negsuc a) n up = absurd (omega (arith, ints, up))

product_none : (d : ℤ) → pos 0 ≤ℤ d → d *ℤ pos 0 ≡ pos 0
product_none (pos a) up = omega (arith, ints)
product_none (negsuc a) up = absurd (omega (arith, ints, up))

pub product_twice : (d : ℤ) (n : ℕ) → pos 0 ≤ℤ d → pos 0 ≤ℤ (d *ℤ pos n +ℤ d *ℤ pos n)
product_twice (pos a) n up = omega (arith, ints)
product_twice (negsuc a) n up = absurd (omega (arith, ints, up))

pub product_once : (d : ℤ) (m : ℕ) → pos 0 ≤ℤ d → d ≤ℤ (d *ℤ pos (suc m))
product_once (pos a) m up = omega (arith, ints)
product_once (negsuc a) m up = absurd (omega (arith, ints, up))

-- A group's clocks.

-- any two clocks of a group are no further apart than this
abbrev pub AreWithin : (ℕ → Type 0) → (ℕ → ℤ) → ℤ → Type 0
AreWithin group clock bound = (j k : ℕ) → group j → group k → (clock j -ℤ clock k) ≤ℤ bound

-- each moved by no more than a drift
abbrev pub HaveDrifted : Medl → (ℕ → Type 0) → (ℕ → ℤ) → (ℕ → ℤ) → Type 0
HaveDrifted list group clock later = (k : ℕ) → group k → IsUpTo list.drift (later k -ℤ clock k)

-- the notes of each locate the same frames
abbrev pub HaveNoted : (ℕ → Type 0) → ℤ → (ℕ → ℤ) → (ℕ → List ℤ) → List ℤ → Type 0
HaveNoted group width clock notes frames = (k : ℕ) → group k → Locate width (clock k) (notes k) frames

-- the notes of each locate the newest of some frames
abbrev pub HaveLocated : (ℕ → Type 0) → ℤ → (ℕ → ℤ) → (ℕ → List ℤ) → List ℤ → Type 0
HaveLocated group width clock notes frames = (k : ℕ) → group k → LocateNewest width (clock k) (notes k) frames

-- all have as many notes
abbrev pub HaveAsMany : (ℕ → Type 0) → (ℕ → List ℤ) → Type 0
HaveAsMany group notes = (j k : ℕ) → group j → group k → length (notes j) ≡ length (notes k)

-- the notes of each tell of frames that were near the clock of each
abbrev pub PointNear : (ℕ → Type 0) → ℤ → (ℕ → ℤ) → (ℕ → List ℤ) → Type 0
PointNear group width clock notes = (j k : ℕ) → group j → group k → AreNear width (clock j) (clock k) (notes j)

-- a width at the beginning of a round, by how long the newest entry is ago
pub record IsWidth (list : Medl) (may_grow : Bool) (l t q : ℕ) (width : ℤ) : Type 0 where
  pub entry : t ≤ l + q → width ≤ℤ entry_width list may_grow
  pub most : width ≤ℤ most_width list may_grow
  pub settled : l + length list.slots + q < t → width ≤ℤ after_average list

-- before each slot
pub record Held (list : Medl) (may_grow : Bool) (group : ℕ → Type 0) (l t q : ℕ) (width : ℤ) (clock : ℕ → ℤ)
    (notes : ℕ → List ℤ) : Type 0 where
  pub wide : IsWidth list may_grow l t q width
  pub apart : AreWithin group clock (drifted list width q)
  -- where the frames were that were noted in the round
  pub frames : List ℤ
  pub located : HaveLocated group (list.error +ℤ drift_in list q) clock notes frames
  pub alike : may_grow ≡ false → HaveAsMany group notes
  pub near : may_grow ≡ true → PointNear group (drifted list (width +ℤ list.error) q) clock notes

-- A group that is left, by other names.

-- a node of the group before, with the same clock and notes
pub record IsSame (before : ℕ → Type 0) (clock seen : ℕ → ℤ) (notes carried : ℕ → List ℤ) (k : ℕ) : Type 0 where
  pub member : before k
  pub same_clock : seen k ≡ clock k
  pub same_notes : carried k ≡ notes k

pub held_part : {list : Medl} {may_grow : Bool} {before group : ℕ → Type 0} {l t q : ℕ} {width : ℤ} {clock seen : ℕ → ℤ}
    {notes carried : ℕ → List ℤ} → Held list may_grow before l t q width clock notes
    → ((k : ℕ) → group k → IsSame before clock seen notes carried k) → Held list may_grow group l t q width seen carried
held_part held same = record {
  wide = held.wide;
  apart = λ j k a b. rw ((same j a).same_clock, (same k b).same_clock)
      (held.apart j k (same j a).member (same k b).member);
  frames = held.frames;
  located = λ k b. rw ((same k b).same_clock, (same k b).same_notes) (held.located k (same k b).member);
  alike = λ fixed j k a b. rw ((same j a).same_notes, (same k b).same_notes)
      (held.alike fixed j k (same j a).member (same k b).member);
  near = λ grows j k a b. rw ((same j a).same_clock, (same k b).same_clock, (same j a).same_notes)
      (held.near grows j k (same j a).member (same k b).member);
}

near_nothing : (w c k : ℤ) → AreNear w c k []
near_nothing w c k = All-nil (λ d. IsUpTo w ((c +ℤ d) -ℤ k))

-- One slot more.

-- the clocks drift, and each node notes the same frames, which were near each where others may come later
pub record Slot (list : Medl) (may_grow : Bool) (group : ℕ → Type 0) (bound : ℤ) (clock later : ℕ → ℤ)
    (added : ℕ → List ℤ) : Type 0 where
  pub moved : HaveDrifted list group clock later
  pub frames : List ℤ
  pub noted : HaveNoted group (list.error +ℤ list.drift) later added frames
  pub near : may_grow ≡ true → (k : ℕ) → group k → All (λ x. IsUpTo bound (x -ℤ clock k)) frames

LocateNewest-later : (w d v b c : ℤ) (ds xs : List ℤ) → IsUpTo d (c -ℤ b) → v ≡ w +ℤ d → LocateNewest w b ds xs
    → LocateNewest v c ds xs
LocateNewest-later w d v b c [] xs h is p = tt
LocateNewest-later w d v b c (n ∷ ds) [] h is p = absurd p
LocateNewest-later w d v b c (n ∷ ds) (x ∷ xs) h is p =
    (omega (arith, ints, p.0), LocateNewest-later w d v b c ds xs h is p.1)

pub wider_of : (w v z : ℤ) → w ≤ℤ v → IsUpTo w z → IsUpTo v z
wider_of w v z wide p = omega (arith, ints)

-- the notes of the slot, and those that there were
LocateNewest-append : (w v b : ℤ) (ds xs es ys : List ℤ) → w ≤ℤ v → Locate w b ds xs → LocateNewest v b es ys
    → LocateNewest v b (ds ++ es) (xs ++ ys)
LocateNewest-append w v b [] [] es ys wide p q = q
LocateNewest-append w v b (d ∷ ds) (x ∷ xs) es ys wide p q =
    (wider_of w v ((b +ℤ d) -ℤ x) wide p.0, LocateNewest-append w v b ds xs es ys wide p.1 q)
LocateNewest-append w v b ds xs es ys wide p q = absurd p

AreNear-noted : (w e p q d b c z : ℤ) (ds xs : List ℤ) → Locate (e +ℤ d) z ds xs
    → All (λ x. IsUpTo (w +ℤ (p +ℤ p)) (x -ℤ b)) xs
    → IsUpTo d (c -ℤ b) → q ≡ p +ℤ d
    → AreNear ((w +ℤ e) +ℤ (q +ℤ q)) z c ds
AreNear-noted w e p q d b c z [] [] h near moved is = near_nothing ((w +ℤ e) +ℤ (q +ℤ q)) z c
AreNear-noted w e p q d b c z (n ∷ ds) (x ∷ xs) h near moved is =
    All-cons (λ a. IsUpTo ((w +ℤ e) +ℤ (q +ℤ q)) ((z +ℤ a) -ℤ c)) n ds
    (omega (arith, ints, h.0, All-head (λ y. IsUpTo (w +ℤ (p +ℤ p)) (y -ℤ b)) x xs near))
    (AreNear-noted w e p q d b c z ds xs h.1 (All-tail (λ y. IsUpTo (w +ℤ (p +ℤ p)) (y -ℤ b)) x xs near) moved is)
AreNear-noted w e p q d b c z ds xs h near moved is = absurd h

-- notes from before it
AreNear-later : (w p q d b c y z : ℤ) (ds : List ℤ) → AreNear (w +ℤ (p +ℤ p)) b c ds → IsUpTo d (y -ℤ b)
    → IsUpTo d (z -ℤ c) → q ≡ p +ℤ d
    → AreNear (w +ℤ (q +ℤ q)) y z ds
AreNear-later w p q d b c y z ds near one two is =
    All-weaker (λ n. IsUpTo (w +ℤ (p +ℤ p)) ((b +ℤ n) -ℤ c)) (λ n. IsUpTo (w +ℤ (q +ℤ q)) ((y +ℤ n) -ℤ z))
    (λ n h. omega (arith, ints)) ds near

module _ {list : Medl} where
  pub held_next :
      {may_grow : Bool} {group : ℕ → Type 0} {l t q : ℕ} {width : ℤ} {clock later : ℕ → ℤ}
      {notes added all : ℕ → List ℤ}
      → pos 0 ≤ℤ list.drift → Held list may_grow group l t q width clock notes
      → Slot list may_grow group (drifted list width q) clock later added
      → ((k : ℕ) → group k → all k ≡ added k ++ notes k) → Held list may_grow group l (suc t) (suc q) width later all
  held_next {q = q} {width = width} {clock = clock} {later = later} {notes = notes} {added = added} up held slot is =
      let more = product_more list.drift q up in
      let once = product_once list.drift q up in
      record {
        wide = record {
          entry = λ early. held.wide.entry (omega (arith, early));
          most = held.wide.most;
          settled = λ late. held.wide.settled (omega (arith, late));
        };
        apart = λ j k a b. omega (arith, ints, held.apart j k a b, slot.moved j a, slot.moved k b, more);
        frames = slot.frames ++ held.frames;
        located = λ k a. rw (is k a)
            (LocateNewest-append (list.error +ℤ list.drift) (list.error +ℤ drift_in list (suc q)) (later k) (added k)
            slot.frames (notes k) held.frames (omega (arith, ints, once)) (slot.noted k a)
            (LocateNewest-later (list.error +ℤ drift_in list q) list.drift (list.error +ℤ drift_in list (suc q))
            (clock k)
            (later k) (notes k) held.frames (slot.moved k a) (omega (arith, ints, more)) (held.located k a)));
        alike = λ fixed j k a b.
            let one = length-located (list.error +ℤ list.drift) (later j) (added j) slot.frames (slot.noted j a) in
            let two = length-located (list.error +ℤ list.drift) (later k) (added k) slot.frames (slot.noted k b) in
            rw (is j a, is k b, length-append (added j) (notes j), length-append (added k) (notes k))
            (omega (arith, one, two, held.alike fixed j k a b));
        near = λ grows j k a b. rw (is j a)
            (All-append (λ n. IsUpTo (drifted list (width +ℤ list.error) (suc q)) ((later j +ℤ n) -ℤ later k))
            (added j) (notes j)
            (AreNear-noted width list.error (drift_in list q) (drift_in list (suc q)) list.drift (clock k) (later k)
            (later j) (added j) slot.frames (slot.noted j a) (slot.near grows k b) (slot.moved k b) more)
            (AreNear-later (width +ℤ list.error) (drift_in list q) (drift_in list (suc q)) list.drift (clock j)
            (clock k)
            (later j) (later k) (notes j) (held.near grows j k a b) (slot.moved j a) (slot.moved k b) more));
      }

-- a node that comes to the group is set by the frame of a node p of it, and has noted nothing
pub data Comes (list : Medl) (before : ℕ → Type 0) (p : ℕ) (clock seen : ℕ → ℤ) (notes carried : ℕ → List ℤ) (k : ℕ)
    : Type 0 where
  WasThere : IsSame before clock seen notes carried k → Comes list before p clock seen notes carried k
  IsNew : IsUpTo list.error (seen k -ℤ clock p) → carried k ≡ [] → Comes list before p clock seen notes carried k

-- what the end of a slot corrects: the average of the notes in the last slot of a round
abbrev pub correction : Medl → ℕ → List ℤ → ℤ
correction list m notes = cond (suc m == length list.slots) (fta notes) (pos 0)

pub corrected_last : (list : Medl) (m : ℕ) (notes : List ℤ) (z c : ℤ) → (suc m == length list.slots) ≡ true
    → c ≡ z +ℤ correction list m notes → c ≡ z +ℤ fta notes
corrected_last list m notes z c last is = is ∙ ap (λ b. z +ℤ cond b (fta notes) (pos 0)) last

pub corrected_inside : (list : Medl) (m : ℕ) (notes : List ℤ) (z c : ℤ) → (suc m == length list.slots) ≡ false
    → c ≡ z +ℤ correction list m notes → c ≡ z
corrected_inside list m notes z c inside is = is ∙ ap (λ b. z +ℤ cond b (fta notes) (pos 0)) inside ∙ plus_none z

pub few_or_many : (n : ℕ) → (n < 4) ⊎ (4 ≤ n)
few_or_many n = grind arith

pub early_or_late : (t n : ℕ) → (t ≤ n) ⊎ (n < t)
early_or_late t n = grind arith

module _ (list : Medl) (up : pos 0 ≤ℤ list.drift) (some : pos 0 ≤ℤ list.error) where
  round_up : pos 0 ≤ℤ drift_in list (length list.slots)
  round_up = product_up list.drift (length list.slots) up

  -- The slot in which all begin, on one frame.

  begun_width : (may_grow : Bool) → (list.error +ℤ list.error) ≤ℤ entry_width list may_grow
  begun_width true = omega (arith, ints, round_up)
  begun_width false = omega (arith, ints)

  entry_most : (may_grow : Bool) → entry_width list may_grow ≤ℤ most_width list may_grow
  entry_most true = omega (arith, ints, round_up)
  entry_most false = omega (arith, ints, round_up)

  -- the clocks as they are set by the frame, before they drift in the slot
  pub held_begun : {may_grow : Bool} {group : ℕ → Type 0} {l t q : ℕ} (frame : ℤ) {clock : ℕ → ℤ} → t ≡ l
      → ((k : ℕ) → group k → IsUpTo list.error (clock k -ℤ frame))
      → Held list may_grow group l t q (list.error +ℤ list.error) clock (λ k. [])
  held_begun {may_grow} {q = q} frame {clock} now near =
      let from = begun_width may_grow in
      let drift = product_up list.drift q up in
      record {
        wide = record {
          entry = λ early. from;
          most = omega (arith, ints, from, entry_most may_grow);
          settled = λ late. absurd (omega (arith, late, now));
        };
        apart = λ j k a b. omega (arith, ints, near j a, near k b, drift);
        frames = [];
        located = λ k a. tt;
        alike = λ fixed j k a b. refl;
        near = λ grows j k a b. near_nothing (drifted list ((list.error +ℤ list.error) +ℤ list.error) q) (clock j)
            (clock k);
      }

  -- Others come to the group.

  module _ {before : ℕ → Type 0} (q p : ℕ) (v : ℤ) {clock seen : ℕ → ℤ} {notes carried : ℕ → List ℤ}
      (member : before p) (narrow : v ≤ℤ after_average list) where
    apart_come : (j k : ℕ) → AreWithin before clock (drifted list v q)
        → Comes list before p clock seen notes carried j → Comes list before p clock seen notes carried k
        → (seen j -ℤ seen k) ≤ℤ drifted list (entry_width list true) q
    apart_come j k apart (WasThere one) (WasThere two) = omega (arith, ints, apart j k one.member two.member)
    apart_come j k apart (IsNew one none) (WasThere two) = omega (arith, ints, apart p k member two.member)
    apart_come j k apart (WasThere one) (IsNew two none) = omega (arith, ints, apart j p one.member member)
    apart_come j k apart (IsNew one none) (IsNew two neither) =
        omega (arith, ints, begun_width true, product_twice list.drift q up)

    near_come : (j k : ℕ) → PointNear before (drifted list (v +ℤ list.error) q) clock notes
        → Comes list before p clock seen notes carried j → Comes list before p clock seen notes carried k
        → AreNear (drifted list (entry_width list true +ℤ list.error) q) (seen j) (seen k) (carried j)
    near_come j k near (IsNew one none) two =
        rw none (near_nothing (drifted list (entry_width list true +ℤ list.error) q) (seen j) (seen k))
    near_come j k near (WasThere one) (WasThere two) =
        rw (one.same_notes, one.same_clock)
        (All-weaker (λ n. IsUpTo (drifted list (v +ℤ list.error) q) ((clock j +ℤ n) -ℤ clock k))
        (λ n. IsUpTo (drifted list (entry_width list true +ℤ list.error) q) ((clock j +ℤ n) -ℤ seen k))
        (λ n h. omega (arith, ints)) (notes j) (near j k one.member two.member))
    near_come j k near (WasThere one) (IsNew two none) =
        rw (one.same_notes, one.same_clock)
        (All-weaker (λ n. IsUpTo (drifted list (v +ℤ list.error) q) ((clock j +ℤ n) -ℤ clock p))
        (λ n. IsUpTo (drifted list (entry_width list true +ℤ list.error) q) ((clock j +ℤ n) -ℤ seen k))
        (λ n h. omega (arith, ints)) (notes j) (near j p one.member member))

    -- the frame is near each
    pub frame_come : (k : ℕ) → AreWithin before clock (drifted list v q)
        → Comes list before p clock seen notes carried k
        → IsUpTo (drifted list (entry_width list true) q) (clock p -ℤ seen k)
    frame_come k apart (WasThere same) =
        omega (arith, ints, apart p k member same.member, apart k p same.member member)
    frame_come k apart (IsNew near none) = omega (arith, ints, begun_width true, product_twice list.drift q up)

    located_come : (k : ℕ) (w : ℤ) (frames : List ℤ) → HaveLocated before w clock notes frames
        → Comes list before p clock seen notes carried k → LocateNewest w (seen k) (carried k) frames
    located_come k w frames located (WasThere same) = rw (same.same_notes, same.same_clock) (located k same.member)
    located_come k w frames located (IsNew near none) = rw none tt

    -- two rounds or more after the newest entry: the clocks as they are set by the frame, before they drift in the slot
    pub held_grown : (group : ℕ → Type 0) (older l t : ℕ) → t ≡ l
        → ((k : ℕ) → group k → Comes list before p clock seen notes carried k)
        → Held list true before older t q v clock notes
        → Held list true group l t q (entry_width list true) seen carried
    held_grown group older l t now come held = record {
      wide = record {
        entry = λ early. omega (arith, ints);
        most = entry_most true;
        settled = λ late. absurd (omega (arith, late, now));
      };
      apart = λ j k a b. apart_come j k held.apart (come j a) (come k b);
      frames = held.frames;
      located = λ k a. located_come k (list.error +ℤ drift_in list q) held.frames held.located (come k a);
      alike = λ fixed. absurd (false≢true (sym fixed));
      near = λ grows j k a b. near_come j k (held.near refl) (come j a) (come k b);
    }

  -- The correction, at the end of a round.

  average_width : (may_grow : Bool) → after_average list ≤ℤ most_width list may_grow
  average_width true = omega (arith, ints, round_up)
  average_width false = omega (arith, ints)

  -- clocks before a round's first slot
  held_anew : {may_grow : Bool} (group : ℕ → Type 0) {l t : ℕ} {width : ℤ} (clock : ℕ → ℤ)
      → IsWidth list may_grow l t 0 width → AreWithin group clock width
      → Held list may_grow group l t 0 width clock (λ k. [])
  held_anew group {width = width} clock wide apart = record {
    wide = wide;
    apart = λ j k a b. omega (arith, ints, product_none list.drift up, apart j k a b);
    frames = [];
    located = λ k a. tt;
    alike = λ fixed j k a b. refl;
    near = λ grows j k a b. near_nothing (drifted list (width +ℤ list.error) 0) (clock j) (clock k);
  }

  module _ (group : ℕ → Type 0) (l t : ℕ) (width : ℤ) (clock : ℕ → ℤ) (notes : ℕ → List ℤ) where
    -- both noted enough
    both_corrected : (may_grow : Bool) → Held list may_grow group l t (length list.slots) width clock notes
        → (j k : ℕ) → group j → group k → 4 ≤ length (notes j) → 4 ≤ length (notes k)
        → ((clock j +ℤ fta (notes j)) -ℤ (clock k +ℤ fta (notes k))) ≤ℤ after_average list
    both_corrected may_grow held j k a b many enough =
        let near = corrected_apart (list.error +ℤ drift_in list (length list.slots)) (clock j) (clock k) (notes j)
        (notes k) held.frames (held.located j a) (held.located k b) many enough in
        omega (arith, ints, near)

    -- where others may come, the average of a clock leaves it near each
    averaged_near : Held list true group l t (length list.slots) width clock notes → (j k : ℕ) → group j → group k
        → IsUpTo (drifted list (width +ℤ list.error) (length list.slots)) ((clock j +ℤ fta (notes j)) -ℤ clock k)
    averaged_near held j k a b =
        corrected_near (drifted list (width +ℤ list.error) (length list.slots)) (clock j) (clock k) (notes j)
        (omega (arith, ints, held.apart j k a b, held.apart k j b a)) (held.near refl j k a b)

    -- at the end of the round of the newest entry
    averaged_early : (may_grow : Bool) → t ≤ l + length list.slots
        → Held list may_grow group l t (length list.slots) width clock notes → (j k : ℕ) → group j → group k
        → ((clock j +ℤ fta (notes j)) -ℤ (clock k +ℤ fta (notes k))) ≤ℤ most_width list may_grow
    averaged_early false early held j k a b =
        let same = held.alike refl j k a b in
        elim (few_or_many (length (notes j))) [
          | inl few ↦
              let none = fta-few (notes k) (omega (arith, few, same)) in
              omega (arith, ints, fta-few (notes j) few, none, held.wide.entry early, held.apart j k a b)
          | inr many ↦ both_corrected false held j k a b many (omega (arith, same, many))
        ]
    averaged_early true early held j k a b =
        elim (few_or_many (length (notes j))) [
          | inl few ↦
              omega (arith, ints, fta-few (notes j) few, held.wide.entry early, averaged_near held k j b a)
          | inr many ↦ elim (few_or_many (length (notes k))) [
            | inl few ↦
                omega (arith, ints, fta-few (notes k) few, held.wide.entry early, averaged_near held j k a b)
            | inr enough ↦ omega (arith, ints, round_up, both_corrected true held j k a b many enough)
          ]
        ]

    -- each takes its average; there are four notes or more, but in the round of the newest entry
    pub held_corrected : (may_grow : Bool) → l < t → Held list may_grow group l t (length list.slots) width clock notes
        → (l + length list.slots < t → (k : ℕ) → group k → 4 ≤ length (notes k))
        → (next : ℤ) × Held list may_grow group l t 0 next (λ k. clock k +ℤ fta (notes k)) (λ k. [])
    held_corrected may_grow began held enough = elim (early_or_late t (l + length list.slots)) [
      | inl early ↦ (
        most_width list may_grow,
        held_anew group (λ k. clock k +ℤ fta (notes k))
            (record {
              entry = λ now. absurd (omega (arith, now, began));
              most = omega (arith, ints);
              settled = λ late. absurd (omega (arith, late, early));
            }) (averaged_early may_grow early held),
      )
      | inr late ↦ (
        after_average list,
        held_anew group (λ k. clock k +ℤ fta (notes k))
            (record {
              entry = λ now. absurd (omega (arith, now, began));
              most = average_width may_grow;
              settled = λ long. omega (arith, ints);
            }) (λ j k a b. both_corrected may_grow held j k a b (enough late j a) (enough late k b)),
      )
    ]

  -- The spread.

  most_true : (may_grow : Bool) → most_width list may_grow ≤ℤ most_width list true
  most_true true = omega (arith, ints)
  most_true false = average_width true

  module _ {may_grow : Bool} {group : ℕ → Type 0} {l t q : ℕ} {width : ℤ} {clock : ℕ → ℤ} {notes : ℕ → List ℤ}
      (inside : q < length list.slots) (held : Held list may_grow group l t q width clock notes) where
    -- a company's clocks before a slot
    pub settled_within : (may_grow ≡ false) ⊎ (l + length list.slots + q < t) → AreWithin group clock (spread list)
    settled_within settled j k a b =
        let drift = product_upto list.drift q (length list.slots) up (omega arith) in
        omega (arith, ints, held.apart j k a b, narrow, product_four list.drift (length list.slots) up, drift)
      where
        narrow : width ≤ℤ after_average list
        narrow = elim settled [
          | inl fixed ↦ subst (λ b. width ≤ℤ most_width list b) fixed held.wide.most
          | inr late ↦ held.wide.settled late
        ]

    pub company_within : AreWithin group clock (spread_rejoining list)
    company_within j k a b =
        let drift = product_upto list.drift q (length list.slots) up (omega arith) in
        let six = product_six list.drift (length list.slots) up in
        omega (arith, ints, held.apart j k a b, held.wide.most, most_true may_grow, six, drift)
