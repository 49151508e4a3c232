-- A group's clocks and notes in a round, one of whose senders, z, may be two-faced: what one slot more, and the
-- correction at the end of the round, make of them.
--
-- The group began in slot s, and t slots are over, of which the last q are those of the round so far.
use Rattle.two_faced.proofs.Words.{◌≡◌, ℕ, suc, ◌+◌, ◌*◌, ◌<◌, ◌≤◌, ℤ, pos, negsuc, ◌+ℤ◌, ◌-ℤ◌, ◌*ℤ◌, ◌≤ℤ◌, inl, inr}
use Rattle.two_faced.proofs.Words.{List, [], ◌++◌, length, sym, ◌∙◌, arith, ints, Medl, fta, IsUpTo, drift_in}
use Rattle.two_faced.proofs.Words.{product_more, product_up, AreWithin, HaveDrifted, bound}
use Rattle.two_faced.proofs.FromBelow.{fta-few, product_upto, few_or_many, early_or_late}
use Rattle.two_faced.proofs.PulledNotes.{Locate, AreTurns, averages_pull, Locate-append, Locate-moved}
use Rattle.two_faced.proofs.PulledNotes.{length-noted}

-- how far apart clocks are after a round's correction: 6 D n + 6 E + 2
abbrev pub after_pull : Medl → ℤ
after_pull list = drift_in list (length list.slots) *ℤ pos 6 +ℤ (list.error *ℤ pos 6 +ℤ pos 2)

-- how far a note and a clock may miss where a sender's clock was when the round began
abbrev pub width : Medl → ℕ → ℤ
width list q = list.error +ℤ drift_in list q

pub record Round (list : Medl) (group : ℕ → Type 0) (z s t q : ℕ) (clock : ℕ → ℤ) (notes : ℕ → List ℤ) : Type 0 where
  -- the clocks when the round began
  pub began : ℕ → ℤ
  pub apart : AreWithin group began (after_pull list)
  -- in the round in which the group began
  pub first : t ≤ s + q → AreWithin group began (list.error +ℤ list.error)
  pub moved : (k : ℕ) → group k → IsUpTo (drift_in list q) (clock k -ℤ began k)
  -- whose frames were noted in the round
  pub senders : List ℕ
  pub turns : AreTurns group q senders
  pub noted : (k : ℕ) → group k → Locate z (width list q) began (clock k) (notes k) senders

-- what a group notes in slot q of a round that began so: its turn is noted by all, or by none
pub record SlotNotes (list : Medl) (group : ℕ → Type 0) (z q : ℕ) (began later : ℕ → ℤ) (added : ℕ → List ℤ) : Type 0
  where
    pub new : List ℕ
    pub turn : (senders : List ℕ) → AreTurns group q senders → AreTurns group (suc q) (new ++ senders)
    pub noted : (k : ℕ) → group k → Locate z (width list (suc q)) began (later k) (added k) new

-- The beginning of a round.

no_drift : (d b : ℤ) → pos 0 ≤ℤ d → IsUpTo (d *ℤ pos 0) (b -ℤ b)
no_drift (pos a) b up = omega (arith, ints)
no_drift (negsuc a) b up = absurd (omega (arith, ints, up))

pub round_begins : (list : Medl) (group : ℕ → Type 0) (z s t : ℕ) (clock : ℕ → ℤ) → pos 0 ≤ℤ list.drift → s < t
    → AreWithin group clock (after_pull list) → Round list group z s t 0 clock (λ k. [])
round_begins list group z s t clock up later apart = record {
  began = clock;
  apart = apart;
  first = λ early. absurd (omega (arith, early, later));
  moved = λ k p. no_drift list.drift (clock k) up;
  senders = [];
  turns = tt;
  noted = λ k p. tt;
}

-- One slot more.

module _ (list : Medl) where
  pub round_goes : (group : ℕ → Type 0) (z s t q : ℕ) (clock later : ℕ → ℤ) (notes added all : ℕ → List ℤ)
      → pos 0 ≤ℤ list.drift → (r : Round list group z s t q clock notes) → HaveDrifted list group clock later
      → SlotNotes list group z q r.began later added → ((k : ℕ) → group k → all k ≡ added k ++ notes k)
      → Round list group z s (suc t) (suc q) later all
  round_goes group z s t q clock later notes added all up r drifted slot is =
      let more : drift_in list (suc q) ≡ drift_in list q +ℤ list.drift = product_more list.drift q up in
      record {
        began = r.began;
        apart = r.apart;
        first = λ early. r.first (omega (arith, early));
        moved = λ k p. omega (arith, ints, r.moved k p, drifted k p, more);
        senders = slot.new ++ r.senders;
        turns = slot.turn r.senders r.turns;
        noted = λ k p. rw (is k p) (Locate-append z (width list (suc q)) r.began (later k) (added k) (notes k) slot.new
            r.senders (slot.noted k p) (Locate-moved z (width list q) (width list (suc q)) list.drift r.began (clock k)
            (later k) (notes k) r.senders (drifted k p) (omega (arith, ints, more)) (r.noted k p)));
      }

-- The end of a round.

-- each takes its average, of four notes or more, but in the round in which the group began
pub round_ends : (list : Medl) (group : ℕ → Type 0) (z s t q : ℕ) (clock : ℕ → ℤ) (notes : ℕ → List ℤ)
    → pos 0 ≤ℤ list.drift → pos 0 ≤ℤ list.error → q ≡ length list.slots → (r : Round list group z s t q clock notes)
    → (s + length list.slots < t → (k : ℕ) → group k → 4 ≤ length (notes k))
    → AreWithin group (λ k. clock k +ℤ fta (notes k)) (after_pull list)
round_ends list group z s t q clock notes up some last r enough j k a b = elim (few_or_many (length (notes j))) [
  | inl few ↦ elim (early_or_late t (s + q)) [
    | inl early ↦
        let none = fta-few (notes k) (omega (arith, few, same)) in
        let upward = product_up list.drift (length list.slots) up in
        omega (arith, ints, r.first early j k a b, whole j a, whole k b, fta-few (notes j) few, none, upward)
    | inr late ↦ absurd (omega (arith, few, enough (omega (arith, late, last)) j a))
  ]
  | inr many ↦
      let near = averages_pull group z q (after_pull list) (width list q) (clock j) (clock k) r.began (notes j)
      (notes k) r.senders r.apart r.turns (r.noted j a) (r.noted k b) many in
      omega (arith, ints, rw last at near)
]
  where
    same : length (notes j) ≡ length (notes k)
    same =
        length-noted z (width list q) r.began (clock j) (notes j) r.senders (r.noted j a)
        ∙ sym (length-noted z (width list q) r.began (clock k) (notes k) r.senders (r.noted k b))

    whole : (i : ℕ) → group i → IsUpTo (drift_in list (length list.slots)) (clock i -ℤ r.began i)
    whole i p = rw (← last) (r.moved i p)

-- The bound.

-- how far apart any two clocks are in a round: 8 D n + 6 E + 2
abbrev pub in_round : Medl → ℤ
in_round list = drift_in list (length list.slots) *ℤ pos 8 +ℤ (list.error *ℤ pos 6 +ℤ pos 2)

pub round_within : (list : Medl) (group : ℕ → Type 0) (z s t q : ℕ) (clock : ℕ → ℤ) (notes : ℕ → List ℤ)
    → pos 0 ≤ℤ list.drift → q ≤ length list.slots → Round list group z s t q clock notes
    → AreWithin group clock (in_round list)
round_within list group z s t q clock notes up few r j k a b =
    omega (arith, ints, r.apart j k a b, r.moved j a, r.moved k b, product_upto list.drift q (length list.slots) up few)

product_twelve : (d : ℤ) (n : ℕ) → pos 0 ≤ℤ d → d *ℤ pos (12 * n) ≡ (d *ℤ pos n) *ℤ pos 12
product_twelve (pos a) n up = omega (arith, ints)
product_twelve (negsuc a) n up = absurd (omega (arith, ints, up))

pub in_round_bound : (list : Medl) → pos 0 ≤ℤ list.drift → in_round list ≤ℤ bound list
in_round_bound list up =
    omega (arith, ints, product_up list.drift (length list.slots) up, product_twelve list.drift (length list.slots) up)
