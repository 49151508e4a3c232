-- What two nodes note of the frames of a round pulls their clocks together, though one sender is two-faced.
use Rattle.two_faced.proofs.Words.{◌≡◌, ◌≢◌, ℕ, suc, ◌<◌, ◌≤◌, ℤ, pos, ◌+ℤ◌, ◌-ℤ◌, ◌*ℤ◌, ◌≤ℤ◌, true, false, cond, List}
use Rattle.two_faced.proofs.Words.{[], ◌∷◌, ◌++◌, length, inl, inr, refl, ap, arith, nat_lt, cases_eq, ints, fta}
use Rattle.two_faced.proofs.Words.{is_within_bound, IsUpTo, AreWithin}
use Rattle.std.proofs.lemmas.Bool.{and_from}
use Rattle.ttp_world.specs.Clock.{middle_half}
use Rattle.node_parts.specs.Pull.{without, are_near, are_within, pulled}
use Rattle.two_faced.proofs.FromBelow.{pull, within_bound}

-- each note but of z's frames tells where its sender's clock was when the round began, within w
abbrev pub Locate : ℕ → ℤ → (ℕ → ℤ) → ℤ → List ℤ → List ℕ → Type 0
Locate z w began clock [] [] = Unit {0}
Locate z w began clock (d ∷ ds) (p ∷ ps) = (p ≢ z → IsUpTo w ((clock +ℤ d) -ℤ began p)) × Locate z w began clock ds ps
Locate z w began clock ds ps = ⊥

-- senders of a round, the newest first: each is in the group, and they fall from below a number
abbrev pub AreTurns : (ℕ → Type 0) → ℕ → List ℕ → Type 0
AreTurns group n [] = Unit {0}
AreTurns group n (p ∷ ps) = group p × (p < n) × AreTurns group p ps

-- There are as many notes as senders.
pub length-noted : (z : ℕ) (w : ℤ) (began : ℕ → ℤ) (c : ℤ) (ds : List ℤ) (ps : List ℕ) → Locate z w began c ds ps
    → length ds ≡ length ps
length-noted z w began c [] [] h = refl
length-noted z w began c (d ∷ ds) (p ∷ ps) h = ap suc (length-noted z w began c ds ps h.1)
length-noted z w began c ds ps h = absurd h

-- Three frames that two clocks note alike.

pub test_of : (bound z : ℤ) → IsUpTo bound z → is_within_bound bound z ≡ true
test_of bound z h = grind (arith, ints, h.0, h.1)

-- what two nodes noted of a frame of a sender in the group
record TwoNotes (group : ℕ → Type 0) (w b c : ℤ) (began : ℕ → ℤ) (d e : ℤ) (p : ℕ) : Type 0 where
  member : group p
  one : IsUpTo w ((b +ℤ d) -ℤ began p)
  two : IsUpTo w ((c +ℤ e) -ℤ began p)

-- Averages.

-- how far two clocks are apart that are corrected by averages of notes within w, where clocks were within s
abbrev pub Pulled : ℤ → ℤ → ℤ → ℤ → Type 0
Pulled s w x y = ((x -ℤ y) *ℤ pos 2) ≤ℤ (s +ℤ (w *ℤ pos 6 +ℤ pos 2))

pulled_of : (odd : ℕ) (s w b c : ℤ) (ds es : List ℤ) → odd < 4 → length ds ≡ 4 → length es ≡ 4
    → are_near (c -ℤ b) (w +ℤ w) (without odd ds) (without odd es) ≡ true
    → are_within (s +ℤ (w +ℤ w)) (without odd ds) ≡ true → Pulled s w (b +ℤ fta ds) (c +ℤ fta es)
pulled_of odd s w b c ds es inside four many alike narrow =
    let near = pull odd (c -ℤ b) (w +ℤ w) (s +ℤ (w +ℤ w)) ds es inside four many alike narrow in
    let apart = within_bound (pulled (w +ℤ w) (s +ℤ (w +ℤ w))) (((fta ds -ℤ fta es) -ℤ (c -ℤ b)) *ℤ pos 2) near in
    omega (arith, ints, apart)

-- of more notes the newest four count
fta-newest : (d1 d2 d3 d4 : ℤ) (ds : List ℤ) → fta (d1 ∷ d2 ∷ d3 ∷ d4 ∷ ds) ≡ fta (d1 ∷ d2 ∷ d3 ∷ d4 ∷ [])
fta-newest d1 d2 d3 d4 ds =
    let many : nat_lt (length (d1 ∷ d2 ∷ d3 ∷ d4 ∷ ds)) 4 ≡ false = grind arith in
    ap (λ b. cond b (pos 0) (middle_half (d1 ∷ d2 ∷ d3 ∷ d4 ∷ []))) many

module _ (group : ℕ → Type 0) (s w b c : ℤ) (began : ℕ → ℤ) (near : AreWithin group began s) where
  alike_of : (d e : ℤ) (p : ℕ) → TwoNotes group w b c began d e p
      → is_within_bound (w +ℤ w) ((d -ℤ e) -ℤ (c -ℤ b)) ≡ true
  alike_of d e p n = test_of (w +ℤ w) ((d -ℤ e) -ℤ (c -ℤ b)) (omega (arith, ints))

  narrow_of : (d e f g : ℤ) (p q : ℕ) → TwoNotes group w b c began d e p → TwoNotes group w b c began f g q
      → is_within_bound (s +ℤ (w +ℤ w)) (d -ℤ f) ≡ true
  narrow_of d e f g p q n m =
      test_of (s +ℤ (w +ℤ w)) (d -ℤ f) (omega (arith, ints, near p q n.member m.member, near q p m.member n.member))

  module _ (odd : ℕ) (ds es : List ℤ) {d1 d2 d3 e1 e2 e3 : ℤ} where
    -- where all but the odd one of four notes are such three
    pulled_of_three : {p1 p2 p3 : ℕ} → odd < 4 → length ds ≡ 4 → length es ≡ 4 → without odd ds ≡ d1 ∷ d2 ∷ d3 ∷ []
        → without odd es ≡ e1 ∷ e2 ∷ e3 ∷ [] → TwoNotes group w b c began d1 e1 p1 → TwoNotes group w b c began d2 e2 p2
        → TwoNotes group w b c began d3 e3 p3 → Pulled s w (b +ℤ fta ds) (c +ℤ fta es)
    pulled_of_three {p1} {p2} {p3} inside four many is was n1 n2 n3 =
        pulled_of odd s w b c ds es inside four many (rw (is, was) (and_from _ _ (alike_of d1 e1 p1 n1)
        (and_from _ _ (alike_of d2 e2 p2 n2) (and_from _ _ (alike_of d3 e3 p3 n3) refl)))) (rw is (and_from _ _
        (and_from _ _ (narrow_of d1 e1 d2 e2 p1 p2 n1 n2) (and_from _ _ (narrow_of d1 e1 d3 e3 p1 p3 n1 n3) refl))
        (and_from _ _ (and_from _ _ (narrow_of d2 e2 d3 e3 p2 p3 n2 n3) refl) refl)))

  -- the four newest notes of two clocks
  module _ (z n : ℕ) (d1 d2 d3 d4 e1 e2 e3 e4 : ℤ) (p1 p2 p3 p4 : ℕ) (ds es : List ℤ) (ps : List ℕ)
      (turns : AreTurns group n (p1 ∷ p2 ∷ p3 ∷ p4 ∷ ps))
      (one : Locate z w began b (d1 ∷ d2 ∷ d3 ∷ d4 ∷ ds) (p1 ∷ p2 ∷ p3 ∷ p4 ∷ ps))
      (two : Locate z w began c (e1 ∷ e2 ∷ e3 ∷ e4 ∷ es) (p1 ∷ p2 ∷ p3 ∷ p4 ∷ ps)) where
    note1 : p1 ≢ z → TwoNotes group w b c began d1 e1 p1
    note1 other = record { member = turns.0; one = one.0 other; two = two.0 other }

    note2 : p2 ≢ z → TwoNotes group w b c began d2 e2 p2
    note2 other = record { member = turns.2.0; one = one.1.0 other; two = two.1.0 other }

    note3 : p3 ≢ z → TwoNotes group w b c began d3 e3 p3
    note3 other = record { member = turns.2.2.0; one = one.1.1.0 other; two = two.1.1.0 other }

    note4 : p4 ≢ z → TwoNotes group w b c began d4 e4 p4
    note4 other = record { member = turns.2.2.2.0; one = one.1.1.1.0 other; two = two.1.1.1.0 other }

    -- the turns fall
    below : (p2 < p1) × (p3 < p2) × (p4 < p3)
    below = (turns.2.1, turns.2.2.1, turns.2.2.2.1)

    four_pulled : Pulled s w (b +ℤ fta (d1 ∷ d2 ∷ d3 ∷ d4 ∷ [])) (c +ℤ fta (e1 ∷ e2 ∷ e3 ∷ e4 ∷ []))
    four_pulled = elim (cases_eq p1 z) [
      | inl at ↦ pulled_of_three 0 (d1 ∷ d2 ∷ d3 ∷ d4 ∷ []) (e1 ∷ e2 ∷ e3 ∷ e4 ∷ []) (omega arith) refl refl refl refl
          (note2 (λ is. omega (arith, below))) (note3 (λ is. omega (arith, below))) (note4 (λ is. omega (arith, below)))
      | inr no1 ↦ elim (cases_eq p2 z) [
        | inl at ↦ pulled_of_three 1 (d1 ∷ d2 ∷ d3 ∷ d4 ∷ []) (e1 ∷ e2 ∷ e3 ∷ e4 ∷ []) (omega arith) refl refl refl refl
            (note1 no1) (note3 (λ is. omega (arith, below))) (note4 (λ is. omega (arith, below)))
        | inr no2 ↦ elim (cases_eq p3 z) [
          | inl at ↦ pulled_of_three 2 (d1 ∷ d2 ∷ d3 ∷ d4 ∷ []) (e1 ∷ e2 ∷ e3 ∷ e4 ∷ []) (omega arith) refl refl refl
              refl (note1 no1) (note2 no2) (note4 (λ is. omega (arith, below)))
          | inr no3 ↦ pulled_of_three 3 (d1 ∷ d2 ∷ d3 ∷ d4 ∷ []) (e1 ∷ e2 ∷ e3 ∷ e4 ∷ []) (omega arith) refl refl refl
              refl (note1 no1) (note2 no2) (note3 no3)
        ]
      ]
    ]

module _ (group : ℕ → Type 0) where
  -- two clocks that noted four or more frames of a round, each corrected by its average
  pub averages_pull : (z n : ℕ) (s w b c : ℤ) (began : ℕ → ℤ) (ds es : List ℤ) (ps : List ℕ) → AreWithin group began s
      → AreTurns group n ps → Locate z w began b ds ps → Locate z w began c es ps → 4 ≤ length ds
      → Pulled s w (b +ℤ fta ds) (c +ℤ fta es)
  averages_pull z n s w b c began (d1 ∷ d2 ∷ d3 ∷ d4 ∷ ds) (e1 ∷ e2 ∷ e3 ∷ e4 ∷ es) (p1 ∷ p2 ∷ p3 ∷ p4 ∷ ps) near turns
      one two many = rw (fta-newest d1 d2 d3 d4 ds, fta-newest e1 e2 e3 e4 es)
      (four_pulled group s w b c began near z n d1 d2 d3 d4 e1 e2 e3 e4 p1 p2 p3 p4 ds es ps turns one two)
  averages_pull z n s w b c began ds es ps near turns one two many =
      absurd (omega (arith, many, length-noted z w began b ds ps one, length-noted z w began c es ps two))

-- Notes as time goes on.

pub Locate-append : (z : ℕ) (w : ℤ) (began : ℕ → ℤ) (c : ℤ) (ds es : List ℤ) (ps qs : List ℕ) → Locate z w began c ds ps
    → Locate z w began c es qs → Locate z w began c (ds ++ es) (ps ++ qs)
Locate-append z w began c [] es [] qs h g = g
Locate-append z w began c (d ∷ ds) es (p ∷ ps) qs h g = (h.0, Locate-append z w began c ds es ps qs h.1 g)
Locate-append z w began c ds es ps qs h g = absurd h

-- the clock has moved by no more than q
pub Locate-moved : (z : ℕ) (w v q : ℤ) (began : ℕ → ℤ) (b c : ℤ) (ds : List ℤ) (ps : List ℕ) → IsUpTo q (c -ℤ b)
    → v ≡ w +ℤ q → Locate z w began b ds ps → Locate z v began c ds ps
Locate-moved z w v q began b c [] [] moved is h = tt
Locate-moved z w v q began b c (d ∷ ds) (p ∷ ps) moved is h =
    (λ other. omega (arith, ints, h.0 other, moved, is), Locate-moved z w v q began b c ds ps moved is h.1)
Locate-moved z w v q began b c ds ps moved is h = absurd h

-- a slot that no turn was noted in
pub AreTurns-later : (group : ℕ → Type 0) (n : ℕ) (ps : List ℕ) → AreTurns group n ps → AreTurns group (suc n) ps
AreTurns-later group n [] h = tt
AreTurns-later group n (p ∷ ps) h = let below = h.1 in (h.0, omega arith, h.2)
