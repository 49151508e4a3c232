-- Two clocks of which the first has stopped to note frames: how far apart they stay while no more than one round ends.
--
-- The clocks are those after slot m of a round. The first is counted less its jump, and its notes are those of the
-- round.
use Rattle.safety_laws.proofs.Words.{◌≡◌, ℕ, suc, ◌<◌, ◌≤◌, ℤ, pos, neg_ℤ, ◌+ℤ◌, ◌-ℤ◌, ◌*ℤ◌, ◌≤ℤ◌, true, false, cond}
use Rattle.safety_laws.proofs.Words.{◌⊎◌, inl, inr, List, [], ◌++◌, length, refl, ap, sym, subst, ◌∙◌, arith, ◌==◌, All}
use Rattle.safety_laws.proofs.Words.{ne_eqb, eq-eqb, cases_lt, append-nil, ints, All-append, Medl, needed, IsUpTo}
use Rattle.safety_laws.proofs.Words.{AreNear, drift_in, correction, product_up}
use Rattle.std.proofs.lemmas.List.Elements.{All-weaker}
use Rattle.ttp_world.specs.Clock.{fta}
use Rattle.ttp_world.proofs.Averages.{fta-between}
use Rattle.safety_laws.proofs.FromBelow.{fta-near, product_more, product_upto, wider_of as wider-still}
use Rattle.ttp_world.proofs.SmallTests.{plus_none}

-- how far a frame that is noted in a round can lie from another clock after slot m, by the clock and the note together
abbrev pub noted_width : Medl → ℕ → ℤ
noted_width list m = needed list +ℤ (drift_in list (suc m) +ℤ drift_in list (suc m))

-- how far two clocks are apart q slots after they ran together, if one of them noted nothing and a round has ended
abbrev pub apart_width : Medl → ℕ → ℤ
apart_width list q =
    (needed list +ℤ needed list) +ℤ ((drift_in list (length list.slots) +ℤ drift_in list (length list.slots))
    +ℤ (drift_in list q +ℤ drift_in list q))

pub data Apart (list : Medl) (m q : ℕ) (c k : ℤ) (notes : List ℤ) : Type 0 where
  -- a round ends with the slot up to which they ran together
  Fresh : q ≡ 0 → suc m ≡ length list.slots → IsUpTo (needed list) (c -ℤ k) → Apart list m q c k notes
  -- no round has ended since
  Before : suc m < length list.slots → q ≤ suc m → IsUpTo (noted_width list m) (c -ℤ k)
      → AreNear (noted_width list m) c k notes → Apart list m q c k notes
  -- one has
  After : 0 < q → (suc m < q) ⊎ (suc m ≡ length list.slots) → IsUpTo (apart_width list q) (c -ℤ k)
      → Apart list m q c k notes

-- One slot more: both drift.

-- a step of both clocks that is not corrected
pub record HaveMoved (list : Medl) (c k later_c later_k : ℤ) : Type 0 where
  pub up : pos 0 ≤ℤ list.drift
  pub first : IsUpTo list.drift (later_c -ℤ c)
  pub second : IsUpTo list.drift (later_k -ℤ k)

wider : (w v d c k x y : ℤ) → IsUpTo w (c -ℤ k) → IsUpTo d (x -ℤ c) → IsUpTo d (y -ℤ k) → v ≡ w +ℤ (d +ℤ d)
    → IsUpTo v (x -ℤ y)
wider w v d c k x y h p q is =
    (omega (arith, ints, h.0, h.1, p.0, p.1, q.0, q.1, is), omega (arith, ints, h.0, h.1, p.0, p.1, q.0, q.1, is))

wider-note : (w v d c k x y n : ℤ) → IsUpTo d (x -ℤ c) → IsUpTo d (y -ℤ k) → v ≡ w +ℤ (d +ℤ d)
    → IsUpTo w ((c +ℤ n) -ℤ k) → IsUpTo v ((x +ℤ n) -ℤ y)
wider-note w v d c k x y n p q is h =
    (omega (arith, ints, h.0, h.1, p.0, p.1, q.0, q.1, is), omega (arith, ints, h.0, h.1, p.0, p.1, q.0, q.1, is))

add-more : (a p q d : ℤ) → q ≡ p +ℤ d → a +ℤ (q +ℤ q) ≡ (a +ℤ (p +ℤ p)) +ℤ (d +ℤ d)
add-more a p q d is = omega (arith, ints, is)

noted_width-next : (list : Medl) (m : ℕ) → pos 0 ≤ℤ list.drift
    → noted_width list (suc m) ≡ noted_width list m +ℤ (list.drift +ℤ list.drift)
noted_width-next list m up =
    add-more (needed list) (drift_in list (suc m)) (drift_in list (suc (suc m))) list.drift
    (product_more list.drift (suc m) up)

add-last : (a b p q d : ℤ) → q ≡ p +ℤ d → a +ℤ (b +ℤ (q +ℤ q)) ≡ (a +ℤ (b +ℤ (p +ℤ p))) +ℤ (d +ℤ d)
add-last a b p q d is = omega (arith, ints, is)

apart_width-next : (list : Medl) (q : ℕ) → pos 0 ≤ℤ list.drift
    → apart_width list (suc q) ≡ apart_width list q +ℤ (list.drift +ℤ list.drift)
apart_width-next list q up =
    add-last (needed list +ℤ needed list) (drift_in list (length list.slots) +ℤ drift_in list (length list.slots))
    (drift_in list q) (drift_in list (suc q)) list.drift (product_more list.drift q up)

-- notes of the slots before
pub near-later : (list : Medl) (m : ℕ) (c k later_c later_k : ℤ) (notes : List ℤ) → HaveMoved list c k later_c later_k
    → AreNear (noted_width list m) c k notes → AreNear (noted_width list (suc m)) later_c later_k notes
near-later list m c k later_c later_k notes moved near =
    All-weaker (λ d. IsUpTo (noted_width list m) ((c +ℤ d) -ℤ k))
    (λ d. IsUpTo (noted_width list (suc m)) ((later_c +ℤ d) -ℤ later_k))
    (λ d h. wider-note (noted_width list m) (noted_width list (suc m)) list.drift c k later_c later_k d moved.first
    moved.second (noted_width-next list m moved.up) h) notes near

-- The correction at the end of a round.

both-corrected : (w n v c k a b : ℤ) → (((k -ℤ c) -ℤ w) ≤ℤ a) × (a ≤ℤ ((k -ℤ c) +ℤ w)) → IsUpTo n b → (w +ℤ n) ≤ℤ v
    → IsUpTo v ((c +ℤ a) -ℤ (k +ℤ b))
both-corrected w n v c k a b h g wide =
    (omega (arith, ints, h.0, h.1, g.0, g.1, wide), omega (arith, ints, h.0, h.1, g.0, g.1, wide))

fta-small : (w : ℤ) (notes : List ℤ) → pos 0 ≤ℤ w → All (IsUpTo w) notes → IsUpTo w (fta notes)
fta-small w notes up all = fta-between (neg_ℤ w) w notes (omega (arith, ints, up)) up all

-- Two clocks and the first one's notes before a slot and after it.
pub record SlotOfTwo (list : Medl) (m : ℕ) (c k : ℤ) (notes : List ℤ) (index : ℕ) (then_c then_k : ℤ) (all : List ℤ)
    : Type 0 where
  pub many : 4 ≤ length list.slots
  pub needs : pos 0 ≤ℤ needed list
  -- what they show after it but for a correction
  pub later_c : ℤ
  pub later_k : ℤ
  pub moved : HaveMoved list c k later_c later_k
  pub next : index ≡ cond (suc m == length list.slots) 0 (suc m)
  -- what the first notes in the slot, if anything
  pub new : List ℤ
  pub near : AreNear (noted_width list index) later_c later_k new
  pub noted : all ≡ new ++ cond (suc m == length list.slots) [] notes
  -- the second one's notes after it
  pub others : List ℤ
  pub small : All (IsUpTo (needed list)) others
  pub first : then_c ≡ later_c +ℤ correction list index all
  pub second : then_k ≡ later_k +ℤ correction list index others

pub uncorrected-in : (list : Medl) (m : ℕ) (z c : ℤ) (notes : List ℤ) → suc m < length list.slots
    → c ≡ z +ℤ correction list m notes → c ≡ z
uncorrected-in list m z c notes less is =
    let none : (suc m == length list.slots) ≡ false =
    ne_eqb (suc m) (length list.slots) (λ same. omega (arith, same)) in
    is ∙ ap (λ b. z +ℤ cond b (fta notes) (pos 0)) none ∙ plus_none z

corrected-in : (list : Medl) (m : ℕ) (z c : ℤ) (notes : List ℤ) → suc m ≡ length list.slots
    → c ≡ z +ℤ correction list m notes → c ≡ z +ℤ fta notes
corrected-in list m z c notes last is =
    is ∙ ap (λ b. z +ℤ cond b (fta notes) (pos 0)) (eq-eqb (suc m) (length list.slots) last)

same-apart : (w c k x y : ℤ) → x ≡ c → y ≡ k → IsUpTo w (c -ℤ k) → IsUpTo w (x -ℤ y)
same-apart w c k x y is was h = (omega (arith, ints, is, was, h.0), omega (arith, ints, is, was, h.1))

same-note : (w c k x y d : ℤ) → x ≡ c → y ≡ k → IsUpTo w ((c +ℤ d) -ℤ k) → IsUpTo w ((x +ℤ d) -ℤ y)
same-note w c k x y d is was h = (omega (arith, ints, is, was, h.0), omega (arith, ints, is, was, h.1))

pub same-near : (w c k x y : ℤ) (notes : List ℤ) → x ≡ c → y ≡ k → AreNear w c k notes → AreNear w x y notes
same-near w c k x y notes is was near =
    All-weaker (λ d. IsUpTo w ((c +ℤ d) -ℤ k)) (λ d. IsUpTo w ((x +ℤ d) -ℤ y))
    (λ d h. same-note w c k x y d is was h) notes near

correction-fits : (n d a b : ℤ) → pos 0 ≤ℤ b → d ≡ a → ((n +ℤ (d +ℤ d)) +ℤ n) ≤ℤ ((n +ℤ n) +ℤ ((a +ℤ a) +ℤ (b +ℤ b)))
correction-fits n d a b up is = omega (arith, ints, up, is)

module _ {list : Medl} {m : ℕ} {c k : ℤ} {notes : List ℤ} {index : ℕ} {then_c then_k : ℤ} {all : List ℤ}
    (s : SlotOfTwo list m c k notes index then_c then_k all) where
  -- the notes after a slot that begins no round, and after one that does
  all-near : suc m < length list.slots → AreNear (noted_width list m) c k notes
      → (index ≡ suc m) × AreNear (noted_width list (suc m)) s.later_c s.later_k all
  all-near less near =
      let other : (suc m == length list.slots) ≡ false =
      ne_eqb (suc m) (length list.slots) (λ same. omega (arith, same)) in
      let here : index ≡ suc m = s.next ∙ ap (λ b. cond b 0 (suc m)) other in (
        here,
        subst (AreNear (noted_width list (suc m)) s.later_c s.later_k)
            (sym (s.noted ∙ ap (λ b. s.new ++ cond b [] notes) other))
            (All-append (λ d. IsUpTo (noted_width list (suc m)) ((s.later_c +ℤ d) -ℤ s.later_k)) s.new notes
            (subst (λ i. AreNear (noted_width list i) s.later_c s.later_k s.new) here s.near)
            (near-later list m c k s.later_c s.later_k notes s.moved near)),
      )

  fresh-near : suc m ≡ length list.slots → (index ≡ 0) × AreNear (noted_width list 0) s.later_c s.later_k all
  fresh-near last =
      let ends : (suc m == length list.slots) ≡ true = eq-eqb (suc m) (length list.slots) last in
      let here : index ≡ 0 = s.next ∙ ap (λ b. cond b 0 (suc m)) ends in (
        here,
        subst (AreNear (noted_width list 0) s.later_c s.later_k)
            (sym (s.noted ∙ ap (λ b. s.new ++ cond b [] notes) ends ∙ append-nil s.new))
            (subst (λ i. AreNear (noted_width list i) s.later_c s.later_k s.new) here s.near),
      )

  -- a slot that ends no round
  still-before : (q now : ℕ) → index ≡ now
      → suc now < length list.slots → q ≤ suc now → IsUpTo (noted_width list now) (s.later_c -ℤ s.later_k)
      → AreNear (noted_width list now) s.later_c s.later_k all → Apart list index q then_c then_k all
  still-before q now is less few here near =
      let inside : suc index < length list.slots = omega (arith, is, less) in
      let first = uncorrected-in list index s.later_c then_c all inside s.first in
      let second = uncorrected-in list index s.later_k then_k s.others inside s.second in
      Before inside (omega (arith, is, few)) (subst (λ i. IsUpTo (noted_width list i) (then_c -ℤ then_k)) (sym is)
      (same-apart (noted_width list now) s.later_c s.later_k then_c then_k first second here))
      (subst (λ i. AreNear (noted_width list i) then_c then_k all) (sym is)
      (same-near (noted_width list now) s.later_c s.later_k then_c then_k all first second near))

  -- the slot that ends the round
  now-after : (q : ℕ) → index ≡ suc m → suc (suc m) ≡ length list.slots
      → IsUpTo (noted_width list (suc m)) (s.later_c -ℤ s.later_k)
      → AreNear (noted_width list (suc m)) s.later_c s.later_k all → Apart list index (suc q) then_c then_k all
  now-after q is last here near =
      let ends : suc index ≡ length list.slots = omega (arith, is, last) in
      After (omega arith) (inr ends) (same-apart (apart_width list (suc q)) (s.later_c +ℤ fta all)
      (s.later_k +ℤ fta s.others) then_c then_k (corrected-in list index s.later_c then_c all ends s.first)
      (corrected-in list index s.later_k then_k s.others ends s.second) (both-corrected (noted_width list (suc m))
      (needed list) (apart_width list (suc q)) s.later_c s.later_k (fta all) (fta s.others)
      (fta-near (noted_width list (suc m)) s.later_c s.later_k all here near)
      (fta-small (needed list) s.others s.needs s.small) (correction-fits (needed list) (drift_in list (suc (suc m)))
      (drift_in list (length list.slots)) (drift_in list (suc q)) (product_up list.drift (suc q) s.moved.up)
      (ap (drift_in list) last))))

  -- and the slots after that
  still-after : (q now : ℕ) → index ≡ now → suc now < length list.slots → suc now < suc q
      → IsUpTo (apart_width list q) (c -ℤ k) → Apart list index (suc q) then_c then_k all
  still-after q now is less few here =
      let inside : suc index < length list.slots = omega (arith, is, less) in
      After (omega arith) (inl (omega (arith, is, few)))
      (same-apart (apart_width list (suc q)) s.later_c s.later_k then_c
      then_k (uncorrected-in list index s.later_c then_c all inside s.first)
      (uncorrected-in list index s.later_k then_k s.others inside s.second) (wider (apart_width list q)
      (apart_width list (suc q)) list.drift c k s.later_c s.later_k here s.moved.first s.moved.second
      (apart_width-next list q s.moved.up)))

fresh-fits : (n a d : ℤ) → pos 0 ≤ℤ d → a ≡ d → (n +ℤ (d +ℤ d)) ≤ℤ (n +ℤ (a +ℤ a))
fresh-fits n a d up is = omega (arith, ints, up, is)

first-drift : (d : ℤ) → pos 0 ≤ℤ d → d *ℤ pos 1 ≡ d
first-drift d up = product_more d 0 up ∙ plus-first d
  where
    plus-first : (z : ℤ) → z *ℤ pos 0 +ℤ z ≡ z
    plus-first z = omega (arith, ints)

pub apart-next : (list : Medl) (m q : ℕ) (c k : ℤ) (notes : List ℤ) (index : ℕ) (then_c then_k : ℤ) (all : List ℤ)
    → SlotOfTwo list m c k notes index then_c then_k all → suc q ≤ length list.slots
    → Apart list m q c k notes → Apart list index (suc q) then_c then_k all
apart-next list m q c k notes index then_c then_k all s within (Fresh none last here) =
    let fresh = fresh-near s last in
    still-before s (suc q) 0 fresh.0 (omega (arith, s.many)) (omega (arith, none))
    (wider-still (needed list +ℤ (list.drift +ℤ list.drift)) (noted_width list 0) (s.later_c -ℤ s.later_k)
    (fresh-fits (needed list) (drift_in list 1) list.drift s.moved.up (first-drift list.drift s.moved.up))
    (wider (needed list) (needed list +ℤ (list.drift +ℤ list.drift)) list.drift c k s.later_c s.later_k here
    s.moved.first s.moved.second refl)) fresh.1
apart-next list m q c k notes index then_c then_k all s within (Before less few here near) =
    let told = all-near s less near in
    let moved : IsUpTo (noted_width list (suc m)) (s.later_c -ℤ s.later_k) =
    wider (noted_width list m) (noted_width list (suc m)) list.drift c k s.later_c s.later_k here s.moved.first
    s.moved.second (noted_width-next list m s.moved.up) in
    elim (cases_lt (suc (suc m)) (length list.slots)) [
      | inl inside ↦ still-before s (suc q) (suc m) told.0 inside (omega (arith, few)) moved told.1
      | inr ends ↦ now-after s q told.0 (omega (arith, ends, less)) moved told.1
    ]
apart-next list m q c k notes index then_c then_k all s within (After some (inl less) here) =
    let other : (suc m == length list.slots) ≡ false =
    ne_eqb (suc m) (length list.slots) (λ same. omega (arith, same, less, within)) in
    still-after s q (suc m) (s.next ∙ ap (λ b. cond b 0 (suc m)) other) (omega (arith, less, within))
    (omega (arith, less)) here
apart-next list m q c k notes index then_c then_k all s within (After some (inr last) here) =
    let fresh = fresh-near s last in
    still-after s q 0 fresh.0 (omega (arith, s.many)) (omega (arith, some)) here

-- The bound.

-- less the jump, the clocks are no further apart than this for a round
abbrev pub jump_width : Medl → ℤ
jump_width list = apart_width list (length list.slots)

noted-within : (n a d : ℤ) → pos 0 ≤ℤ n → pos 0 ≤ℤ a → d ≤ℤ a → (n +ℤ (d +ℤ d)) ≤ℤ ((n +ℤ n) +ℤ ((a +ℤ a) +ℤ (a +ℤ a)))
noted-within n a d needs up few = omega (arith, ints, needs, up, few)

needed-within : (n a : ℤ) → pos 0 ≤ℤ n → pos 0 ≤ℤ a → n ≤ℤ ((n +ℤ n) +ℤ ((a +ℤ a) +ℤ (a +ℤ a)))
needed-within n a needs up = omega (arith, ints, needs, up)

apart-within : (n a d : ℤ) → d ≤ℤ a → ((n +ℤ n) +ℤ ((a +ℤ a) +ℤ (d +ℤ d))) ≤ℤ ((n +ℤ n) +ℤ ((a +ℤ a) +ℤ (a +ℤ a)))
apart-within n a d few = omega (arith, ints, few)

pub apart-upto : (list : Medl) (m q : ℕ) (c k : ℤ) (notes : List ℤ) → pos 0 ≤ℤ list.drift → pos 0 ≤ℤ needed list
    → q ≤ length list.slots → Apart list m q c k notes → IsUpTo (jump_width list) (c -ℤ k)
apart-upto list m q c k notes up needs within (Fresh none last here) =
    wider-still (needed list) (jump_width list) (c -ℤ k) (needed-within (needed list)
    (drift_in list (length list.slots)) needs (product_up list.drift (length list.slots) up)) here
apart-upto list m q c k notes up needs within (Before less few here near) =
    wider-still (noted_width list m) (jump_width list) (c -ℤ k) (noted-within (needed list)
    (drift_in list (length list.slots)) (drift_in list (suc m)) needs (product_up list.drift (length list.slots) up)
    (product_upto list.drift (suc m) (length list.slots) up (omega (arith, less)))) here
apart-upto list m q c k notes up needs within (After some how here) =
    wider-still (apart_width list q) (jump_width list) (c -ℤ k) (apart-within (needed list)
    (drift_in list (length list.slots)) (drift_in list q) (product_upto list.drift q (length list.slots) up within))
    here
