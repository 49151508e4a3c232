-- What the fate of a node tells whose clock has jumped.
use Rattle.safety_laws.proofs.Words.{◌≡◌, ℕ, zero, suc, ◌+◌, ◌<◌, ◌≤◌, ℤ, pos, ◌+ℤ◌, ◌-ℤ◌, ◌*ℤ◌, ◌≤ℤ◌, true, cond, inl}
use Rattle.safety_laws.proofs.Words.{inr, List, [], ◌∷◌, length, refl, ap, sym, subst, ◌∙◌, arith, ◌≢◌, Bool, false}
use Rattle.safety_laws.proofs.Words.{Option, Some, None, mod-lt, ◌==◌, cases_lt, ne_eqb, ints, All-nil, Medl, Entry}
use Rattle.safety_laws.proofs.Words.{Script, notes_in, History, entry_of, diary_of, continues_stint, next_place}
use Rattle.safety_laws.proofs.Words.{stint_place, ClusterStart, needed, drift_share, IsValid, drift_of, jump_of, spread}
use Rattle.safety_laws.proofs.Words.{clock_at, IsUpTo, AreNear, drift_within, place_continued, clock_at-still, drift_in}
use Rattle.safety_laws.proofs.Words.{correction, product_up, clock_after, round_notes, Jumping, FaultPlan, sender}
use Rattle.safety_laws.proofs.Words.{Change, Incident, incident_at, is_armed_by, enters, Falling, fate_of}
use Rattle.safety_laws.proofs.Words.{is_sound_after, Fate, Sound, Fallen, Listening, struck, turned, FollowsWithin}
use Rattle.safety_laws.proofs.Words.{planned_place, IsSoundIn, NotesNothing, GoesOnByPlan, IsTight, IsGoodPlan}
use Rattle.safety_laws.proofs.Words.{IsLossOf, IsTold, fate-told, entry-is, HasJumped}
use Rattle.safety_laws.specs.Fates.{armed_in}
use Rattle.safety_laws.specs.Fates.{entered_in, changed}
use Rattle.safety_laws.proofs.Apart.{noted_width, Apart, Fresh, Before, apart-next, same-near}
use Rattle.safety_laws.proofs.Bounds.{tight-clocks}
use Rattle.safety_laws.proofs.NearNotes.{clock_moved, clock-next, notes-next, NextSlot, index-of, near-new, sound-moved}
use Rattle.safety_laws.proofs.NearNotes.{still-of, needed-up}
use Rattle.safety_laws.proofs.RoundKnown.{NotesKnown, notes-known, sound-clock}
use Rattle.safety_laws.proofs.RoundNotes.{none-silent, goes-silent, sender-in, place-slot, sound-goes, sound-back}
use Rattle.safety_laws.proofs.RoundNotes.{tight-stays, tight-back}
use Rattle.safety_laws.proofs.BeganTogether.{number-of, counted-run}

-- The slot before.

-- a fate that no incident of the slot, no arming and no entry gives was there before
unchanged : (plan : FaultPlan) (slot k : ℕ) (fate then : Fate) → changed plan slot k fate ≡ then
    → ((c : Change) → Falling c slot ≢ then) → Listening slot ≢ then → Sound ≢ then → fate ≡ then
unchanged plan slot k fate then is unhit unarmed unentered =
    armed (is_armed_by plan slot k) (missed (incident_at plan slot) _ (entered (enters plan slot k) _ is))
  where
    entered : (b : Bool) (before : Fate) → entered_in b before ≡ then → before ≡ then
    entered true before same = absurd (unentered same)
    entered false before same = same

    missed : (found : Option Incident) (before : Fate) → struck slot k before found ≡ then → before ≡ then
    missed None before same = same
    missed (Some incident) before same = by (incident.node == k) same
      where
        by : (hit : Bool) → cond hit (Falling incident.change slot) before ≡ then → before ≡ then
        by true fell = absurd (unhit incident.change fell)
        by false still = still

    armed : (b : Bool) → armed_in b slot fate ≡ then → fate ≡ then
    armed true same = absurd (unarmed same)
    armed false same = same

turned-back : (own : Bool) (slot : ℕ) (fate : Fate) (change : Change) (since : ℕ)
    → turned own slot fate ≡ Falling change since → fate ≡ Falling change since
turned-back true slot (Falling c s) change since is = cc
turned-back true slot _ change since is = cc
turned-back false slot fate change since is = is

-- a node's own slot has shown it in this slot, and not before
shown-back : (own : Bool) (slot : ℕ) (fate : Fate) (change : Change) (since : ℕ)
    → turned own slot fate ≡ Fallen change since slot → (fate ≡ Fallen change since slot → ⊥)
    → fate ≡ Falling change since
shown-back true slot (Fallen c s shown) change since is never = absurd (never is)
shown-back true slot _ change since is never = cc
shown-back false slot fate change since is never = absurd (never is)

not-yet : (plan : FaultPlan) (slot k since : ℕ) (change : Change) → IsGoodPlan plan
    → fate_of plan slot k ≡ Fallen change since (suc slot) → ⊥
not-yet plan slot k since change good is =
    let told = subst (IsTold plan slot k) is (fate-told plan slot k good) in
    omega (arith, told.from)

changed-back : (plan : FaultPlan) (slot k : ℕ) (fate : Fate) (change : Change) (since : ℕ)
    → changed plan slot k fate ≡ Falling change since → since ≢ slot → fate ≡ Falling change since
changed-back plan slot k fate change since is other =
    unchanged plan slot k fate (Falling change since) is
    (λ c same. let at : slot ≡ since = cc in other (sym at)) (λ same. cc) (λ same. cc)

changed-fallen : (plan : FaultPlan) (slot k : ℕ) (fate : Fate) (change : Change) (since shown : ℕ)
    → changed plan slot k fate ≡ Fallen change since shown → fate ≡ Fallen change since shown
changed-fallen plan slot k fate change since shown is =
    unchanged plan slot k fate (Fallen change since shown) is (λ c same. cc) (λ same. cc) (λ same. cc)

pub jumped-back : (plan : FaultPlan) (slot k since : ℕ) → IsGoodPlan plan → HasJumped plan (suc slot) k since
    → since ≢ suc slot → fate_of plan slot k ≡ Falling Jumping since
jumped-back plan slot k since good (inl is) other =
    changed-back plan (suc slot) k (fate_of plan slot k) Jumping since (turned-back (sender plan (suc slot) == k)
    (suc slot) (changed plan (suc slot) k (fate_of plan slot k)) Jumping since is) other
jumped-back plan slot k since good (inr is) other =
    changed-back plan (suc slot) k (fate_of plan slot k) Jumping since
    (shown-back (sender plan (suc slot) == k) (suc slot) (changed plan (suc slot) k (fate_of plan slot k)) Jumping since
    is (λ fallen. not-yet plan slot k since Jumping good
    (changed-fallen plan (suc slot) k (fate_of plan slot k) Jumping since (suc slot) fallen))) other

-- The jump.

pub record IsJumpTold (plan : FaultPlan) (slot k since : ℕ) : Type 0 where
  pub loss : IsLossOf plan k Jumping since
  pub from : since ≤ slot
  pub soon : slot < since + plan.nodes

pub jump-told : (plan : FaultPlan) (slot k since : ℕ) → IsGoodPlan plan → HasJumped plan slot k since
    → IsJumpTold plan slot k since
jump-told plan slot k since good (inl is) =
    let told = subst (IsTold plan slot k) is (fate-told plan slot k good) in
    record { loss = told.loss; from = told.from; soon = omega (arith, told.soon) }
jump-told plan slot k since good (inr is) =
    let told = subst (IsTold plan slot k) is (fate-told plan slot k good) in
    record { loss = told.loss; from = told.from.0; soon = told.soon }

-- it was sound after the slot before
pub sound-till : (plan : FaultPlan) (k before : ℕ) (change : Change) → IsGoodPlan plan
    → IsLossOf plan k change (suc before)
    → is_sound_after plan before k ≡ true
sound-till plan k before change good loss =
    subst (λ j. is_sound_after plan before j ≡ true) loss.node (good.losses before loss.incident loss.found).was

-- no node entered in the two rounds before the slots from the one before it on, nor enters in the round after
pub jump-tight : (plan : FaultPlan) (k base : ℕ) (change : Change) → IsGoodPlan plan
    → IsLossOf plan k change (suc (suc base))
    → (turn : ℕ) → suc base ≤ turn → turn ≤ suc (base + plan.nodes)
    → IsTight plan turn
jump-tight plan k base change good loss turn from to entered j before enter =
    let found = entry-is plan entered j enter in
    let of_r = good.returns found.return found.among in
    let less : sender plan turn < plan.nodes = mod-lt (plan.starter + turn) (omega (arith, good.count)) in
    elim (of_r.losses (suc (suc base)) loss.incident loss.found) [
      | inl early ↦ absurd (omega (arith, early, of_r.after, found.entered, before, to, good.count))
      | inr late ↦ omega (arith, late, found.entered, less, from)
    ]

-- A clock that has jumped stays far from those of sound nodes, until its own slot.

-- Node x is sound up to slot base + 1, and in the slot after that its clock jumps, so far. What follows counts slots q
-- from base on, while x's next own slot has not come.
pub record JumpsAfter (list : Medl) (script : Script) (start : ClusterStart) (plan : FaultPlan) (x base : ℕ) (jump : ℤ)
    : Type 0 where
  pub valid : IsValid list
  pub follows : FollowsWithin list script start plan
  pub inside : x < length list.slots
  pub sound : is_sound_after plan (suc base) x ≡ true
  -- the start is a round ago
  pub late : length list.slots ≤ base
  -- no entry is near
  pub tight : (turn : ℕ) → suc base ≤ turn → turn ≤ suc (base + length list.slots) → IsTight plan turn
  pub here : jump_of script x (start.slot + suc (suc base)) ≡ jump
  pub once : (slot : ℕ) → suc (suc base) < slot → jump_of script x (start.slot + slot) ≡ pos 0

-- how far x's clock has jumped q slots after slot base
abbrev pub jumped_in : ℤ → ℕ → ℤ
jumped_in jump zero = pos 0
jumped_in jump (suc zero) = pos 0
jumped_in jump (suc (suc q)) = jump

-- x's place, and both clocks
pub record StaysApart (list : Medl) (script : Script) (plan : FaultPlan) (slot x k q : ℕ) (jumped : ℤ)
    (history : History)
    : Type 0 where
  pub place : stint_place list x (diary_of history x) ≡ planned_place list plan slot
  pub apart : Apart list (sender plan slot) q (clock_after list script history x -ℤ jumped)
      (clock_after list script history k) (round_notes list history x)

-- Numbers.

both-sides : (w v a b x y : ℤ) → (x -ℤ y) ≤ℤ w → (y -ℤ x) ≤ℤ w → x ≡ a → y ≡ b → w ≤ℤ v → IsUpTo v ((a -ℤ pos 0) -ℤ b)
both-sides w v a b x y above below is was wide =
    (omega (arith, ints, above, below, is, was, wide), omega (arith, ints, above, below, is, was, wide))

spread-fits : (share e b : ℤ) → pos 0 ≤ℤ e → pos 0 ≤ℤ b
    → (share +ℤ (e *ℤ pos 2 +ℤ pos 1)) ≤ℤ ((share +ℤ (e *ℤ pos 3 +ℤ pos 1)) +ℤ (b +ℤ b))
spread-fits share e b up some = omega (arith, ints, up, some)

less-none : (z : ℤ) → z -ℤ pos 0 ≡ z
less-none z = omega (arith, ints)

-- x goes on in the slot, and what it notes is near k
record NotesNear (list : Medl) (script : Script) (plan : FaultPlan) (slot x k : ℕ) (jumped : ℤ) (row : List Entry)
    (history : History) : Type 0 where
  goes : continues_stint (entry_of row x) ≡ true
  near : AreNear (noted_width list (sender plan (suc slot))) (clock_moved list script history x -ℤ jumped)
      (clock_moved list script history k) (notes_in list (planned_place list plan (suc slot)) (entry_of row x))

drift-jumps : (o j d a b w : ℤ) → b ≡ a +ℤ j → IsUpTo w d → IsUpTo w (((o +ℤ (j +ℤ (d +ℤ pos 0))) -ℤ b) -ℤ (o -ℤ a))
drift-jumps o j d a b w is h = (omega (arith, ints, is, h.0, h.1), omega (arith, ints, is, h.0, h.1))

shift-jump : (z c r j : ℤ) → z ≡ c +ℤ r → z -ℤ j ≡ (c -ℤ j) +ℤ r
shift-jump z c r j is = omega (arith, ints, is)

module _ {list : Medl} {script : Script} {start : ClusterStart} {plan : FaultPlan} {x base : ℕ} {jump : ℤ}
    (jumps : JumpsAfter list script start plan x base jump) where
  -- what the next slot adds to the jump in its clock
  jumped-next : (slot q : ℕ) → start.slot + suc slot < script.slots → slot ≡ base + q
      → jumped_in jump (suc q) ≡ jumped_in jump q +ℤ jump_of script x (start.slot + suc slot)
  jumped-next slot zero within is =
      none-of (jump_of script x (start.slot + suc slot)) (jumps.follows.planned.clocks (suc slot) x jumps.inside within
      (subst (λ t. is_sound_after plan (suc t) x ≡ true) (sym same) jumps.sound))
    where
      same : slot ≡ base
      same = omega (arith, is)

      none-of : (j : ℤ) → j ≡ pos 0 → pos 0 ≡ pos 0 +ℤ j
      none-of j none = omega (arith, ints, none)
  jumped-next slot (suc zero) within is =
      let there : suc (suc base) ≡ suc slot = omega (arith, is) in
      one-of (jump_of script x (start.slot + suc slot)) jump
      (subst (λ t. jump_of script x (start.slot + t) ≡ jump) there jumps.here)
    where
      one-of : (j z : ℤ) → j ≡ z → z ≡ pos 0 +ℤ j
      one-of j z is = omega (arith, ints, is)
  jumped-next slot (suc (suc q)) within is =
      more-of (jump_of script x (start.slot + suc slot)) jump (jumps.once (suc slot) (omega (arith, is)))
    where
      more-of : (j z : ℤ) → j ≡ pos 0 → z ≡ z +ℤ j
      more-of j z none = omega (arith, ints, none)

  -- Slot base.

  stays-base : {slot : ℕ} {history : History} (k : ℕ) → GoesOnByPlan list script start plan slot history → slot ≡ base
      → IsSoundIn list plan (suc slot) k → StaysApart list script plan slot x k 0 (pos 0) history
  stays-base {slot = slot} {history = history} k goes is q = record {
    place = (counted-run list script start plan slot history jumps.follows.planned goes.noted).places x
        (sound-back list plan slot x (tight-stays plan (suc slot) x tight) p);
    apart = elim (cases_lt (suc m) (length list.slots)) [
      | inl less ↦
          Before less (omega arith) (near (noted_width list m) (fits m)) (same-near (noted_width list m)
          (clock_after list script history x) (clock_after list script history k)
          (clock_after list script history x -ℤ pos 0) (clock_after list script history k) (round_notes list history x)
          (less-none (clock_after list script history x)) refl (known.near (tight-back plan slot (goes-in less) tight)
          early less x k (sound-back list plan slot x (tight-stays plan (suc slot) x tight) p)
          (sound-back list plan slot k (tight-stays plan (suc slot) k tight) q)))
      | inr ends ↦
          Fresh refl (omega (arith, ends, inside))
          (near (needed list) (fewer (drift_share list) list.error jumps.valid.error.0))
    ];
  }
    where
      m : ℕ
      m = sender plan slot

      tight : IsTight plan (suc slot)
      tight = jumps.tight (suc slot) (omega (arith, is)) (omega (arith, is))

      goes-in : suc (sender plan slot) < length list.slots → sender plan (suc slot) ≡ suc (sender plan slot)
      goes-in less =
          index-of list script start plan slot jumps.follows.planned ∙ ap (λ b. cond b 0 (suc (sender plan slot)))
          (ne_eqb (suc (sender plan slot)) (length list.slots) (λ same. omega (arith, less, same)))

      inside : sender plan slot < length list.slots
      inside = sender-in list script start plan slot jumps.follows.planned

      early : sender plan slot < slot
      early = omega (arith, sender-in list script start plan slot jumps.follows.planned, jumps.late, is)

      p : IsSoundIn list plan (suc slot) x
      p = (jumps.inside, subst (λ t. is_sound_after plan (suc t) x ≡ true) (sym is) jumps.sound)

      known : NotesKnown list script plan slot history
      known = notes-known list script start plan slot history jumps.valid jumps.follows goes.noted
          (omega (arith, goes.within, number-of list script start plan slot history goes.noted))

      begun : (j : ℕ) → IsSoundIn list plan (suc slot) j
          → clock_at list script history j ≡ clock_after list script history j
      begun j r = clock_at-still list script history j (still-of goes j r)

      near : (w : ℤ) → spread list ≤ℤ w
          → IsUpTo w ((clock_after list script history x -ℤ pos 0) -ℤ clock_after list script history k)
      near w wide =
          both-sides (spread list) w (clock_after list script history x) (clock_after list script history k)
          (clock_at list script history x) (clock_at list script history k) (tight-clocks goes tight x k p q)
          (tight-clocks goes tight k x q p) (begun x p) (begun k q) wide

      fewer : (share e : ℤ) → pos 0 ≤ℤ e → (share +ℤ (e *ℤ pos 2 +ℤ pos 1)) ≤ℤ (share +ℤ (e *ℤ pos 3 +ℤ pos 1))
      fewer share e up = omega (arith, ints, up)

      fits : (i : ℕ) → spread list ≤ℤ noted_width list i
      fits i = spread-fits (drift_share list) list.error (drift_in list (suc i)) jumps.valid.error.0
          (product_up list.drift (suc i) jumps.valid.drift.0)

  -- One slot more.

  stays-next : {slot : ℕ} {row : List Entry} {history : History} (k q : ℕ)
      → NextSlot list script start plan slot row history → slot ≡ base + q → suc q ≤ length list.slots
      → IsSoundIn list plan (suc slot) k → NotesNear list script plan slot x k (jumped_in jump (suc q)) row history
      → StaysApart list script plan slot x k q (jumped_in jump q) history
      → StaysApart list script plan (suc slot) x k (suc q) (jumped_in jump (suc q)) (row ∷ history)
  stays-next {slot = slot} {row = row} {history = history} k q s is few p new before = record {
    place = place;
    apart = apart-next list (sender plan slot) q (clock_after list script history x -ℤ jumped_in jump q)
        (clock_after list script history k) (round_notes list history x) (sender plan (suc slot))
        (clock_after list script (row ∷ history) x -ℤ jumped_in jump (suc q))
        (clock_after list script (row ∷ history) k) (round_notes list (row ∷ history) x) (record {
          many = jumps.valid.count.0;
          needs = needed-up list jumps.valid;
          later_c = clock_moved list script history x -ℤ jumped_in jump (suc q);
          later_k = clock_moved list script history k;
          moved = record {
            up = jumps.valid.drift.0;
            first = drift-jumps (clock_after list script history x) (jump_of script x (length history))
                (drift_of script x) (jumped_in jump q) (jumped_in jump (suc q)) list.drift added
                (drift_within list script x jumps.follows.bounds.clocks jumps.inside);
            second = sound-moved s k p;
          };
          next = index-of list script start plan slot jumps.follows.planned;
          new = notes_in list (planned_place list plan (suc slot)) (entry_of row x);
          near = new.near;
          noted = notes-next list row history x (sender plan slot) (planned_place list plan (suc slot))
              (suc (sender plan slot) == length list.slots) new.goes place
              (index ∙ index-of list script start plan slot jumps.follows.planned);
          others = round_notes list (row ∷ history) k;
          small = known.small s.tight early k p;
          first = shift-jump (clock_after list script (row ∷ history) x) (clock_moved list script history x)
              (correction list (sender plan (suc slot)) (round_notes list (row ∷ history) x)) (jumped_in jump (suc q))
              (clock-next list script row history x (planned_place list plan (suc slot)) new.goes place
              ∙ ap (λ m. clock_moved list script history x +ℤ correction list m (round_notes list (row ∷ history) x))
              index);
          second = sound-clock s k p;
        }) few before.apart;
  }
    where
      place : stint_place list x (diary_of (row ∷ history) x) ≡ planned_place list plan (suc slot)
      place = place_continued list x (diary_of history x) (entry_of row x) new.goes ∙ ap (next_place list) before.place

      index : (planned_place list plan (suc slot)).slot ≡ sender plan (suc slot)
      index = place-slot list script start plan (suc slot) jumps.follows.planned

      number : start.slot + suc slot ≡ length history
      number = omega (arith, number-of list script start plan slot history s.before.noted)

      added : jumped_in jump (suc q) ≡ jumped_in jump q +ℤ jump_of script x (length history)
      added = jumped-next slot q s.before.within is ∙ ap (λ t. jumped_in jump q +ℤ jump_of script x t) number

      known : NotesKnown list script plan (suc slot) (row ∷ history)
      known = notes-known list script start plan (suc slot) (row ∷ history) jumps.valid jumps.follows
          (s.before.noted, s.noted) (omega (arith, s.before.within, number))

      early : sender plan (suc slot) < suc slot
      early = omega (arith, sender-in list script start plan (suc slot) jumps.follows.planned, jumps.late, is)

  -- x is sound in the first of these slots, and has jumped in the others
  notes-near : {slot : ℕ} {row : List Entry} {history : History} (k q : ℕ)
      → NextSlot list script start plan slot row history → slot ≡ base + q → IsSoundIn list plan (suc slot) k
      → (suc (suc base) ≤ suc slot → fate_of plan (suc slot) x ≡ Falling Jumping (suc (suc base)))
      → NotesNear list script plan slot x k (jumped_in jump (suc q)) row history
  notes-near {slot = slot} {row = row} {history = history} k zero s is p falls =
      let same : base ≡ slot = omega (arith, is) in
      let sound : IsSoundIn list plan (suc slot) x =
      (jumps.inside, subst (λ t. is_sound_after plan (suc t) x ≡ true) same jumps.sound) in
      record {
        goes = sound-goes list script plan (suc slot) x row history s.noted sound
            (tight-stays plan (suc slot) x s.tight);
        near = same-near (noted_width list (sender plan (suc slot))) (clock_moved list script history x)
            (clock_moved list script history k) (clock_moved list script history x -ℤ pos 0)
            (clock_moved list script history k) (notes_in list (planned_place list plan (suc slot)) (entry_of row x))
            (less-none (clock_moved list script history x)) refl (near-new s x k sound p);
      }
  notes-near {slot = slot} {row = row} {history = history} k (suc q) s is p falls =
      let none : NotesNothing (entry_of row x) =
      s.noted.jumped x (suc (suc base)) jumps.inside (falls (omega (arith, is))) in
      record {
        goes = goes-silent (entry_of row x) none;
        near = subst (AreNear (noted_width list (sender plan (suc slot)))
            (clock_moved list script history x -ℤ jump) (clock_moved list script history k))
            (sym (none-silent list (planned_place list plan (suc slot)) (entry_of row x) none))
            (All-nil (λ d. IsUpTo (noted_width list (sender plan (suc slot)))
            (((clock_moved list script history x -ℤ jump) +ℤ d) -ℤ clock_moved list script history k)));
      }

  pub stays-apart : (k slot : ℕ) (history : History) (q : ℕ) → GoesOnByPlan list script start plan slot history
      → slot ≡ base + q → q ≤ length list.slots → IsSoundIn list plan (suc slot) k
      → (suc (suc base) ≤ slot → fate_of plan slot x ≡ Falling Jumping (suc (suc base)))
      → StaysApart list script plan slot x k q (jumped_in jump q) history
  stays-apart k slot [] q goes is few p falls = absurd goes.noted
  stays-apart k zero (row ∷ history) q goes is few p falls = absurd (omega (arith, is, jumps.late, jumps.valid.count.0))
  stays-apart k (suc slot) (row ∷ history) zero goes is few p falls = stays-base k goes (omega (arith, is)) p
  stays-apart k (suc slot) (row ∷ history) (suc q) goes is few p falls =
      let tight : IsTight plan (suc slot) = jumps.tight (suc slot) (omega (arith, is)) (omega (arith, is, few)) in
      let s : NextSlot list script start plan slot row history = record {
        before = record {
          valid = jumps.valid;
          follows = jumps.follows;
          noted = goes.noted.0;
          within = omega (arith, goes.within);
        };
        noted = goes.noted.1;
        tight = tight;
      } in
      let same : slot ≡ base + q = omega (arith, is) in
      let later : IsTight plan (suc (suc slot)) =
      jumps.tight (suc (suc slot)) (omega (arith, is)) (omega (arith, is, few)) in
      let back : IsSoundIn list plan (suc slot) k =
      sound-back list plan (suc slot) k (tight-stays plan (suc (suc slot)) k later) p in
      stays-next k q s same (omega (arith, few)) back (notes-near k q s same back falls) (stays-apart k slot history q
      s.before same (omega (arith, few)) back
      (λ late. jumped-back plan slot x (suc (suc base)) jumps.follows.planned.good
      (inl (falls (omega (arith, late)))) (λ now. omega (arith, now, late))))
