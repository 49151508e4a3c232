-- Attempts that are repeated until one gets a message.
use Rattle.std.proofs.Common.{◌≡◌, ℕ, ◌+◌, ◌-◌, ◌*◌, ◌/◌, ◌<◌, ◌≤◌, Bool, true}
use Rattle.std.proofs.Common.{false, cond, nat_lt, sym, ap, ◌∙◌, subst, arith}
use Rattle.std.proofs.Math.Nat.{suc-mul}
use Rattle.std.proofs.lemmas.Bool.{ltb-false, lt-ltb}
use Rattle.nbw_ring.specs.Attempts.{attempt_steps, RepeatSteps}
use Rattle.nbw_ring.specs.Numbers.{limit}
use Rattle.nbw_ring.specs.States.{RingState, ReaderState}

-- the reader began attempts, and got nothing: so many ended with their first load, and so many loaded all words
pub record StillReads (old new : ReaderState) : Type 0 where
  pub ring : new.ring ≡ old.ring
  pub late : ℕ
  pub full : ℕ
  pub tries : new.tries ≡ old.tries + (late + full)
  pub steps : new.steps ≡ old.steps + (late + full * (old.ring.shape.width + 2))
  pub none_late : 1 < old.ring.shape.buffers → late ≡ 0
  pub seen : old.seen ≤ new.seen
  pub got : new.got ≡ old.got
  pub floor : new.floor ≡ old.floor
  pub spare : new.spare ≡ old.spare

-- with more buffers than one no first load shows that an attempt is too late
first_below : (first buffers : ℕ) → 1 < buffers → 2 * (first / 2 + buffers) - 1 ≤ first → ⊥
first_below first buffers more late = omega arith

module _ (old mid new : ReaderState) (still : StillReads old mid) (ring : new.ring ≡ mid.ring)
    (once : new.tries ≡ mid.tries + 1) (made : new.steps ≡ mid.steps + attempt_steps new) where
  same_ring : new.ring ≡ old.ring
  same_ring = ring ∙ still.ring

  width_is : new.ring.shape.width ≡ old.ring.shape.width
  width_is = ap (λ (r : RingState). r.shape.width) same_ring

  one_full : new.steps ≡ mid.steps + (new.ring.shape.width + 2)
      → new.steps ≡ old.steps + (still.late + (still.full + 1) * (old.ring.shape.width + 2))
  one_full full =
      let before : mid.steps ≡ old.steps + (still.late + still.full * (old.ring.shape.width + 2)) = still.steps in
      let width = width_is in
      let more : (still.full + 1) * (old.ring.shape.width + 2)
      ≡ still.full * (old.ring.shape.width + 2) + (old.ring.shape.width + 2) =
      omega (arith, suc-mul still.full (old.ring.shape.width + 2)) in
      omega arith

  -- one more that got nothing
  pub still_more : old.seen ≤ new.seen → new.got ≡ old.got → new.floor ≡ old.floor → new.spare ≡ old.spare
      → (b : Bool) → nat_lt new.first (limit new.ring.shape (new.first / 2)) ≡ b → StillReads old new
  still_more seen got floor spare true below =
      let before = still.tries in record {
        ring = same_ring;
        late = still.late;
        full = still.full + 1;
        tries = omega arith;
        steps = one_full (made ∙ ap (λ (c : Bool). mid.steps + cond c (new.ring.shape.width + 2) 1) below);
        none_late = still.none_late;
        seen = seen;
        got = got;
        floor = floor;
        spare = spare;
      }
  still_more seen got floor spare false at_limit =
      let before = still.tries in
      let steps_before = still.steps in
      let one : new.steps ≡ mid.steps + 1 =
      made ∙ ap (λ (c : Bool). mid.steps + cond c (new.ring.shape.width + 2) 1) at_limit in
      let buffers : new.ring.shape.buffers ≡ old.ring.shape.buffers =
      ap (λ (r : RingState). r.shape.buffers) same_ring in
      record {
        ring = same_ring;
        late = still.late + 1;
        full = still.full;
        tries = omega arith;
        steps = omega arith;
        none_late = λ more. absurd (first_below new.first new.ring.shape.buffers (omega arith)
            (ltb-false new.first (limit new.ring.shape (new.first / 2)) at_limit));
        seen = seen;
        got = got;
        floor = floor;
        spare = spare;
      }

  -- one more that got a message
  pub has_stepped : new.first ≤ new.seen → new.seen < limit new.ring.shape (new.first / 2) → RepeatSteps old new
  has_stepped forward intact =
      let before = still.tries in
      let below : nat_lt new.first (limit new.ring.shape (new.first / 2)) ≡ true =
      lt-ltb new.first (limit new.ring.shape (new.first / 2)) (omega arith) in
      record {
        late = still.late;
        full = still.full + 1;
        some = omega arith;
        none_late = λ more. still.none_late (subst (λ (r : RingState). 1 < r.shape.buffers) same_ring more);
        tries = omega arith;
        steps = one_full (made ∙ ap (λ (c : Bool). mid.steps + cond c (new.ring.shape.width + 2) 1) below)
            ∙ ap (λ w. old.steps + (still.late + (still.full + 1) * (w + 2))) (sym width_is);
      }
