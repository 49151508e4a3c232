-- A node whose clock has jumped is outside the window at each sound node, and each of them outside its own.
use Rattle.safety_laws.proofs.Words.{◌≡◌, ℕ, zero, suc, ◌+◌, ◌-◌, ◌<◌, ◌≤◌, ℤ, pos, neg_ℤ, ◌+ℤ◌, ◌-ℤ◌, ◌*ℤ◌, ◌≤ℤ◌, Bool}
use Rattle.safety_laws.proofs.Words.{true, false, cond, ◌&&◌, inl, inr, ◌⊎◌, List, [], ◌∷◌, length, refl, ap, sym}
use Rattle.safety_laws.proofs.Words.{subst, ◌∙◌, arith, ◌==◌, int_le, nat_le, false≢true, ints, Medl, Act, Retry, Leave}
use Rattle.safety_laws.proofs.Words.{Send, Judge, Entry, Phase, Script, is_open, own_act, phase_act, History, entry_of}
use Rattle.safety_laws.proofs.Words.{continues_stint, phase_after, ClusterStart, needed, drift_share, IsValid, NodePast}
use Rattle.safety_laws.proofs.Words.{is_within_window, reading_error, jump_of, is_on, is_armed, node_past, clock_at}
use Rattle.safety_laws.proofs.Words.{measured, IsUpTo, error_within, clock_at-still, frame_of, frame_of-node, drift_in}
use Rattle.safety_laws.proofs.Words.{clock_after, Jumping, FaultPlan, sender, is_sound_after, HasJumped, IsSoundIn}
use Rattle.safety_laws.proofs.Words.{NotedByPlan, GoesOnByPlan}
use Rattle.std.proofs.lemmas.Bool.{or_cases}
use Rattle.ttp_world.specs.declared.node.Entry.TheVariants as entry
use Rattle.ttp_world.specs.declared.node.Phase.TheVariants as phase
use Rattle.ttp_world.specs.declared.node.Reason.TheVariants as reason
use Rattle.ttp_world.specs.Act.{active_act, coming_place}
use Rattle.ttp_world.specs.Hypothesis.{is_far_jump}
use Rattle.ttp_world.specs.Script.{has_jump}
use Rattle.ttp_world.specs.World.{jump_taken}
use Rattle.safety_laws.proofs.FromBelow.{product_four}
use Rattle.safety_laws.proofs.Apart.{jump_width, apart-upto}
use Rattle.safety_laws.proofs.JumpedClock.{JumpsAfter, jumped_in, stays-apart, IsJumpTold, jump-told, jumped-back}
use Rattle.safety_laws.proofs.JumpedClock.{sound-till, jump-tight}
use Rattle.safety_laws.proofs.NearNotes.{needed-up, still-of}
use Rattle.safety_laws.proofs.RoundNotes.{sound-goes, tight-stays}
use Rattle.safety_laws.proofs.BeganTogether.{number-of}
use Rattle.ttp_world.proofs.SmallTests.{le_of_test}

-- An active node's clock takes the jump of a slot.

active-phase : (e : Entry) → continues_stint e ≡ true → phase_after e ≡ phase.Active
active-phase (entry.Sent message) goes = refl
active-phase (entry.Judged sender v deviation) goes = refl
active-phase _ goes = absurd (false≢true goes)

taken-either : (b : Bool) (a c : Act) (j : ℤ) → jump_taken a j ≡ j → jump_taken c j ≡ j → jump_taken (cond b a c) j ≡ j
taken-either true a c j h g = h
taken-either false a c j h g = g

taken-active : (list : Medl) (k : ℕ) (past : NodePast) (j : ℤ) → jump_taken (active_act list k past) j ≡ j
taken-active list k past j =
    taken-either ((coming_place list past).slot == k) (own_act past) Judge j
    (taken-either (is_open past.ack) (cond past.cold_start Retry (Leave reason.Unacknowledged))
    (cond (nat_le past.accepted past.rejected) (Leave reason.Clique) Send) j
    (taken-either past.cold_start Retry (Leave reason.Unacknowledged) j refl refl)
    (taken-either (nat_le past.accepted past.rejected) (Leave reason.Clique) Send j refl refl)) refl

clock-jumps : (list : Medl) (script : Script) (row : List Entry) (history : History) (k : ℕ)
    → continues_stint (entry_of row k) ≡ true → clock_at list script (row ∷ history) k
    ≡ clock_after list script (row ∷ history) k +ℤ jump_of script k (suc (length history))
clock-jumps list script row history k goes =
    let past = node_past list script (row ∷ history) k in
    let number = suc (length history) in
    let j = jump_of script k number in
    ap (λ z. clock_after list script (row ∷ history) k +ℤ z)
    (ap (λ (p : Phase). jump_taken (phase_act p list k (is_on script k number) (is_armed script k number) past) j)
    (active-phase (entry_of row k) goes) ∙ taken-active list k past j)

-- Numbers.

apart-share : (n d share e : ℤ) → n ≡ share +ℤ (e *ℤ pos 3 +ℤ pos 1) → share ≡ (d +ℤ d) +ℤ (d +ℤ d) → pos 0 ≤ℤ e
    → (((n +ℤ n) +ℤ ((d +ℤ d) +ℤ (d +ℤ d))) +ℤ (e +ℤ pos 1)) ≤ℤ (n *ℤ pos 3)
apart-share n d share e is four up = omega (arith, ints, is, four, up)

-- the jump is three windows and more beyond what else can come between the clocks
pub jump-exceeds : (list : Medl) → IsValid list → (jump_width list +ℤ (list.error +ℤ pos 1)) ≤ℤ (needed list *ℤ pos 3)
jump-exceeds list valid =
    apart-share (needed list) (drift_in list (length list.slots)) (drift_share list) list.error refl
    (product_four list.drift (length list.slots) valid.drift.0) valid.error.0

below-window : (w z : ℤ) → (z +ℤ pos 1) ≤ℤ neg_ℤ w → (int_le (neg_ℤ w) z && int_le z w) ≡ false
below-window w z less = grind (arith, ints, less)

above-window : (w z : ℤ) → (w +ℤ pos 1) ≤ℤ z → (int_le (neg_ℤ w) z && int_le z w) ≡ false
above-window w z more = grind (arith, ints, more)

is-far : (list : Medl) (jump : ℤ) → is_far_jump list jump ≡ true
    → ((list.window *ℤ pos 4) ≤ℤ jump) ⊎ (jump ≤ℤ neg_ℤ (list.window *ℤ pos 4))
is-far list jump far =
    let four = list.window *ℤ pos 4 in
    elim (or_cases (int_le (list.window *ℤ pos 4) jump) (int_le jump (neg_ℤ (list.window *ℤ pos 4))) far) [
      | inl ahead ↦ inl (le_of_test four jump ahead)
      | inr behind ↦ inr (le_of_test jump (neg_ℤ four) behind)
    ]

ahead-up : (n w b e x y z j : ℤ) → x ≡ z +ℤ j → IsUpTo b (z -ℤ y) → (b +ℤ (e +ℤ pos 1)) ≤ℤ (n *ℤ pos 3) → n ≤ℤ w
    → (w *ℤ pos 4) ≤ℤ j → ((w +ℤ pos 1) +ℤ e) ≤ℤ (x -ℤ y)
ahead-up n w b e x y z j is near small wide far = omega (arith, ints, is, near.0, near.1, small, wide, far)

behind-down : (n w b e x y z j : ℤ) → x ≡ z +ℤ j → IsUpTo b (z -ℤ y) → (b +ℤ (e +ℤ pos 1)) ≤ℤ (n *ℤ pos 3) → n ≤ℤ w
    → j ≤ℤ neg_ℤ (w *ℤ pos 4) → ((w +ℤ pos 1) +ℤ e) ≤ℤ (y -ℤ x)
behind-down n w b e x y z j is near small wide far = omega (arith, ints, is, near.0, near.1, small, wide, far)

-- what is measured of clocks that are so far apart
above-all : (w e x y f g r : ℤ) → ((w +ℤ pos 1) +ℤ e) ≤ℤ (x -ℤ y) → f ≡ x → g ≡ y → IsUpTo e r
    → (w +ℤ pos 1) ≤ℤ ((f -ℤ g) +ℤ r)
above-all w e x y f g r more is was error = omega (arith, ints, more, is, was, error.0, error.1)

below-all : (w e x y f g r : ℤ) → ((w +ℤ pos 1) +ℤ e) ≤ℤ (x -ℤ y) → f ≡ x → g ≡ y → IsUpTo e r
    → (((g -ℤ f) +ℤ r) +ℤ pos 1) ≤ℤ neg_ℤ w
below-all w e x y f g r more is was error = omega (arith, ints, more, is, was, error.0, error.1)

-- two clocks at the beginning of a slot are so far apart
abbrev pub AreFar : Medl → ℤ → ℤ → Type 0
AreFar list x y =
    (((list.window +ℤ pos 1) +ℤ list.error) ≤ℤ (x -ℤ y)) ⊎ (((list.window +ℤ pos 1) +ℤ list.error) ≤ℤ (y -ℤ x))

far-outside : (list : Medl) (script : Script) (history : History) (r p : ℕ) → r < length list.slots
    → p < length list.slots → IsUpTo list.error (reading_error script r (length history))
    → AreFar list (clock_at list script history r) (clock_at list script history p)
    → is_within_window list (measured list script history r p) ≡ false
far-outside list script history r p inside other error (inl ahead) =
    below-window list.window (measured list script history r p)
    (below-all list.window list.error (clock_at list script history r) (clock_at list script history p)
    (frame_of list script history r) (frame_of list script history p) (reading_error script r (length history)) ahead
    (frame_of-node list script history r inside) (frame_of-node list script history p other) error)
far-outside list script history r p inside other error (inr behind) =
    above-window list.window (measured list script history r p)
    (above-all list.window list.error (clock_at list script history p) (clock_at list script history r)
    (frame_of list script history p) (frame_of list script history r) (reading_error script r (length history)) behind
    (frame_of-node list script history p other) (frame_of-node list script history r inside) error)

-- The jumped clock.

module _ {list : Medl} {script : Script} {start : ClusterStart} {plan : FaultPlan} {x base : ℕ} {jump : ℤ}
    (jumps : JumpsAfter list script start plan x base jump) where
  -- at the beginning of the slot it is as far ahead as after the slot before, and the jump is in it or comes to it now
  begun-jumped : (slot q : ℕ) (history : History) → NotedByPlan list script start plan slot history
      → slot ≡ base + suc q → clock_at list script history x
      ≡ (clock_after list script history x -ℤ jumped_in jump (suc q)) +ℤ jump
  begun-jumped slot q [] noted is = absurd noted
  begun-jumped zero q (row ∷ history) noted is = absurd (omega (arith, is))
  begun-jumped (suc slot) zero (row ∷ history) noted is =
      let same : suc base ≡ suc slot = omega (arith, is) in
      let here : start.slot + suc (suc base) ≡ suc (length history) =
      omega (arith, is, number-of list script start plan (suc slot) (row ∷ history) noted) in
      clock-jumps list script row history x (sound-goes list script plan (suc slot) x row history noted.1
      (jumps.inside, subst (λ t. is_sound_after plan t x ≡ true) same jumps.sound)
      (tight-stays plan (suc slot) x (jumps.tight (suc slot) (omega (arith, is)) (omega (arith, is)))))
      ∙ ap (λ z. clock_after list script (row ∷ history) x +ℤ z) (sym (ap (jump_of script x) here) ∙ jumps.here)
      ∙ add-none (clock_after list script (row ∷ history) x) jump
    where
      add-none : (z j : ℤ) → z +ℤ j ≡ (z -ℤ pos 0) +ℤ j
      add-none z j = omega (arith, ints)
  begun-jumped (suc slot) (suc q) (row ∷ history) noted is =
      let here : start.slot + suc (suc slot) ≡ suc (length history) =
      omega (arith, number-of list script start plan (suc slot) (row ∷ history) noted) in
      clock_at-still list script (row ∷ history) x
      (sym (ap (jump_of script x) here) ∙ jumps.once (suc (suc slot)) (omega (arith, is)))
      ∙ less-more (clock_after list script (row ∷ history) x) jump
    where
      less-more : (z j : ℤ) → z ≡ (z -ℤ j) +ℤ j
      less-more z j = omega (arith, ints)

  pub far-apart : {slot : ℕ} {history : History} (k : ℕ) → GoesOnByPlan list script start plan slot history
      → HasJumped plan (suc slot) x (suc (suc base)) → IsSoundIn list plan (suc slot) k → is_far_jump list jump ≡ true
      → AreFar list (clock_at list script history x) (clock_at list script history k)
  far-apart {slot = slot} {history = history} k goes has p far =
      let told = jump-told plan (suc slot) x (suc (suc base)) jumps.follows.planned.good has in
      let q = slot - suc base in
      let is : slot ≡ base + suc q = omega (arith, told.from) in
      let few : suc q ≤ length list.slots = omega (arith, told.from, told.soon, jumps.follows.planned.nodes) in
      let stays = stays-apart jumps k slot history (suc q) goes is few p
      (λ late. jumped-back plan slot x (suc (suc base)) jumps.follows.planned.good has
      (λ now. omega (arith, now, late))) in
      let near : IsUpTo (jump_width list) ((clock_after list script history x -ℤ jumped_in jump (suc q))
      -ℤ clock_after list script history k) =
      apart-upto list (sender plan slot) (suc q) (clock_after list script history x -ℤ jumped_in jump (suc q))
      (clock_after list script history k) _ jumps.valid.drift.0 (needed-up list jumps.valid) few stays.apart in
      let first = begun-jumped slot q history goes.noted is in
      let second : clock_at list script history k ≡ clock_after list script history k =
      clock_at-still list script history k (still-of goes k p) in
      let less = clock_after list script history x -ℤ jumped_in jump (suc q) in
      let there : IsUpTo (jump_width list) (less -ℤ clock_at list script history k) =
      subst (λ z. IsUpTo (jump_width list) (less -ℤ z)) (sym second) near in
      elim (is-far list jump far) [
        | inl ahead ↦
            inl (ahead-up (needed list) list.window (jump_width list) list.error (clock_at list script history x)
            (clock_at list script history k) less jump first there (jump-exceeds list jumps.valid)
            jumps.follows.bounds.window ahead)
        | inr behind ↦
            inr (behind-down (needed list) list.window (jump_width list) list.error (clock_at list script history x)
            (clock_at list script history k) less jump first there (jump-exceeds list jumps.valid)
            jumps.follows.bounds.window behind)
      ]

swap-far : (list : Medl) (x y : ℤ) → AreFar list x y → AreFar list y x
swap-far list x y (inl ahead) = inr ahead
swap-far list x y (inr behind) = inl behind

module _ {list : Medl} {script : Script} {start : ClusterStart} {plan : FaultPlan} {slot : ℕ} {history : History}
    (is : GoesOnByPlan list script start plan slot history) (x : ℕ) (inside : x < length list.slots) where
  jumps-after : (base : ℕ) → IsJumpTold plan (suc slot) x (suc (suc base))
      → (has_jump script x (start.slot + suc (suc base)) ≡ true)
      × JumpsAfter list script start plan x base (jump_of script x (start.slot + suc (suc base)))
  jumps-after base told =
      let jumps : has_jump script x (start.slot + suc (suc base)) ≡ true =
      subst (λ j. has_jump script j (start.slot + suc (suc base)) ≡ true) told.loss.node
      ((is.follows.planned.hearing (suc (suc base)) (omega (arith, is.within, told.from))).jumps told.loss.incident
      told.loss.found told.loss.how) in (
        jumps,
        record {
          valid = is.valid;
          follows = is.follows;
          inside = inside;
          sound = sound-till plan x (suc base) Jumping is.follows.planned.good told.loss;
          late = omega (arith, told.loss.late, is.follows.planned.nodes, is.valid.count.0);
          tight = λ turn from to. jump-tight plan x base Jumping is.follows.planned.good told.loss turn from
              (omega (arith, to, is.follows.planned.nodes));
          here = refl;
          once = λ turn later. is.follows.bounds.still x (start.slot + turn)
              (is.follows.bounds.once x (start.slot + suc (suc base)) (start.slot + turn) (omega (arith, later)) jumps);
        },
      )

  -- the clocks of a node that has jumped and of a sound one
  jumped-far : (k since : ℕ) → HasJumped plan (suc slot) x since → IsSoundIn list plan (suc slot) k
      → AreFar list (clock_at list script history x) (clock_at list script history k)
  jumped-far k zero has p =
      let good = is.follows.planned.good in
      absurd (omega (arith, (jump-told plan (suc slot) x 0 good has).loss.late, good.count.0))
  jumped-far k (suc zero) has p =
      let good = is.follows.planned.good in
      absurd (omega (arith, (jump-told plan (suc slot) x 1 good has).loss.late, good.count.0))
  jumped-far k (suc (suc base)) has p =
      let after = jumps-after base (jump-told plan (suc slot) x (suc (suc base)) is.follows.planned.good has) in
      far-apart after.1 k is has p (is.follows.bounds.jumps x (start.slot + suc (suc base)) after.0)

  pub jumped-outside : (k since : ℕ) → HasJumped plan (suc slot) x since → IsSoundIn list plan (suc slot) k
      → (is_within_window list (measured list script history k x) ≡ false)
      × (is_within_window list (measured list script history x k) ≡ false)
  jumped-outside k since has p =
      let far = jumped-far k since has p in
      let number = number-of list script start plan slot history is.noted in
      let early : length history < script.slots = omega (arith, number, is.within) in
      let error = λ (j : ℕ) (node : j < length list.slots).
      error_within list script (length history) j is.follows.bounds.clocks early node in (
        far-outside list script history k x p.0 inside (error k p.0)
            (swap-far list (clock_at list script history x) (clock_at list script history k) far),
        far-outside list script history x k inside p.0 (error x inside) far,
      )
