-- The words of a fault are those that are due at its place.
use Rattle.lab_laws.proofs.Words.{◌≡◌, ℕ, suc, ◌+◌, ◌-◌, ◌<◌, ◌≤◌, Bool, true, false, List, [], ◌∷◌, ◌++◌}
use Rattle.lab_laws.proofs.Words.{length, Some, refl, sym, ap, ◌∙◌, arith, codes, decimal, ◌==◌, nat_lt, map}
use Rattle.lab_laws.proofs.Words.{eq-eqb, lt-ltb, list_any-append, has, has-decimal, Medl, Event, Script}
use Rattle.lab_laws.proofs.Words.{IsValid, is_arm, IsValidEvent, bytes_eq-same}
use Rattle.lab_laws.proofs.Words.{fault_words, fault_slot, fault_node, jump_sizes, losses_from, Doing, Spot}
use Rattle.lab_laws.proofs.Words.{doing_in, is_last_place, doing_of}
use Rattle.std.proofs.Common.{ℤ, pos, negsuc, neg_ℤ, ◌≤ℤ◌, int_lt, unsigned_abs}
use Rattle.std.proofs.lemmas.Int.{int_min_is, ints}
use Rattle.ttp_world.specs.declared.script.Channels.{Channels}
use Rattle.ttp_world.specs.declared.script.Event.TheVariants as event
use Rattle.ttp_world.specs.declared.script.Fault.{Fault}
use Rattle.ttp_world.specs.declared.script.Fault.TheVariants as fault
use Rattle.ttp_world.specs.declared.script.TheConstants.{JUMP_LIMIT}
use Rattle.ttp_world.specs.Hypothesis.{four_windows}
use Rattle.campaign.specs.CostText.{on_channels, channels_word, kind_word, loss_words}
use Rattle.campaign.specs.Tried.{sized}
use Rattle.whole_campaign.specs.declared.shown.Doing.TheVariants as doing
use Rattle.line_form.specs.Forms.{Values, spelled, fit}
use Rattle.lab_laws.proofs.FromBelow.{no_feed, spelled-gathered}
use Rattle.whole_campaign.specs.Faults.{channels_at, loss_at, loss_end, doing_label, is_loss_of}
use Rattle.whole_campaign.specs.Faults.{jump_form, jump_told, is_jump_value, is_fault_of}
use Rattle.lab_laws.proofs.WordsCut.{said-again}

abbrev pub spot_at : ℕ → ℕ → Doing → ℕ → Spot
spot_at slot k d place = record { slot = slot; node = k; doing = d; place = place }

-- a fault of a node in a slot that its words tell at this place, in a run of so many slots
pub record IsTriedAt (list : Medl) (script : Script) (slot k : ℕ) (d : Doing) (place : ℕ) (e : Event) : Type 0 where
  pub begins : fault_slot e ≡ slot
  pub of_node : fault_node e ≡ k
  pub does : doing_of e ≡ d
  pub first : doing_in (fault_words e) ≡ Some d
  pub words : is_fault_of script.slots (spot_at slot k d place) (fault_words e) ≡ true
  pub valid : IsValidEvent list script e
  pub unarmed : is_arm e ≡ false
  pub feed : has 10 (fault_words e) ≡ false

-- they stand at places one behind another, and the last of them at this
abbrev pub AreTriedFrom : Medl → Script → ℕ → ℕ → Doing → ℕ → ℕ → List Event → Type 0
AreTriedFrom list script slot k d last place [] = ⊥
AreTriedFrom list script slot k d last place (e ∷ []) = IsTriedAt list script slot k d place e × (place ≡ last)
AreTriedFrom list script slot k d last place (e ∷ f ∷ es) =
    IsTriedAt list script slot k d place e × (is_last_place place ≡ false)
    × AreTriedFrom list script slot k d last (place + 1) (f ∷ es)

-- Losses.

same-loss : (slots : ℕ) (s : Spot) (to : ℕ) → nat_lt s.place 12 ≡ true → loss_end slots s.slot s.place ≡ to
    → is_fault_of slots s
    (loss_words (doing_label s.doing) s.node (channels_at s.place) (loss_at s.place) s.slot to) ≡ true
unfolding is_loss_of
same-loss slots s to early end =
    rw (early, sym end)
    (bytes_eq-same (loss_words (doing_label s.doing) s.node (channels_at s.place) (loss_at s.place) s.slot
    (loss_end slots s.slot s.place)))

has-channels : (channels : Channels) → has 10 (channels_word channels) ≡ false
has-channels channels = go channels.a channels.b
  where
    go : (a b : Bool) → has 10 (on_channels a b) ≡ false
    go true true = refl
    go true false = refl
    go false b = refl

has-kind : (kind : Fault) → has 10 (kind_word kind) ≡ false
has-kind fault.Silence = refl
has-kind fault.Noise = refl

loss-bare : (word node channels kind from to : List ℕ) → has 10 word ≡ false → has 10 node ≡ false
    → has 10 channels ≡ false → has 10 kind ≡ false → has 10 from ≡ false → has 10 to ≡ false
    → has 10 (word ++ node ++ codes " " ++ channels ++ codes " " ++ kind
    ++ codes " " ++ from ++ codes " " ++ to) ≡ false
loss-bare word node channels kind from to p q r s t u = simp (list_any-append (λ c. c == 10), p, q, r, s, t, u)

has-loss : (word : List ℕ) (k : ℕ) (channels : Channels) (kind : Fault) (from to : ℕ) → has 10 word ≡ false
    → has 10 (loss_words word k channels kind from to) ≡ false
has-loss word k channels kind from to bare =
    loss-bare word (decimal k) (channels_word channels) (kind_word kind) (decimal from) (decimal to) bare
    (has-decimal 10 k (omega arith)) (has-channels channels) (has-kind kind) (has-decimal 10 from (omega arith))
    (has-decimal 10 to (omega arith))

module _ (list : Medl) (script : Script) (slot k : ℕ)
    (node : k < length list.slots) (inside : slot < script.slots) where
  sent-at : (place to : ℕ) → nat_lt place 12 ≡ true → loss_end script.slots slot place ≡ to → slot ≤ to
      → to < script.slots
      → IsTriedAt list script slot k doing.Send place (event.Send k (channels_at place) (loss_at place) slot to)
  unfolding doing_in
  sent-at place to early end from within = record {
    begins = refl;
    of_node = refl;
    does = refl;
    first = refl;
    words = same-loss script.slots (spot_at slot k doing.Send place) to early end;
    valid = (node, (from, within));
    unarmed = refl;
    feed = has-loss (codes "send ") k (channels_at place) (loss_at place) slot to refl;
  }

  heard-at : (place to : ℕ) → nat_lt place 12 ≡ true → loss_end script.slots slot place ≡ to → slot ≤ to
      → to < script.slots
      → IsTriedAt list script slot k doing.Receive place (event.Receive k (channels_at place) (loss_at place) slot to)
  unfolding doing_in
  heard-at place to early end from within = record {
    begins = refl;
    of_node = refl;
    does = refl;
    first = refl;
    words = same-loss script.slots (spot_at slot k doing.Receive place) to early end;
    valid = (node, (from, within));
    unarmed = refl;
    feed = has-loss (codes "receive ") k (channels_at place) (loss_at place) slot to refl;
  }

  pub sent-tried : AreTriedFrom list script slot k doing.Send 11 0 (losses_from (event.Send k) script slot)
  sent-tried =
      let once = λ (place : ℕ) (early : nat_lt place 12 ≡ true) (end : loss_end script.slots slot place ≡ slot).
      sent-at place slot early end (omega arith) inside in
      let lasting = λ (place : ℕ) (early : nat_lt place 12 ≡ true)
      (end : loss_end script.slots slot place ≡ script.slots - 1).
      sent-at place (script.slots - 1) early end (omega (arith, inside)) (omega (arith, inside)) in (
        once 0 refl refl,
        refl,
        (
          once 1 refl refl,
          refl,
          (
            once 2 refl refl,
            refl,
            (
              once 3 refl refl,
              refl,
              (
                once 4 refl refl,
                refl,
                (
                  once 5 refl refl,
                  refl,
                  (lasting 6 refl refl, refl, (lasting 7 refl refl, refl, (lasting 8 refl refl, refl, (lasting 9 refl refl, refl, (lasting 10 refl refl, refl, (lasting 11 refl refl, refl)))))),
                ),
              ),
            ),
          ),
        ),
      )

  pub heard-tried : AreTriedFrom list script slot k doing.Receive 11 0 (losses_from (event.Receive k) script slot)
  heard-tried =
      let once = λ (place : ℕ) (early : nat_lt place 12 ≡ true) (end : loss_end script.slots slot place ≡ slot).
      heard-at place slot early end (omega arith) inside in
      let lasting = λ (place : ℕ) (early : nat_lt place 12 ≡ true)
      (end : loss_end script.slots slot place ≡ script.slots - 1).
      heard-at place (script.slots - 1) early end (omega (arith, inside)) (omega (arith, inside)) in (
        once 0 refl refl,
        refl,
        (
          once 1 refl refl,
          refl,
          (
            once 2 refl refl,
            refl,
            (
              once 3 refl refl,
              refl,
              (
                once 4 refl refl,
                refl,
                (
                  once 5 refl refl,
                  refl,
                  (lasting 6 refl refl, refl, (lasting 7 refl refl, refl, (lasting 8 refl refl, refl, (lasting 9 refl refl, refl, (lasting 10 refl refl, refl, (lasting 11 refl refl, refl)))))),
                ),
              ),
            ),
          ),
        ),
      )

-- Jumps.

-- a jump up, and the same one down
record IsJump (z : ℤ) : Type 0 where
  up : int_lt (pos 0) z ≡ true
  down : int_lt (neg_ℤ z) (pos 0) ≡ true

is-jump : (z : ℤ) → pos 1 ≤ℤ z → IsJump z
is-jump z some = record { up = grind (arith, ints, some); down = grind (arith, ints, some) }

jump-small : (z : ℤ) → (neg_ℤ (pos JUMP_LIMIT) ≤ℤ z) × (z ≤ℤ pos JUMP_LIMIT)
    → nat_lt (unsigned_abs z) 1000000000 ≡ true
jump-small (pos n) within = lt-ltb n 1000000000 (omega (arith, ints, within.1))
jump-small (negsuc n) within = lt-ltb (suc n) 1000000000 (omega (arith, ints, within.0))

module _ (list : Medl) (script : Script) (slot k : ℕ) (valid : IsValid list) (node : k < length list.slots)
    (nodes : length list.slots ≤ 24) (inside : slot < script.slots) (few : script.slots ≤ 20000) where
  jump-at : (place : ℕ) (z : ℤ) → nat_lt place 12 ≡ false → is_jump_value place z ≡ true
      → (neg_ℤ (pos JUMP_LIMIT) ≤ℤ z) × (z ≤ℤ pos JUMP_LIMIT)
      → IsTriedAt list script slot k doing.Jump place (event.Jump k z slot)
  unfolding doing_in
  jump-at place z late value within =
      let vs : Values jump_form = (k, (z, (slot, tt))) in
      let fits : fit jump_form vs ≡ true =
      rw (
        lt-ltb k 256 (omega (arith, node, nodes)),
        jump-small z within,
        lt-ltb slot 100000 (omega (arith, inside, few)),
      ) refl in
      let text : fault_words (event.Jump k z slot) ≡ spelled jump_form vs = sym (spelled-gathered jump_form vs) in
      record {
        begins = refl;
        of_node = refl;
        does = refl;
        first = refl;
        words = ap (λ (words : List ℕ). is_fault_of script.slots (spot_at slot k doing.Jump place) words) text
            ∙ rw (
              late,
              said-again jump_form jump_told vs refl fits,
              eq-eqb k k refl,
              eq-eqb slot slot refl,
              value,
            ) refl;
        valid = (node, within, inside);
        unarmed = refl;
        feed = ap (has 10) text ∙ no_feed jump_form vs refl fits;
      }

  sized-jump : (z : ℤ) → pos 1 ≤ℤ z → IsJump (sized z)
  sized-jump z some =
      let least = int_min_is z (pos JUMP_LIMIT) in
      is-jump (sized z) (omega (arith, ints, least, some))

  sized-up : (z : ℤ) → pos 1 ≤ℤ z → (neg_ℤ (pos JUMP_LIMIT) ≤ℤ sized z) × (sized z ≤ℤ pos JUMP_LIMIT)
  sized-up z some =
      let least = int_min_is z (pos JUMP_LIMIT) in
      (omega (arith, ints, least, some), omega (arith, ints, least, some))

  sized-down : (z : ℤ) → pos 1 ≤ℤ z
      → (neg_ℤ (pos JUMP_LIMIT) ≤ℤ neg_ℤ (sized z)) × (neg_ℤ (sized z) ≤ℤ pos JUMP_LIMIT)
  sized-down z some =
      let least = int_min_is z (pos JUMP_LIMIT) in
      (omega (arith, ints, least, some), omega (arith, ints, least, some))

  pub jumps-tried : AreTriedFrom list script slot k doing.Jump 15 12 (map (λ z. event.Jump k z slot) (jump_sizes list))
  jumps-tried =
      let window = valid.window in
      let near : pos 1 ≤ℤ list.window = omega (arith, ints, window) in
      let far : pos 1 ≤ℤ four_windows list = omega (arith, ints, window) in
      let one = sized-jump list.window near in
      let four = sized-jump (four_windows list) far in (
        jump-at 12 (sized (four_windows list)) refl four.up (sized-up (four_windows list) far),
        refl,
        (
          jump-at 13 (neg_ℤ (sized (four_windows list))) refl four.down (sized-down (four_windows list) far),
          refl,
          (
            jump-at 14 (sized list.window) refl one.up (sized-up list.window near),
            refl,
            (jump-at 15 (neg_ℤ (sized list.window)) refl one.down (sized-down list.window near), refl),
          ),
        ),
      )
