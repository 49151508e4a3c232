-- A script with one loss more says the same of all slots but that of the loss, and of that one what clocks do.
use Rattle.std.proofs.Common.{◌≡◌, ℕ, Bool, true, false, ◌&&◌, ◌||◌, List, [], ◌∷◌, ◌++◌, Option, None, inl, inr}
use Rattle.std.proofs.Common.{refl, ap, sym, ◌∙◌, append-nil, eqb-true, le-leb, not, arith}
use Rattle.std.specs.List.{list_any, filter_map}
use Rattle.std.specs.Prelude.{◌==◌, nat_le}
use Rattle.std.proofs.lemmas.Bool.{false≢true, and_parts, cases_lt, lt-leb}
use Rattle.std.proofs.lemmas.List.Elements.{filter_map-append}
use Rattle.std.proofs.lemmas.List.Folds.{list_any-append}
use Rattle.std.proofs.Math.Bool.{and-false, or-false}
use Rattle.ttp_world.specs.declared.script.Channel.{Channel}
use Rattle.ttp_world.specs.declared.script.Channel.TheVariants as channel
use Rattle.ttp_world.specs.declared.script.Event.{Event}
use Rattle.ttp_world.specs.declared.script.Event.TheVariants as event
use Rattle.ttp_world.specs.declared.script.Fault.{Fault}
use Rattle.ttp_world.specs.declared.script.Fault.TheVariants as fault
use Rattle.ttp_world.specs.declared.script.Script.{Script}
use Rattle.ttp_world.specs.Events.{arms, channels_where, covers, error_in, flipped_bit, has_bits, is_among}
use Rattle.ttp_world.specs.Events.{is_receive_fault, is_same_fault, is_send_fault, jump_in, sum_ℤ}
use Rattle.ttp_world.specs.Script.{jump_of, payload_of_host, write_in}
use Rattle.ttp_world.proofs.LineLists.{filter_map-none}
use Rattle.ttp_world.specs.Returning.{is_arm}
use Rattle.controller.specs.Agreement.{SayAlike, begins_at}
use Rattle.campaign.specs.Tried.{with_fault}
use Rattle.run_costs.specs.Later.{comes_later, is_loss}
use Rattle.fault_runs.specs.Merging.{is_loss_in}

any-more : {X : Type 0} (p : X → Bool) (xs : List X) (x : X) → p x ≡ false → list_any p xs ≡ list_any p (xs ++ x ∷ [])
any-more p xs x none =
    sym (list_any-append p xs (x ∷ []) ∙ ap (λ b. list_any p xs || (b || false)) none ∙ or-false (list_any p xs))

map-more : {X Y : Type 0} (f : X → Option Y) (xs : List X) (x : X) → f x ≡ None
    → filter_map f xs ≡ filter_map f (xs ++ x ∷ [])
map-more f xs x none =
    sym (filter_map-append f xs (x ∷ []) ∙ ap (λ ys. filter_map f xs ++ ys) (filter_map-none f (x ∷ []) (none, tt))
    ∙ append-nil (filter_map f xs))

-- A slot that is not covered.

covers-other : (from to slot t : ℕ) → from ≡ slot → to ≡ slot → (t ≡ slot → ⊥) → covers from to t ≡ false
covers-other from to slot t begins ends other = elim (cases_lt t slot) [
  | inl less ↦ ap (λ b. b && nat_le t to) (lt-leb from t (omega (arith, begins, less)))
  | inr past ↦
      ap (λ b. nat_le from t && b) (lt-leb t to (omega (arith, ends, past, other))) ∙ and-false (nat_le from t)
]

module _ (slot t : ℕ) (other : t ≡ slot → ⊥) (k : ℕ) where
  uncovered : (node from to : ℕ) (among same : Bool) → ((from == slot) && (to == slot)) ≡ true
      → ((node == k) && (among && (same && covers from to t))) ≡ false
  uncovered node from to among same is =
      let both = and_parts (from == slot) (to == slot) is in
      let none = covers-other from to slot t (eqb-true from slot both.0) (eqb-true to slot both.1) other in
      ap (λ b. (node == k) && (among && (same && b))) none
      ∙ ap (λ b. (node == k) && (among && b)) (and-false same) ∙ ap (λ b. (node == k) && b) (and-false among)
      ∙ and-false (node == k)

  send-other : (kind : Fault) (c : Channel) (e : Event) → is_loss_in slot e ≡ true → is_send_fault kind k c t e ≡ false
  send-other kind c (event.Send node channels f from to) is =
      uncovered node from to (is_among c channels) (is_same_fault f kind) is
  send-other kind c _ is = refl

  receive-other : (kind : Fault) (c : Channel) (e : Event) → is_loss_in slot e ≡ true
      → is_receive_fault kind k c t e ≡ false
  receive-other kind c (event.Receive node channels f from to) is =
      uncovered node from to (is_among c channels) (is_same_fault f kind) is
  receive-other kind c _ is = refl

-- A loss is nothing else.

pub loss-is : (slot : ℕ) (e : Event) → is_loss_in slot e ≡ true → is_loss e ≡ true
loss-is slot (event.Send node channels f from to) is = refl
loss-is slot (event.Receive node channels f from to) is = refl
loss-is slot (event.Flip node channels bit at) is = is
loss-is slot (event.Error node value from to) is = is
loss-is slot (event.Jump node value at) is = is
loss-is slot (event.Arm node at) is = is
loss-is slot (event.Write node at payload) is = is
loss-is slot (event.Read node at from) is = is

module _ (k t : ℕ) where
  arms-loss : (e : Event) → is_loss e ≡ true → arms k t e ≡ false
  arms-loss (event.Arm node at) is = absurd (false≢true is)
  arms-loss _ is = refl

  flip-loss : (c : Channel) (e : Event) → is_loss e ≡ true → flipped_bit k c t e ≡ None
  flip-loss c (event.Flip node channels bit at) is = absurd (false≢true is)
  flip-loss c _ is = refl

  error-loss : (e : Event) → is_loss e ≡ true → error_in k t e ≡ None
  error-loss (event.Error node value from to) is = absurd (false≢true is)
  error-loss _ is = refl

  jump-loss : (e : Event) → is_loss e ≡ true → jump_in k t e ≡ None
  jump-loss (event.Jump node value at) is = absurd (false≢true is)
  jump-loss _ is = refl

write-loss : (t : ℕ) (e : Event) → is_loss e ≡ true → write_in t e ≡ None
write-loss t (event.Write node at payload) is = absurd (false≢true is)
write-loss t _ is = refl

module _ (script : Script) (slot : ℕ) (e : Event) (is : is_loss_in slot e ≡ true) where
  loss : is_loss e ≡ true
  loss = loss-is slot e is

  pub jumps-alike : (k t : ℕ) → jump_of script k t ≡ jump_of (with_fault script e) k t
  jumps-alike k t = ap sum_ℤ (map-more (jump_in k t) script.events e (jump-loss k t e loss))

  pub alike-other : (t : ℕ) → (t ≡ slot → ⊥) → (k : ℕ) → SayAlike script (with_fault script e) k t
  alike-other t other k =
      let events = script.events in
      let sends = λ (kind : Fault) (c : Channel).
      any-more (is_send_fault kind k c t) events e (send-other slot t other k kind c e is) in
      let receives = λ (kind : Fault) (c : Channel).
      any-more (is_receive_fault kind k c t) events e (receive-other slot t other k kind c e is) in
      let flips = λ (c : Channel). map-more (flipped_bit k c t) events e (flip-loss k t c e loss) in
      let armed = any-more (arms k t) events e (arms-loss k t e loss) in
      let errors = map-more (error_in k t) events e (error-loss k t e loss) in
      let jumps = map-more (jump_in k t) events e (jump-loss k t e loss) in
      record {
        on = refl;
        incidents = λ i. record {
          send_silence = channels_where (λ c. sends fault.Silence c i);
          send_noise = channels_where (λ c. sends fault.Noise c i);
          receive_silence = channels_where (λ c. receives fault.Silence c i);
          receive_noise = channels_where (λ c. receives fault.Noise c i);
          has_flip = has_bits (flips channel.A i) || has_bits (flips channel.B i);
          armed = armed i;
          error = sum_ℤ (errors i);
          jump = sum_ℤ (jumps i);
        };
        flips = flips;
        writes = ap (filter_map (payload_of_host k)) (map-more (write_in t) events e (write-loss t e loss));
      }

-- It begins in its slot.

pub loss-begins : (slot : ℕ) (e : Event) → is_loss_in slot e ≡ true → begins_at e ≡ slot
loss-begins slot (event.Send node channels f from to) is =
    eqb-true from slot (and_parts (from == slot) (to == slot) is).0
loss-begins slot (event.Receive node channels f from to) is =
    eqb-true from slot (and_parts (from == slot) (to == slot) is).0
loss-begins slot (event.Flip node channels bit at) is = absurd (false≢true is)
loss-begins slot (event.Error node value from to) is = absurd (false≢true is)
loss-begins slot (event.Jump node value at) is = absurd (false≢true is)
loss-begins slot (event.Arm node at) is = absurd (false≢true is)
loss-begins slot (event.Write node at payload) is = absurd (false≢true is)
loss-begins slot (event.Read node at from) is = absurd (false≢true is)

loss-unarmed : (e : Event) → is_loss e ≡ true → not (is_arm e) ≡ true
loss-unarmed (event.Arm node at) is = absurd (false≢true is)
loss-unarmed _ is = refl

pub loss-later : (slot : ℕ) (e : Event) → is_loss_in slot e ≡ true → comes_later slot e ≡ true
loss-later slot e is =
    let begins = le-leb slot (begins_at e) (omega (arith, loss-begins slot e is)) in
    let unarmed = loss-unarmed e (loss-is slot e is) in
    λ i. begins i && unarmed i
