-- What a script says of the slots before an event is what it says without the event.
use Rattle.std.proofs.Common.{◌≡◌, ℕ, ◌<◌, ◌≤◌, Bool, false, cond, ◌&&◌, ◌||◌, List, [], ◌∷◌, ◌++◌, Option, Some, None}
use Rattle.std.proofs.Common.{refl, ap, sym, ◌∙◌, arith}
use Rattle.std.specs.List.{list_any, filter_map}
use Rattle.std.specs.Prelude.{◌==◌, nat_le}
use Rattle.std.proofs.lemmas.Bool.{lt-leb, ne_eqb}
use Rattle.std.proofs.lemmas.List.{append-nil}
use Rattle.std.proofs.lemmas.List.Elements.{filter_map-append}
use Rattle.std.proofs.lemmas.List.Folds.{list_any-append}
use Rattle.std.proofs.Math.Bool.{and-false, or-false}
use Rattle.ttp_world.specs.declared.script.Channel.{Channel}
use Rattle.ttp_world.specs.declared.script.Channel.TheVariants as channel
use Rattle.ttp_world.specs.declared.script.Event.{Event}
use Rattle.ttp_world.specs.declared.script.Event.TheVariants as event
use Rattle.ttp_world.specs.declared.script.Fault.{Fault}
use Rattle.ttp_world.specs.declared.script.Fault.TheVariants as fault
use Rattle.ttp_world.specs.declared.script.Script.{Script}
use Rattle.ttp_world.specs.Events.{arms, channels_where, covers, error_in, flipped_bit, has_bits, is_among}
use Rattle.ttp_world.specs.Events.{is_receive_fault, is_same_fault, is_send_fault, jump_in, sum_ℤ}
use Rattle.ttp_world.specs.Script.{flipped_bits, incidents_of, payload_of_host, write_in}
use Rattle.ttp_world.proofs.LineLists.{filter_map-none}
use Rattle.controller.specs.Agreement.{AgreeBelow, begins_at, with_event}

-- A list with one item more, which says nothing.

any-more : {X : Type 0} (p : X → Bool) (xs : List X) (x : X) → p x ≡ false → list_any p (xs ++ x ∷ []) ≡ list_any p xs
any-more p xs x none =
    list_any-append p xs (x ∷ []) ∙ ap (λ b. list_any p xs || (b || false)) none ∙ or-false (list_any p xs)

filter_map-more : {X Y : Type 0} (f : X → Option Y) (xs : List X) (x : X) → f x ≡ None
    → filter_map f (xs ++ x ∷ []) ≡ filter_map f xs
filter_map-more f xs x none =
    filter_map-append f xs (x ∷ []) ∙ ap (λ ys. filter_map f xs ++ ys) (filter_map-none f (x ∷ []) (none, tt))
    ∙ append-nil (filter_map f xs)

-- An event says nothing of the slots before it.

covers-earlier : (from to slot : ℕ) → slot < from → covers from to slot ≡ false
covers-earlier from to slot less = ap (λ b. b && nat_le slot to) (lt-leb from slot less)

at-earlier : (at slot : ℕ) → slot < at → (at == slot) ≡ false
at-earlier at slot less = ne_eqb at slot (λ same. absurd (omega arith))

module _ (k slot : ℕ) where
  arms-earlier : (e : Event) → slot < begins_at e → arms k slot e ≡ false
  arms-earlier (event.Arm node at) less = ap (λ b. (node == k) && b) (at-earlier at slot less) ∙ and-false (node == k)
  arms-earlier _ less = refl

  send-earlier : (kind : Fault) (c : Channel) (e : Event) → slot < begins_at e → is_send_fault kind k c slot e ≡ false
  send-earlier kind c (event.Send node channels f from to) less =
      ap (λ b. (node == k) && (is_among c channels && (is_same_fault f kind && b))) (covers-earlier from to slot less)
      ∙ ap (λ b. (node == k) && (is_among c channels && b)) (and-false (is_same_fault f kind))
      ∙ ap (λ b. (node == k) && b) (and-false (is_among c channels)) ∙ and-false (node == k)
  send-earlier kind c _ less = refl

  receive-earlier : (kind : Fault) (c : Channel) (e : Event) → slot < begins_at e
      → is_receive_fault kind k c slot e ≡ false
  receive-earlier kind c (event.Receive node channels f from to) less =
      ap (λ b. (node == k) && (is_among c channels && (is_same_fault f kind && b))) (covers-earlier from to slot less)
      ∙ ap (λ b. (node == k) && (is_among c channels && b)) (and-false (is_same_fault f kind))
      ∙ ap (λ b. (node == k) && b) (and-false (is_among c channels)) ∙ and-false (node == k)
  receive-earlier kind c _ less = refl

  flip-earlier : (c : Channel) (e : Event) → slot < begins_at e → flipped_bit k c slot e ≡ None
  flip-earlier c (event.Flip node channels bit at) less =
      ap (λ b. cond b (Some bit) None)
      (ap (λ b. (node == k) && (is_among c channels && b)) (at-earlier at slot less)
      ∙ ap (λ b. (node == k) && b) (and-false (is_among c channels)) ∙ and-false (node == k))
  flip-earlier c _ less = refl

  error-earlier : (e : Event) → slot < begins_at e → error_in k slot e ≡ None
  error-earlier (event.Error node value from to) less =
      ap (λ b. cond b (Some value) None)
      (ap (λ b. (node == k) && b) (covers-earlier from to slot less) ∙ and-false (node == k))
  error-earlier _ less = refl

  jump-earlier : (e : Event) → slot < begins_at e → jump_in k slot e ≡ None
  jump-earlier (event.Jump node value at) less =
      ap (λ b. cond b (Some value) None)
      (ap (λ b. (node == k) && b) (at-earlier at slot less) ∙ and-false (node == k))
  jump-earlier _ less = refl

write-earlier : (slot : ℕ) (e : Event) → slot < begins_at e → write_in slot e ≡ None
write-earlier slot (event.Write node at payload) less =
    ap (λ b. cond b (Some (record { host = node; payload = payload })) None) (at-earlier at slot less)
write-earlier slot _ less = refl

-- So a script with it says the same of them.
module _ (script : Script) (more : Event) where
  flips-more : (k slot : ℕ) → slot < begins_at more → (c : Channel)
      → flipped_bits script k c slot ≡ flipped_bits (with_event script more) k c slot
  flips-more k slot less c =
      sym (filter_map-more (flipped_bit k c slot) script.events more (flip-earlier k slot c more less))

  incidents-more : (k slot : ℕ) → slot < begins_at more
      → incidents_of script k slot ≡ incidents_of (with_event script more) k slot
  incidents-more k slot less =
      let events = script.events in
      let sends = λ (kind : Fault) (c : Channel).
      sym (any-more (is_send_fault kind k c slot) events more (send-earlier k slot kind c more less)) in
      let receives = λ (kind : Fault) (c : Channel).
      sym (any-more (is_receive_fault kind k c slot) events more (receive-earlier k slot kind c more less)) in
      let flips = flips-more k slot less in
      let armed = sym (any-more (arms k slot) events more (arms-earlier k slot more less)) in
      let errors = sym (filter_map-more (error_in k slot) events more (error-earlier k slot more less)) in
      let jumps = sym (filter_map-more (jump_in k slot) events more (jump-earlier k slot more less)) in
      λ i. record {
        send_silence = channels_where (λ c. sends fault.Silence c i);
        send_noise = channels_where (λ c. sends fault.Noise c i);
        receive_silence = channels_where (λ c. receives fault.Silence c i);
        receive_noise = channels_where (λ c. receives fault.Noise c i);
        has_flip = has_bits (flips channel.A i) || has_bits (flips channel.B i);
        armed = armed i;
        error = sum_ℤ (errors i);
        jump = sum_ℤ (jumps i);
      }

  pub agree-more : (slot : ℕ) → slot ≤ begins_at more → AgreeBelow script (with_event script more) slot
  agree-more slot later = record {
    drift = λ k. refl;
    said = λ k s earlier.
        let less : s < begins_at more = omega (arith, earlier, later) in
        record {
          on = refl;
          incidents = incidents-more k s less;
          flips = flips-more k s less;
          writes = ap (filter_map (payload_of_host k))
              (sym (filter_map-more (write_in s) script.events more (write-earlier s more less)));
        };
  }
