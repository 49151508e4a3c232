-- What the flips of a key say: the bits that events flip in a node's frame of a slot.
use Rattle.ttp_world.proofs.Words.{◌≡◌, ℕ, ◌<◌, Bool, true, false, cond, ◌&&◌, List, [], ◌∷◌, Some, None, refl, ap, ◌∙◌}
use Rattle.ttp_world.proofs.Words.{arith, ◌==◌, map, filter, cons_option, nat_tests, All-head, All-tail, NODE_KEYS}
use Rattle.ttp_world.proofs.Words.{Channel, Event, Keyed, flipped_bit, bits_on, keyed_flip, HasFlipKey, key_of, has_key}
use Rattle.ttp_world.proofs.Words.{values_of}
use Rattle.std.specs.List.{All, filter_map}
use Rattle.ttp_world.specs.declared.events.FlippedBit.{FlippedBit}
use Rattle.ttp_world.specs.declared.script.Event.TheVariants as event
use Rattle.ttp_world.specs.Events.{is_among, bit_on}

abbrev KeyedFlip : Type 0
KeyedFlip = Keyed FlippedBit

abbrev bits : List KeyedFlip → List FlippedBit
bits flips = map (λ flip. flip.value) flips

same_key : (node at k slot : ℕ) → at < NODE_KEYS → slot < NODE_KEYS
    → (key_of node at == key_of k slot) ≡ ((node == k) && (at == slot))
same_key node at k slot fits in_node = grind (arith, nat_tests)

chosen : (here now among : Bool) (bit : ℕ)
    → cond (here && now) (cond among (Some bit) None) None ≡ cond (here && (among && now)) (Some bit) None
chosen false now among bit = refl
chosen true true true bit = refl
chosen true true false bit = refl
chosen true false true bit = refl
chosen true false false bit = refl

one_more : (c : Channel) (same : Bool) (flip : KeyedFlip) (flips : List KeyedFlip)
    → bits_on c (bits (cond same (flip ∷ flips) flips))
    ≡ cons_option (cond same (bit_on c flip.value) None) (bits_on c (bits flips))
one_more c true flip flips = refl
one_more c false flip flips = refl

event_told : (c : Channel) (k slot : ℕ) (e : Event) (flips : List KeyedFlip) → slot < NODE_KEYS → HasFlipKey e
    → bits_on c (values_of (key_of k slot) (cons_option (keyed_flip e) flips))
    ≡ cons_option (flipped_bit k c slot e) (bits_on c (values_of (key_of k slot) flips))
event_told c k slot (event.Flip node channels bit at) flips in_node fits =
    let key = key_of k slot in
    let flip : KeyedFlip = record { key = key_of node at; value = record { channels = channels; bit = bit } } in
    let rest = filter (has_key key) flips in
    one_more c (key_of node at == key_of k slot) flip rest
    ∙ ap (λ o. cons_option o (bits_on c (bits rest)))
    (ap (λ b. cond b (bit_on c flip.value) None) (same_key node at k slot fits in_node)
    ∙ chosen (node == k) (at == slot) (is_among c channels) bit)
event_told c k slot e flips in_node fits = refl

pub flips_told : (c : Channel) (k slot : ℕ) (events : List Event) → slot < NODE_KEYS → All HasFlipKey events
    → bits_on c (values_of (key_of k slot) (filter_map keyed_flip events)) ≡ filter_map (flipped_bit k c slot) events
flips_told c k slot [] in_node fit = refl
flips_told c k slot (e ∷ events) in_node fit =
    event_told c k slot e (filter_map keyed_flip events) in_node (All-head HasFlipKey e events fit)
    ∙ ap (cons_option (flipped_bit k c slot e)) (flips_told c k slot events in_node (All-tail HasFlipKey e events fit))
