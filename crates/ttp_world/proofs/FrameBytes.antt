-- What nodes send and hear is bytes, where the payloads are, and so is what they deliver.
use Rattle.ttp_world.proofs.Words.{◌≡◌, ℕ, zero, suc, ◌+◌, ◌-◌, ◌/◌, ◌%◌, ◌<◌, Bool, true, cond, List, [], ◌∷◌, ◌++◌}
use Rattle.ttp_world.proofs.Words.{length, get_or, Option, Some, None, IfSome, refl, sym, subst, arith, drop, ◌&&◌}
use Rattle.ttp_world.proofs.Words.{nat_lt, map, list_all, cond_both, ltb-true, flat_map-cons, All-nil, All-cons}
use Rattle.ttp_world.proofs.Words.{All-append, All-head, All-tail, All-take, below, set_bits, each-below, Kind, Medl}
use Rattle.ttp_world.proofs.Words.{Act, Start, Send, Chosen, CState, Delivered, Entry, Channel, Script, is_correct}
use Rattle.ttp_world.proofs.Words.{coming_place, carries_payload, own_cstate, node_frames, payload_taken, delivery}
use Rattle.ttp_world.proofs.Words.{History, Place, entry_of, carried_length, frame, header_of, SentFrame, Signal}
use Rattle.ttp_world.proofs.Words.{Silence, Noise, Bits, remains, remaining_frames, combined_signal, with_noise, heard}
use Rattle.ttp_world.proofs.Words.{member_width, kind_at, message_of, messages_of, delivered_of, nothing_chosen}
use Rattle.ttp_world.proofs.Words.{out_messages, message_chosen, NodePast, Expected, Hearing, view_of, is_first_view}
use Rattle.ttp_world.proofs.Words.{expected_header, expected_length, expected_of, payload_heard, has_send_fault}
use Rattle.ttp_world.proofs.Words.{has_receive_fault, BegunSlot, slot_after, node_of, chosen_of, frames_of, frames_in}
use Rattle.ttp_world.proofs.Words.{hearing_in}
use Rattle.std.proofs.Common.{All}
use Rattle.std.specs.List.{flat_map}
use Rattle.std.proofs.lemmas.List.Elements.{All-drop}
use Rattle.std.proofs.lemmas.List.Elements.{All-filter}
use Rattle.ttp_world.specs.declared.medl.Kind.TheVariants as kind
use Rattle.ttp_world.specs.declared.node.Entry.TheVariants as entry
use Rattle.ttp_world.specs.declared.script.Channel.TheVariants as channel
use Rattle.ttp_world.specs.declared.script.Fault.TheVariants as fault
use Rattle.ttp_world.specs.CheckWord.{check_word}
use Rattle.ttp_world.specs.Conduct.{payload_sent, cold_start_cstate}
use Rattle.ttp_world.specs.Frame.{big_endian, cstate_bytes, is_explicit, body, checked, word_bytes}
use Rattle.ttp_world.specs.Frame.{cold_start_header}
use Rattle.ttp_world.specs.Medium.{flip_in_byte, flip_bit, flip_bits}
use Rattle.ttp_world.specs.Medium.{channel_signal}
use Rattle.ttp_world.specs.Script.{flipped_bits}

abbrev pub IsByte : ℕ → Type 0
IsByte b = b < 256

abbrev pub AreBytes : List ℕ → Type 0
AreBytes bytes = All (λ b. b < 256) bytes

no_bytes : AreBytes []
no_bytes = All-nil IsByte

-- Lists of which each element has something.

flat_map-each : {X Y : Type 0} (f : X → List Y) (P : Y → Type 0) (xs : List X) → ((x : X) → All P (f x))
    → All P (flat_map f xs)
flat_map-each f P [] each = All-nil P
flat_map-each f P (x ∷ xs) each =
    subst (All P) (sym (flat_map-cons f x xs)) (All-append P (f x) (flat_map f xs) (each x) (flat_map-each f P xs each))

map-each : {X Y : Type 0} (f : X → Y) (P : Y → Type 0) (xs : List X) → ((x : X) → P (f x)) → All P (map f xs)
map-each f P [] each = All-nil P
map-each f P (x ∷ xs) each = All-cons P (f x) (map f xs) (each x) (map-each f P xs each)

get_or-each : {X : Type 0} (P : X → Type 0) (xs : List X) (i : ℕ) (d : X) → All P xs → P d → P (get_or xs i d)
get_or-each P [] i d all last = last
get_or-each P (x ∷ xs) zero d all last = All-head P x xs all
get_or-each P (x ∷ xs) (suc i) d all last = get_or-each P xs i d (All-tail P x xs all) last

-- Frames.

big_endian-bytes : (count v : ℕ) → AreBytes (big_endian count v)
big_endian-bytes zero v = no_bytes
big_endian-bytes (suc count) v =
    All-append IsByte (big_endian count (v / 256)) (v % 256 ∷ []) (big_endian-bytes count (v / 256))
    (All-cons IsByte (v % 256) [] (omega arith) no_bytes)

cstate-bytes : (width : ℕ) (c : CState) → AreBytes (cstate_bytes width c)
cstate-bytes width c =
    let members = big_endian width (set_bits c.members) in
    All-append IsByte (big_endian 2 c.time) (big_endian 1 c.round ++ big_endian 1 c.slot ++ members)
    (big_endian-bytes 2 c.time)
    (All-append IsByte (big_endian 1 c.round) (big_endian 1 c.slot ++ members) (big_endian-bytes 1 c.round)
    (All-append IsByte (big_endian 1 c.slot) members (big_endian-bytes 1 c.slot)
    (big_endian-bytes width (set_bits c.members))))

frame-bytes : (width header : ℕ) (c : CState) (payload : List ℕ) (start : ℕ) → header < 256 → AreBytes payload
    → AreBytes (frame width header c payload start)
frame-bytes width header c payload start small bytes =
    let state = cond (is_explicit header) (cstate_bytes width c) [] in
    All-append IsByte (body width header c payload) (word_bytes start (checked width header c payload))
    (All-cons IsByte header (state ++ payload) small
    (All-append IsByte state payload
    (cond_both (is_explicit header) (cstate_bytes width c) [] AreBytes (λ is. cstate-bytes width c) (λ other. no_bytes))
    bytes))
    (big_endian-bytes 3 (check_word start (checked width header c payload)))

header_of-small : (k : Kind) → header_of k < 256
header_of-small kind.N = omega arith
header_of-small k = omega arith

abbrev HoldsBytes : SentFrame → Type 0
HoldsBytes sent = AreBytes sent.bytes

node_frames-bytes : (list : Medl) (k : ℕ) (past : NodePast) (chosen : Chosen) (does : Act) → AreBytes chosen.payload
    → All HoldsBytes (node_frames list k past chosen does)
node_frames-bytes list k past chosen Start bytes =
    All-cons HoldsBytes _ []
    (frame-bytes (member_width list) cold_start_header (cold_start_cstate k) [] list.schedule (omega arith) no_bytes)
    (All-nil HoldsBytes)
node_frames-bytes list k past chosen Send bytes =
    let place = coming_place list past in
    All-cons HoldsBytes _ []
    (frame-bytes (member_width list) (header_of (kind_at list place.round place.slot)) (own_cstate list k past)
    (payload_sent list place chosen) list.schedule (header_of-small (kind_at list place.round place.slot))
    (cond_both (carries_payload list place) chosen.payload [] AreBytes (λ is. bytes) (λ other. no_bytes)))
    (All-nil HoldsBytes)
node_frames-bytes list k past chosen _ bytes = All-nil HoldsBytes

frames_in-bytes : (s : BegunSlot) (chosen : List Chosen) → ((k : ℕ) → AreBytes (chosen_of chosen k).payload)
    → All HoldsBytes (frames_in s chosen)
frames_in-bytes s chosen bytes =
    flat_map-each (frames_of s chosen) HoldsBytes (below (length s.list.slots))
    (λ k. node_frames-bytes s.list k (node_of s k).past (chosen_of chosen k) (node_of s k).act (bytes k))

-- Flipped bits: each byte stays one, as is computed.

flips_small : ℕ → Bool
flips_small place = list_all (λ byte. nat_lt (flip_in_byte place byte) 256) (below 256)

all_small : list_all flips_small (below 8) ≡ true
unfolding flips_small
all_small = refl

flip_in_byte-small : (place byte : ℕ) → place < 8 → byte < 256 → flip_in_byte place byte < 256
unfolding flips_small
flip_in_byte-small place byte there fits =
    ltb-true (flip_in_byte place byte) 256
    (each-below (λ b. nat_lt (flip_in_byte place b) 256) 256 byte (each-below flips_small 8 place all_small there) fits)

pub flip_bit-bytes : (bytes : List ℕ) (bit : ℕ) → AreBytes bytes → AreBytes (flip_bit bytes bit)
flip_bit-bytes [] bit are = no_bytes
flip_bit-bytes (b ∷ bs) bit are =
    let first = All-head IsByte b bs are in
    let rest = All-tail IsByte b bs are in
    cond_both (nat_lt bit 8) (flip_in_byte (7 - bit) b ∷ bs) (b ∷ flip_bit bs (bit - 8)) AreBytes
    (λ here. All-cons IsByte (flip_in_byte (7 - bit) b) bs (flip_in_byte-small (7 - bit) b (omega arith) first) rest)
    (λ later. All-cons IsByte b (flip_bit bs (bit - 8)) first (flip_bit-bytes bs (bit - 8) rest))

pub flip_bits-bytes : (bits bytes : List ℕ) → AreBytes bytes → AreBytes (flip_bits bytes bits)
flip_bits-bytes [] bytes are = are
flip_bits-bytes (bit ∷ bits) bytes are = flip_bits-bytes bits (flip_bit bytes bit) (flip_bit-bytes bytes bit are)

-- Signals.

abbrev IsOfBytes : Signal → Type 0
IsOfBytes Silence = Unit {0}
IsOfBytes Noise = Unit {0}
IsOfBytes (Bits sender bytes) = AreBytes bytes

combined-bytes : (script : Script) (slot : ℕ) (c : Channel) (frames : List SentFrame) → All HoldsBytes frames
    → IsOfBytes (combined_signal script slot c frames)
combined-bytes script slot c [] are = tt
combined-bytes script slot c (sent ∷ []) are =
    let bits = flipped_bits script sent.sender c slot in
    cond_both (has_send_fault script fault.Noise sent.sender c slot) Noise
    (Bits sent.sender (flip_bits sent.bytes bits)) IsOfBytes (λ noisy. tt)
    (λ clear. flip_bits-bytes bits sent.bytes (All-head HoldsBytes sent [] are))
combined-bytes script slot c (sent ∷ more ∷ others) are = tt

with_noise-bytes : (noisy : Bool) (signal : Signal) → IsOfBytes signal → IsOfBytes (with_noise noisy signal)
with_noise-bytes noisy Silence are = tt
with_noise-bytes noisy Noise are = tt
with_noise-bytes noisy (Bits sender bytes) are =
    cond_both noisy Noise (Bits sender bytes) IsOfBytes (λ is. tt) (λ clear. are)

heard-bytes : (script : Script) (slot r : ℕ) (c : Channel) (frames : List SentFrame) → All HoldsBytes frames
    → IsOfBytes (heard script slot r c frames)
heard-bytes script slot r c frames are =
    let noisy = has_receive_fault script fault.Noise r c slot in
    let signal = channel_signal script slot c frames in
    cond_both (has_receive_fault script fault.Silence r c slot) Silence (with_noise noisy signal) IsOfBytes
    (λ silent. tt)
    (λ loud. with_noise-bytes noisy signal
    (combined-bytes script slot c (remaining_frames script slot c frames)
    (All-filter (remains script slot c) HoldsBytes frames are)))

-- Deliveries.

payload_heard-bytes : (list : Medl) (place : Place) (signal : Signal) → IsOfBytes signal
    → AreBytes (payload_heard list place signal)
payload_heard-bytes list place Silence are = no_bytes
payload_heard-bytes list place Noise are = no_bytes
payload_heard-bytes list place (Bits sender bytes) are =
    let n = 1 + carried_length (member_width list) (expected_header list place) in
    All-take IsByte (expected_length list place) (drop n bytes) (All-drop IsByte n bytes are)

payload_taken-bytes : (list : Medl) (expected : Expected) (h : Hearing) → IsOfBytes h.a → IsOfBytes h.b
    → AreBytes (payload_taken list expected h)
payload_taken-bytes list expected h of_a of_b =
    cond_both (is_first_view (view_of list expected h.deviation h.a)) (payload_heard list expected.place h.a)
    (payload_heard list expected.place h.b) AreBytes (λ first. payload_heard-bytes list expected.place h.a of_a)
    (λ other. payload_heard-bytes list expected.place h.b of_b)

abbrev pub BringsBytes : Delivered → Type 0
BringsBytes d = AreBytes d.payload

delivery-bytes : (list : Medl) (k : ℕ) (past : NodePast) (h : Hearing) (e : Entry) → IsOfBytes h.a → IsOfBytes h.b
    → IfSome (delivery list k past h e) BringsBytes
delivery-bytes list k past h (entry.Judged sender v deviation) of_a of_b =
    cond_both (is_correct v && carries_payload list (coming_place list past)) (Some _) None
    (λ (o : Option Delivered). IfSome o BringsBytes)
    (λ is. payload_taken-bytes list (expected_of list k past) h of_a of_b) (λ other. tt)
delivery-bytes list k past h _ of_a of_b = tt

-- The messages that a row tells are bytes where those are that hosts have written so far.

chosen-bytes : (list : Medl) (script : Script) (slot k : ℕ) (o : Option ℕ)
    → All AreBytes (out_messages list script k slot) → AreBytes (message_chosen list script slot k o).payload
chosen-bytes list script slot k None bytes = no_bytes
chosen-bytes list script slot k (Some i) bytes =
    get_or-each AreBytes (out_messages list script k slot) i [] bytes no_bytes

-- what is delivered in a slot is bytes, where hosts have written bytes
pub delivered-bytes : (list : Medl) (script : Script) (history : History) (row : List Entry) (r : ℕ)
    → ((k : ℕ) → All AreBytes (out_messages list script k (length history)))
    → IfSome (delivered_of list script history row r) BringsBytes
delivered-bytes list script history row r bytes =
    let s = slot_after list script history in
    let slot = length history in
    let chosen = messages_of list script slot row in
    let all : All (λ (c : Chosen). AreBytes c.payload) chosen =
    map-each (λ k. message_chosen list script slot k (message_of (entry_of row k)))
    (λ (c : Chosen). AreBytes c.payload)
    (below (length list.slots)) (λ k. chosen-bytes list script slot k (message_of (entry_of row k)) (bytes k)) in
    let frames =
    frames_in-bytes s chosen
    (λ k. get_or-each (λ (c : Chosen). AreBytes c.payload) chosen k nothing_chosen all no_bytes) in
    delivery-bytes list r (node_of s r).past (hearing_in s (frames_in s chosen) r) (entry_of row r)
    (heard-bytes script slot r channel.A (frames_in s chosen) frames)
    (heard-bytes script slot r channel.B (frames_in s chosen) frames)
