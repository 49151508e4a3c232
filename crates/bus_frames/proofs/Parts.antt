-- The words of a frame's bytes, and the line of what came.
use Rattle.std.proofs.Common.{◌≡◌, ℕ, suc, ◌+◌, ◌-◌, Bool, true, false, List, [], ◌∷◌}
use Rattle.std.proofs.Common.{◌++◌, length, take, drop, refl, ap, sym, subst, ◌∙◌}
use Rattle.std.proofs.Common.{true≢false}
use Rattle.std.specs.Prelude.{ℤ, nat_lt}
use Rattle.std.proofs.lemmas.Bool.{cond_both}
use Rattle.std.proofs.lemmas.List.{drop-drop}
use Rattle.ttp_base.proofs.Gathered.{gather-behind}
use Rattle.ttp_world.specs.declared.medl.Medl.{Medl}
use Rattle.ttp_world.specs.declared.script.Channel.{Channel}
use Rattle.ttp_world.specs.declared.script.Fault.TheVariants as fault
use Rattle.ttp_world.specs.declared.script.Script.{Script}
use Rattle.ttp_world.specs.Fitting.{carried_length, payload_in}
use Rattle.ttp_world.specs.Medium.{SentFrame, Signal, Silence, Noise, Bits, flip_bit}
use Rattle.ttp_world.specs.Medium.{flip_bits, flip_in_byte, signal_of}
use Rattle.ttp_world.specs.Medl.{member_width}
use Rattle.ttp_world.specs.Script.{flipped_bits, has_send_fault}
use Rattle.medium.specs.declared.arrival.Arrival.{Arrival}
use Rattle.medium.specs.declared.arrival.Arrival.TheVariants as arrival
use Rattle.medium.specs.Shows.{Shows}
use Rattle.bus_frames.specs.declared.sending.Sending.{Sending}
use Rattle.bus_frames.specs.FrameText.{byte_words, signal_line, spaced}
use Rattle.bus_frames.specs.Standing.{IsAsLong}

module _ (old l1 l2 l3 l4 bytes b1 b2 first state payload word : List ℕ) where
  pub bytes-line : (width header size n : ℕ) → l1 ≡ old ++ spaced first → first ≡ take 1 bytes → b1 ≡ drop 1 bytes
      → l2 ≡ l1 ++ spaced state → state ≡ take n b1 → b2 ≡ drop n b1 → l3 ≡ l2 ++ spaced payload
      → payload ≡ take size b2 → l4 ≡ l3 ++ spaced word → word ≡ drop size b2 → n ≡ carried_length width header
      → l4 ≡ old ++ byte_words width header size bytes
  bytes-line width header size n p1 q1 r1 p2 q2 r2 p3 q3 p4 q4 n_is =
      let m = carried_length width header in
      let behind : b2 ≡ drop (1 + m) bytes =
      r2 ∙ ap (drop n) r1 ∙ drop-drop n 1 bytes ∙ ap (λ j. drop (1 + j) bytes) n_is in
      let state_is : state ≡ take m (drop 1 bytes) = q2 ∙ ap (λ j. take j b1) n_is ∙ ap (take m) r1 in
      let payload_is : payload ≡ payload_in width header size bytes = q3 ∙ ap (take size) behind in
      let word_is : word ≡ drop (1 + m + size) bytes = q4 ∙ ap (drop size) behind ∙ drop-drop size (1 + m) bytes in
      p4 ∙ ap (λ l. l ++ spaced word) (p3 ∙ ap (λ l. l ++ spaced payload) (p2 ∙ ap (λ l. l ++ spaced state) p1))
      ∙ sym (gather-behind old (spaced first ∷ spaced state ∷ spaced payload ∷ spaced word ∷ []))
      ∙ (λ i. old ++ (spaced (q1 i) ++ spaced (state_is i) ++ spaced (payload_is i) ++ spaced (word_is i)))

-- What came.

abbrev pub is_bits : Arrival → Bool
is_bits (arrival.Bits bytes offset) = true
is_bits _ = false

abbrev pub bytes_of : Arrival → List ℕ
bytes_of (arrival.Bits bytes offset) = bytes.now
bytes_of _ = []

-- bits that came are those that the signal shows
pub came-line : (list : Medl) (slot : ℕ) (c : Channel) (sending : Sending) (came : Arrival) (s : Signal) (clock : ℕ → ℤ)
    → is_bits came ≡ true → Shows came s clock
    → signal_line list slot c sending (Bits 0 (bytes_of came)) ≡ signal_line list slot c sending s
came-line list slot c sending (arrival.Bits bytes offset) Silence clock is shows =
    absurd (true≢false (ap is_bits shows))
came-line list slot c sending (arrival.Bits bytes offset) Noise clock is shows = absurd (true≢false (ap is_bits shows))
came-line list slot c sending (arrival.Bits bytes offset) (Bits k sent) clock is shows =
    ap (λ (b : List ℕ). signal_line list slot c sending (Bits 0 b)) shows.0
came-line list slot c sending arrival.Silence s clock is shows = absurd (true≢false (sym is))
came-line list slot c sending arrival.Noise s clock is shows = absurd (true≢false (sym is))

abbrev IsLongSignal : ℕ → Signal → Type 0
IsLongSignal n (Bits k bytes) = length bytes ≡ n
IsLongSignal n _ = Unit {0}

long-came : (list : Medl) (sending : Sending) (came : Arrival) (s : Signal) (clock : ℕ → ℤ) → Shows came s clock
    → IsLongSignal (1 + carried_length (member_width list) sending.header + sending.size + 3) s
    → IsAsLong list sending came
long-came list sending came Silence clock shows long = subst (IsAsLong list sending) (sym shows) tt
long-came list sending came Noise clock shows long = subst (IsAsLong list sending) (sym shows) tt
long-came list sending (arrival.Bits bytes offset) (Bits k sent) clock shows long = ap length shows.0 ∙ long
long-came list sending arrival.Silence (Bits k sent) clock shows long = tt
long-came list sending arrival.Noise (Bits k sent) clock shows long = tt

length-flip_bit : (bytes : List ℕ) (bit : ℕ) → length (flip_bit bytes bit) ≡ length bytes
length-flip_bit [] bit = refl
length-flip_bit (byte ∷ bytes) bit =
    cond_both (nat_lt bit 8) (flip_in_byte (7 - bit) byte ∷ bytes) (byte ∷ flip_bit bytes (bit - 8))
    (λ (bs : List ℕ). length bs ≡ suc (length bytes)) (λ near. refl)
    (λ behind. ap suc (length-flip_bit bytes (bit - 8)))

length-flip_bits : (bits bytes : List ℕ) → length (flip_bits bytes bits) ≡ length bytes
length-flip_bits [] bytes = refl
length-flip_bits (bit ∷ bits) bytes = length-flip_bits bits (flip_bit bytes bit) ∙ length-flip_bit bytes bit

-- what remains of a frame on a channel is as long as it was sent
long-signal : (script : Script) (slot n : ℕ) (c : Channel) (sent : SentFrame) → length sent.bytes ≡ n
    → IsLongSignal n (signal_of script slot c sent)
long-signal script slot n c sent long =
    cond_both (has_send_fault script fault.Noise sent.sender c slot) Noise
    (Bits sent.sender (flip_bits sent.bytes (flipped_bits script sent.sender c slot))) (IsLongSignal n) (λ noisy. tt)
    (λ whole. length-flip_bits (flipped_bits script sent.sender c slot) sent.bytes ∙ long)

pub long-shown : (list : Medl) (sending : Sending) (script : Script) (slot : ℕ) (c : Channel) (sent : SentFrame)
    (came : Arrival) (clock : ℕ → ℤ) → Shows came (signal_of script slot c sent) clock
    → length sent.bytes ≡ 1 + carried_length (member_width list) sending.header + sending.size + 3
    → IsAsLong list sending came
long-shown list sending script slot c sent came clock shows long =
    long-came list sending came (signal_of script slot c sent) clock shows (long-signal script slot _ c sent long)
