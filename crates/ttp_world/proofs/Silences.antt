-- Silence does not depend on what frames hold, so a slot was silent to a node by the entries of those that sent.
use Rattle.ttp_world.proofs.Words.{◌≡◌, ℕ, ℤ, Bool, true, false, cond, ◌&&◌, List, [], ◌∷◌, ◌++◌, length, Option, Some}
use Rattle.ttp_world.proofs.Words.{None, IfSome, refl, ap, sym, ◌∙◌, map, filter, map-append, below}
use Rattle.ttp_world.proofs.Words.{flat_map_agree-below, Medl, Act, Off, Gone, Listen, Start, Retry, Leave, Send, Judge}
use Rattle.ttp_world.proofs.Words.{Chosen, CState, Entry, Channel, Script, node_frames, new_entry, entry_of, joinable}
use Rattle.ttp_world.proofs.Words.{SentFrame, Signal, Silence, Noise, Bits, remains, remaining_frames, combined_signal}
use Rattle.ttp_world.proofs.Words.{with_noise, heard, NodePast, Hearing, has_send_fault, has_receive_fault, BegunSlot}
use Rattle.ttp_world.proofs.Words.{node_of, chosen_of, frames_of, frames_in, hearing_in, row_in}
use Rattle.std.specs.List.{flat_map}
use Rattle.ttp_world.specs.declared.node.Entry.TheVariants as entry
use Rattle.ttp_world.specs.declared.script.Channel.TheVariants as channel
use Rattle.ttp_world.specs.declared.script.Fault.TheVariants as fault
use Rattle.ttp_world.specs.Medium.{is_silence}
use Rattle.ttp_world.specs.Medium.{is_silent_to, is_sending, sender_only}
use Rattle.ttp_world.specs.Medium.{senders_in}
use Rattle.ttp_world.proofs.EntriesMade.{listening_entry-holds, judging_entry-holds}
use Rattle.ttp_world.proofs.Slots.{length-row_in, entry_of-row_in}

-- Frames without their bytes.

abbrev without_bytes : SentFrame → SentFrame
without_bytes sent = sender_only sent.sender

kept_or : (keeps : Bool) (sent : SentFrame) (rest : List SentFrame)
    → cond keeps (without_bytes sent ∷ map without_bytes rest) (map without_bytes rest)
    ≡ map without_bytes (cond keeps (sent ∷ rest) rest)
kept_or true sent rest = refl
kept_or false sent rest = refl

remaining-without_bytes : (script : Script) (slot : ℕ) (c : Channel) (frames : List SentFrame)
    → remaining_frames script slot c (map without_bytes frames)
    ≡ map without_bytes (remaining_frames script slot c frames)
remaining-without_bytes script slot c [] = refl
remaining-without_bytes script slot c (sent ∷ frames) =
    ap (λ rest. cond (remains script slot c sent) (without_bytes sent ∷ rest) rest)
    (remaining-without_bytes script slot c frames)
    ∙ kept_or (remains script slot c sent) sent (remaining_frames script slot c frames)

-- one frame is no silence, whatever it holds
one_frame : (faulty noisy : Bool) (sender : ℕ) (bytes bits : List ℕ)
    → is_silence (with_noise noisy (cond faulty Noise (Bits sender bytes)))
    ≡ is_silence (with_noise noisy (cond faulty Noise (Bits sender bits)))
one_frame true noisy sender bytes bits = refl
one_frame false true sender bytes bits = refl
one_frame false false sender bytes bits = refl

combined-without_bytes : (script : Script) (slot : ℕ) (c : Channel) (noisy : Bool) (frames : List SentFrame)
    → is_silence (with_noise noisy (combined_signal script slot c (map without_bytes frames)))
    ≡ is_silence (with_noise noisy (combined_signal script slot c frames))
combined-without_bytes script slot c noisy [] = refl
combined-without_bytes script slot c noisy (sent ∷ []) =
    one_frame (has_send_fault script fault.Noise sent.sender c slot) noisy sent.sender _ _
combined-without_bytes script slot c noisy (sent ∷ more ∷ others) = refl

or_silence : (silenced : Bool) (s t : Signal) → is_silence s ≡ is_silence t
    → is_silence (cond silenced Silence s) ≡ is_silence (cond silenced Silence t)
or_silence true s t same = refl
or_silence false s t same = same

heard-without_bytes : (script : Script) (slot r : ℕ) (c : Channel) (frames : List SentFrame)
    → is_silence (heard script slot r c (map without_bytes frames)) ≡ is_silence (heard script slot r c frames)
heard-without_bytes script slot r c frames =
    let noisy = has_receive_fault script fault.Noise r c slot in
    or_silence (has_receive_fault script fault.Silence r c slot) _ _
    (ap (λ (left : List SentFrame). is_silence (with_noise noisy (combined_signal script slot c left)))
    (remaining-without_bytes script slot c frames)
    ∙ combined-without_bytes script slot c noisy (remaining_frames script slot c frames))

is_silent_to-without_bytes : (script : Script) (slot r : ℕ) (frames : List SentFrame)
    → is_silent_to script slot r (map without_bytes frames) ≡ is_silent_to script slot r frames
is_silent_to-without_bytes script slot r frames =
    λ i. heard-without_bytes script slot r channel.A frames i && heard-without_bytes script slot r channel.B frames i

-- A node sends exactly where its entry says so.

join-sends : (c : Option CState)
    → IfSome c (λ c. (d : ℤ) → is_sending (entry.Joined c.slot c d) ≡ false)
join-sends None = tt
join-sends (Some c) = λ d. refl

abbrev sender_if : ℕ → Bool → List SentFrame
sender_if k sends = cond sends (sender_only k ∷ []) []

new_entry-sends : (list : Medl) (k : ℕ) (past : NodePast) (chosen : Chosen) (h : Hearing) (a : Act)
    → sender_if k (is_sending (new_entry list k past chosen h a)) ≡ map without_bytes (node_frames list k past chosen a)
new_entry-sends list k past chosen h Start = refl
new_entry-sends list k past chosen h Send = refl
new_entry-sends list k past chosen h Off = refl
new_entry-sends list k past chosen h Gone = refl
new_entry-sends list k past chosen h Retry = refl
new_entry-sends list k past chosen h (Leave why) = refl
new_entry-sends list k past chosen h Listen =
    ap (sender_if k)
    (listening_entry-holds (λ e. is_sending e ≡ false) list h refl (λ bytes. join-sends (joinable list bytes)))
new_entry-sends list k past chosen h Judge =
    ap (sender_if k)
    (judging_entry-holds (λ e. is_sending e ≡ false) list k past h (λ why peer. refl) (λ v d. refl))

-- All nodes.

picked : (p : ℕ → Bool) (xs : List ℕ) → map sender_only (filter p xs) ≡ flat_map (λ k. sender_if k (p k)) xs
picked p [] = refl
picked p (x ∷ xs) = picked_at (p x) x (filter p xs) ∙ ap (λ rest. sender_if x (p x) ++ rest) (picked p xs)
  where
    picked_at : (keeps : Bool) (x : ℕ) (rest : List ℕ)
        → map sender_only (cond keeps (x ∷ rest) rest) ≡ sender_if x keeps ++ map sender_only rest
    picked_at true x rest = refl
    picked_at false x rest = refl

map-flat_map : (f : ℕ → List SentFrame) (xs : List ℕ)
    → flat_map (λ k. map without_bytes (f k)) xs ≡ map without_bytes (flat_map f xs)
map-flat_map f [] = refl
map-flat_map f (x ∷ xs) =
    ap (λ rest. map without_bytes (f x) ++ rest) (map-flat_map f xs)
    ∙ sym (map-append without_bytes (f x) (flat_map f xs))

senders_in-row_in : (s : BegunSlot) (chosen : List Chosen)
    → senders_in (row_in s chosen) ≡ map without_bytes (frames_in s chosen)
senders_in-row_in s chosen =
    let n = length s.list.slots in
    let row = row_in s chosen in
    let sends = λ (k : ℕ). is_sending (entry_of row k) in
    picked sends (below (length row))
    ∙ ap (λ m. flat_map (λ k. sender_if k (sends k)) (below m)) (length-row_in s chosen)
    ∙ flat_map_agree-below (λ k. sender_if k (sends k)) (λ k. map without_bytes (frames_of s chosen k)) n (λ k node.
    ap (λ (e : Entry). sender_if k (is_sending e)) (entry_of-row_in s chosen k node)
    ∙ new_entry-sends s.list k (node_of s k).past (chosen_of chosen k) (hearing_in s (frames_in s chosen) k)
    (node_of s k).act)
    ∙ map-flat_map (frames_of s chosen) (below n)

-- a slot was silent to a node where the frames that were sent in it are
pub is_silent_to-row_in : (s : BegunSlot) (chosen : List Chosen) (r : ℕ)
    → is_silent_to s.script s.number r (senders_in (row_in s chosen))
    ≡ is_silent_to s.script s.number r (frames_in s chosen)
is_silent_to-row_in s chosen r =
    ap (is_silent_to s.script s.number r) (senders_in-row_in s chosen)
    ∙ is_silent_to-without_bytes s.script s.number r (frames_in s chosen)
