-- Who sends in a slot is told by the entries of its nodes.
use Rattle.ttp_world.proofs.Words.{◌≡◌, ℕ, ℤ, Bool, true, false, cond, ◌&&◌, List, [], ◌∷◌, ◌++◌, length, Option, Some}
use Rattle.ttp_world.proofs.Words.{None, IfSome, refl, ap, sym, ◌∙◌, filter, map-append, below}
use Rattle.ttp_world.proofs.Words.{flat_map_agree-below, node_frames, new_entry, entry_of, joinable}
use Rattle.ttp_world.proofs.Words.{SentFrame, remaining_frames, NodePast, Hearing, has_send_fault, BegunSlot}
use Rattle.ttp_world.proofs.Words.{node_of, chosen_of, frames_of, frames_in, hearing_in, row_in}
use Rattle.std.specs.List.{flat_map}
use Rattle.std.specs.Prelude.{not}
use Rattle.ttp_world.specs.ZerosWorld.{all_zeros, zeros_world}
use Rattle.causes.specs.LinesOf.{remaining_in, senders_of, strikes}
use Rattle.entry_causes.specs.Senders.{is_left_on, sends_in, the_one}
use Rattle.run_looks.specs.Questions.{senders_by}
use Rattle.run_rows.specs.Rows.{slot_in}
use Rattle.ttp_base.proofs.NodeSets.{filter-filter}
use Rattle.ttp_world.proofs.EntriesMade.{listening_entry-holds, judging_entry-holds}
use Rattle.ttp_world.proofs.Slots.{entry_of-row_in}
use Rattle.ttp_world.specs.Medium.{is_sending}
use Rattle.ttp_world.specs.World.{slot_after}
use Rattle.ttp_world.specs.declared.medl.Medl.{Medl}
use Rattle.ttp_world.specs.declared.node.Act.{Act}
use Rattle.ttp_world.specs.declared.node.Act.TheVariants.{Off, Gone, Listen, Start, Retry, Leave, Send, Judge}
use Rattle.ttp_world.specs.declared.node.CState.{CState}
use Rattle.ttp_world.specs.declared.node.Chosen.{Chosen}
use Rattle.ttp_world.specs.declared.node.Entry.{Entry}
use Rattle.ttp_world.specs.declared.node.Entry.TheVariants as entry
use Rattle.ttp_world.specs.declared.script.Channel.{Channel}
use Rattle.ttp_world.specs.declared.script.Event.{Event}
use Rattle.ttp_world.specs.declared.script.Fault.{Fault}
use Rattle.ttp_world.specs.declared.script.Fault.TheVariants as fault
use Rattle.ttp_world.specs.declared.script.Script.{Script}

-- A node sends exactly where its entry says so.

abbrev if_sends : ℕ → Bool → List ℕ
if_sends k sends = cond sends (k ∷ []) []

pub join-sends : (c : Option CState) → IfSome c (λ c. (d : ℤ) → is_sending (entry.Joined c.slot c d) ≡ false)
join-sends None = tt
join-sends (Some c) = λ d. refl

new_entry-sends : (list : Medl) (k : ℕ) (past : NodePast) (chosen : Chosen) (h : Hearing) (a : Act)
    → if_sends k (is_sending (new_entry list k past chosen h a)) ≡ senders_of (node_frames list k past chosen a)
new_entry-sends list k past chosen h Start = refl
new_entry-sends list k past chosen h Send = refl
new_entry-sends list k past chosen h Off = refl
new_entry-sends list k past chosen h Gone = refl
new_entry-sends list k past chosen h Retry = refl
new_entry-sends list k past chosen h (Leave why) = refl
new_entry-sends list k past chosen h Listen =
    ap (if_sends k)
    (listening_entry-holds (λ e. is_sending e ≡ false) list h refl (λ bytes. join-sends (joinable list bytes)))
new_entry-sends list k past chosen h Judge =
    ap (if_sends k)
    (judging_entry-holds (λ e. is_sending e ≡ false) list k past h (λ why peer. refl) (λ v d. refl))

-- All nodes.

picked : (p : ℕ → Bool) (xs : List ℕ) → filter p xs ≡ flat_map (λ k. if_sends k (p k)) xs
picked p [] = refl
picked p (x ∷ xs) = picked_at (p x) x (filter p xs) ∙ ap (λ rest. if_sends x (p x) ++ rest) (picked p xs)
  where
    picked_at : (keeps : Bool) (x : ℕ) (rest : List ℕ) → cond keeps (x ∷ rest) rest ≡ if_sends x keeps ++ rest
    picked_at true x rest = refl
    picked_at false x rest = refl

senders-flat_map : (f : ℕ → List SentFrame) (xs : List ℕ)
    → flat_map (λ k. senders_of (f k)) xs ≡ senders_of (flat_map f xs)
senders-flat_map f [] = refl
senders-flat_map f (x ∷ xs) =
    ap (λ rest. senders_of (f x) ++ rest) (senders-flat_map f xs)
    ∙ sym (map-append (λ (sent : SentFrame). sent.sender) (f x) (flat_map f xs))

senders-row_in : (s : BegunSlot) (chosen : List Chosen)
    → filter (λ k. is_sending (entry_of (row_in s chosen) k)) (below (length s.list.slots))
    ≡ senders_of (frames_in s chosen)
senders-row_in s chosen =
    let n = length s.list.slots in
    let row = row_in s chosen in
    let sends = λ (k : ℕ). is_sending (entry_of row k) in
    picked sends (below n)
    ∙ flat_map_agree-below (λ k. if_sends k (sends k)) (λ k. senders_of (frames_of s chosen k)) n (λ k node.
    ap (λ (e : Entry). if_sends k (is_sending e)) (entry_of-row_in s chosen k node)
    ∙ new_entry-sends s.list k (node_of s k).past (chosen_of chosen k) (hearing_in s (frames_in s chosen) k)
    (node_of s k).act)
    ∙ senders-flat_map (frames_of s chosen) (below n)

-- the nodes that send in a slot of a run
pub senders-slot_in : (list : Medl) (script : Script) (slot : ℕ)
    → filter (sends_in (slot_in list script slot)) (below (length list.slots))
    ≡ senders_of (slot_in list script slot).frames
unfolding slot_in
senders-slot_in list script slot =
    senders-row_in (slot_after list script (zeros_world list script slot)) (all_zeros list)

-- What remains.

senders-filter : (p : ℕ → Bool) (frames : List SentFrame)
    → filter p (senders_of frames) ≡ senders_of (filter (λ sent. p sent.sender) frames)
senders-filter p [] = refl
senders-filter p (sent ∷ others) =
    ap (λ rest. cond (p sent.sender) (sent.sender ∷ rest) rest) (senders-filter p others)
    ∙ kept (p sent.sender) sent (filter (λ sent. p sent.sender) others)
  where
    kept : (keeps : Bool) (sent : SentFrame) (rest : List SentFrame)
        → cond keeps (sent.sender ∷ senders_of rest) (senders_of rest) ≡ senders_of (cond keeps (sent ∷ rest) rest)
    kept true sent rest = refl
    kept false sent rest = refl

remaining-of : (script : Script) (number : ℕ) (c : Channel) (frames : List SentFrame) (n : ℕ)
    (sends : ℕ → Bool)
    → filter sends (below n) ≡ senders_of frames
    → filter (λ k. sends k && not (has_send_fault script fault.Silence k c number)) (below n)
    ≡ senders_of (remaining_frames script number c frames)
remaining-of script number c frames n sends is =
    let left = λ (k : ℕ). not (has_send_fault script fault.Silence k c number) in
    sym (filter-filter sends left (below n)) ∙ ap (filter left) is ∙ senders-filter left frames

pub remaining-slot_in : (list : Medl) (script : Script) (slot : ℕ) (c : Channel)
    → filter (is_left_on c (slot_in list script slot)) (below (length list.slots))
    ≡ remaining_in c (slot_in list script slot)
remaining-slot_in list script slot c =
    let s = slot_in list script slot in
    remaining-of s.begun.script s.begun.number c s.frames (length list.slots) (sends_in s)
    (senders-slot_in list script slot)

-- One node alone.

pub strikes-the_one : (kind : Fault) (k : ℕ) (c : Channel) (slot : ℕ) (nodes : List ℕ) (e : Event)
    → strikes kind k c slot (senders_by (the_one nodes)) e ≡ strikes kind k c slot nodes e
strikes-the_one kind k c slot [] e = refl
strikes-the_one kind k c slot (p ∷ []) e = refl
strikes-the_one kind k c slot (p ∷ q ∷ others) e = refl
