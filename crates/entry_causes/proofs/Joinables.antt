-- Whether somebody sends a frame on which a node can join, node by node.
use Rattle.ttp_world.proofs.Words.{◌≡◌, ℕ, Bool, true, false, ◌&&◌, List, [], ◌∷◌, length}
use Rattle.ttp_world.proofs.Words.{refl, ap, sym, ◌∙◌, below, node_frames, new_entry, joinable}
use Rattle.ttp_world.proofs.Words.{SentFrame, NodePast, Hearing, node_of, chosen_of, frames_of, frames_in, hearing_in}
use Rattle.ttp_world.proofs.Words.{list_any, list_any-append, AllByRecursion}
use Rattle.std.proofs.Common.{◌+◌, ◌<◌, ◌||◌, arith, is_some}
use Rattle.std.specs.List.{flat_map}
use Rattle.ttp_world.specs.ZerosWorld.{all_zeros, zeros_world}
use Rattle.causes.specs.LinesOf.{bytes_sent}
use Rattle.causes.specs.Listening.{has_joinable}
use Rattle.causes.specs.RunSlots.{is_sent, is_started}
use Rattle.entry_causes.proofs.BytesSent.{bytes-own, bytes-started}
use Rattle.entry_causes.specs.Hearing.{sends_joinable}
use Rattle.entry_causes.proofs.WhoSends.{join-sends}
use Rattle.run_rows.specs.Rows.{slot_in}
use Rattle.ttp_base.proofs.Below.{below-lt, below-next}
use Rattle.ttp_world.proofs.EntriesMade.{judging_entry-holds, listening_entry-holds}
use Rattle.ttp_world.proofs.MemberSets.{or-false}
use Rattle.ttp_world.proofs.RangeFacts.{any-range}
use Rattle.ttp_world.proofs.Slots.{entry_of-row_in}
use Rattle.ttp_world.specs.Conduct.{cold_start_frame, own_frame}
use Rattle.ttp_world.specs.Medium.{is_sending}
use Rattle.ttp_world.specs.World.{slot_after}
use Rattle.ttp_world.specs.declared.medl.Medl.{Medl}
use Rattle.ttp_world.specs.declared.node.Act.{Act}
use Rattle.ttp_world.specs.declared.node.Act.TheVariants.{Off, Gone, Listen, Start, Retry, Leave, Send, Judge}
use Rattle.ttp_world.specs.declared.node.Chosen.{Chosen}
use Rattle.ttp_world.specs.declared.node.Entry.{Entry}
use Rattle.ttp_world.specs.declared.script.Script.{Script}

-- Tests of some of a list.

any-flat_map : {X : Type 0} (q : X → Bool) (f : ℕ → List X) (xs : List ℕ)
    → list_any q (flat_map f xs) ≡ list_any (λ k. list_any q (f k)) xs
any-flat_map q f [] = refl
any-flat_map q f (x ∷ xs) =
    list_any-append q (f x) (flat_map f xs) ∙ ap (λ (b : Bool). list_any q (f x) || b) (any-flat_map q f xs)

any-agree : (n : ℕ) (f g : ℕ → Bool) (xs : List ℕ) → AllByRecursion (λ k. k < n) xs → ((k : ℕ) → k < n → f k ≡ g k)
    → list_any f xs ≡ list_any g xs
any-agree n f g [] all agree = refl
any-agree n f g (x ∷ xs) all agree = λ i. agree x all.0 i || any-agree n f g xs all.1 agree i

pub any-below : (t : ℕ → Bool) (n k : ℕ) → k < n → t k ≡ true → list_any t (below n) ≡ true
any-below t n k less is = any-range t 0 n k (omega arith) (omega (arith, less)) is

pub any-next : (t : ℕ → Bool) (k : ℕ) → list_any t (below k) ≡ false → t k ≡ false → list_any t (below (k + 1)) ≡ false
any-next t k before here =
    ap (list_any t) (below-next k) ∙ list_any-append t (below k) (k ∷ [])
    ∙ (λ i. before i || (here i || false))

-- Frames.

abbrev can_join : Medl → SentFrame → Bool
can_join list sent = is_some (joinable list sent.bytes)

of-act : (list : Medl) (k : ℕ) (past : NodePast) (chosen : Chosen) (h : Hearing) (a : Act) (bytes : List ℕ)
    → (is_started (new_entry list k past chosen h a) ≡ true → bytes ≡ cold_start_frame list k)
    → (is_sent (new_entry list k past chosen h a) ≡ true → bytes ≡ own_frame list k past chosen)
    → (is_sending (new_entry list k past chosen h a) && is_some (joinable list bytes))
    ≡ list_any (can_join list) (node_frames list k past chosen a)
of-act list k past chosen h Start bytes started sent =
    ap (λ (b : List ℕ). is_some (joinable list b)) (started refl)
    ∙ sym (or-false (is_some (joinable list (cold_start_frame list k))))
of-act list k past chosen h Send bytes started sent =
    ap (λ (b : List ℕ). is_some (joinable list b)) (sent refl)
    ∙ sym (or-false (is_some (joinable list (own_frame list k past chosen))))
of-act list k past chosen h Off bytes started sent = refl
of-act list k past chosen h Gone bytes started sent = refl
of-act list k past chosen h Retry bytes started sent = refl
of-act list k past chosen h (Leave why) bytes started sent = refl
of-act list k past chosen h Listen bytes started sent =
    ap (λ (b : Bool). b && is_some (joinable list bytes))
    (listening_entry-holds (λ e. is_sending e ≡ false) list h refl (λ heard. join-sends (joinable list heard)))
of-act list k past chosen h Judge bytes started sent =
    ap (λ (b : Bool). b && is_some (joinable list bytes))
    (judging_entry-holds (λ e. is_sending e ≡ false) list k past h (λ why peer. refl) (λ v d. refl))

of-node : (list : Medl) (script : Script) (slot k : ℕ) → k < length list.slots
    → sends_joinable (slot_in list script slot) k
    ≡ list_any (can_join list) (frames_of (slot_after list script (zeros_world list script slot)) (all_zeros list) k)
unfolding slot_in
of-node list script slot k node =
    let s = slot_after list script (zeros_world list script slot) in
    let chosen = all_zeros list in
    let past = (node_of s k).past in
    let made = entry_of-row_in s chosen k node in
    let bytes = bytes_sent (slot_in list script slot).frames k in
    ap (λ (e : Entry). is_sending e && is_some (joinable list bytes)) made
    ∙ of-act list k past (chosen_of chosen k) (hearing_in s (frames_in s chosen) k) (node_of s k).act bytes
    (λ started. bytes-started list script slot k node (ap is_started made ∙ started))
    (λ sent. bytes-own list script slot k node (ap is_sent made ∙ sent))

pub has_joinable-slot_in : (list : Medl) (script : Script) (slot : ℕ)
    → list_any (sends_joinable (slot_in list script slot)) (below (length list.slots))
    ≡ has_joinable (slot_in list script slot)
unfolding slot_in
has_joinable-slot_in list script slot =
    let s = slot_after list script (zeros_world list script slot) in
    any-agree (length list.slots) (sends_joinable (slot_in list script slot))
    (λ k. list_any (can_join list) (frames_of s (all_zeros list) k)) (below (length list.slots))
    (below-lt (length list.slots)) (of-node list script slot)
    ∙ sym (any-flat_map (can_join list) (frames_of s (all_zeros list)) (below (length list.slots)))
