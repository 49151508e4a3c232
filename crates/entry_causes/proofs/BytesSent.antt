-- The frame that a node sends in a slot, by its entry.
use Rattle.ttp_world.proofs.Words.{◌≡◌, ℕ, ℤ, Bool, true, false, List, ◌++◌, length, Option, Some, None}
use Rattle.ttp_world.proofs.Words.{IfSome, refl, ap, sym, ◌∙◌, node_frames, new_entry, joinable}
use Rattle.ttp_world.proofs.Words.{SentFrame, NodePast, Hearing, BegunSlot, node_of, chosen_of, frames_of, frames_in}
use Rattle.ttp_world.proofs.Words.{hearing_in, cases_eq, eq-eqb, ne_eqb, false≢true}
use Rattle.std.proofs.Common.{zero, suc, ◌+◌, ◌<◌, ◌≤◌, inl, inr, arith}
use Rattle.std.specs.List.{flat_map, range_with_len}
use Rattle.ttp_world.specs.ZerosWorld.{all_zeros, zeros_world}
use Rattle.causes.specs.LinesOf.{bytes_sent}
use Rattle.causes.specs.RunSlots.{entry_in_slot, is_sent, is_started, past_in}
use Rattle.run_rows.specs.Rows.{slot_in}
use Rattle.ttp_world.proofs.EntriesMade.{listening_entry-holds, judging_entry-holds}
use Rattle.ttp_world.proofs.Slots.{entry_of-row_in}
use Rattle.ttp_world.specs.Conduct.{cold_start_frame, own_frame}
use Rattle.ttp_world.specs.World.{slot_after}
use Rattle.ttp_world.specs.declared.medl.Medl.{Medl}
use Rattle.ttp_world.specs.declared.node.Act.{Act}
use Rattle.ttp_world.specs.declared.node.Act.TheVariants.{Off, Gone, Listen, Start, Retry, Leave, Send, Judge}
use Rattle.ttp_world.specs.declared.node.CState.{CState}
use Rattle.ttp_world.specs.declared.node.Chosen.{Chosen}
use Rattle.ttp_world.specs.declared.node.Entry.TheVariants as entry
use Rattle.ttp_world.specs.declared.script.Script.{Script}

-- What is looked for among the frames of all nodes.

-- another node's frame is passed over
skips : (list : Medl) (j : ℕ) (past : NodePast) (chosen : Chosen) (a : Act)
    (rest : List SentFrame) (k : ℕ) → (j ≡ k → ⊥)
    → bytes_sent (node_frames list j past chosen a ++ rest) k ≡ bytes_sent rest k
skips list j past chosen Start rest k other =
    ap (λ (b : Bool). elim b as (λ c. List ℕ) [ true ↦ cold_start_frame list j | false ↦ bytes_sent rest k ])
    (ne_eqb j k other)
skips list j past chosen Send rest k other =
    ap (λ (b : Bool). elim b as (λ c. List ℕ) [ true ↦ own_frame list j past chosen | false ↦ bytes_sent rest k ])
    (ne_eqb j k other)
skips list j past chosen Off rest k other = refl
skips list j past chosen Gone rest k other = refl
skips list j past chosen Retry rest k other = refl
skips list j past chosen (Leave why) rest k other = refl
skips list j past chosen Listen rest k other = refl
skips list j past chosen Judge rest k other = refl

bytes-range : (s : BegunSlot) (chosen : List Chosen) (k : ℕ) (bytes : List ℕ) (a n : ℕ) → a ≤ k → k < a + n
    → ((rest : List SentFrame) → bytes_sent (frames_of s chosen k ++ rest) k ≡ bytes)
    → bytes_sent (flat_map (frames_of s chosen) (range_with_len a n)) k ≡ bytes
bytes-range s chosen k bytes a zero from to found = absurd (omega (arith, from, to))
bytes-range s chosen k bytes a (suc n) from to found =
    let rest = flat_map (frames_of s chosen) (range_with_len (a + 1) n) in
    elim (cases_eq a k) [
      | inl same ↦ ap (λ (m : ℕ). bytes_sent (frames_of s chosen m ++ rest) k) same ∙ found rest
      | inr other ↦
          skips s.list a (node_of s a).past (chosen_of chosen a) (node_of s a).act rest k other
          ∙ bytes-range s chosen k bytes (a + 1) n (omega (arith, from, other)) (omega (arith, to)) found
    ]

-- A cold start.

join-started : (c : Option CState) → IfSome c (λ c. (d : ℤ) → is_started (entry.Joined c.slot c d) ≡ false)
join-started None = tt
join-started (Some c) = λ d. refl

found-started : (list : Medl) (k : ℕ) (past : NodePast) (chosen : Chosen) (h : Hearing) (a : Act)
    → is_started (new_entry list k past chosen h a) ≡ true
    → (rest : List SentFrame) → bytes_sent (node_frames list k past chosen a ++ rest) k ≡ cold_start_frame list k
found-started list k past chosen h Start is rest =
    ap (λ (b : Bool). elim b as (λ c. List ℕ) [ true ↦ cold_start_frame list k | false ↦ bytes_sent rest k ])
    (eq-eqb k k refl)
found-started list k past chosen h Send is rest = absurd (false≢true is)
found-started list k past chosen h Off is rest = absurd (false≢true is)
found-started list k past chosen h Gone is rest = absurd (false≢true is)
found-started list k past chosen h Retry is rest = absurd (false≢true is)
found-started list k past chosen h (Leave why) is rest = absurd (false≢true is)
found-started list k past chosen h Listen is rest =
    let not_so =
    listening_entry-holds (λ e. is_started e ≡ false) list h refl (λ bytes. join-started (joinable list bytes)) in
    absurd (false≢true (sym not_so ∙ is))
found-started list k past chosen h Judge is rest =
    let not_so =
    judging_entry-holds (λ e. is_started e ≡ false) list k past h (λ why peer. refl) (λ v d. refl) in
    absurd (false≢true (sym not_so ∙ is))

pub bytes-started : (list : Medl) (script : Script) (slot k : ℕ) → k < length list.slots
    → is_started (entry_in_slot k (slot_in list script slot)) ≡ true
    → bytes_sent (slot_in list script slot).frames k ≡ cold_start_frame list k
unfolding slot_in
bytes-started list script slot k node started =
    let s = slot_after list script (zeros_world list script slot) in
    let chosen = all_zeros list in
    bytes-range s chosen k (cold_start_frame list k) 0 (length list.slots) (omega arith) (omega (arith, node))
    (found-started list k (node_of s k).past (chosen_of chosen k)
    (hearing_in s (frames_in s chosen) k) (node_of s k).act
    (ap is_started (sym (entry_of-row_in s chosen k node)) ∙ started))

-- A frame of its own slot.

join-sent : (c : Option CState) → IfSome c (λ c. (d : ℤ) → is_sent (entry.Joined c.slot c d) ≡ false)
join-sent None = tt
join-sent (Some c) = λ d. refl

found-sent : (list : Medl) (k : ℕ) (past : NodePast) (chosen : Chosen) (h : Hearing) (a : Act)
    → is_sent (new_entry list k past chosen h a) ≡ true
    → (rest : List SentFrame) → bytes_sent (node_frames list k past chosen a ++ rest) k ≡ own_frame list k past chosen
found-sent list k past chosen h Send is rest =
    ap (λ (b : Bool). elim b as (λ c. List ℕ) [ true ↦ own_frame list k past chosen | false ↦ bytes_sent rest k ])
    (eq-eqb k k refl)
found-sent list k past chosen h Start is rest = absurd (false≢true is)
found-sent list k past chosen h Off is rest = absurd (false≢true is)
found-sent list k past chosen h Gone is rest = absurd (false≢true is)
found-sent list k past chosen h Retry is rest = absurd (false≢true is)
found-sent list k past chosen h (Leave why) is rest = absurd (false≢true is)
found-sent list k past chosen h Listen is rest =
    let not_so =
    listening_entry-holds (λ e. is_sent e ≡ false) list h refl (λ bytes. join-sent (joinable list bytes)) in
    absurd (false≢true (sym not_so ∙ is))
found-sent list k past chosen h Judge is rest =
    let not_so =
    judging_entry-holds (λ e. is_sent e ≡ false) list k past h (λ why peer. refl) (λ v d. refl) in
    absurd (false≢true (sym not_so ∙ is))

pub bytes-own : (list : Medl) (script : Script) (slot k : ℕ) → k < length list.slots
    → is_sent (entry_in_slot k (slot_in list script slot)) ≡ true
    → bytes_sent (slot_in list script slot).frames k
    ≡ own_frame list k (past_in k (slot_in list script slot)) (chosen_of (all_zeros list) k)
unfolding slot_in
bytes-own list script slot k node sent =
    let s = slot_after list script (zeros_world list script slot) in
    let chosen = all_zeros list in
    bytes-range s chosen k (own_frame list k (node_of s k).past (chosen_of chosen k)) 0
    (length list.slots) (omega arith)
    (omega (arith, node))
    (found-sent list k (node_of s k).past (chosen_of chosen k) (hearing_in s (frames_in s chosen) k) (node_of s k).act
    (ap is_sent (sym (entry_of-row_in s chosen k node)) ∙ sent))
