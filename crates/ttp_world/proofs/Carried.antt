-- The messages that frames carry: which ones the entries of a row tell, and that no other choice matters.
use Rattle.ttp_world.proofs.Words.{◌≡◌, ℕ, ◌<◌, ℤ, Bool, true, false, List, [], ◌∷◌, length, Option, Some, None, IfSome}
use Rattle.ttp_world.proofs.Words.{if◌then◌else◌, refl, ap, sym, ◌∙◌, arith, map, true≢false, get_or-map-range_with_len}
use Rattle.ttp_world.proofs.Words.{map_agree-below, flat_map_agree-below, Medl, Act, Off, Gone, Listen, Start, Retry}
use Rattle.ttp_world.proofs.Words.{Leave, Send, Judge, Chosen, CState, Entry, Script, coming_place, carries_payload}
use Rattle.ttp_world.proofs.Words.{own_cstate, node_frames, new_entry, History, entry_of, joinable, header_of, frame}
use Rattle.ttp_world.proofs.Words.{member_width, kind_at, SentFrame, message_of, messages_of, delivered_of}
use Rattle.ttp_world.proofs.Words.{nothing_chosen, message_chosen, NodePast, Hearing, BegunSlot, slot_after, node_of}
use Rattle.ttp_world.proofs.Words.{is_loaded, chosen_of, frames_of, frames_in, hearing_in, entry_in, row_in}
use Rattle.ttp_world.proofs.Words.{delivered_in, messages_chosen}
use Rattle.std.proofs.Math.ListN.{get_or-map}
use Rattle.ttp_world.specs.declared.node.Entry.TheVariants as entry
use Rattle.ttp_world.specs.World.{sends_payload}
use Rattle.ttp_world.proofs.EntriesMade.{listening_entry-holds, judging_entry-holds}
use Rattle.ttp_world.proofs.Slots.{entry_of-row_in}

-- The entry of a node tells the number of the message in its frame, where the frame carries one.

join-silent : (c : Option CState) → IfSome c (λ c. (d : ℤ) → message_of (entry.Joined c.slot c d) ≡ None)
join-silent None = tt
join-silent (Some c) = λ d. refl

message_of-new_entry : (list : Medl) (k : ℕ) (past : NodePast) (chosen : Chosen) (h : Hearing) (does : Act)
    → message_of (new_entry list k past chosen h does)
    ≡ (if sends_payload list past does then Some chosen.number else None)
message_of-new_entry list k past chosen h Send = refl
message_of-new_entry list k past chosen h Off = refl
message_of-new_entry list k past chosen h Gone = refl
message_of-new_entry list k past chosen h Start = refl
message_of-new_entry list k past chosen h Retry = refl
message_of-new_entry list k past chosen h (Leave why) = refl
message_of-new_entry list k past chosen h Listen =
    listening_entry-holds (λ e. message_of e ≡ None) list h refl (λ bytes. join-silent (joinable list bytes))
message_of-new_entry list k past chosen h Judge =
    judging_entry-holds (λ e. message_of e ≡ None) list k past h (λ why peer. refl) (λ v d. refl)

pub message_of-entry_in : (s : BegunSlot) (chosen : List Chosen) (frames : List SentFrame) (k : ℕ)
    → message_of (entry_in s chosen frames k) ≡ (if is_loaded s k then Some (chosen_of chosen k).number else None)
message_of-entry_in s chosen frames k =
    message_of-new_entry s.list k (node_of s k).past (chosen_of chosen k) (hearing_in s frames k) (node_of s k).act

pub message_of-row_in : (s : BegunSlot) (chosen : List Chosen) (k : ℕ) → k < length s.list.slots
    → message_of (entry_of (row_in s chosen) k)
    ≡ (if is_loaded s k then Some (chosen_of chosen k).number else None)
message_of-row_in s chosen k node =
    ap message_of (entry_of-row_in s chosen k node) ∙ message_of-entry_in s chosen (frames_in s chosen) k

-- What is chosen for the other nodes does not matter.

-- two choices that agree for each node whose frame carries a message
pub record AgreeWhereLoaded (s : BegunSlot) (cs ds : List Chosen) : Type 0 where
  pub same : (k : ℕ) → k < length s.list.slots → is_loaded s k ≡ true → chosen_of cs k ≡ chosen_of ds k

agree_if : {X : Type 0} (read : Chosen → X) (none : X) (carries : Bool) (c d : Chosen) → (carries ≡ true → c ≡ d)
    → (if carries then read c else none) ≡ (if carries then read d else none)
agree_if read none true c d same = ap read (same refl)
agree_if read none false c d same = refl

node_frames-same : (list : Medl) (k : ℕ) (past : NodePast) (c d : Chosen) (does : Act)
    → (sends_payload list past does ≡ true → c ≡ d)
    → node_frames list k past c does ≡ node_frames list k past d does
node_frames-same list k past c d Send same =
    let place = coming_place list past in
    let payload = agree_if (λ (chosen : Chosen). chosen.payload) [] (carries_payload list place) c d same in
    λ i. record {
      sender = k;
      bytes =
          frame (member_width list) (header_of (kind_at list place.round place.slot)) (own_cstate list k past)
          (payload i) list.schedule;
    } ∷ []
node_frames-same list k past c d Off same = refl
node_frames-same list k past c d Gone same = refl
node_frames-same list k past c d Listen same = refl
node_frames-same list k past c d Start same = refl
node_frames-same list k past c d Retry same = refl
node_frames-same list k past c d (Leave why) same = refl
node_frames-same list k past c d Judge same = refl

new_entry-same : (list : Medl) (k : ℕ) (past : NodePast) (c d : Chosen) (h : Hearing) (does : Act)
    → (sends_payload list past does ≡ true → c ≡ d)
    → new_entry list k past c h does ≡ new_entry list k past d h does
new_entry-same list k past c d h Send same =
    ap entry.Sent
    (agree_if (λ (chosen : Chosen). Some chosen.number) None (carries_payload list (coming_place list past)) c d same)
new_entry-same list k past c d h Off same = refl
new_entry-same list k past c d h Gone same = refl
new_entry-same list k past c d h Listen same = refl
new_entry-same list k past c d h Start same = refl
new_entry-same list k past c d h Retry same = refl
new_entry-same list k past c d h (Leave why) same = refl
new_entry-same list k past c d h Judge same = refl

pub frames_in-same : (s : BegunSlot) (cs ds : List Chosen) → AgreeWhereLoaded s cs ds
    → frames_in s cs ≡ frames_in s ds
frames_in-same s cs ds agree =
    flat_map_agree-below (frames_of s cs) (frames_of s ds) (length s.list.slots)
    (λ k node. node_frames-same s.list k (node_of s k).past (chosen_of cs k) (chosen_of ds k) (node_of s k).act
    (agree.same k node))

pub row_in-same : (s : BegunSlot) (cs ds : List Chosen) → AgreeWhereLoaded s cs ds → row_in s cs ≡ row_in s ds
row_in-same s cs ds agree =
    map_agree-below (entry_in s cs (frames_in s cs)) (entry_in s ds (frames_in s ds)) (length s.list.slots)
    (λ k node. new_entry-same s.list k (node_of s k).past (chosen_of cs k) (chosen_of ds k)
    (hearing_in s (frames_in s cs) k) (node_of s k).act (agree.same k node)
    ∙ ap (λ (frames : List SentFrame). entry_in s ds frames k) (frames_in-same s cs ds agree))

pub delivered_in-same : (s : BegunSlot) (cs ds : List Chosen) (r : ℕ) (e : Entry) → AgreeWhereLoaded s cs ds
    → delivered_in s (frames_in s cs) r e ≡ delivered_in s (frames_in s ds) r e
delivered_in-same s cs ds r e agree =
    ap (λ (frames : List SentFrame). delivered_in s frames r e) (frames_in-same s cs ds agree)

-- The messages of a row by the numbers that its entries tell.

pub messages_chosen-told : (list : Medl) (script : Script) (slot : ℕ) (row : List Entry)
    → messages_chosen list script slot (map message_of row) ≡ messages_of list script slot row
messages_chosen-told list script slot row =
    map_agree-below _ _ (length list.slots)
    (λ k node. ap (message_chosen list script slot k) (get_or-map message_of row k entry.Off))

-- so where these were chosen, what was delivered is what the frames of the slot brought
pub delivered_of-told : (list : Medl) (script : Script) (history : History) (row : List Entry) (r : ℕ)
    → delivered_of list script history row r
    ≡ delivered_in (slot_after list script history)
    (frames_in (slot_after list script history)
    (messages_chosen list script (length history) (map message_of row))) r (entry_of row r)
delivered_of-told list script history row r =
    let s = slot_after list script history in
    ap (λ (chosen : List Chosen). delivered_in s (frames_in s chosen) r (entry_of row r))
    (sym (messages_chosen-told list script (length history) row))

-- Messages that hosts have written, chosen by their numbers.

-- each frame that carries a message carries one of its node's host
pub record AreOfHosts (s : BegunSlot) (chosen : List Chosen) : Type 0 where
  pub message : (k : ℕ) → k < length s.list.slots → is_loaded s k ≡ true
      → chosen_of chosen k ≡ message_chosen s.list s.script s.number k (Some (chosen_of chosen k).number)

loaded_number : (loaded : Bool) (i : ℕ) (o : Option ℕ) → loaded ≡ true → o ≡ (if loaded then Some i else None)
    → o ≡ Some i
loaded_number true i o is told = told
loaded_number false i o is told = absurd (true≢false (sym is))

-- they are the messages that the row tells
pub messages_of-row_in : (s : BegunSlot) (chosen : List Chosen) → AreOfHosts s chosen
    → AgreeWhereLoaded s chosen (messages_of s.list s.script s.number (row_in s chosen))
messages_of-row_in s chosen of_hosts = record {
  same = λ k node loaded.
      let told = loaded_number (is_loaded s k) (chosen_of chosen k).number
      (message_of (entry_of (row_in s chosen) k)) loaded (message_of-row_in s chosen k node) in
      of_hosts.message k node loaded
      ∙ ap (message_chosen s.list s.script s.number k) (sym told)
      ∙ sym (get_or-map-range_with_len
      (λ j. message_chosen s.list s.script s.number j (message_of (entry_of (row_in s chosen) j))) 0
      (length s.list.slots) k k nothing_chosen node (omega arith));
}

-- so the numbers that a row tells make that row
pub row_in-told : (s : BegunSlot) (chosen : List Chosen) → AreOfHosts s chosen
    → row_in s (messages_chosen s.list s.script s.number (map message_of (row_in s chosen))) ≡ row_in s chosen
row_in-told s chosen of_hosts =
    ap (row_in s) (messages_chosen-told s.list s.script s.number (row_in s chosen))
    ∙ sym (row_in-same s chosen (messages_of s.list s.script s.number (row_in s chosen))
    (messages_of-row_in s chosen of_hosts))

-- and what was delivered in the slot is what its frames brought
pub delivered_of-row_in : (list : Medl) (script : Script) (history : History) (chosen : List Chosen) (r : ℕ)
    → AreOfHosts (slot_after list script history) chosen
    → delivered_of list script history (row_in (slot_after list script history) chosen) r
    ≡ delivered_in (slot_after list script history) (frames_in (slot_after list script history) chosen) r
    (entry_of (row_in (slot_after list script history) chosen) r)
delivered_of-row_in list script history chosen r of_hosts =
    let s = slot_after list script history in
    sym (delivered_in-same s chosen (messages_of list script (length history) (row_in s chosen)) r
    (entry_of (row_in s chosen) r) (messages_of-row_in s chosen of_hosts))
