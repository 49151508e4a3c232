-- What the line of a node shows lies within its list: its peer and the node that it doubts are nodes of the list, and
-- its counts begin anew with its own slot, so they don't pass a round.
use Rattle.std.proofs.Common.{◌≡◌, ◌≢◌, ℕ, ◌+◌, ◌-◌, ◌<◌, ◌≤◌, ℤ, Bool, true, false, cond, List, [], ◌∷◌, length}
use Rattle.std.proofs.Common.{Option, Some, None, IfSome, refl, sym, subst, ◌∙◌, arith}
use Rattle.std.specs.Prelude.{◌==◌, nat_le, nat_lt, if◌then◌else◌}
use Rattle.std.proofs.lemmas.Bool.{cond_both, eqb-false}
use Rattle.std.proofs.lemmas.Bool.Decides.{nat_tests}
use Rattle.ttp_world.specs.declared.medl.Medl.{Medl}
use Rattle.ttp_world.specs.declared.node.Ack.{Ack}
use Rattle.ttp_world.specs.declared.node.Ack.TheVariants as ack
use Rattle.ttp_world.specs.declared.node.Act.{Act}
use Rattle.ttp_world.specs.declared.node.Act.TheVariants.{Off, Gone, Listen, Start, Retry, Leave, Send, Judge}
use Rattle.ttp_world.specs.declared.node.Chosen.{Chosen}
use Rattle.ttp_world.specs.declared.node.CState.{CState}
use Rattle.ttp_world.specs.declared.node.Entry.{Entry}
use Rattle.ttp_world.specs.declared.node.Entry.TheVariants as entry
use Rattle.ttp_world.specs.declared.node.Phase.{Phase}
use Rattle.ttp_world.specs.declared.node.Phase.TheVariants as phase
use Rattle.ttp_world.specs.declared.node.Reason.TheVariants as reason
use Rattle.ttp_world.specs.declared.node.Verdict.{Verdict}
use Rattle.ttp_world.specs.declared.node.Verdict.TheVariants as verdict
use Rattle.ttp_world.specs.declared.script.Script.{Script}
use Rattle.ttp_world.specs.Acknowledgement.{is_correct, is_open}
use Rattle.ttp_world.specs.Act.{coming_place, is_start_due, own_act, phase_act, unacknowledged_act}
use Rattle.ttp_world.specs.After.{ack_answered, past_after}
use Rattle.ttp_world.specs.Conduct.{new_entry, verdict_entry}
use Rattle.ttp_world.specs.Counts.{is_rejection}
use Rattle.ttp_world.specs.Diary.{History, Place, SlotSurroundings, entry_of, next_place}
use Rattle.ttp_world.specs.Fitting.{joinable}
use Rattle.ttp_world.specs.Medium.{surroundings_in}
use Rattle.ttp_world.specs.Medl.{IsValid}
use Rattle.ttp_world.specs.Past.{NodePast}
use Rattle.ttp_world.specs.Reception.{Hearing}
use Rattle.ttp_world.specs.Script.{is_armed, is_on}
use Rattle.ttp_world.specs.Trace.{peer_of}
use Rattle.ttp_world.specs.World.{Numbers, chosen_of, frames_in, hearing_in, messages_chosen, node_after, node_past}
use Rattle.ttp_world.specs.World.{row_in, slot_after, world}
use Rattle.ttp_world.proofs.EntriesMade.{listening_entry-holds}
use Rattle.ttp_world.proofs.NextPasts.{node_past-next}
use Rattle.ttp_world.proofs.Places.{AreOfList, IsOfList, coming_place-of_list, entry_of-row_after-of_list}
use Rattle.ttp_world.proofs.Slots.{entry_of-row_after}
use Rattle.ttp_world.proofs.Worlds.{world-of_list}

-- How many slots a node's own slot comes after a slot of the list: a whole round after its own.

abbrev turns_left : ℕ → ℕ → ℕ → ℕ
turns_left n k slot = if nat_lt slot k then k - slot else n + k - slot

left-most : (n k slot : ℕ) → k < n → turns_left n k slot ≤ n
left-most n k slot node = grind (arith, nat_tests)

left-some : (n k slot : ℕ) → slot < n → 1 ≤ turns_left n k slot
left-some n k slot within = grind (arith, nat_tests)

-- in the next slot, unless that is its own, one less
left-fewer : (list : Medl) (k : ℕ) (place : Place) → k < length list.slots → (next_place list place).slot ≢ k
    → place.slot < length list.slots
    → turns_left (length list.slots) k (next_place list place).slot + 1 ≡ turns_left (length list.slots) k place.slot
left-fewer list k place node other within = grind (arith, nat_tests)

-- Entries.

-- a node judges another's slot, the one that comes, and leaves by its own doing or that of a node of the list
abbrev IsSound : Medl → ℕ → NodePast → Entry → Type 0
IsSound list k past (entry.Judged sender v deviation) = (sender ≡ (coming_place list past).slot) × (sender ≢ k)
IsSound list k past (entry.Left why peer) = peer < length list.slots
IsSound list k past _ = Unit {0}

abbrev IsElsewhere : Medl → ℕ → NodePast → Act → Type 0
IsElsewhere list k past Judge = (coming_place list past).slot ≢ k
IsElsewhere list k past _ = Unit {0}

own_act-elsewhere : (list : Medl) (k : ℕ) (past : NodePast) → IsElsewhere list k past (own_act past)
own_act-elsewhere list k past =
    let P = IsElsewhere list k past in
    cond_both (is_open past.ack) (unacknowledged_act past) _ P
    (λ unanswered. cond_both past.cold_start Retry (Leave reason.Unacknowledged) P (λ cold. tt) (λ warm. tt))
    (λ closed. cond_both (nat_le past.accepted past.rejected) (Leave reason.Clique) Send P (λ tie. tt) (λ more. tt))

act-elsewhere : (p : Phase) (list : Medl) (k : ℕ) (on armed : Bool) (past : NodePast)
    → IsElsewhere list k past (phase_act p list k on armed past)
act-elsewhere phase.Off list k on armed past =
    cond_both on Listen Off (IsElsewhere list k past) (λ is. tt) (λ not. tt)
act-elsewhere phase.Left list k on armed past =
    cond_both armed Listen Gone (IsElsewhere list k past) (λ is. tt) (λ not. tt)
act-elsewhere phase.Listening list k on armed past =
    cond_both (is_start_due list k past) Start Listen (IsElsewhere list k past) (λ due. tt) (λ early. tt)
act-elsewhere phase.Active list k on armed past =
    cond_both ((coming_place list past).slot == k) (own_act past) Judge (IsElsewhere list k past)
    (λ own. own_act-elsewhere list k past) (λ other. eqb-false (coming_place list past).slot k other)

sound-verdict : (list : Medl) (k : ℕ) (past : NodePast) (v : Verdict) (deviation : ℤ)
    → (coming_place list past).slot < length list.slots → (coming_place list past).slot ≢ k
    → IsSound list k past (verdict_entry (coming_place list past).slot v deviation)
sound-verdict list k past verdict.Denied deviation inside other = inside
sound-verdict list k past v deviation inside other = (refl, other)

sound-joined : (list : Medl) (k : ℕ) (past : NodePast) (c : Option CState)
    → IfSome c (λ c. (deviation : ℤ) → IsSound list k past (entry.Joined c.slot c deviation))
sound-joined list k past None = tt
sound-joined list k past (Some c) = λ deviation. tt

sound-made : (list : Medl) (k : ℕ) (past : NodePast) (chosen : Chosen) (h : Hearing) (does : Act)
    → k < length list.slots → (coming_place list past).slot < length list.slots → IsElsewhere list k past does
    → IsSound list k past (new_entry list k past chosen h does)
sound-made list k past chosen h Off node inside other = tt
sound-made list k past chosen h Gone node inside other = tt
sound-made list k past chosen h Start node inside other = tt
sound-made list k past chosen h Retry node inside other = tt
sound-made list k past chosen h (Leave why) node inside other = node
sound-made list k past chosen h Send node inside other = tt
sound-made list k past chosen h Listen node inside other =
    listening_entry-holds (IsSound list k past) list h tt (λ bytes. sound-joined list k past (joinable list bytes))
sound-made list k past chosen h Judge node inside other = sound-verdict list k past _ _ inside other

-- Pasts.

abbrev pub IsDoubtIn : ℕ → Ack → Type 0
IsDoubtIn n ack.Closed = Unit {0}
IsDoubtIn n ack.First = Unit {0}
IsDoubtIn n (ack.Doubt x) = x < n

pub record Stands (list : Medl) (k : ℕ) (past : NodePast) : Type 0 where
  pub slot : past.place.slot < length list.slots
  pub accepted : past.accepted + turns_left (length list.slots) k past.place.slot ≤ length list.slots + 1
  pub rejected : past.rejected + turns_left (length list.slots) k past.place.slot ≤ length list.slots
  pub doubt : IsDoubtIn (length list.slots) past.ack
  pub peer : IfSome (peer_of k past.entry) (λ p. p < length list.slots)

answered-in : (n : ℕ) (a : Ack) (v : Verdict) (sender : ℕ) → sender < n → IsDoubtIn n a
    → IsDoubtIn n (ack_answered a v sender)
answered-in n ack.Closed v sender inside is = tt
answered-in n a verdict.Correct sender inside is = tt
answered-in n a verdict.Tentative sender inside is = inside
answered-in n a _ sender inside is = is

one_more : (b : Bool) (count : ℕ) → cond b 1 0 + count < count + 2
one_more true count = omega arith
one_more false count = omega arith

-- no frame was accepted but a node's own newest one, and none was rejected
fresh : (list : Medl) (k : ℕ) (past : NodePast) → k < length list.slots → past.place.slot < length list.slots
    → past.accepted ≤ 1 → past.rejected ≡ 0 → IsDoubtIn (length list.slots) past.ack
    → IfSome (peer_of k past.entry) (λ p. p < length list.slots)
    → Stands list k past
fresh list k past node inside good bad doubt peer =
    let most = left-most (length list.slots) k past.place.slot node in
    record {
      slot = inside;
      accepted = omega (arith, most, good);
      rejected = omega (arith, most, bad);
      doubt = doubt;
      peer = peer;
    }

-- one slot more
module _ (list : Medl) (k : ℕ) (past : NodePast) (s : SlotSurroundings) (valid : IsValid list)
    (node : k < length list.slots) (stands : Stands list k past) where
  next_slot : (next_place list past.place).slot < length list.slots
  next_slot = grind (arith, nat_tests, node, stands.slot)

  stands-after : (e : Entry) → IsOfList list e → IsSound list k past e → Stands list k (past_after list k past e s)
  stands-after entry.Started of_list sound = fresh list k _ node node (omega arith) refl tt node
  stands-after (entry.Joined sender cstate deviation) of_list sound =
      fresh list k _ node of_list.1.slot (omega arith) refl tt of_list.0
  stands-after (entry.Sent message) of_list sound = fresh list k _ node next_slot (omega arith) refl tt node
  stands-after (entry.Judged sender v deviation) of_list sound =
      let place = next_place list past.place in
      let fewer = left-fewer list k past.place node (λ same. sound.1 (sound.0 ∙ same)) stands.slot in
      record {
        slot = next_slot;
        accepted = omega (arith, fewer, stands.accepted, one_more (is_correct v) past.accepted);
        rejected = omega (arith, fewer, stands.rejected, one_more (is_rejection past.ack v) past.rejected);
        doubt = answered-in (length list.slots) past.ack v sender of_list stands.doubt;
        peer = of_list;
      }
  stands-after (entry.Left why peer) of_list sound =
      fresh list k _ node (omega (arith, node)) (omega arith) refl tt sound
  stands-after _ of_list sound = fresh list k _ node (omega (arith, node)) (omega arith) refl tt tt

-- Each slot of a run.

stands-next : (list : Medl) (script : Script) (history : History) (chosen : List Chosen) (k : ℕ) → IsValid list
    → AreOfList list history → k < length list.slots → Stands list k (node_past list script history k)
    → Stands list k (node_past list script (row_in (slot_after list script history) chosen ∷ history) k)
stands-next list script history chosen k valid of_list node stands =
    let s = slot_after list script history in
    let row = row_in s chosen in
    let past = node_past list script history k in
    let n = node_after list script history k in
    let sound : IsSound list k past (entry_of row k) =
    subst (IsSound list k past) (sym (entry_of-row_after list script history chosen k node))
    (sound-made list k past (chosen_of chosen k) (hearing_in s (frames_in s chosen) k) n.act node
    (coming_place-of_list list script history k valid node of_list).slot
    (act-elsewhere past.phase list k (is_on script k (length history)) (is_armed script k (length history)) past)) in
    subst (Stands list k) (sym (node_past-next list script history chosen k node))
    (stands-after list k past (surroundings_in script (length history) row k) valid node stands (entry_of row k)
    (entry_of-row_after-of_list list script history chosen k valid node of_list) sound)

stands-world : (list : Medl) (script : Script) (numbers : Numbers) (k : ℕ) → IsValid list → k < length list.slots
    → Stands list k (node_past list script (world list script numbers) k)
stands-world list script [] k valid node = fresh list k _ node (omega (arith, node)) (omega arith) refl tt tt
stands-world list script (new ∷ numbers) k valid node =
    stands-next list script (world list script numbers) (messages_chosen list script (length numbers) new.sent) k valid
    (world-of_list list script numbers valid) node (stands-world list script numbers k valid node)

-- What is shown of a node names nodes of the list, and its counts go up to the number of nodes.
pub record IsShownIn (list : Medl) (k : ℕ) (past : NodePast) : Type 0 where
  pub peer : IfSome (peer_of k past.entry) (λ p. p < length list.slots)
  pub accepted : past.accepted ≤ length list.slots
  pub rejected : past.rejected < length list.slots
  pub doubt : IsDoubtIn (length list.slots) past.ack

pub shown-in : (list : Medl) (script : Script) (numbers : Numbers) (k : ℕ) → IsValid list → k < length list.slots
    → IsShownIn list k (node_past list script (world list script numbers) k)
shown-in list script numbers k valid node =
    let past = node_past list script (world list script numbers) k in
    let stands = stands-world list script numbers k valid node in
    let some = left-some (length list.slots) k past.place.slot stands.slot in
    record {
      peer = stands.peer;
      accepted = omega (arith, stands.accepted, some);
      rejected = omega (arith, stands.rejected, some);
      doubt = stands.doubt;
    }
