-- An active node in its own slot: it sends, or leaves, or withdraws its cold start.
use Rattle.safety_laws.proofs.Words.{◌≡◌, ℕ, ◌<◌, ◌≤◌, Bool, true, false, cond, not, List, [], ◌∷◌, length, refl, ap}
use Rattle.safety_laws.proofs.Words.{sym, ◌∙◌, subst, ◌==◌, nat_le, eq-eqb, eqb-true, le-leb, lt-leb, with_node, Ack}
use Rattle.safety_laws.proofs.Words.{Act, Retry, Leave, Send, Judge, Entry, Phase, is_open, phase_act, own_act}
use Rattle.safety_laws.proofs.Words.{past_after, message_sent, own_frame, node_frames, new_entry, phase_after, NodePast}
use Rattle.safety_laws.proofs.Words.{expected_length, nodes-most, NodeSlot, act_made, frames_made, entry_made}
use Rattle.safety_laws.proofs.Words.{next_past, IsSlotFrame, StandsBy, HasJustLeft, sent_standing, IsAtOwnSlot}
use Rattle.safety_laws.proofs.Words.{HasPayload}
use Rattle.ttp_world.specs.declared.node.Ack.TheVariants as ack
use Rattle.ttp_world.specs.declared.node.Entry.TheVariants as entry
use Rattle.ttp_world.specs.declared.node.Phase.TheVariants as phase
use Rattle.ttp_world.specs.declared.node.Reason.{Reason}
use Rattle.ttp_world.specs.declared.node.Reason.TheVariants as reason
use Rattle.ttp_world.specs.Act.{unacknowledged_act}
use Rattle.ttp_world.specs.Conduct.{payload_sent}
use Rattle.ttp_world.proofs.MemberSets.{members_after-Sent}
use Rattle.safety_laws.specs.NodeSlot.{slot_place}
use Rattle.safety_laws.proofs.GroupSets.{AreNodes-with}

-- What the node does, by its past alone.

act-own : (x : NodeSlot) → IsAtOwnSlot x → act_made x ≡ own_act x.past
act-own x is =
    ap (λ (p : Phase). phase_act p x.list x.node x.on x.armed x.past) is.active
    ∙ ap (λ own. cond own (own_act x.past) Judge) (eq-eqb _ x.node is.own)

entry_made-own : (x : NodeSlot) (does : Act) → IsAtOwnSlot x → own_act x.past ≡ does
    → new_entry x.list x.node x.past x.chosen x.hearing does ≡ entry_made x
entry_made-own x does is own =
    ap (λ (a : Act). new_entry x.list x.node x.past x.chosen x.hearing a) (sym (act-own x is ∙ own))

own_act-open : (past : NodePast) → is_open past.ack ≡ true → own_act past ≡ unacknowledged_act past
own_act-open past opened =
    ap (λ b. cond b (unacknowledged_act past)
    (cond (nat_le past.accepted past.rejected) (Leave reason.Clique) Send)) opened

own_act-closed : (past : NodePast) → past.ack ≡ ack.Closed
    → own_act past ≡ cond (nat_le past.accepted past.rejected) (Leave reason.Clique) Send
own_act-closed past closed =
    ap (λ (a : Ack). cond (is_open a) (unacknowledged_act past)
    (cond (nat_le past.accepted past.rejected) (Leave reason.Clique) Send)) closed

own_act-sends : (past : NodePast) → past.ack ≡ ack.Closed → past.rejected < past.accepted → own_act past ≡ Send
own_act-sends past closed more =
    own_act-closed past closed ∙ ap (λ b. cond b (Leave reason.Clique) Send) (lt-leb past.accepted past.rejected more)

own_act-clique : (past : NodePast) → past.ack ≡ ack.Closed → past.accepted ≤ past.rejected
    → own_act past ≡ Leave reason.Clique
own_act-clique past closed few =
    own_act-closed past closed ∙ ap (λ b. cond b (Leave reason.Clique) Send) (le-leb past.accepted past.rejected few)

-- It sends.

stands-sent : (x : NodeSlot) → IsAtOwnSlot x →
    let message = message_sent x.list (slot_place x) x.chosen in
    StandsBy (past_after x.list x.node x.past (entry.Sent message) x.around) (entry.Sent message)
    (sent_standing x message)
stands-sent x is = record {
  phase = refl;
  entry = refl;
  place = refl;
  members = sym (members_after-Sent x.list x.node x.past.members x.past.ack
      (message_sent x.list (slot_place x) x.chosen) is.members is.node (nodes-most x.list is.valid));
  accepted = refl;
  rejected = refl;
  ack = refl;
  cold_start = refl;
  notes = refl;
}

pub act_made-sends : (x : NodeSlot) → IsAtOwnSlot x → x.past.ack ≡ ack.Closed → x.past.rejected < x.past.accepted
    → act_made x ≡ Send
act_made-sends x is closed more = act-own x is ∙ own_act-sends x.past closed more

pub sent-own : (x : NodeSlot) → IsAtOwnSlot x → x.past.ack ≡ ack.Closed → x.past.rejected < x.past.accepted →
    let message = message_sent x.list (slot_place x) x.chosen in
    StandsBy (next_past x) (entry.Sent message) (sent_standing x message)
sent-own x is closed more =
    let message = message_sent x.list (slot_place x) x.chosen in
    subst (λ (made : Entry). StandsBy (past_after x.list x.node x.past made x.around) (entry.Sent message)
    (sent_standing x message)) (entry_made-own x Send is (own_act-sends x.past closed more)) (stands-sent x is)

-- one frame, which is that of the slot with the node as a member

pub frames_made-own : (x : NodeSlot) → IsAtOwnSlot x → x.past.ack ≡ ack.Closed → x.past.rejected < x.past.accepted
    → frames_made x ≡ record { sender = x.node; bytes = own_frame x.list x.node x.past x.chosen } ∷ []
frames_made-own x is closed more = ap (node_frames x.list x.node x.past x.chosen) (act_made-sends x is closed more)

size_sent : (size : ℕ) (payload : List ℕ) → (not (size == 0) ≡ true → length payload ≡ size)
    → length (cond (not (size == 0)) payload []) ≡ size
size_sent size payload fits = by (size == 0) refl
  where
    by : (none : Bool) → (size == 0) ≡ none → length (cond (not (size == 0)) payload []) ≡ size
    by true is = ap (λ b. length (cond (not b) payload [])) is ∙ sym (eqb-true size 0 is)
    by false is = ap (λ b. length (cond (not b) payload [])) is ∙ fits (ap not is)

pub IsSlotFrame-own : (x : NodeSlot) → IsAtOwnSlot x → HasPayload x
    → IsSlotFrame x.list (slot_place x) (with_node x.past.members x.node) (own_frame x.list x.node x.past x.chosen)
IsSlotFrame-own x is fits = record {
  payload = payload_sent x.list (slot_place x) x.chosen;
  size = size_sent (expected_length x.list (slot_place x)) x.chosen.payload fits;
  nodes = AreNodes-with x.list x.past.members x.node is.valid is.members is.node;
  same = refl;
}

-- It leaves, and sends nothing.

left-by : (x : NodeSlot) (why : Reason) → IsAtOwnSlot x → own_act x.past ≡ Leave why
    → HasJustLeft (next_past x) why x.node × (frames_made x ≡ [])
left-by x why is own = (
  subst (λ (made : Entry). HasJustLeft (past_after x.list x.node x.past made x.around) why x.node)
      (entry_made-own x (Leave why) is own) (record { phase = refl; entry = refl; members = refl; ack = refl }),
  ap (node_frames x.list x.node x.past x.chosen) (act-own x is ∙ own),
)

pub left-unacknowledged : (x : NodeSlot) → IsAtOwnSlot x → is_open x.past.ack ≡ true → x.past.cold_start ≡ false
    → HasJustLeft (next_past x) reason.Unacknowledged x.node × (frames_made x ≡ [])
left-unacknowledged x is opened later =
    left-by x reason.Unacknowledged is
    (own_act-open x.past opened ∙ ap (λ b. cond b Retry (Leave reason.Unacknowledged)) later)

pub left-clique : (x : NodeSlot) → IsAtOwnSlot x → x.past.ack ≡ ack.Closed → x.past.accepted ≤ x.past.rejected
    → HasJustLeft (next_past x) reason.Clique x.node × (frames_made x ≡ [])
left-clique x is closed few = left-by x reason.Clique is (own_act-clique x.past closed few)

-- It withdraws its cold start, and listens.
pub retried-own : (x : NodeSlot) → IsAtOwnSlot x → is_open x.past.ack ≡ true → x.past.cold_start ≡ true
    → ((next_past x).phase ≡ phase.Listening) × (frames_made x ≡ [])
retried-own x is opened cold =
    let own = own_act-open x.past opened ∙ ap (λ b. cond b Retry (Leave reason.Unacknowledged)) cold in (
      ap phase_after (sym (entry_made-own x Retry is own)),
      ap (node_frames x.list x.node x.past x.chosen) (act-own x is ∙ own),
    )
