-- What a plant tells of a node that has sent in the slot that it is past.
use Rattle.std.proofs.Common.{◌≡◌, ℕ, ◌<◌, Bool, true, false, cond, List, [], ◌∷◌}
use Rattle.std.proofs.Common.{length, get_or, refl, ap, sym, subst, ◌∙◌, arith}
use Rattle.std.proofs.Common.{true≢false}
use Rattle.std.specs.Prelude.{◌==◌, ℤ, pos, ◌+ℤ◌, not, is_some, Option, Some, None}
use Rattle.std.proofs.lemmas.Bool.{eqb-true}
use Rattle.ttp_world.specs.declared.medl.Medl.{Medl}
use Rattle.ttp_world.specs.declared.node.Act.{Act}
use Rattle.ttp_world.specs.declared.node.Act.TheVariants.{Start, Send}
use Rattle.ttp_world.specs.declared.node.CState.{CState}
use Rattle.ttp_world.specs.declared.node.Chosen.{Chosen}
use Rattle.ttp_world.specs.declared.node.Entry.{Entry}
use Rattle.ttp_world.specs.declared.node.Entry.TheVariants as entry
use Rattle.ttp_world.specs.declared.node.NodeState.{NodeState}
use Rattle.ttp_world.specs.declared.script.Script.{Script}
use Rattle.ttp_world.specs.Act.{coming_place}
use Rattle.ttp_world.specs.After.{past_after}
use Rattle.ttp_world.specs.Diary.{History, SlotSurroundings, entry_of}
use Rattle.ttp_world.specs.Fitting.{number_in}
use Rattle.ttp_world.specs.Frame.{cstate_bytes}
use Rattle.ttp_world.specs.Medium.{SentFrame, is_sending, surroundings_in}
use Rattle.ttp_world.specs.Medl.{IsValid, is_bare, kind_at, member_width, plan_at}
use Rattle.ttp_world.specs.Membership.{AreNodes}
use Rattle.ttp_world.specs.Messages.{messages_of, status_words}
use Rattle.ttp_world.specs.Past.{NodePast, state_of}
use Rattle.ttp_world.specs.Script.{is_armed, is_on, jump_of}
use Rattle.ttp_world.specs.World.{BegunNode, chosen_of, frames_in, hearing_in}
use Rattle.ttp_world.specs.World.{is_loaded, node_after, node_of, node_past}
use Rattle.ttp_world.specs.World.{jump_taken, sends_payload, slot_after}
use Rattle.ttp_world.proofs.Lists.{nodes-most}
use Rattle.ttp_world.proofs.NextPasts.{node_past-next}
use Rattle.ttp_world.proofs.Slots.{entry_of-row_in, node_of-slot_after}
use Rattle.controller.specs.ControllerWithin.{IsPossible}
use Rattle.controller.specs.Passes.{delivered_at}
use Rattle.controller.specs.PlantStands.{ShowsNode, outcome_at}
use Rattle.controller.specs.PlantView.{PlantView}
use Rattle.controller.proofs.ForAbove.{sends-own, only-room, with_node-room}
use Rattle.bus_frames.specs.declared.sending.Sending.{Sending}
use Rattle.bus_frames.specs.Sending.{header_by, sending_in, size_by, state_by}
use Rattle.bus_frames.specs.Standing.{HasByteRoom, SlotStands, frame_with, frames_told}
use Rattle.bus_frames.specs.Standing.{payload_with, sending_by, sending_told}
use Rattle.bus_frames.proofs.Acts.{ActsBy, acts-by}
use Rattle.bus_frames.proofs.Sent.{frames-sent, sends, sends-by, silent-by}
use Rattle.bus_frames.proofs.States.{after-Sent, after-Started, members-nodes, next-time, state_after}

-- By an entry of a node that sends.

pub state-by : (list : Medl) (k : ℕ) (past : NodePast) (s : SlotSurroundings)
    (valid : IsValid list) (node : k < length list.slots)
    → AreNodes list past.members → (a : Act) (sent : List SentFrame) (e : Entry) → ActsBy a sent e → is_sending e ≡ true
    → state_after (past_after list k past e s) ≡ state_by list k past a
state-by list k past s valid node are a sent entry.Started by is =
    after-Started list k past s valid node ∙ sym (ap (state_by list k past) by)
state-by list k past s valid node are a sent (entry.Sent message) by is =
    after-Sent list k past s valid node message are ∙ sym (ap (state_by list k past) by)
state-by list k past s valid node are a sent _ by is = absurd (true≢false (sym is))

word-by : (list : Medl) (k slot : ℕ) (past : NodePast) (s : SlotSurroundings) (delivers : Bool) (e : Entry) (d : ℕ)
    → is_sending e ≡ true
    → get_or (status_words list slot (past_after list k past e s) delivers) 2 d
    ≡ number_in (cstate_bytes (member_width list) (state_after (past_after list k past e s)))
word-by list k slot past s delivers entry.Started d is = refl
word-by list k slot past s delivers (entry.Sent message) d is = refl
word-by list k slot past s delivers _ d is = absurd (true≢false (sym is))

-- what is told by entry, C-state and clock is what the node sends by what it does
told-by : (list : Medl) (k : ℕ) (past : NodePast) (clock : ℤ) (a : Act) (sent : List SentFrame) (e : Entry)
    → ActsBy a sent e → is_sending e ≡ true
    → sending_by list k e (state_by list k past a) clock
    ≡ Some (record {
      node = k;
      header = header_by list past a;
      size = size_by list past a;
      state = state_by list k past a;
      clock = clock;
    })
told-by list k past clock a sent entry.Started by is =
    subst (λ (a : Act). sending_by list k entry.Started (state_by list k past a) clock
    ≡ Some (record {
      node = k;
      header = header_by list past a;
      size = size_by list past a;
      state = state_by list k past a;
      clock = clock;
    })) (sym by) refl
told-by list k past clock a sent (entry.Sent message) by is =
    subst (λ (a : Act). sending_by list k (entry.Sent message) (state_by list k past a) clock
    ≡ Some (record {
      node = k;
      header = header_by list past a;
      size = size_by list past a;
      state = state_by list k past a;
      clock = clock;
    })) (sym by) refl
told-by list k past clock a sent _ by is = absurd (true≢false (sym is))

-- its C-state has room in its bytes, and its place is one of the list
pub record IsOfPlace (list : Medl) (c : CState) : Type 0 where
  pub has : HasByteRoom list c
  pub round : c.round < list.rounds
  pub slot : c.slot < length list.slots

place-by : (list : Medl) (k : ℕ) (past : NodePast) → IsValid list → k < length list.slots → AreNodes list past.members
    → (coming_place list past).round < list.rounds → (coming_place list past).slot < length list.slots
    → (a : Act) → sends a ≡ true → IsOfPlace list (state_by list k past a)
place-by list k past valid node are round slot Start is = record {
  has = record {
    time = omega arith;
    round = omega arith;
    slot = let most = nodes-most list valid in omega (arith, most, node);
    members = only-room list valid k node;
  };
  round = omega (arith, valid.rounds);
  slot = node;
}
place-by list k past valid node are round slot Send is = record {
  has = record {
    time = next-time list past.place;
    round = omega (arith, valid.rounds, round);
    slot = let most = nodes-most list valid in omega (arith, most, slot);
    members = with_node-room list valid past.members k are node;
  };
  round = round;
  slot = slot;
}
place-by list k past valid node are round slot _ is = absurd (true≢false (sym is))

-- Payload.

full : (bare : Bool) (n : ℕ) → (cond bare 0 n == 0) ≡ false → cond bare 0 n ≡ n
full true n some = absurd (true≢false some)
full false n some = refl

pub size-plan : (list : Medl) (k : ℕ) (past : NodePast) (a : Act) → sends a ≡ true → (size_by list past a == 0) ≡ false
    → (a ≡ Send → (coming_place list past).slot ≡ k)
    → size_by list past a ≡ (plan_at list k).payload
size-plan list k past Start is some own = absurd (true≢false some)
size-plan list k past Send is some own =
    let place = coming_place list past in
    full (is_bare (kind_at list place.round place.slot)) (plan_at list place.slot).payload some
    ∙ ap (λ slot. (plan_at list slot).payload) (own refl)
size-plan list k past _ is some own = absurd (true≢false (sym is))

pub loaded-by : (list : Medl) (past : NodePast) (a : Act) → sends a ≡ true → (size_by list past a == 0) ≡ false
    → sends_payload list past a ≡ true
loaded-by list past Start is some = absurd (true≢false some)
loaded-by list past Send is some = ap not some
loaded-by list past _ is some = absurd (true≢false (sym is))

same-payload : (empty : Bool) (xs ys : List ℕ) → (empty ≡ false → xs ≡ ys) → cond empty [] xs ≡ cond empty [] ys
same-payload true xs ys same = refl
same-payload false xs ys same = same refl

pub long-payload : (size : ℕ) (empty : Bool) (xs : List ℕ) → (size == 0) ≡ empty → (empty ≡ false → length xs ≡ size)
    → length (cond empty [] xs) ≡ size
long-payload size true xs is long = sym (eqb-true size 0 is)
long-payload size false xs is long = long refl

jumps : (a : Act) (jump : ℤ) → sends a ≡ true → jump_taken a jump ≡ jump
jumps Start jump is = refl
jumps Send jump is = refl
jumps _ jump is = absurd (true≢false (sym is))

-- The slot.

module _ (plant : PlantView) (chosen : List Chosen) (offsets : List ℤ) (list : Medl) (script : Script) (slot : ℕ)
    (row : List Entry) (before : History) (stands : SlotStands plant chosen offsets list script slot row before)
    (valid : IsValid list) (k : ℕ) (node : k < length list.slots) where
  here : node_of (slot_after list script before) k ≡ node_after list script before k
  here = node_of-slot_after list script before k node

  past : NodePast
  past = (node_of (slot_after list script before) k).past

  pub acts : ActsBy (node_of (slot_after list script before) k).act
      (frames_told list script row before k) (entry_of row k)
  acts =
      let s = slot_after list script before in
      let told = messages_of list script (length before) row in
      subst (ActsBy (node_of s k).act (frames_told list script row before k))
      (sym (ap (λ (r : List Entry). entry_of r k) stands.made.follows ∙ entry_of-row_in s chosen k node))
      (acts-by list k (node_of s k).past (chosen_of chosen k) (chosen_of told k)
      (hearing_in s (frames_in s chosen) k) (node_of s k).act)

  pub silent : is_sending (entry_of row k) ≡ false → frames_told list script row before k ≡ []
  silent is = silent-by (node_of (slot_after list script before) k).act _ (entry_of row k) acts is

  pub sending : is_sending (entry_of row k) ≡ true → sends (node_of (slot_after list script before) k).act ≡ true
  sending is = sends-by (node_of (slot_after list script before) k).act _ (entry_of row k) acts is

  loaded : is_sending (entry_of row k) ≡ true → ((sending_in (slot_after list script before) k).size == 0) ≡ false
      → is_loaded (slot_after list script before) k ≡ true
  loaded is some =
      loaded-by list (node_of (slot_after list script before) k).past (node_of (slot_after list script before) k).act
      (sending is) some

  own : (node_of (slot_after list script before) k).act ≡ Send
      → (coming_place list (node_of (slot_after list script before) k).past).slot ≡ k
  own =
      sends-own list k (node_of (slot_after list script before) k).past (node_of (slot_after list script before) k).act
      (subst (λ (n : BegunNode). IsPossible list k n.past n.act) (sym here) (record {
        on = is_on script k (length before);
        armed = is_armed script k (length before);
        is = refl;
      }))

  -- the payload of the node's frame is as long as the list says
  pub payload-long : is_sending (entry_of row k) ≡ true
      → length (payload_with (sending_in (slot_after list script before) k) (chosen_of chosen k))
      ≡ (sending_in (slot_after list script before) k).size
  payload-long is =
      let s = slot_after list script before in
      let size = (sending_in s k).size in
      long-payload size (size == 0) (chosen_of chosen k).payload refl
      (λ some. stands.made.sizes k node (loaded is some)
      ∙ sym (size-plan list k (node_of s k).past (node_of s k).act (sending is) some own))

  -- its frame
  pub frames : is_sending (entry_of row k) ≡ true
      → frames_told list script row before k
      ≡ record {
        sender = k;
        bytes = frame_with list (sending_in (slot_after list script before) k)
            (payload_with (sending_in (slot_after list script before) k) (chosen_of chosen k));
      } ∷ []
  frames is =
      let s = slot_after list script before in
      let told = messages_of list script (length before) row in
      frames-sent s told k (sending is)
      ∙ ap (λ (payload : List ℕ). record { sender = k; bytes = frame_with list (sending_in s k) payload } ∷ [])
      (same-payload ((sending_in s k).size == 0) (chosen_of told k).payload (chosen_of chosen k).payload
      (λ some. ap (λ (c : Chosen). c.payload) (sym (stands.made.told k node (loaded is some)))))

  after : node_past list script (row ∷ before) k
      ≡ past_after list k (node_past list script before k) (entry_of row k)
      (surroundings_in script (length before) row k)
  after = subst (λ (r : List Entry). node_past list script (r ∷ before) k
      ≡ past_after list k (node_past list script before k) (entry_of r k) (surroundings_in script (length before) r k))
      (sym stands.made.follows) (node_past-next list script before chosen k node)

  -- its C-state
  pub state-is : is_sending (entry_of row k) ≡ true
      → state_after (node_past list script (row ∷ before) k) ≡ (sending_in (slot_after list script before) k).state
  state-is is =
      ap state_after after
      ∙ ap (λ (p : NodePast). state_after
      (past_after list k p (entry_of row k) (surroundings_in script (length before) row k)))
      (ap (λ (n : BegunNode). n.past) (sym here))
      ∙ state-by list k (node_of (slot_after list script before) k).past
      (surroundings_in script (length before) row k) valid node
      (subst (λ (n : BegunNode). AreNodes list n.past.members) (sym here) (members-nodes list script before k))
      (node_of (slot_after list script before) k).act (frames_told list script row before k) (entry_of row k) acts is

  pub shown-is : (state : NodeState) → ShowsNode plant k state
      → state ≡ state_of (node_past list script (row ∷ before) k)
  shown-is state shows =
      shows script (row ∷ before) stands.made.stands
      ∙ ap (λ (l : Medl). state_of (node_past l script (row ∷ before) k)) stands.made.same

  pub entry-is : (state : NodeState) → ShowsNode plant k state → state.entry ≡ entry_of row k
  entry-is state shows = ap (λ (s : NodeState). s.entry) (shown-is state shows)

  pub word-is : is_sending (entry_of row k) ≡ true → (d : ℕ)
      → get_or (outcome_at plant k).status.words 2 d
      ≡ number_in (cstate_bytes (member_width list) (state_after (node_past list script (row ∷ before) k)))
  word-is is d =
      let s = slot_after list script before in
      let delivers = is_some (delivered_at s chosen k) in
      let outside = surroundings_in script (length before) row k in
      ap (λ (ws : List ℕ). get_or ws 2 d) (stands.made.outcomes k node).status
      ∙ ap (λ (r : List Entry).
      get_or (status_words list (length before) (node_past list script (r ∷ before) k) delivers) 2 d)
      (sym stands.made.follows)
      ∙ ap (λ (p : NodePast). get_or (status_words list (length before) p delivers) 2 d) after
      ∙ word-by list k (length before) (node_past list script before k) outside delivers (entry_of row k) d is
      ∙ ap (λ (p : NodePast). number_in (cstate_bytes (member_width list) (state_after p))) (sym after)

  pub place-is : is_sending (entry_of row k) ≡ true
      → IsOfPlace list (sending_in (slot_after list script before) k).state
  place-is is =
      subst (λ (n : BegunNode). sends n.act ≡ true → IsOfPlace list (state_by list k n.past n.act)) (sym here)
      (place-by list k (node_past list script before k) valid node (members-nodes list script before k)
      (stands.round k node) (stands.place k node) (node_after list script before k).act) (sending is)

  pub sending-is : (clock : ℤ) → is_sending (entry_of row k) ≡ true
      → clock ≡ (node_of (slot_after list script before) k).clock
      → sending_by list k (entry_of row k) (sending_in (slot_after list script before) k).state clock
      ≡ Some (sending_in (slot_after list script before) k)
  sending-is clock is same =
      let n = node_of (slot_after list script before) k in
      told-by list k n.past clock n.act (frames_told list script row before k) (entry_of row k) acts is
      ∙ ap (λ (clock : ℤ). Some (record (sending_in (slot_after list script before) k) { clock = clock })) same

  -- what is read of the plant is its C-state
  pub state-told : (state : NodeState) (result : CState) (word d : ℕ) → ShowsNode plant k state
      → is_sending (entry_of row k) ≡ true → word ≡ get_or (outcome_at plant k).status.words 2 d
      → ((c : CState) → HasByteRoom list c → c.members ≡ state.members
      → word ≡ number_in (cstate_bytes (member_width list) c) → result ≡ c)
      → result ≡ (sending_in (slot_after list script before) k).state
  state-told state result word d shows is told reads =
      reads (sending_in (slot_after list script before) k).state (place-is is).has
      (ap (λ (c : CState). c.members) (sym (state-is is))
      ∙ sym (ap (λ (s : NodeState). s.members) (shown-is state shows)))
      (told ∙ word-is is d ∙ ap (λ (c : CState). number_in (cstate_bytes (member_width list) c)) (state-is is))

  -- its clock in the slot
  pub clock-is : is_sending (entry_of row k) ≡ true → (offset jump : ℤ) → offset ≡ get_or offsets k (pos 0)
      → jump ≡ jump_of script k slot
      → offset +ℤ jump ≡ (node_of (slot_after list script before) k).clock
  clock-is is offset jump offset_is jump_is =
      let n = node_after list script before k in
      let acts_here : sends n.act ≡ true =
      subst (λ (n : BegunNode). sends n.act ≡ true) here (sending is) in
      (λ i. (offset_is ∙ stands.offsets_are k node) i +ℤ (jump_is ∙ ap (jump_of script k) (sym stands.long)) i)
      ∙ ap (λ (z : ℤ). n.past.offset +ℤ z) (sym (jumps n.act (jump_of script k (length before)) acts_here))
      ∙ ap (λ (n : BegunNode). n.clock) (sym here)

  pub told-is : is_sending (entry_of row k) ≡ true → (result : Option Sending)
      → result ≡ sending_told list script row before k → result ≡ Some (sending_in (slot_after list script before) k)
  told-is is result told =
      told ∙ ap (λ (b : Bool). cond b (Some (sending_in (slot_after list script before) k)) None) is
