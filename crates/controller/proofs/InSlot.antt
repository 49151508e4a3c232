-- Controllers in a slot of the world: what each stands for at each turn is its node of the slot after the history, and
-- what they send in the second pass is on the medium.
use Rattle.controller.proofs.Words.{◌≡◌, ℕ, ◌<◌, ◌≤◌, ℤ, ◌+ℤ◌, Bool, List, [], ◌∷◌, length, min, Option, is_some, refl}
use Rattle.controller.proofs.Words.{ap, sym, ◌∙◌, subst, arith, ◌+◌, get_or, set, unsigned_abs, pos, slice_get, None}
use Rattle.controller.proofs.Words.{Some, Medl, Act, Chosen, Entry, Channel, Script, SLOT_LIMIT, act, new_entry}
use Rattle.controller.proofs.Words.{delivery, node_frames, History, diary_of, heard, surroundings_of, status_words}
use Rattle.controller.proofs.Words.{past_of, is_on, is_armed, jump_of, reading_error, BegunNode, jump_taken, node_of}
use Rattle.controller.proofs.Words.{slot_after, chosen_of, frames_of, Arrival, Carried, Outcome, Seat, hearing_of}
use Rattle.controller.proofs.Words.{view_clock, view_intent, turn_jump, IsBegun, kept, HasBegun, IsOutcomeOf}
use Rattle.controller.proofs.Words.{CarriesFrames, payload_handed, HaveBegun, IsPlannedFrom, SendsOne, Turn, Ended}
use Rattle.controller.proofs.Words.{Begun, Planned, ControllerView, AreSeats, IsFromWithin, option_map_or, append-nil}
use Rattle.controller.proofs.Words.{length-map, entry_of, surroundings_in, frames_in, hearing_in, row_in, StandsAfter}
use Rattle.controller.proofs.Words.{StandsForNode, jump_begun, HasPlanned, frames_by, IsFromClocks, PlansIn, flat_map}
use Rattle.ttp_world.proofs.Slots.{node_of-slot_after, entry_of-row_in}
use Rattle.ttp_base.specs.NodeSet.{below}
use Rattle.controller.specs.StandsFor.{Stands, IsSameNode, Begins, Plans, Ends, view_past, frames_planned, most_slots}
use Rattle.controller.specs.StandsFor.{message_planned, clock_begun}
use Rattle.ttp_base.proofs.Below.{flat_map-next}
use Rattle.ttp_world.proofs.Silences.{is_silent_to-row_in}
use Rattle.medium.specs.StandsFor.{ShowsHeard, StandsAtBeginning}
use Rattle.controller.proofs.Near.{AreHanded}
use Rattle.controller.proofs.Payloads.{payload_planned-handed}
use Rattle.controller.proofs.Parts.{ArePassed, ArePassed-none, ArePassed-more, ArePassed-coming, each-of}
use Rattle.ttp_world.specs.declared.script.Channel.TheVariants as channel

length-diary_of : (history : History) (k : ℕ) → length (diary_of history k) ≡ length history
length-diary_of history k = length-map history (λ row. entry_of row k)

-- Node k of the slot after a history.
module _ (list : Medl) (script : Script) (history : History) (k : ℕ) (node : k < length list.slots) where
  -- its past is what is read of its diary
  past-node : (view : ControllerView) → view.list ≡ list → view.node ≡ k
      → view_past view (diary_of history k) (surroundings_of script history k)
      ≡ (node_of (slot_after list script history) k).past
  past-node view list_is node_is =
      (λ i. past_of (list_is i) (node_is i) (diary_of history k) (surroundings_of script history k))
      ∙ ap (λ (n : BegunNode). n.past) (sym (node_of-slot_after list script history k node))

  -- so what a controller stands for may be told by the diary and by the slot

  stands-node : {view : ControllerView} {now there : Turn} → view.list ≡ list → view.node ≡ k → now ≡ there
      → Stands view (diary_of history k) (surroundings_of script history k) now
      → StandsForNode (slot_after list script history) k there view
  stands-node {view = view} list_is node_is same stands = record {
    list = list_is;
    node = node_is;
    past = stands.past ∙ ap kept (past-node view list_is node_is);
    slots = stands.slots ∙ ap (λ n. min n most_slots) (length-diary_of history k);
    turn = stands.turn ∙ same;
  }

  node-stands : {view : ControllerView} {now there : Turn} → now ≡ there
      → StandsForNode (slot_after list script history) k now view
      → Stands view (diary_of history k) (surroundings_of script history k) there
  node-stands {view = view} same stands = record {
    past = stands.past ∙ ap kept (sym (past-node view stands.list stands.node));
    slots = stands.slots ∙ ap (λ n. min n most_slots) (sym (length-diary_of history k));
    turn = stands.turn ∙ same;
  }

  -- the beginning
  pub begun-node : {old new : ControllerView} {on armed : Bool} {jump : ℤ} → on ≡ is_on script k (length history)
      → armed ≡ is_armed script k (length history) → jump ≡ jump_of script k (length history)
      → old.list ≡ list → old.node ≡ k → IsSameNode old new → Begins old new on armed jump
      → StandsAfter script history k old → HasBegun (slot_after list script history) k new
  begun-node on_is armed_is jump_is list_is node_is same begins stands =
      let diary = diary_of history k in
      let surroundings = surroundings_of script history k in
      let turn_of = λ (does : Act) (jump : ℤ). Begun does (jump_taken does jump) in
      stands-node (same.list ∙ list_is) (same.node ∙ node_is)
      ((λ i. turn_of (act (list_is i) (node_is i) (on_is i) (armed_is i)
      (past_of (list_is i) (node_is i) diary surroundings)) (jump_is i))
      ∙ ap (λ (n : BegunNode). turn_of n.act (jump_of script k (length history)))
      (sym (node_of-slot_after list script history k node)))
      (begins diary surroundings stands)

  -- its clock is what its past tells, with the slot's jump
  offset-node : let s = slot_after list script history in
      clock_begun (node_of s k).past (jump_begun s k) ≡ (node_of s k).clock
  offset-node =
      let is = node_of-slot_after list script history k node in
      ap (λ (n : BegunNode). n.past.offset +ℤ jump_taken n.act (jump_of script k (length history))) is
      ∙ ap (λ (n : BegunNode). n.clock) (sym is)

  -- the clock of a controller in a slot is its node's
  pub clock-node : {view : ControllerView} → HasBegun (slot_after list script history) k view
      → view_clock view ≡ (node_of (slot_after list script history) k).clock
  clock-node begun = (λ i. (begun.past i).offset +ℤ turn_jump (begun.turn i)) ∙ offset-node

  -- the plan
  pub planned-node : {old new : ControllerView} {payload : List ℕ} {bytes : Option (List ℕ)} (chosen : Chosen)
      → IsSameNode old new → Plans old new chosen.number payload bytes
      → payload ≡ payload_handed (view_intent old) chosen →
      let s = slot_after list script history in
      HasBegun s k old → HasPlanned s chosen k new × (frames_planned k bytes ≡ frames_by s chosen k)
  planned-node {old = old} {bytes = bytes} chosen same plans handed begun =
      let does = (node_of (slot_after list script history) k).act in
      let jump = jump_begun (slot_after list script history) k in
      let stands = node-stands {there = Begun does jump} refl begun in
      let plan = plans (diary_of history k) (surroundings_of script history k) does jump chosen stands refl
      (payload_planned-handed chosen stands ∙ sym handed) in
      let past_is = past-node old begun.list begun.node in (
        stands-node (same.list ∙ begun.list) (same.node ∙ begun.node)
            (λ i. Planned does jump (message_planned (begun.list i) (past_is i) chosen does)) plan.stands,
        (λ i. frames_planned (sym begun.node i) bytes) ∙ plan.frames
            ∙ (λ i. node_frames (begun.list i) (begun.node i) (past_is i) chosen does),
      )

  module _ {planned new : ControllerView} where
    -- the end
    pub ended-node : {outcome : Outcome} {carried : Carried} {error drift : ℤ} (chosen : List Chosen) (a b : Arrival)
        → carried.slot < SLOT_LIMIT → IsSameNode planned new → Ends planned new outcome a b error drift
        → AreHanded script carried.slot k error drift → ShowsHeard carried script k channel.A a
        → ShowsHeard carried script k channel.B b
        → let s = slot_after list script history in CarriesFrames s (frames_in s chosen) carried
        → HasPlanned s (chosen_of chosen k) k planned
        → StandsAfter script (row_in s chosen ∷ history) k new × IsOutcomeOf list script history chosen k outcome
    ended-node {error = error} chosen a b early same ends handed on_a on_b carries has =
        let s = slot_after list script history in
        let diary = diary_of history k in
        let surroundings = surroundings_of script history k in
        let message = chosen_of chosen k in
        let does = (node_of s k).act in
        let jump = jump_begun s k in
        let frames = frames_in s chosen in
        let on = λ (c : Channel). heard script (length history) k c frames in
        let clock = λ (p : ℕ). (node_of s p).clock in
        let outside = surroundings_in script (length history) (row_in s chosen) k in
        let past_is = past-node planned has.list has.node in
        let stands = node-stands
        (λ i. Planned does jump (message_planned (sym has.list i) (sym past_is i) message does)) has in
        let end = ends diary surroundings does jump message (on channel.A) (on channel.B) clock outside stands
        (on_a _ _ _ carries) (on_b _ _ _ carries)
        (record { jump = refl; drift = sym handed.drift_is; silent = is_silent_to-row_in s chosen k }) in
        let error_is = handed.error_is ∙ ap (reading_error script k) carries.slot in
        let own_is = (λ i. clock_begun (past_is i) jump) ∙ offset-node in
        let hearing_is : hearing_of (on channel.A) (on channel.B) clock
        (clock_begun (view_past planned diary surroundings) jump) error
        ≡ hearing_in s frames k = λ i. hearing_of (on channel.A) (on channel.B) clock (own_is i) (error_is i) in
        let entry_is = (λ i. new_entry (has.list i) (has.node i) (past_is i) message (hearing_is i) does)
        ∙ sym (entry_of-row_in s chosen k node) in
        let long = length-diary_of history k in (
          subst (λ (e : Entry). Stands new (e ∷ diary) (outside ∷ surroundings) Ended) entry_is end.stands,
          record {
            delivered = end.delivered
                ∙ (λ i. delivery (has.list i) (has.node i) (past_is i) (hearing_is i) (entry_is i));
            status = end.status (omega (arith, long, carries.slot))
                ∙ (λ i. status_words (has.list i) (long i)
                (past_of (has.list i) (has.node i) (entry_is i ∷ diary) (outside ∷ surroundings))
                (is_some (delivery (has.list i) (has.node i) (past_is i) (hearing_is i) (entry_is i))));
          },
        )

-- a seat that sends nothing leaves the medium as it is
pub sends-nothing : {list : Medl} {script : Script} {k : ℕ} {chosen : Chosen} {carried : Carried} (old new : Seat)
    → IsPlannedFrom old.controller new.controller → new.incidents ≡ old.incidents
    → ((history : History) → HasBegun (slot_after list script history) k old.controller
    → HasPlanned (slot_after list script history) chosen k new.controller
    × ([] ≡ frames_by (slot_after list script history) chosen k))
    → SendsOne list script k chosen old new carried carried
sends-nothing old new planned same plans = record {
  planned = planned;
  plans = λ history begun. (plans history begun).0;
  incidents = same;
  puts = λ history frames begun carries. rw (← (plans history begun).1, append-nil frames) carries;
  clocks = λ slot clock is from. from;
}

-- The second pass: node by node, controllers plan, and what they send is put on the medium.

-- what a pass makes of node k's seat
abbrev pub IsSentBy : Medl → Script → List Chosen → ℕ → Seat → Seat → Type 0
IsSentBy list script chosen k old new =
    IsPlannedFrom old.controller new.controller
    × PlansIn list script k (chosen_of chosen k) old.controller new.controller
    × (new.incidents ≡ old.incidents)

-- the clock of each node; where there is none, 0
abbrev pub clock_in : List Seat → ℕ → ℤ
clock_in seats p = option_map_or (λ (seat : Seat). view_clock seat.controller) (slice_get seats p) (pos 0)

-- the first controllers, so many, have planned, and what they send is on the medium
pub record AreSent (list : Medl) (script : Script) (slot : ℕ) (chosen : List Chosen) (k : ℕ) (old new : List Seat)
    (carried : Carried) : Type 0 where
  pub passed : ArePassed (IsSentBy list script chosen) k old new
  pub from : IsFromClocks carried script slot (clock_in old)
  pub carries : (history : History) → length history ≡ slot → HaveBegun (slot_after list script history) 0 old
      → CarriesFrames (slot_after list script history)
      (flat_map (frames_of (slot_after list script history) chosen) (below k)) carried

module _ {list : Medl} {script : Script} {slot : ℕ} {chosen : List Chosen} where
  pub AreSent-none : {seats : List Seat} {carried : Carried} → StandsAtBeginning carried slot
      → AreSent list script slot chosen 0 seats seats carried
  AreSent-none {seats = seats} {carried = carried} begins = record {
    passed = ArePassed-none seats;
    from = record { frames = []; stands = begins script (clock_in seats) };
    carries = λ history long begun. rw long (begins script _);
  }

  pub AreSent-more : {k : ℕ} {old new : List Seat} {before after : Carried} (d planned : Seat)
      → AreSent list script slot chosen k old new before → k < length old
      → SendsOne list script k (chosen_of chosen k) (get_or new k d) planned before after
      → AreSent list script slot chosen (k + 1) old (set new k planned) after
  AreSent-more {k = k} {old = old} {after = after} d planned sent within sends =
      let coming = ArePassed-coming sent.passed d within in
      record {
        passed = ArePassed-more sent.passed d within (sends.planned, sends.plans, sends.incidents);
        from = sends.clocks slot (clock_in old)
            (ap (λ (o : Option Seat).
            option_map_or (λ (seat : Seat). view_clock seat.controller) o (pos 0)) (sym coming))
            sent.from;
        carries = λ history long begun.
            let s = slot_after list script history in
            rw (flat_map-next (frames_of s chosen) k)
            (sends.puts history _ (each-of begun k coming) (sent.carries history long begun));
      }

  -- the medium is in that slot
  pub AreSent-slot : {k : ℕ} {old new : List Seat} {carried : Carried}
      → AreSent list script slot chosen k old new carried → carried.slot ≡ slot
  AreSent-slot sent = sent.from.stands.slot

  -- what is on the medium was sent by nodes whose clocks are near 0
  pub AreSent-near : {bound k : ℕ} {old new : List Seat} {carried : Carried}
      → AreSent list script slot chosen k old new carried → AreSeats list IsBegun bound 0 old
      → IsFromWithin carried script bound
  AreSent-near {bound = bound} {old = old} {carried = carried} sent seats =
      record {
        frames = sent.from.frames;
        clock = clock_in old;
        stands = rw (← sent.from.stands.slot) at sent.from.stands;
        near = λ p. near (slice_get old p) p refl;
      }
    where
      near : (there : Option Seat) (p : ℕ) → slice_get old p ≡ there
          → unsigned_abs (option_map_or (λ (seat : Seat). view_clock seat.controller) there (pos 0)) ≤ bound
      near (Some seat) p here = (each-of seats p here).clock
      near None p here = omega arith
