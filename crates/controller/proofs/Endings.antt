-- The end of a slot: the entry that a node makes by what comes to it, and how far it takes the node's clock.
use Rattle.controller.proofs.Words.{ap, ◌≡◌, ◌≢◌, arith, ℕ, Bool, true, false, cond, not, refl, sym, subst, ◌∙◌, ◌+◌}
use Rattle.controller.proofs.Words.{◌≤◌, ℤ, pos, ◌+ℤ◌, ◌-ℤ◌, ◌&&◌, Option, Some, None, IfSome, unwrap_or, unsigned_abs}
use Rattle.controller.proofs.Words.{◌<◌, FitsSigned, w64, to_z, of_z, length, ◌==◌, nat_le, nat_tests, eqb-true}
use Rattle.controller.proofs.Words.{and_parts, ints, to_z-of_z, Medl, Ack, Act, Off, Listen, Start, Send, CState}
use Rattle.controller.proofs.Words.{ChannelView, Chosen, Delivered, Entry, Phase, Verdict, is_correct, coming_place}
use Rattle.controller.proofs.Words.{phase_act, past_after, correction_after, carries_payload, channel_join, new_entry}
use Rattle.controller.proofs.Words.{Place, SlotSurroundings, phase_after, carried, is_joinable_state, Signal, Bits}
use Rattle.controller.proofs.Words.{plan_at, member_width, IsValid, NodePast, jump_taken, IsDeviation, Arrival, EndsAs}
use Rattle.controller.proofs.Words.{hearing_of, kept, loaded_length, offset_of_arrival, ArrivalFits, IsEntryWithin}
use Rattle.controller.proofs.Words.{IsNearEnough, IsPastWithin, Turn, Planned, ◌⊎◌, inl, inr, neg_ℤ, ◌≤ℤ◌, IsTrue, max}
use Rattle.controller.proofs.Words.{option_or, cond_both, eqb-false, Gone, Retry, Leave, Judge, is_open, is_start_due}
use Rattle.controller.proofs.Words.{own_act, unacknowledged_act, join_entry, judging_entry, verdict_entry, is_bare}
use Rattle.controller.proofs.Words.{kind_at, payload_length, Intent, ReadingFits, most_clock, fta-between, JumpFits}
use Rattle.controller.proofs.Words.{near_of_test, is_corrected, join_deviation, slot_change, first_of_correct}
use Rattle.ttp_world.specs.Reception.{Expected, Hearing, entry_deviation, expected_of, heard_deviation, is_taken_from_a}
use Rattle.ttp_world.specs.Reception.{verdict_of, view_of, better_view, is_expected_form, is_within_window}
use Rattle.ttp_world.specs.Reception.{verdict_of_view, view_of_frame}
use Rattle.node_parts.specs.Moves.{taken_verdict}
use Rattle.controller.specs.ControllerWithin.{IsPossible, IsPlannedWithin, IsControllerWithin, IsTurnWithin}
use Rattle.controller.proofs.Heard.{signal_from, clock_from, shows_a, shows_b}
use Rattle.controller.proofs.Sets.{joinable-within}
use Rattle.controller.proofs.Standing.{loaded_or_bare}
use Rattle.controller.proofs.Stints.{correction_after-take, kept_after-within, zero_near}
use Rattle.ttp_world.proofs.DeliveredSizes.{of_form as not_bad}
use Rattle.ttp_world.specs.declared.node.Ack.TheVariants as ack
use Rattle.ttp_world.specs.declared.node.ChannelView.TheVariants as view
use Rattle.ttp_world.specs.declared.node.Entry.TheVariants as entry
use Rattle.ttp_world.specs.declared.node.Phase.TheVariants as phase
use Rattle.ttp_world.specs.declared.node.Reason.TheVariants as reason
use Rattle.ttp_world.specs.declared.node.Verdict.TheVariants as verdict
use Rattle.medium.specs.declared.arrival.Arrival.TheVariants as arrival
use Rattle.controller.specs.declared.controller.Intent.TheVariants as intent

-- A node that sends its frame is at its own slot.

-- and one that judges is at another's
abbrev IsAtSlot : Medl → ℕ → NodePast → Act → Type 0
IsAtSlot list k past Send = (coming_place list past).slot ≡ k
IsAtSlot list k past Judge = (coming_place list past).slot ≢ k
IsAtSlot list k past _ = Unit {0}

own_act-at : (list : Medl) (k : ℕ) (past : NodePast) → (coming_place list past).slot ≡ k
    → IsAtSlot list k past (own_act past)
own_act-at list k past own =
    let P = IsAtSlot list k past in
    cond_both (is_open past.ack) (unacknowledged_act past) _ P
    (λ unanswered. cond_both past.cold_start Retry (Leave reason.Unacknowledged) P (λ cold. tt) (λ warm. tt))
    (λ closed. cond_both (nat_le past.accepted past.rejected) (Leave reason.Clique) Send P (λ tie. tt) (λ more. own))

phase_act-at : (p : Phase) (list : Medl) (k : ℕ) (on armed : Bool) (past : NodePast)
    → IsAtSlot list k past (phase_act p list k on armed past)
phase_act-at phase.Off list k on armed past = cond_both on Listen Off (IsAtSlot list k past) (λ is. tt) (λ not. tt)
phase_act-at phase.Left list k on armed past = cond_both armed Listen Gone (IsAtSlot list k past) (λ is. tt) (λ not. tt)
phase_act-at phase.Listening list k on armed past =
    cond_both (is_start_due list k past) Start Listen (IsAtSlot list k past) (λ due. tt) (λ early. tt)
phase_act-at phase.Active list k on armed past =
    cond_both ((coming_place list past).slot == k) (own_act past) Judge (IsAtSlot list k past)
    (λ own. own_act-at list k past (eqb-true (coming_place list past).slot k own))
    (λ other. eqb-false (coming_place list past).slot k other)

pub possible-at : (list : Medl) (k : ℕ) (past : NodePast) (does : Act) → IsPossible list k past does
    → IsAtSlot list k past does
possible-at list k past does possible =
    subst (IsAtSlot list k past) (sym possible.is) (phase_act-at past.phase list k possible.on possible.armed past)

pub sends-own : (list : Medl) (k : ℕ) (past : NodePast) (does : Act) → IsPossible list k past does → does ≡ Send
    → (coming_place list past).slot ≡ k
sends-own list k past does possible sends =
    subst (IsAtSlot list k past) sends (possible-at list k past does possible)

-- so its payload has the length that the list gives for its place

loaded-bare : (bare : Bool) (size : ℕ) → cond (not (cond bare 0 size == 0)) size 0 ≡ cond bare 0 size
loaded-bare bare size = grind (arith, nat_tests)

pub loaded_length-own : (list : Medl) (k : ℕ) (place : Place) → place.slot ≡ k
    → loaded_length list k (cond (carries_payload list place) intent.Loaded intent.Bare)
    ≡ payload_length list place.round place.slot
loaded_length-own list k place own =
    loaded_or_bare (loaded_length list k) (carries_payload list place)
    ∙ (λ i. cond (carries_payload list place) (plan_at list (sym own i)).payload 0)
    ∙ loaded-bare (is_bare (kind_at list place.round place.slot)) (plan_at list place.slot).payload

-- The entry that a node makes in a slot by what comes to it.

-- what is heard of what came
abbrev hearing_from : Arrival → Arrival → ℤ → ℤ → Hearing
hearing_from a b own error = hearing_of (signal_from 0 a) (signal_from 1 b) (clock_from a b) own error

-- A node that joins does so by how far the clock of a sender, of what came on A or on B, is from its own; the clock of
-- one that is off does not jump.
abbrev Lands : Arrival → Arrival → ℤ → ℤ → ℤ → Entry → Type 0
Lands a b own error jump entry.Off = jump ≡ pos 0
Lands a b own error jump (entry.Joined sender cstate deviation) =
    (deviation ≡ (offset_of_arrival a -ℤ own) +ℤ error) ⊎ (deviation ≡ (offset_of_arrival b -ℤ own) +ℤ error)
Lands a b own error jump _ = Unit {0}

-- the entry of a node whose clock jumped so, by what came
pub record IsMade (list : Medl) (k : ℕ) (past : NodePast) (a b : Arrival) (error jump : ℤ) (e : Entry) : Type 0 where
  pub within : IsEntryWithin list k past e
  pub lands : Lands a b (past.offset +ℤ jump) error jump e

-- Joining.

-- of two joins the first that there is, or waiting
first_of : (P : Entry → Type 0) (x y : Option Entry) → P entry.Waited → IfSome x P → IfSome y P
    → P (unwrap_or (option_or x y) entry.Waited)
first_of P None None waits p q = waits
first_of P None (Some e) waits p q = q
first_of P (Some e) y waits p q = p

-- a sum of small numbers is small
measured-fits : (own offset error : ℤ) → unsigned_abs own + unsigned_abs offset + unsigned_abs error ≤ most_clock
    → IsDeviation ((offset -ℤ own) +ℤ error)
measured-fits own offset error fits = (omega (arith, ints), omega (arith, ints))

-- Judging.

-- a verdict is one that the acknowledgement can have
taken-view : (a : Ack) (v : ChannelView) → taken_verdict a (verdict_of_view v a) ≡ verdict_of_view v a
taken-view ack.Closed view.First = refl
taken-view ack.Closed _ = refl
taken-view _ view.First = refl
taken-view _ _ = refl

-- bits came, and within the window
IsHeardNear : Medl → Option ℤ → Type 0
IsHeardNear list None = ⊥
IsHeardNear list (Some deviation) = IsNearEnough list deviation

first_is_near : (list : Medl) (e : Expected) (late : ℕ → ℤ) (sent : Signal) → view_of list e late sent ≡ view.First
    → IsHeardNear list (heard_deviation late sent)
unfolding IsHeardNear
first_is_near list e late (Bits sender bytes) is =
    near_of_test list.window (late sender)
    (and_parts (is_within_window list (late sender)) _
    (not_bad (is_within_window list (late sender) && is_expected_form list e bytes) (view_of_frame list e bytes) is)).0
first_is_near list e late _ is = cc

-- the deviation of the entry is that of the channel that is taken
taken_is_near : (list : Medl) (from_a : Bool) (va vb : ChannelView) (a b : Option ℤ) → cond from_a va vb ≡ view.First
    → (va ≡ view.First → IsHeardNear list a) → (vb ≡ view.First → IsHeardNear list b)
    → IsNearEnough list (entry_deviation from_a a b)
unfolding IsHeardNear
taken_is_near list true va vb None b is near_a near_b = absurd (near_a is)
taken_is_near list true va vb (Some d) None is near_a near_b = near_a is
taken_is_near list true va vb (Some d) (Some other) is near_a near_b = near_a is
taken_is_near list false va vb a None is near_a near_b = absurd (near_b is)
taken_is_near list false va vb None (Some d) is near_a near_b = near_b is
taken_is_near list false va vb _ (Some d) is near_a near_b = near_b is

-- a node that is denied leaves
of_verdict : (P : Entry → Type 0) (sender : ℕ) (v : Verdict) (deviation : ℤ) → P (entry.Left reason.Denied sender)
    → (v ≢ verdict.Denied → P (entry.Judged sender v deviation)) → P (verdict_entry sender v deviation)
of_verdict P sender verdict.Denied deviation left judged = left
of_verdict P sender _ deviation left judged = judged (λ denied. cc)

-- A node that makes its entry.
module _ (list : Medl) (k : ℕ) (past : NodePast) (a b : Arrival) (error jump : ℤ) where
  judging_entry-made : (h : Hearing) → (coming_place list past).slot ≢ k
      → IsMade list k past a b error jump (judging_entry list k past h)
  judging_entry-made h other =
      let e = expected_of list k past in
      let va = view_of list e h.deviation h.a in
      let vb = view_of list e h.deviation h.b in
      let late_a = heard_deviation h.deviation h.a in
      let late_b = heard_deviation h.deviation h.b in
      let from_a = is_taken_from_a va vb in
      let near : IsTrue (is_correct (verdict_of va vb past.ack)) → IsNearEnough list
      (entry_deviation from_a late_a late_b) = λ correct. taken_is_near list from_a va vb late_a late_b
      (first_of_correct (better_view va vb) past.ack correct) (first_is_near list e h.deviation h.a)
      (first_is_near list e h.deviation h.b) in
      of_verdict (IsMade list k past a b error jump) (coming_place list past).slot (verdict_of va vb past.ack) _
      (record { within = tt; lands = tt })
      (λ stays. record {
        within = record {
          coming = refl;
          another = other;
          stays = stays;
          possible = taken-view past.ack (better_view va vb);
          near = near;
        };
        lands = tt;
      })

  made_on : (came : Arrival) (sender : ℕ) (late : ℕ → ℤ) → IsValid list → IsDeviation (late sender)
      → ((c : CState) → Lands a b (past.offset +ℤ jump) error jump (entry.Joined c.slot c (late sender)))
      → IfSome (channel_join list late (signal_from sender came)) (IsMade list k past a b error jump)
  made_on (arrival.Bits bytes offset) sender late valid fits lands =
      let c = carried (member_width list) bytes.now in
      cond_both (is_joinable_state list c && _) (Some c) None
      (λ joinable. IfSome (join_entry (late sender) joinable) (IsMade list k past a b error jump))
      (λ joins. record {
        within = (joinable-within list bytes.now valid (and_parts _ _ joins).0, fits);
        lands = lands c;
      }) (λ not. tt)
  made_on _ sender late valid fits lands = tt

  -- by what it does
  new_entry-made : (chosen : Chosen) (jumps : ℤ) (does : Act) → IsValid list
      → ReadingFits (past.offset +ℤ jump) a error → ReadingFits (past.offset +ℤ jump) b error
      → IsAtSlot list k past does → jump ≡ jump_taken does jumps → IsMade list k past a b error jump
      (new_entry list k past chosen (hearing_from a b (past.offset +ℤ jump) error) does)
  new_entry-made chosen jumps Off valid fits_a fits_b at taken = record { within = tt; lands = taken }
  new_entry-made chosen jumps Listen valid fits_a fits_b at taken =
      let own = past.offset +ℤ jump in
      let late = (hearing_from a b own error).deviation in
      first_of (IsMade list k past a b error jump) _ _ (record { within = tt; lands = tt })
      (made_on a 0 late valid (measured-fits own _ error fits_a) (λ c. inl refl))
      (made_on b 1 late valid (measured-fits own _ error fits_b) (λ c. inr refl))
  new_entry-made chosen jumps Judge valid fits_a fits_b at taken =
      judging_entry-made (hearing_from a b (past.offset +ℤ jump) error) at
  new_entry-made chosen jumps _ valid fits_a fits_b at taken = record { within = tt; lands = tt }

-- How far a slot takes a node's clock.

-- what a slot changes of the clock of a node that is on
pub slot_change-on : (e : Entry) (s : SlotSurroundings) (corrected : ℤ) → e ≢ entry.Off
    → s.jump +ℤ (s.drift +ℤ (join_deviation e +ℤ corrected)) ≡ slot_change e s corrected
slot_change-on entry.Off s corrected on = absurd (on refl)
slot_change-on _ s corrected on = refl

-- A correction lies within the window.

-- what an entry corrects
past_after-corrected : (list : Medl) (k : ℕ) (past : NodePast) (e : Entry) (s : SlotSurroundings) → IsValid list
    → k < length list.slots → IsPastWithin list k past → IsEntryWithin list k past e
    → IsNearEnough list (correction_after list (past_after list k past e s).place (past_after list k past e s).notes e)
past_after-corrected list k past e s valid node within next =
    let after = past_after list k past e s in
    let near = (kept_after-within list k past valid node within e s next).notes in
    let zero = zero_near list valid in
    subst (IsNearEnough list) (correction_after-take list after.place after.notes e)
    (cond_both (is_corrected list (phase_after e) after.place) _ _ (IsNearEnough list)
    (λ is. fta-between (neg_ℤ list.window) list.window (kept after).notes zero.0 zero.1 near) (λ not. zero))

-- The clock comes no further from 0 than it jumped, or than the clocks of those it hears, but for a reading error, its
-- drift and a correction, which is within the window.

-- the furthest of three clocks
abbrev pub furthest : ℤ → ℤ → ℤ → ℕ
furthest own a b = max (unsigned_abs own) (max (unsigned_abs a) (unsigned_abs b))

-- by what came of a sender, and late or early by so much
joined_near : (offset jump drift deviation corrected w came error : ℤ) (most : ℕ) → unsigned_abs came ≤ most
    → (neg_ℤ w ≤ℤ corrected) × (corrected ≤ℤ w) → deviation ≡ (came -ℤ (offset +ℤ jump)) +ℤ error
    → unsigned_abs (offset +ℤ (jump +ℤ (drift +ℤ (deviation +ℤ corrected))))
    ≤ most + unsigned_abs error + unsigned_abs drift + unsigned_abs w
joined_near offset jump drift deviation corrected w came error most near small is =
    omega (arith, ints, small.0, small.1)

change_near : (e : Entry) (offset : ℤ) (s : SlotSurroundings) (corrected w : ℤ) (a b : Arrival) (error : ℤ)
    → (neg_ℤ w ≤ℤ corrected) × (corrected ≤ℤ w) → Lands a b (offset +ℤ s.jump) error s.jump e
    → unsigned_abs (offset +ℤ slot_change e s corrected)
    ≤ furthest (offset +ℤ s.jump) (offset_of_arrival a) (offset_of_arrival b) + unsigned_abs error
    + unsigned_abs s.drift + unsigned_abs w
change_near entry.Off offset s corrected w a b error near lands =
    let still = ap (λ (z : ℤ). unsigned_abs (offset +ℤ z)) lands in omega (arith, still)
change_near (entry.Joined sender cstate deviation) offset s corrected w a b error near (inl is) =
    joined_near offset s.jump s.drift deviation corrected w (offset_of_arrival a) error
    (furthest (offset +ℤ s.jump) (offset_of_arrival a) (offset_of_arrival b)) (omega arith) near is
change_near (entry.Joined sender cstate deviation) offset s corrected w a b error near (inr is) =
    joined_near offset s.jump s.drift deviation corrected w (offset_of_arrival b) error
    (furthest (offset +ℤ s.jump) (offset_of_arrival a) (offset_of_arrival b)) (omega arith) near is
change_near _ offset s corrected w a b error near lands =
    let still = joined_near offset s.jump s.drift (pos 0) corrected w (offset +ℤ s.jump) (pos 0)
    (furthest (offset +ℤ s.jump) (offset_of_arrival a) (offset_of_arrival b))
    (omega arith) near (omega (arith, ints)) in
    omega (arith, still)

pub past_after-near : {list : Medl} {k : ℕ} {past new : NodePast} {now : Turn} {sends : Intent} {a b : Arrival}
    {error : ℤ} {e : Entry} (s : SlotSurroundings) → IsControllerWithin list k past now sends
    → IsMade list k past a b error s.jump e → new ≡ kept (past_after list k past e s)
    → unsigned_abs new.offset
    ≤ furthest (past.offset +ℤ s.jump) (offset_of_arrival a) (offset_of_arrival b) + unsigned_abs error
    + unsigned_abs s.drift + unsigned_abs list.window
past_after-near {list = list} {k = k} {past = past} {a = a} {b = b} {error = error} {e = e} s within made is =
    rw is (change_near e past.offset s _ list.window a b error
    (past_after-corrected list k past e s within.valid within.node within.within made.within) made.lands)

-- A slot that was planned so.

pub record IsEnded (e : Entry) (handed : Option Delivered) (list : Medl) (k : ℕ) (past : NodePast) (does : Act)
    (jump : ℤ) (message : Option ℕ) (a b : Arrival) (error : ℤ) : Type 0 where
  pub ends : EndsAs e handed list k past does message a b (past.offset +ℤ jump) error
  pub made : IsMade list k past a b error jump e

clock_fits : (offset jump : ℤ) → JumpFits offset jump → FitsSigned w64 (offset +ℤ jump)
clock_fits offset jump fits = omega (arith, ints)

reading_fits : (list : Medl) (own : ℤ) (came : Arrival) (error drift : ℤ) → ArrivalFits list own came error drift
    → ReadingFits own came error
reading_fits list own came error drift fits = omega arith

module _ (made : Entry) (handed : Option Delivered) {list : Medl} {k : ℕ} {past : NodePast} {now : Turn}
    {sends : Intent} {does : Act} {jump : ℤ} where
  -- what a call of the machine's numbers says of it
  pub ended-by : {message : Option ℕ} (a b : Arrival) (error drift offset : ℤ)
      → IsControllerWithin list k past now sends → now ≡ Planned does jump message
      → ArrivalFits list (past.offset +ℤ jump) a error drift → ArrivalFits list (past.offset +ℤ jump) b error drift
      → FitsSigned w64 offset → FitsSigned w64 jump → FitsSigned w64 error → offset ≡ past.offset
      → EndsAs made handed list k past does message a b
      (to_z w64 (of_z w64 (to_z w64 (of_z w64 offset) +ℤ to_z w64 (of_z w64 jump)))) (to_z w64 (of_z w64 error))
      → IsEnded made handed list k past does jump message a b error
  ended-by {message = message} a b error drift offset within turn fits_a fits_b few_offset few_jump few_error is said =
      let planned : IsPlannedWithin list k past does jump message = subst (IsTurnWithin list k past) turn within.turn in
      let own = past.offset +ℤ jump in
      let ends = rw (
        to_z-of_z w64 offset few_offset,
        to_z-of_z w64 jump few_jump,
        to_z-of_z w64 error few_error,
        is,
        to_z-of_z w64 own (clock_fits past.offset jump planned.begun.fits),
      ) at said in
      let ending = ends planned.chosen planned.carries (signal_from 0 a) (signal_from 1 b) (clock_from a b)
      (shows_a a b)
      (shows_b a b) in
      record {
        ends = ends;
        made = subst (IsMade list k past a b error jump) (sym ending.entry)
            (new_entry-made list k past a b error jump planned.chosen jump does within.valid
            (reading_fits list own a error drift fits_a) (reading_fits list own b error drift fits_b)
            (possible-at list k past does planned.begun.possible) planned.begun.taken);
      }
