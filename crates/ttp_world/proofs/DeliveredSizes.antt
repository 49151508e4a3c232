-- What a node delivers is as long as the list gives its sender.
use Rattle.ttp_world.proofs.Words.{◌≡◌, ℕ, ◌+◌, ◌≤◌, ℤ, Bool, true, false, cond, ◌&&◌, not, List, length, drop, Option}
use Rattle.ttp_world.proofs.Words.{Some, None, IfSome, refl, sym, ap, subst, ◌∙◌, arith, ◌<◌, ◌==◌, cond_both}
use Rattle.ttp_world.proofs.Words.{and_parts, eqb-true, true≢false, nat_tests, length-take, Medl, Ack, Act, Off, Gone}
use Rattle.ttp_world.proofs.Words.{Listen, Start, Retry, Leave, Send, Judge, ChannelView, Chosen, CState, Delivered}
use Rattle.ttp_world.proofs.Words.{Entry, Verdict, Script, coming_place, carries_payload, delivery, new_entry}
use Rattle.ttp_world.proofs.Words.{payload_taken, verdict_entry, History, Place, entry_of, carried_length, joinable}
use Rattle.ttp_world.proofs.Words.{Signal, Silence, Noise, Bits, is_bare, kind_at, member_width, payload_length}
use Rattle.ttp_world.proofs.Words.{plan_at, NodePast, Expected, Hearing, expected_header, expected_length, expected_of}
use Rattle.ttp_world.proofs.Words.{is_first_view, payload_heard, verdict_of_view, view_of, chosen_of, delivered_in}
use Rattle.ttp_world.proofs.Words.{frames_in, hearing_in, node_of, row_in, slot_after}
use Rattle.std.proofs.lemmas.List.{length-drop}
use Rattle.ttp_world.specs.declared.node.Ack.TheVariants as ack
use Rattle.ttp_world.specs.declared.node.ChannelView.TheVariants as view
use Rattle.ttp_world.specs.declared.node.Entry.TheVariants as entry
use Rattle.ttp_world.specs.declared.node.Verdict.TheVariants as verdict
use Rattle.ttp_world.specs.Fitting.{is_formed, payload_in}
use Rattle.ttp_world.specs.Reception.{better_view}
use Rattle.ttp_world.specs.Reception.{is_expected_form, is_taken_from_a, is_within_window}
use Rattle.ttp_world.specs.Reception.{verdict_of, view_of_frame}
use Rattle.ttp_world.proofs.EntriesMade.{listening_entry-holds}
use Rattle.ttp_world.proofs.Slots.{entry_of-row_in}

-- the payload is as long as its sender's
abbrev pub HasSendersSize : Medl → Delivered → Type 0
HasSendersSize list d = length d.payload ≡ (plan_at list d.sender).payload

-- Frames that carry payload.

pub record Carries (list : Medl) (place : Place) : Type 0 where
  pub size : payload_length list place.round place.slot ≡ (plan_at list place.slot).payload
  pub some : 1 ≤ (plan_at list place.slot).payload

pub carried_size : (bare : Bool) (size : ℕ) → not (cond bare 0 size == 0) ≡ true → cond bare 0 size ≡ size
carried_size true size carries = absurd cc
carried_size false size carries = refl

carried_some : (bare : Bool) (size : ℕ) → not (cond bare 0 size == 0) ≡ true → 1 ≤ size
carried_some bare size carries = grind (arith, nat_tests)

pub carries : (list : Medl) (place : Place) → carries_payload list place ≡ true → Carries list place
carries list place is = record {
  size = carried_size (is_bare (kind_at list place.round place.slot)) (plan_at list place.slot).payload is;
  some = carried_some (is_bare (kind_at list place.round place.slot)) (plan_at list place.slot).payload is;
}

-- The size of what is taken of a correct frame.

formed_size : (width header size start : ℕ) (bytes : List ℕ) → is_formed width bytes header size start ≡ true
    → length (payload_in width header size bytes) ≡ size
formed_size width header size start bytes formed =
    let n = 1 + carried_length width header in
    let whole = eqb-true (length bytes) (n + size + 3)
    (and_parts (length bytes == n + size + 3) _ formed).0 in
    omega (arith, length-take size (drop n bytes), length-drop n bytes, whole)

pub of_form : (ok : Bool) (x : ChannelView) → cond ok x view.Bad ≡ view.First → ok ≡ true
of_form true x is = refl
of_form false x is = absurd cc

heard_size : (list : Medl) (expected : Expected) (deviation : ℕ → ℤ) (signal : Signal)
    → view_of list expected deviation signal ≡ view.First
    → length (payload_heard list expected.place signal) ≡ expected_length list expected.place
heard_size list expected deviation Silence first = absurd cc
heard_size list expected deviation Noise first = absurd cc
heard_size list expected deviation (Bits sender bytes) first =
    let ok = of_form
    (is_within_window list (deviation sender) && is_expected_form list expected bytes)
    (view_of_frame list expected bytes)
    first in
    formed_size (member_width list) (expected_header list expected.place) (expected_length list expected.place)
    list.schedule bytes (and_parts (is_within_window list (deviation sender)) _ ok).1

first_is : (v : ChannelView) → is_first_view v ≡ true → v ≡ view.First
first_is view.First is = refl
first_is v is = absurd cc

better_first : (from_a : Bool) (a b : ChannelView) → cond from_a a b ≡ view.First → is_first_view a ≡ false
    → b ≡ view.First
better_first true a b first other = absurd (true≢false (sym (ap is_first_view first) ∙ other))
better_first false a b first other = first

correct_first : (v : ChannelView) (acknowledgement : Ack) → verdict_of_view v acknowledgement ≡ verdict.Correct
    → v ≡ view.First
correct_first view.First k is = refl
correct_first view.Second ack.Closed is = absurd cc
correct_first view.Second ack.First is = absurd cc
correct_first view.Second (ack.Doubt x) is = absurd cc
correct_first view.Other k is = absurd cc
correct_first view.Bad k is = absurd cc
correct_first view.Silent k is = absurd cc

pub taken_size : (list : Medl) (expected : Expected) (h : Hearing) (acknowledgement : Ack)
    → verdict_of (view_of list expected h.deviation h.a) (view_of list expected h.deviation h.b) acknowledgement
    ≡ verdict.Correct
    → length (payload_taken list expected h) ≡ expected_length list expected.place
taken_size list expected h acknowledgement correct =
    let a = view_of list expected h.deviation h.a in
    let b = view_of list expected h.deviation h.b in
    let first = correct_first (better_view a b) acknowledgement correct in
    cond_both (is_first_view a) (payload_heard list expected.place h.a) (payload_heard list expected.place h.b)
    (λ (p : List ℕ). length p ≡ expected_length list expected.place)
    (λ is. heard_size list expected h.deviation h.a (first_is a is))
    (λ other. heard_size list expected h.deviation h.b (better_first (is_taken_from_a a b) a b first other))

-- So it is of the entry that a node makes.

judged : (list : Medl) (k : ℕ) (past : NodePast) (h : Hearing) (v : Verdict) (deviation : ℤ)
    → (v ≡ verdict.Correct
    → length (payload_taken list (expected_of list k past) h) ≡ expected_length list (coming_place list past))
    → IfSome (delivery list k past h (verdict_entry (coming_place list past).slot v deviation)) (HasSendersSize list)
judged list k past h verdict.Denied deviation size = tt
judged list k past h verdict.Null deviation size = tt
judged list k past h verdict.Invalid deviation size = tt
judged list k past h verdict.Incorrect deviation size = tt
judged list k past h verdict.Tentative deviation size = tt
judged list k past h verdict.Correct deviation size =
    let place = coming_place list past in
    cond_both (carries_payload list place) (Some _) None (λ (o : Option Delivered). IfSome o (HasSendersSize list))
    (λ is. size refl ∙ (carries list place is).size) (λ bare. tt)

joined_nothing : (list : Medl) (k : ℕ) (past : NodePast) (h : Hearing) (c : Option CState)
    → IfSome c (λ c. (d : ℤ) → IfSome (delivery list k past h (entry.Joined c.slot c d)) (HasSendersSize list))
joined_nothing list k past h None = tt
joined_nothing list k past h (Some c) = λ d. tt

made : (list : Medl) (k : ℕ) (past : NodePast) (chosen : Chosen) (h : Hearing) (does : Act)
    → IfSome (delivery list k past h (new_entry list k past chosen h does)) (HasSendersSize list)
made list k past chosen h Off = tt
made list k past chosen h Gone = tt
made list k past chosen h Start = tt
made list k past chosen h Retry = tt
made list k past chosen h (Leave why) = tt
made list k past chosen h Send = tt
made list k past chosen h Listen =
    listening_entry-holds (λ e. IfSome (delivery list k past h e) (HasSendersSize list)) list h tt
    (λ bytes. joined_nothing list k past h (joinable list bytes))
made list k past chosen h Judge =
    let expected = expected_of list k past in
    judged list k past h
    (verdict_of (view_of list expected h.deviation h.a) (view_of list expected h.deviation h.b) past.ack)
    _ (taken_size list expected h past.ack)

-- and of what it delivers in the slot after a history
pub delivered-size : (list : Medl) (script : Script) (history : History) (chosen : List Chosen) (r : ℕ)
    → r < length list.slots
    → IfSome (delivered_in (slot_after list script history) (frames_in (slot_after list script history) chosen) r
    (entry_of (row_in (slot_after list script history) chosen) r)) (HasSendersSize list)
delivered-size list script history chosen r node =
    let s = slot_after list script history in
    let h = hearing_in s (frames_in s chosen) r in
    subst (λ (e : Entry). IfSome (delivery list r (node_of s r).past h e) (HasSendersSize list))
    (sym (entry_of-row_in s chosen r node))
    (made list r (node_of s r).past (chosen_of chosen r) h (node_of s r).act)
