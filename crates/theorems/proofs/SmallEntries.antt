-- How far an entry takes a clock: a node joins near the clock of the one that it hears, and takes a frame for correct
-- only within the window.
use Rattle.std.proofs.Common.{◌≡◌, ℕ, ◌<◌, ◌≤◌, ℤ, neg_ℤ, ◌+ℤ◌, Bool, true, false, cond, ◌&&◌, length, Option, Some}
use Rattle.std.proofs.Common.{None, IfSome, unwrap_or, unsigned_abs, refl, arith}
use Rattle.std.specs.Prelude.{int_le}
use Rattle.std.specs.Option.{option_or}
use Rattle.std.proofs.lemmas.Bool.{and_parts}
use Rattle.std.proofs.lemmas.Int.{ints}
use Rattle.ttp_world.specs.declared.medl.Medl.{Medl}
use Rattle.ttp_world.specs.declared.node.Act.{Act}
use Rattle.ttp_world.specs.declared.node.Act.TheVariants.{Listen, Leave, Judge}
use Rattle.ttp_world.specs.declared.node.ChannelView.{ChannelView}
use Rattle.ttp_world.specs.declared.node.ChannelView.TheVariants as view
use Rattle.ttp_world.specs.declared.node.Chosen.{Chosen}
use Rattle.ttp_world.specs.declared.node.CState.{CState}
use Rattle.ttp_world.specs.declared.node.Entry.{Entry}
use Rattle.ttp_world.specs.declared.node.Entry.TheVariants as entry
use Rattle.ttp_world.specs.declared.node.Verdict.{Verdict}
use Rattle.ttp_world.specs.declared.node.Verdict.TheVariants as verdict
use Rattle.ttp_world.specs.Acknowledgement.{is_correct}
use Rattle.ttp_world.specs.Act.{coming_place}
use Rattle.ttp_world.specs.Conduct.{join_entry, channel_join, verdict_entry, judging_entry, new_entry}
use Rattle.ttp_world.specs.Fitting.{joinable}
use Rattle.ttp_world.specs.Medium.{Signal, Silence, Noise, Bits}
use Rattle.ttp_world.specs.Past.{NodePast}
use Rattle.ttp_world.specs.Reception.{Hearing, Expected, expected_of, is_within_window, is_expected_form, view_of_frame}
use Rattle.ttp_world.specs.Reception.{view_of, is_taken_from_a, better_view, verdict_of}
use Rattle.ttp_world.specs.Reception.{heard_deviation, entry_deviation}
use Rattle.ttp_world.proofs.Averages.{Between}
use Rattle.ttp_world.proofs.DeliveredSizes.{of_form as not_bad}
use Rattle.ttp_world.proofs.WorldFacts.{first_of_correct}

-- a deviation is within the list's window
abbrev pub IsNear : Medl → ℤ → Type 0
IsNear list deviation = Between (neg_ℤ list.window) list.window deviation

-- A clock that was here comes no further from 0 than this where it joins, a correct frame is near, and a node that
-- leaves names one of the list.
abbrev pub IsEntryNear : Medl → ℤ → ℕ → Entry → Type 0
IsEntryNear list own reach (entry.Joined sender cstate deviation) = unsigned_abs (own +ℤ deviation) ≤ reach
IsEntryNear list own reach (entry.Judged sender v deviation) = is_correct v ≡ true → IsNear list deviation
IsEntryNear list own reach (entry.Left why peer) = peer < length list.slots
IsEntryNear list own reach _ = Unit {0}

-- Joining.

of_join : (P : Entry → Type 0) (deviation : ℤ) (c : Option CState)
    → ((c : CState) → P (entry.Joined c.slot c deviation)) → IfSome (join_entry deviation c) P
of_join P deviation None each = tt
of_join P deviation (Some c) each = each c

of_channel : (P : Entry → Type 0) (list : Medl) (late : ℕ → ℤ) (signal : Signal)
    → ((sender : ℕ) (c : CState) → P (entry.Joined c.slot c (late sender))) → IfSome (channel_join list late signal) P
of_channel P list late Silence each = tt
of_channel P list late Noise each = tt
of_channel P list late (Bits sender bytes) each = of_join P (late sender) (joinable list bytes) (each sender)

-- of two joins the first that there is, or waiting
of_first : (P : Entry → Type 0) (x y : Option Entry) → P entry.Waited → IfSome x P → IfSome y P
    → P (unwrap_or (option_or x y) entry.Waited)
of_first P None None waits p q = waits
of_first P None (Some e) waits p q = q
of_first P (Some e) y waits p q = p

-- Judging: of the views only the first candidate's makes a frame correct, and it is of bits within the window.

-- bits came, and within the window
abbrev IsHeardNear : Medl → Option ℤ → Type 0
IsHeardNear list None = ⊥
IsHeardNear list (Some deviation) = IsNear list deviation

near_of_test : (w d : ℤ) → (int_le (neg_ℤ w) d && int_le d w) ≡ true → Between (neg_ℤ w) w d
near_of_test w d is = (grind (arith, ints), grind (arith, ints))

first-near : (list : Medl) (e : Expected) (late : ℕ → ℤ) (signal : Signal) → view_of list e late signal ≡ view.First
    → IsHeardNear list (heard_deviation late signal)
first-near list e late Silence is = cc
first-near list e late Noise is = cc
first-near list e late (Bits sender bytes) is =
    near_of_test list.window (late sender)
    (and_parts (is_within_window list (late sender)) _
    (not_bad (is_within_window list (late sender) && is_expected_form list e bytes) (view_of_frame list e bytes) is)).0

-- the deviation of the entry is that of the channel that is taken
taken-near : (list : Medl) (from_a : Bool) (va vb : ChannelView) (a b : Option ℤ) → cond from_a va vb ≡ view.First
    → (va ≡ view.First → IsHeardNear list a) → (vb ≡ view.First → IsHeardNear list b)
    → IsNear list (entry_deviation from_a a b)
taken-near list true va vb None b is near_a near_b = absurd (near_a is)
taken-near list true va vb (Some d) None is near_a near_b = near_a is
taken-near list true va vb (Some d) (Some other) is near_a near_b = near_a is
taken-near list false va vb a None is near_a near_b = absurd (near_b is)
taken-near list false va vb None (Some d) is near_a near_b = near_b is
taken-near list false va vb (Some other) (Some d) is near_a near_b = near_b is

of_verdict : (list : Medl) (own : ℤ) (reach sender : ℕ) (v : Verdict) (deviation : ℤ) → sender < length list.slots
    → (is_correct v ≡ true → IsNear list deviation)
    → IsEntryNear list own reach (verdict_entry sender v deviation)
of_verdict list own reach sender verdict.Denied deviation inside near = inside
of_verdict list own reach sender _ deviation inside near = near

judging_entry-near : (list : Medl) (k : ℕ) (past : NodePast) (h : Hearing) (own : ℤ) (reach : ℕ)
    → (coming_place list past).slot < length list.slots
    → IsEntryNear list own reach (judging_entry list k past h)
judging_entry-near list k past h own reach inside =
    let e = expected_of list k past in
    let va = view_of list e h.deviation h.a in
    let vb = view_of list e h.deviation h.b in
    let late_a = heard_deviation h.deviation h.a in
    let late_b = heard_deviation h.deviation h.b in
    of_verdict list own reach (coming_place list past).slot (verdict_of va vb past.ack) _ inside
    (λ correct. taken-near list (is_taken_from_a va vb) va vb late_a late_b
    (first_of_correct (better_view va vb) past.ack correct) (first-near list e h.deviation h.a)
    (first-near list e h.deviation h.b))

-- by what the node does, if it can join only where that clock is
pub new_entry-near : (list : Medl) (k : ℕ) (past : NodePast) (chosen : Chosen) (h : Hearing) (does : Act) (own : ℤ)
    (reach : ℕ)
    → k < length list.slots → (coming_place list past).slot < length list.slots
    → (does ≡ Listen → (p : ℕ) → unsigned_abs (own +ℤ h.deviation p) ≤ reach)
    → IsEntryNear list own reach (new_entry list k past chosen h does)
new_entry-near list k past chosen h (Leave why) own reach node inside joins = node
new_entry-near list k past chosen h Listen own reach node inside joins =
    let P = IsEntryNear list own reach in
    of_first P (channel_join list h.deviation h.a) (channel_join list h.deviation h.b) tt
    (of_channel P list h.deviation h.a (λ p c. joins refl p)) (of_channel P list h.deviation h.b (λ p c. joins refl p))
new_entry-near list k past chosen h Judge own reach node inside joins =
    judging_entry-near list k past h own reach inside
new_entry-near list k past chosen h _ own reach node inside joins = tt
