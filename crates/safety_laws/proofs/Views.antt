-- At one place an undisturbed frame inside the window is seen by its members alone.
use Rattle.safety_laws.proofs.Words.{◌≡◌, ◌≢◌, ℕ, ℤ, Bool, true, false, cond, ◌&&◌, List, [], Option, Some, None, refl}
use Rattle.safety_laws.proofs.Words.{ap, sym, ◌∙◌, unwrap_or, option_map, arith, neg_ℤ, ◌≤ℤ◌, IfSome, IsTrue, int_le}
use Rattle.safety_laws.proofs.Words.{bytes_eq, and_from, ints, bytes_eq-Decides, Kind, Medl, ChannelView, CState}
use Rattle.safety_laws.proofs.Words.{cold_start_cstate, cold_start_frame, Place, cstate_at, header_of}
use Rattle.safety_laws.proofs.Words.{cold_start_header, is_wide, member_width, kind_at, IsValid, AreNodes, Candidates}
use Rattle.safety_laws.proofs.Words.{Expected, expected_header, expected_length, is_within_window, is_expected_form}
use Rattle.safety_laws.proofs.Words.{fits_members, fits_second, view_of_bits, HavePlaces-AreNodes, is_formed-frame}
use Rattle.safety_laws.proofs.Words.{slot_frame, IsSlotFrame, AreCandidates, is_second, view_of_members}
use Rattle.std.specs.Prelude.{◌↔◌}
use Rattle.std.specs.Bool.{Decides}
use Rattle.std.proofs.lemmas.Bool.Decides.{same_from_decides}
use Rattle.ttp_world.specs.declared.medl.Kind.TheVariants as kind
use Rattle.ttp_world.specs.declared.node.ChannelView.TheVariants as view
use Rattle.ttp_world.specs.Fitting.{fits, is_formed}
use Rattle.ttp_world.specs.Reception.{view_of_frame}
use Rattle.safety_laws.proofs.FromBelow.{is_formed-other, fits-same_place}
use Rattle.ttp_world.proofs.SmallTests.{near_of_test as within-bounds}

-- C-states of one place are the same exactly where their members are
Decides-members : (fits : Bool) (place : Place) (one other : List ℕ)
    → Decides fits (cstate_at place one ≡ cstate_at place other) → Decides fits (one ≡ other)
Decides-members fits place one other by_state = (
  λ told. ap (λ (c : CState). c.members) (by_state.0 told),
  λ same. by_state.1 (ap (cstate_at place) same),
)

-- a frame of a place fits a set of members there exactly where it is its own
fits_members-own : (list : Medl) (place : Place) (c : Candidates) (own members bytes : List ℕ) → IsValid list
    → IsSlotFrame list place own bytes → AreNodes list members
    → fits_members list (record { place = place; candidates = c }) bytes members ≡ bytes_eq own members
fits_members-own list place c own members bytes valid is nodes =
    let expected : Expected = record { place = place; candidates = c } in
    let by_state =
    fits-same_place (is_wide list) (expected_header list place) (cstate_at place own) (cstate_at place members)
    is.payload list.schedule refl (HavePlaces-AreNodes list own valid is.nodes)
    (HavePlaces-AreNodes list members valid nodes) in
    ap (λ (bs : List ℕ). fits_members list expected bs members) is.same
    ∙ ap (λ size. fits (member_width list) (slot_frame list place own is.payload) (expected_header list place) size
    list.schedule (cstate_at place members)) (sym is.size)
    ∙ same_from_decides _ _ (Decides-members _ place own members by_state) (bytes_eq-Decides own members)

-- so does it fit the second candidate
fits_second-own : (list : Medl) (place : Place) (c : Candidates) (own bytes : List ℕ) (second : Option (List ℕ))
    → IsValid list → IsSlotFrame list place own bytes → IfSome second (AreNodes list)
    → unwrap_or (option_map (fits_members list (record { place = place; candidates = c }) bytes) second) false
    ≡ is_second second own
fits_second-own list place c own bytes None valid is nodes = refl
fits_second-own list place c own bytes (Some second) valid is nodes =
    fits_members-own list place c own second bytes valid is nodes

seen_by : (f s : Bool) → (elim f [ true ↦ view.First | false ↦ cond s view.Second view.Other ])
    ≡ cond f view.First (cond s view.Second view.Other)
seen_by true s = refl
seen_by false s = refl

view_of_frame-members : (list : Medl) (place : Place) (c : Candidates) (own bytes : List ℕ) → IsValid list
    → IsSlotFrame list place own bytes → AreCandidates list c
    → view_of_frame list (record { place = place; candidates = c }) bytes ≡ view_of_members c own
view_of_frame-members list place c own bytes valid is are =
    seen_by (fits_members list expected bytes c.first) (fits_second list expected bytes)
    ∙ (λ i. cond (fits_members-own list place c own c.first bytes valid is are.first i) view.First
    (cond (fits_second-own list place c own bytes c.second valid is are.second i) view.Second view.Other))
  where
    expected : Expected
    expected = record { place = place; candidates = c }

-- A frame of the place has the form that the list gives.
pub is_expected_form-own : (list : Medl) (place : Place) (c : Candidates) (own bytes : List ℕ)
    → IsSlotFrame list place own bytes → is_expected_form list (record { place = place; candidates = c }) bytes ≡ true
is_expected_form-own list place c own bytes is =
    ap (is_expected_form list (record { place = place; candidates = c })) is.same
    ∙ ap (λ size. is_formed (member_width list) (slot_frame list place own is.payload) (expected_header list place) size
    list.schedule) (sym is.size)
    ∙ is_formed-frame (member_width list) (expected_header list place) (cstate_at place own) is.payload list.schedule

-- Inside the window its view is that of its members.
pub view_of_bits-members : (list : Medl) (place : Place) (c : Candidates) (own bytes : List ℕ) (deviation : ℤ)
    → IsValid list → IsSlotFrame list place own bytes → AreCandidates list c → is_within_window list deviation ≡ true
    → view_of_bits list (record { place = place; candidates = c }) bytes deviation ≡ view_of_members c own
view_of_bits-members list place c own bytes deviation valid is are within =
    (λ i. cond (within i && is_expected_form-own list place c own bytes is i)
    (view_of_frame list (record { place = place; candidates = c }) bytes) view.Bad)
    ∙ view_of_frame-members list place c own bytes valid is are

-- Outside it is bad, whatever it is.
pub view_of_bits-outside : (list : Medl) (expected : Expected) (bytes : List ℕ) (deviation : ℤ)
    → is_within_window list deviation ≡ false → view_of_bits list expected bytes deviation ≡ view.Bad
view_of_bits-outside list expected bytes deviation outside =
    ap (λ b. cond (b && is_expected_form list expected bytes) (view_of_frame list expected bytes) view.Bad) outside

-- An active node sees a cold-start frame as bad: no slot of the list expects one.

cold_start≢ : (k : Kind) → cold_start_header ≢ header_of k
cold_start≢ kind.N = λ same. absurd (omega (arith, same))
cold_start≢ k = λ same. absurd (omega (arith, same))

bad_form : (within form : Bool) (v : ChannelView) → form ≡ false → cond (within && form) v view.Bad ≡ view.Bad
bad_form true form v not_formed = ap (λ b. cond b v view.Bad) not_formed
bad_form false form v not_formed = refl

pub view_of_bits-cold_start : (list : Medl) (expected : Expected) (k : ℕ) (deviation : ℤ)
    → view_of_bits list expected (cold_start_frame list k) deviation ≡ view.Bad
view_of_bits-cold_start list expected k deviation =
    let place = expected.place in
    bad_form (is_within_window list deviation) _ _
    (is_formed-other (member_width list) cold_start_header (cold_start_cstate k) [] list.schedule
    (expected_header list place) (expected_length list place) (cold_start≢ (kind_at list place.round place.slot)))

-- What the window is.

bounds-within : (w d : ℤ) → (neg_ℤ w ≤ℤ d) × (d ≤ℤ w) → (int_le (neg_ℤ w) d && int_le d w) ≡ true
bounds-within w d bounds =
    let low : neg_ℤ w ≤ℤ d = bounds.0 in
    let high : d ≤ℤ w = bounds.1 in
    and_from (int_le (neg_ℤ w) d) (int_le d w) (grind (arith, ints)) (grind (arith, ints))

pub is_within_window-bounds : (list : Medl) (deviation : ℤ)
    → IsTrue (is_within_window list deviation) ↔ ((neg_ℤ list.window ≤ℤ deviation) × (deviation ≤ℤ list.window))
is_within_window-bounds list deviation = (within-bounds list.window deviation, bounds-within list.window deviation)
