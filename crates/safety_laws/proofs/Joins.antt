-- On which frames a listening node joins, and what it makes of what it hears.
use Rattle.safety_laws.proofs.Words.{◌≡◌, ℕ, ◌<◌, Bool, true, false, cond, not, ◌&&◌, ◌||◌, List, [], ◌∷◌, length}
use Rattle.safety_laws.proofs.Words.{Option, Some, None, refl, ap, sym, ◌∙◌, subst, unwrap_or, arith, ℤ, IsTrue, nat_lt}
use Rattle.safety_laws.proofs.Words.{◌==◌, list_all, AllByRecursion, or-true, and_from, eq-eqb, eqb-true, lt-ltb, below}
use Rattle.safety_laws.proofs.Words.{has_node, with_node-nil, Medl, CState, Entry, cold_start_cstate, cold_start_frame}
use Rattle.safety_laws.proofs.Words.{listening_entry, Place, start_place, time_limit, cstate_at, cold_start_header}
use Rattle.safety_laws.proofs.Words.{is_explicit, frame, SentFrame, Signal, Silence, Noise, Bits, is_wide, member_width}
use Rattle.safety_laws.proofs.Words.{may_start, IsValid, AreNodes, Hearing, expected_header, nodes-most}
use Rattle.safety_laws.proofs.Words.{HavePlaces-AreNodes, is_formed-frame, is_frameless, HearsFrame, OnBoth, OnA, OnB}
use Rattle.safety_laws.proofs.Words.{HearsNoFrame, IsSlotFrame}
use Rattle.std.specs.Prelude.{filter}
use Rattle.std.specs.Option.{option_or}
use Rattle.ttp_base.proofs.NodeLists.{filter-none}
use Rattle.ttp_world.specs.declared.node.Entry.TheVariants as entry
use Rattle.ttp_world.specs.Conduct.{join_entry, channel_join}
use Rattle.ttp_world.specs.Fitting.{header_in, carried, is_joinable_state, is_cold_start, is_listed_explicit}
use Rattle.ttp_world.specs.Fitting.{joinable_cstate, joinable}
use Rattle.ttp_world.proofs.Filters.{each-sieve}
use Rattle.ttp_world.proofs.Lists.{IsPlaceOf}
use Rattle.safety_laws.proofs.FromBelow.{joinable-implicit, FitsBytes, carried-frame}
use Rattle.safety_laws.proofs.GroupSets.{AreNodes-with}
use Rattle.safety_laws.proofs.Views.{is_expected_form-own}

-- the set of one node of the list
pub AreNodes-only : (list : Medl) (k : ℕ) → IsValid list → k < length list.slots → AreNodes list (k ∷ [])
AreNodes-only list k valid node =
    subst (AreNodes list) (with_node-nil k (omega (arith, nodes-most list valid)))
    (AreNodes-with list [] k valid (sym (filter-none (has_node []) 0 (length list.slots) (λ j from. refl))) node)

-- What an explicit frame carries.

-- the place lies in the list's cycle, and its owner is of some nodes of the list
pub record IsPlaceWith (list : Medl) (place : Place) (members : List ℕ) : Type 0 where
  pub time : place.time < time_limit
  pub cycle : IsPlaceOf list place
  pub nodes : AreNodes list members
  pub owner : has_node members place.slot ≡ true

all_less : (p : ℕ → Bool) (n : ℕ) (xs : List ℕ) → AllByRecursion (λ k. (k < n) × (p k ≡ true)) xs
    → list_all (λ k. nat_lt k n) xs ≡ true
all_less p n [] all = refl
all_less p n (x ∷ xs) all = and_from (nat_lt x n) _ (lt-ltb x n all.0.0) (all_less p n xs all.1)

nodes_less : (list : Medl) (members : List ℕ) → AreNodes list members
    → list_all (λ k. nat_lt k (length list.slots)) members ≡ true
nodes_less list members are =
    let n = length list.slots in
    ap (list_all (λ k. nat_lt k n)) are
    ∙ all_less (has_node members) n (filter (has_node members) (below n)) (each-sieve (has_node members) n)

module _ (list : Medl) (place : Place) (members : List ℕ) (valid : IsValid list)
    (at : IsPlaceWith list place members) where
  cstate-fits : FitsBytes (is_wide list) (cstate_at place members)
  cstate-fits = record {
    time = at.time;
    round = omega (arith, at.cycle.round, valid.rounds);
    slot = omega (arith, at.cycle.slot, nodes-most list valid);
    members = HavePlaces-AreNodes list members valid at.nodes;
  }

  carried-place : (header : ℕ) (payload : List ℕ) → is_explicit header ≡ true →
      let width = member_width list in
      carried width (frame width header (cstate_at place members) payload list.schedule) ≡ cstate_at place members
  carried-place header payload explicit =
      carried-frame (is_wide list) header (cstate_at place members) payload list.schedule explicit cstate-fits

  is_joinable_state-place : is_joinable_state list (cstate_at place members) ≡ true
  is_joinable_state-place =
      and_from (nat_lt place.round list.rounds) _ (lt-ltb place.round list.rounds at.cycle.round)
      (and_from (nat_lt place.slot (length list.slots)) _ (lt-ltb place.slot (length list.slots) at.cycle.slot)
      (and_from (list_all (λ j. nat_lt j (length list.slots)) members) (has_node members place.slot)
      (nodes_less list members at.nodes) at.owner))

  -- So a node that hears an explicit frame of the list can join on it.
  pub joinable-explicit : (bytes : List ℕ) → is_explicit (expected_header list place) ≡ true
      → IsSlotFrame list place members bytes → joinable list bytes ≡ Some (cstate_at place members)
  joinable-explicit bytes explicit is =
      let c = cstate_at place members in
      ap (joinable_cstate list bytes)
      (ap (carried (member_width list)) is.same ∙ carried-place (expected_header list place) is.payload explicit)
      ∙ joined-listed (is_joinable_state list c) (is_cold_start list bytes c) (is_listed_explicit list bytes c) c
      is_joinable_state-place (and_from (is_explicit (expected_header list place)) _ explicit
      (is_expected_form-own list place (record { first = members; second = None }) members bytes is))
    where
      joined-listed : (state cold listed : Bool) (c : CState) → state ≡ true → listed ≡ true
          → cond (state && (cold || listed)) (Some c) None ≡ Some c
      joined-listed state cold listed c good is =
          (λ i. cond (good i && (cold || is i)) (Some c) None) ∙ ap (λ b. cond b (Some c) None) (or-true cold)

-- A cold-start frame is one of the place of a start, with its sender alone.
start-place_with : (list : Medl) (k : ℕ) → IsValid list → k < length list.slots
    → IsPlaceWith list (start_place k) (k ∷ [])
start-place_with list k valid node = record {
  time = omega arith;
  cycle = record { round = omega (arith, valid.rounds); slot = node };
  nodes = AreNodes-only list k valid node;
  owner = ap (λ b. b || false) (eq-eqb k k refl);
}

joined-cold_start : (state cold listed : Bool) (c : CState) → state ≡ true → cold ≡ true
    → cond (state && (cold || listed)) (Some c) None ≡ Some c
joined-cold_start state cold listed c good is = λ i. cond (good i && (is i || listed)) (Some c) None

-- A node that hears a cold-start frame of a slot that may start can join on it.
pub joinable-cold_start : (list : Medl) (k : ℕ) → IsValid list → k < length list.slots → may_start list k ≡ true
    → joinable list (cold_start_frame list k) ≡ Some (cold_start_cstate k)
joinable-cold_start list k valid node may =
    let bytes = cold_start_frame list k in
    let c = cold_start_cstate k in
    let at = start-place_with list k valid node in
    ap (joinable_cstate list bytes) (carried-place list (start_place k) (k ∷ []) valid at cold_start_header [] refl)
    ∙ joined-cold_start (is_joinable_state list c) (is_cold_start list bytes c) (is_listed_explicit list bytes c) c
    (is_joinable_state-place list (start_place k) (k ∷ []) valid at) (and_from _ (may_start list k)
    (is_formed-frame (member_width list) cold_start_header c [] list.schedule) may)

-- No node joins on a frame that carries no C-state.
pub joinable-without : (list : Medl) (place : Place) (members bytes : List ℕ)
    → is_explicit (expected_header list place) ≡ false → IsSlotFrame list place members bytes
    → joinable list bytes ≡ None
joinable-without list place members bytes implicit is =
    joinable-implicit list bytes (ap header_in is.same ∙ zero_header (expected_header list place) implicit)
  where
    told : (b : Bool) → not b ≡ false → b ≡ true
    told true is = refl
    told false is = sym is

    zero_header : (header : ℕ) → is_explicit header ≡ false → header ≡ 0
    zero_header header implicit = eqb-true header 0 (told (header == 0) implicit)

-- What a listening node makes of what it hears.

-- of the two channels' joins
listening_by : Option Entry → Option Entry → Entry
listening_by a b = unwrap_or (option_or a b) entry.Waited

frameless-join : (list : Medl) (deviation : ℕ → ℤ) (signal : Signal) → IsTrue (is_frameless signal)
    → channel_join list deviation signal ≡ None
frameless-join list deviation Silence none = refl
frameless-join list deviation Noise none = refl
frameless-join list deviation (Bits sender bytes) none = cc

-- it joins on a frame on which it can
pub listening_entry-joins : (list : Medl) (h : Hearing) (sent : SentFrame) (c : CState) → HearsFrame sent h
    → joinable list sent.bytes ≡ Some c → listening_entry list h ≡ entry.Joined c.slot c (h.deviation sent.sender)
unfolding listening_by
listening_entry-joins list h sent c (OnBoth a b) can =
    (λ i. listening_by (channel_join list h.deviation (a i)) (channel_join list h.deviation (b i)))
    ∙ (λ i. listening_by (join_entry (h.deviation sent.sender) (can i)) (join_entry (h.deviation sent.sender) (can i)))
listening_entry-joins list h sent c (OnA a none) can =
    (λ i. listening_by (channel_join list h.deviation (a i)) (frameless-join list h.deviation h.b none i))
    ∙ (λ i. listening_by (join_entry (h.deviation sent.sender) (can i)) None)
listening_entry-joins list h sent c (OnB none b) can =
    (λ i. listening_by (frameless-join list h.deviation h.a none i) (channel_join list h.deviation (b i)))
    ∙ (λ i. listening_by None (join_entry (h.deviation sent.sender) (can i)))

-- and waits where it hears none
pub listening_entry-waits : (list : Medl) (h : Hearing) → HearsNoFrame h → listening_entry list h ≡ entry.Waited
unfolding listening_by
listening_entry-waits list h none =
    λ i. listening_by (frameless-join list h.deviation h.a none.a i) (frameless-join list h.deviation h.b none.b i)

-- where a frame comes on which it can't join, too
pub listening_entry-passes : (list : Medl) (h : Hearing) (sent : SentFrame) → HearsFrame sent h
    → joinable list sent.bytes ≡ None → listening_entry list h ≡ entry.Waited
unfolding listening_by
listening_entry-passes list h sent (OnBoth a b) none =
    (λ i. listening_by (channel_join list h.deviation (a i)) (channel_join list h.deviation (b i)))
    ∙ (λ i. listening_by (join_entry (h.deviation sent.sender) (none i))
    (join_entry (h.deviation sent.sender) (none i)))
listening_entry-passes list h sent (OnA a less) none =
    (λ i. listening_by (channel_join list h.deviation (a i)) (frameless-join list h.deviation h.b less i))
    ∙ (λ i. listening_by (join_entry (h.deviation sent.sender) (none i)) None)
listening_entry-passes list h sent (OnB less b) none =
    (λ i. listening_by (frameless-join list h.deviation h.a less i) (channel_join list h.deviation (b i)))
    ∙ (λ i. listening_by None (join_entry (h.deviation sent.sender) (none i)))
