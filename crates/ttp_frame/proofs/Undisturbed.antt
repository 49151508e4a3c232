-- Frames as they were sent: what they carry, and when they fit another C-state.
use Rattle.std.proofs.Common.{◌≡◌, ◌≢◌, ℕ, suc, ◌+◌, ◌*◌, ◌%◌, ◌<◌, Bool, true, false, List, [], ◌∷◌, ◌++◌, length}
use Rattle.std.proofs.Common.{take, drop, if◌then◌else◌, refl, ap, sym, subst, ◌∙◌, arith, append_assoc}
use Rattle.std.specs.Bool.{Decides}
use Rattle.std.proofs.lemmas.Bool.{and_left, and_right, ne_eqb}
use Rattle.std.proofs.lemmas.List.{drop_at, take_at}
use Rattle.std.proofs.lemmas.Slice.Eq.{bytes_eq-Decides}
use Rattle.ttp_base.specs.NodeSet.{has_node, set_bits, members_in}
use Rattle.ttp_base.proofs.SetWords.{HasWord, HasWord-filter, set_bits-small, members_in-set_bits}
use Rattle.ttp_world.specs.declared.medl.Medl.{Medl}
use Rattle.ttp_world.specs.declared.node.CState.{CState}
use Rattle.ttp_world.specs.Diary.{joined_place}
use Rattle.ttp_world.specs.Fitting.{payload_in, number_in, carried, fits, is_formed}
use Rattle.ttp_world.specs.Frame.{big_endian, is_explicit, cstate_bytes, word_bytes, frame}
use Rattle.ttp_world.specs.Medl.{is_wide, member_bytes, IsValid}
use Rattle.ttp_world.specs.Membership.{AreNodes}
use Rattle.ttp_world.proofs.Lists.{nodes-most, limit_of_bytes as bits_of_members-most}
use Rattle.ttp_frame.specs.Shape.{HavePlaces, sent, unsent}
use Rattle.ttp_frame.proofs.FrameLaws.{is_formed-fits, members_told, number_in-members}
use Rattle.ttp_frame.proofs.Frames.{front, frame-pieces, length-sent}

-- Members with places.

-- a set with a word of a membership's bits has its places in the C-state
pub HavePlaces-HasWord : (wide : Bool) (members : List ℕ) → HasWord (8 * member_bytes wide) members
    → HavePlaces wide members
HavePlaces-HasWord wide members has = record {
  room = set_bits-small (8 * member_bytes wide) members has (bits_of_members-most wide);
  set = members_in-set_bits (8 * member_bytes wide) members has (bits_of_members-most wide);
}

-- so do nodes of a valid list
pub HavePlaces-AreNodes : (list : Medl) (members : List ℕ) → IsValid list → AreNodes list members
    → HavePlaces (is_wide list) members
HavePlaces-AreNodes list members valid are =
    HavePlaces-HasWord (is_wide list) members
    (subst (HasWord (8 * member_bytes (is_wide list))) (sym are)
    (HasWord-filter (8 * member_bytes (is_wide list)) (has_node members) (length list.slots)
    (omega (arith, valid.count)) (omega (arith, nodes-most list valid))))

-- What a frame carries.

-- the fields of a C-state have their places in a frame
pub record FitsBytes (wide : Bool) (c : CState) : Type 0 where
  pub time : c.time < 65536
  pub round : c.round < 256
  pub slot : c.slot < 256
  pub members : HavePlaces wide c.members

number_of_two : (v : ℕ) → v < 65536 → number_in (big_endian 2 v) ≡ v
number_of_two v small = omega arith

small_byte : (v : ℕ) → v < 256 → v % 256 ≡ v
small_byte v small = omega arith

-- the bytes of a C-state tell it, behind any header and before anything
pub carried-cstate_bytes : (wide : Bool) (header : ℕ) (c : CState) (rest : List ℕ) → FitsBytes wide c
    → carried (member_bytes wide) (header ∷ (cstate_bytes (member_bytes wide) c ++ rest)) ≡ c
carried-cstate_bytes true header c rest fit = λ i. record {
  time = number_of_two c.time fit.time i;
  round = small_byte c.round fit.round i;
  slot = small_byte c.slot fit.slot i;
  members = (ap members_in (number_in-members true (set_bits c.members) fit.members.room) ∙ fit.members.set) i;
}
carried-cstate_bytes false header c rest fit = λ i. record {
  time = number_of_two c.time fit.time i;
  round = small_byte c.round fit.round i;
  slot = small_byte c.slot fit.slot i;
  members = (ap members_in (number_in-members false (set_bits c.members) fit.members.room) ∙ fit.members.set) i;
}

sent-explicit : (width header : ℕ) (c : CState) → is_explicit header ≡ true → sent width header c ≡ cstate_bytes width c
sent-explicit width header c explicit = ap (λ e. if e then cstate_bytes width c else []) explicit

-- an explicit frame carries its C-state
pub carried-frame : (wide : Bool) (header : ℕ) (c : CState) (payload : List ℕ) (start : ℕ) → is_explicit header ≡ true
    → FitsBytes wide c
    → carried (member_bytes wide) (frame (member_bytes wide) header c payload start) ≡ c
carried-frame wide header c payload start explicit fit =
    ap (carried width) (frame-pieces width header c payload start)
    ∙ ap (λ piece. carried width (header ∷ (piece ++ payload ++ word))) (sent-explicit width header c explicit)
    ∙ ap (λ bytes. carried width (header ∷ bytes)) (append_assoc (cstate_bytes width c) payload word)
    ∙ carried-cstate_bytes wide header c (payload ++ word) fit
  where
    width : ℕ
    width = member_bytes wide

    word : List ℕ
    word = word_bytes start (unsent width header c ++ front header (sent width header c) payload)

-- and its payload in its place
pub payload_in-frame : (width header : ℕ) (c : CState) (payload : List ℕ) (start : ℕ)
    → payload_in width header (length payload) (frame width header c payload start) ≡ payload
payload_in-frame width header c payload start =
    ap (λ n. take (length payload) (drop (1 + n) (frame width header c payload start)))
    (sym (length-sent width header c))
    ∙ ap (λ bytes. take (length payload) (drop (1 + length piece) bytes)) (frame-pieces width header c payload start)
    ∙ ap (λ n. take (length payload) (drop n (header ∷ (piece ++ payload ++ word)))) places
    ∙ ap (λ bytes. take (length payload) (drop (length piece) bytes)) (append_assoc piece payload word)
    ∙ ap (take (length payload)) (drop_at piece (payload ++ word) (length piece) refl)
    ∙ take_at payload word (length payload) refl
  where
    piece : List ℕ
    piece = sent width header c

    word : List ℕ
    word = word_bytes start (unsent width header c ++ front header piece payload)

    places : 1 + length piece ≡ suc (length piece)
    places = omega arith

-- What a frame fits.

-- a frame fits its own C-state
pub fits-frame : (width header : ℕ) (c : CState) (payload : List ℕ) (start : ℕ)
    → fits width (frame width header c payload start) header (length payload) start c ≡ true
fits-frame width header c payload start =
    (bytes_eq-Decides _ _).1
    (ap (λ p. frame width header c p start) (sym (payload_in-frame width header c payload start)))

-- a frame is formed, and not where another header is expected
pub is_formed-frame : (width header : ℕ) (c : CState) (payload : List ℕ) (start : ℕ)
    → is_formed width (frame width header c payload start) header (length payload) start ≡ true
is_formed-frame width header c payload start =
    is_formed-fits width (frame width header c payload start) header (length payload) start c
    (fits-frame width header c payload start)

pub is_formed-other : (width header : ℕ) (c : CState) (payload : List ℕ) (start expected size : ℕ) → header ≢ expected
    → is_formed width (frame width header c payload start) expected size start ≡ false
is_formed-other width header c payload start expected size other =
    and_right _ _ (and_left _ _ (ne_eqb header expected other))

-- A frame of any kind fits the C-state that it was made of, and no other of the same place.
pub fits-same_place : (wide : Bool) (header : ℕ) (c d : CState) (payload : List ℕ) (start : ℕ)
    → joined_place c ≡ joined_place d → HavePlaces wide c.members → HavePlaces wide d.members
    → Decides (fits (member_bytes wide) (frame (member_bytes wide) header c payload start) header
    (length payload) start d) (c ≡ d)
fits-same_place wide header c d payload start place has has_too = (there, back)
  where
    width : ℕ
    width = member_bytes wide

    bytes : List ℕ
    bytes = frame width header c payload start

    there : fits width bytes header (length payload) start d ≡ true → c ≡ d
    there told =
        let members =
        members_told wide bytes header (length payload) start c d place has has_too
        (fits-frame width header c payload start) told in
        λ i. record { time = (place i).time; round = (place i).round; slot = (place i).slot; members = members i }

    back : c ≡ d → fits width bytes header (length payload) start d ≡ true
    back same = ap (fits width bytes header (length payload) start) (sym same) ∙ fits-frame width header c payload start
