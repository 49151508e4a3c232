-- Frames with flipped bits: how they are judged does not depend on their payload.
use Rattle.std.proofs.Common.{◌≡◌, ◌≢◌, ℕ, ◌+◌, ◌-◌, ◌<◌, ◌≤◌, ◌^◌, Bool, true, false, ◌&&◌, ◌||◌, List, [], ◌∷◌, ◌++◌}
use Rattle.std.proofs.Common.{length, take, drop, Some, None, if◌then◌else◌, refl, ap, sym, subst, ◌∙◌, inl, inr, arith}
use Rattle.std.proofs.Common.{append_assoc, length-append}
use Rattle.std.specs.Prelude.{◌==◌, not, slice_index}
use Rattle.std.specs.Str.{bytes_eq}
use Rattle.std.specs.List.{All}
use Rattle.std.proofs.lemmas.Bool.{and_right, and_left, cases_eq, ne_eqb, true≢false}
use Rattle.std.proofs.lemmas.List.{take-take}
use Rattle.ttp_base.specs.NodeSet.{members_in}
use Rattle.ttp_world.specs.declared.medl.Medl.{Medl}
use Rattle.ttp_world.specs.declared.node.CState.{CState}
use Rattle.ttp_world.specs.CheckWord.{check_word}
use Rattle.ttp_world.specs.Fitting.{header_in, carried_length, number_in, carried, is_formed, is_joinable_state}
use Rattle.ttp_world.specs.Fitting.{is_cold_start, is_listed_explicit, joinable_cstate, joinable}
use Rattle.ttp_world.specs.Frame.{is_explicit, cold_start_header, header_of, word_bytes, frame}
use Rattle.ttp_world.specs.Medl.{is_wide, member_bytes, member_width, kind_at, payload_length, may_start}
use Rattle.ttp_frame.specs.Bytes.{xor_bytes}
use Rattle.ttp_frame.proofs.WordLaws.{own_word_gives_zero}
use Rattle.ttp_frame.proofs.Words.{All-big_endian}
use Rattle.ttp_frame.specs.declared.judging.FrameMatch.TheVariants.{Match, Differs, Invalid}
use Rattle.ttp_frame.specs.Match.{match_of}
use Rattle.ttp_frame.specs.Shape.{sent, unsent, has_shape, has_word, carries}
use Rattle.ttp_frame.proofs.Flips.{AreBytes, length-xor_bytes, take-xor_bytes, drop-xor_bytes, first-xor_bytes}
use Rattle.ttp_frame.proofs.Flips.{All-xor_bytes, check_word-flipped, has_word-zero}
use Rattle.ttp_frame.proofs.Frames.{front, frame-pieces, length-frame, length-sent, length-unsent, match_of-parts}
use Rattle.ttp_frame.proofs.Frames.{is_formed-parts}

-- Bytes that receivers take alike.

-- bytes of one header and length, with the same C-state where they carry one, whose words are right for the same
-- C-states
pub record AreAlike (width header start : ℕ) (one other : List ℕ) : Type 0 where
  pub long : length one ≡ length other
  pub first : header_in one ≡ header
  pub first_too : header_in other ≡ header
  pub words : (c : CState) → has_word start (unsent width header c) one ≡ has_word start (unsent width header c) other
  pub state : take (carried_length width header) (drop 1 one) ≡ take (carried_length width header) (drop 1 other)

has_shape-alike : (width header start : ℕ) (one other : List ℕ) → AreAlike width header start one other
    → (expected size : ℕ) → has_shape width one expected size ≡ has_shape width other expected size
has_shape-alike width header start one other alike expected size =
    λ i. (alike.long i == 1 + carried_length width expected + size + 3)
    && ((alike.first ∙ sym alike.first_too) i == expected)

-- where another header is expected
no_shape : (width header : ℕ) (bytes : List ℕ) (expected size : ℕ) → header_in bytes ≡ header → header ≢ expected
    → has_shape width bytes expected size ≡ false
no_shape width header bytes expected size first other =
    and_right _ _ (ne_eqb (header_in bytes) expected (λ same. other (sym first ∙ same)))

carries-alike : (width header start : ℕ) (one other : List ℕ) → AreAlike width header start one other → (c : CState)
    → carries (sent width header c) one ≡ carries (sent width header c) other
carries-alike width header start one other alike c =
    let count = length-sent width header c in
    let same : take (length (sent width header c)) (drop 1 one) ≡ take (length (sent width header c)) (drop 1 other) =
    ap (λ n. take n (drop 1 one)) count ∙ alike.state ∙ ap (λ n. take n (drop 1 other)) (sym count) in
    ap (λ piece. bytes_eq piece (sent width header c)) same

-- they are judged alike
pub match_of-alike : (wide : Bool) (header start : ℕ) (one other : List ℕ)
    → AreAlike (member_bytes wide) header start one other → (expected size : ℕ) (c : CState)
    → match_of wide one expected size start c ≡ match_of wide other expected size start c
match_of-alike wide header start one other alike expected size c = elim (cases_eq header expected) [
  | inl same ↦
      subst (λ h. match_of wide one h size start c ≡ match_of wide other h size start c) same
      (by_parts header (has_shape-alike width header start one other alike header size) (alike.words c)
      (carries-alike width header start one other alike c))
  | inr apart ↦ none one alike.first apart ∙ sym (none other alike.first_too apart)
]
  where
    width : ℕ
    width = member_bytes wide

    by_parts : (h : ℕ) → has_shape width one h size ≡ has_shape width other h size
        → has_word start (unsent width h c) one ≡ has_word start (unsent width h c) other
        → carries (sent width h c) one ≡ carries (sent width h c) other
        → match_of wide one h size start c ≡ match_of wide other h size start c
    by_parts h shape word piece =
        match_of-parts wide one h size start c
        ∙ (λ i. if shape i
        then (if word i then (if piece i then Match else Differs) else (if is_explicit h then Invalid else Differs))
        else Invalid)
        ∙ sym (match_of-parts wide other h size start c)

    none : (bytes : List ℕ) → header_in bytes ≡ header → header ≢ expected
        → match_of wide bytes expected size start c ≡ Invalid
    none bytes first apart =
        match_of-parts wide bytes expected size start c
        ∙ ap (λ s. if s
        then (if has_word start (unsent width expected c) bytes
        then (if carries (sent width expected c) bytes then Match else Differs) else
        (if is_explicit expected then Invalid else Differs)) else Invalid)
        (no_shape width header bytes expected size first apart)

-- and formed alike
pub is_formed-alike : (width header start : ℕ) (one other : List ℕ) → AreAlike width header start one other → CState
    → (expected size : ℕ) → is_formed width one expected size start ≡ is_formed width other expected size start
is_formed-alike width header start one other alike c expected size = elim (cases_eq header expected) [
  | inl same ↦ subst (λ h. is_formed width one h size start ≡ is_formed width other h size start) same
      (is_formed-parts width one header size start c
      ∙ (λ i. has_shape-alike width header start one other alike header size i
      && (if is_explicit header then alike.words c i else true))
      ∙ sym (is_formed-parts width other header size start c))
  | inr apart ↦ none one alike.first apart ∙ sym (none other alike.first_too apart)
]
  where
    none : (bytes : List ℕ) → header_in bytes ≡ header → header ≢ expected
        → is_formed width bytes expected size start ≡ false
    none bytes first apart =
        is_formed-parts width bytes expected size start c
        ∙ and_left _ _ (no_shape width header bytes expected size first apart)

-- Joining.

-- the C-state that is carried stands in the first bytes behind the header
carried-front : (wide : Bool) (bytes : List ℕ)
    → carried (member_bytes wide) bytes
    ≡ carried (member_bytes wide) (take 1 bytes ++ take (4 + member_bytes wide) (drop 1 bytes))
carried-front true [] = refl
carried-front true (a ∷ []) = refl
carried-front true (a ∷ b ∷ []) = refl
carried-front true (a ∷ b ∷ d ∷ []) = refl
carried-front true (a ∷ b ∷ d ∷ e ∷ []) = refl
carried-front true (a ∷ b ∷ d ∷ e ∷ f ∷ rest) =
    ap (λ xs. record { time = number_in (b ∷ d ∷ []); round = e; slot = f; members = members_in (number_in xs) })
    (sym (take-take 3 3 rest (omega arith)))
carried-front false [] = refl
carried-front false (a ∷ []) = refl
carried-front false (a ∷ b ∷ []) = refl
carried-front false (a ∷ b ∷ d ∷ []) = refl
carried-front false (a ∷ b ∷ d ∷ e ∷ []) = refl
carried-front false (a ∷ b ∷ d ∷ e ∷ f ∷ rest) =
    ap (λ xs. record { time = number_in (b ∷ d ∷ []); round = e; slot = f; members = members_in (number_in xs) })
    (sym (take-take 2 2 rest (omega arith)))

-- a first byte
take-first : (bytes : List ℕ) → 1 ≤ length bytes → take 1 bytes ≡ header_in bytes ∷ []
take-first [] some = absurd (omega arith)
take-first (b ∷ bytes) some = refl

-- no node joins on a frame without explicit C-state
is_formed-implicit : (width : ℕ) (bytes : List ℕ) (expected size start : ℕ) → header_in bytes ≡ 0
    → is_explicit expected ≡ true → is_formed width bytes expected size start ≡ false
is_formed-implicit width bytes expected size start first explicit =
    and_right _ _
    (and_left _ _
    (ne_eqb (header_in bytes) expected (λ same. true≢false (sym explicit ∙ ap is_explicit (sym same ∙ first)))))

pub joinable-implicit : (list : Medl) (bytes : List ℕ) → header_in bytes ≡ 0 → joinable list bytes ≡ None
joinable-implicit list bytes first =
    (λ i. if is_joinable_state list c && (cold i || listed i) then Some c else None)
    ∙ ap (λ b. if b then Some c else None) (and_right (is_joinable_state list c) false refl)
  where
    width : ℕ
    width = member_width list

    c : CState
    c = carried width bytes

    cold : is_cold_start list bytes c ≡ false
    cold = and_left _ _ (is_formed-implicit width bytes cold_start_header 0 list.schedule first refl)

    by : (e : Bool) (header size : ℕ) → is_explicit header ≡ e
        → (e && is_formed width bytes header size list.schedule) ≡ false
    by true header size explicit = is_formed-implicit width bytes header size list.schedule first explicit
    by false header size implicit = refl

    listed : is_listed_explicit list bytes c ≡ false
    listed = by (is_explicit (header_of (kind_at list c.round c.slot))) (header_of (kind_at list c.round c.slot))
        (payload_length list c.round c.slot) refl

-- nodes join on both or on none
pub joinable-alike : (list : Medl) (header : ℕ) (one other : List ℕ) → 1 ≤ length one
    → AreAlike (member_width list) header list.schedule one other → joinable list one ≡ joinable list other
joinable-alike list header one other some alike = elim (cases_eq header 0) [
  | inl implicit ↦
      joinable-implicit list one (alike.first ∙ implicit)
      ∙ sym (joinable-implicit list other (alike.first_too ∙ implicit))
  | inr explicit ↦ ap (joinable_cstate list one) (same explicit) ∙ by (carried width other)
]
  where
    width : ℕ
    width = member_width list

    formed : CState → (expected size : ℕ)
        → is_formed width one expected size list.schedule ≡ is_formed width other expected size list.schedule
    formed c expected size = is_formed-alike width header list.schedule one other alike c expected size

    by : (c : CState) → joinable_cstate list one c ≡ joinable_cstate list other c
    by c =
        let header_is = header_of (kind_at list c.round c.slot) in
        let size = payload_length list c.round c.slot in
        λ i. if is_joinable_state list c
        && ((formed c cold_start_header 0 i && may_start list c.slot)
        || (is_explicit header_is && formed c header_is size i)) then Some c else None

    long : header ≢ 0 → carried_length width header ≡ 4 + width
    long explicit =
        let e : (header == 0) ≡ false = ne_eqb header 0 explicit in ap (λ b. if not b then 4 + width else 0) e

    state : header ≢ 0 → take (4 + width) (drop 1 one) ≡ take (4 + width) (drop 1 other)
    state explicit =
        ap (λ n. take n (drop 1 one)) (sym (long explicit)) ∙ alike.state
        ∙ ap (λ n. take n (drop 1 other)) (long explicit)

    head : take 1 one ≡ take 1 other
    head = take-first one some ∙ ap (λ h. h ∷ []) (alike.first ∙ sym alike.first_too)
        ∙ sym (take-first other (omega (arith, alike.long)))

    same : header ≢ 0 → carried width one ≡ carried width other
    same explicit =
        carried-front (is_wide list) one ∙ (λ i. carried width (head i ++ state explicit i))
        ∙ sym (carried-front (is_wide list) other)

-- Flipped frames.

-- the bits of two frames of one C-state are flipped alike
pub AreAlike-flipped : (width header : ℕ) (c : CState) (payload other flips : List ℕ) (start : ℕ)
    → length payload ≡ length other
    → length flips ≡ 1 + carried_length width header + length payload + 3 → AreBytes flips → slice_index flips 0 ≡ 0
    → AreAlike width header start (xor_bytes (frame width header c payload start) flips)
    (xor_bytes (frame width header c other start) flips)
AreAlike-flipped width header c payload other flips start same long small kept = record {
  long = size_of payload refl ∙ sym (size_of other same);
  first = first_of payload;
  first_too = first_of other;
  words = λ d. word_of payload refl d ∙ sym (word_of other same d);
  state = state_of payload ∙ sym (state_of other);
}
  where
    before : List ℕ
    before = unsent width header c

    piece : List ℕ
    piece = sent width header c

    bytes_of : List ℕ → List ℕ
    bytes_of p = frame width header c p start

    size_of : (p : List ℕ) → length payload ≡ length p → length (xor_bytes (bytes_of p) flips) ≡ length flips
    size_of p as_long = omega (arith, length-xor_bytes (bytes_of p) flips, length-frame width header c p start)

    first_of : (p : List ℕ) → header_in (xor_bytes (bytes_of p) flips) ≡ header
    first_of p =
        ap (λ bs. header_in (xor_bytes bs flips)) (frame-pieces width header c p start)
        ∙ first-xor_bytes header _ flips kept

    all : List ℕ → List ℕ
    all p = front header piece p

    word : List ℕ → List ℕ
    word p = word_bytes start (before ++ all p)

    pieces_of : (p : List ℕ) → bytes_of p ≡ all p ++ word p
    pieces_of p = frame-pieces width header c p start

    zeros : (p : List ℕ) → check_word start (before ++ bytes_of p) ≡ 0
    zeros p =
        ap (λ bs. check_word start (before ++ bs)) (pieces_of p)
        ∙ ap (check_word start) (sym (append_assoc before (all p) (word p)))
        ∙ own_word_gives_zero start (before ++ all p)

    cut : (p : List ℕ) → length payload ≡ length p → length (xor_bytes (bytes_of p) flips) - 3 ≡ length (all p)
    cut p as_long = omega (arith, size_of p as_long, long, length-append piece p, length-sent width header c)

    tail : (p : List ℕ) → length payload ≡ length p
        → drop (length (xor_bytes (bytes_of p) flips) - 3) (xor_bytes (bytes_of p) flips)
        ≡ xor_bytes (word p) (drop (length (all p)) flips)
    tail p as_long =
        (λ i. drop (cut p as_long i) (xor_bytes (pieces_of p i) flips)) ∙ drop-xor_bytes (all p) (word p) flips

    word_of : (p : List ℕ) → length payload ≡ length p → (d : CState)
        → has_word start (unsent width header d) (xor_bytes (bytes_of p) flips)
        ≡ (check_word 0 (xor_bytes before (unsent width header d) ++ flips) == 0)
    word_of p as_long d =
        has_word-zero start (unsent width header d) (xor_bytes (bytes_of p) flips)
        (omega (arith, size_of p as_long, long))
        (subst (λ (xs : List ℕ). All (λ b. b < 2 ^ 8) xs) (sym (tail p as_long))
        (All-xor_bytes (all p) (word p) flips (All-big_endian 3 (check_word start (before ++ all p))) small))
        ∙ ap (λ w. w == 0)
        (check_word-flipped start before (unsent width header d) (bytes_of p) flips
        (length-unsent width header c ∙ sym (length-unsent width header d))
        (sym (length-xor_bytes (bytes_of p) flips) ∙ size_of p as_long) (zeros p))

    state_of : (p : List ℕ)
        → take (carried_length width header) (drop 1 (xor_bytes (bytes_of p) flips))
        ≡ xor_bytes piece (take (length piece) (drop 1 flips))
    state_of p =
        ap (λ n. take n (drop 1 (xor_bytes (bytes_of p) flips))) (sym (length-sent width header c))
        ∙ ap (λ bs. take (length piece) (drop 1 (xor_bytes bs flips))) (pieces_of p)
        ∙ ap (take (length piece)) (drop-xor_bytes (header ∷ []) (piece ++ p ++ word p) flips)
        ∙ ap (λ bs. take (length piece) (xor_bytes bs (drop 1 flips))) (append_assoc piece p (word p))
        ∙ take-xor_bytes piece (p ++ word p) (drop 1 flips)
