-- The laws of frames: what bytes tell of a sender's members, and that short runs of wrong bits are seen.
use Rattle.std.proofs.Common.{◌≡◌, ◌≢◌, ℕ, ◌-◌, ◌*◌, ◌<◌, ◌≤◌, ◌^◌, Bool, true, false, ◌&&◌, List, [], ◌++◌, length}
use Rattle.std.proofs.Common.{take, drop, if◌then◌else◌, refl, ap, sym, subst, ◌∙◌, inl, inr, arith, append_assoc}
use Rattle.std.proofs.Common.{length-append}
use Rattle.std.specs.Prelude.{◌↔◌, not, IsTrue}
use Rattle.std.proofs.lemmas.Bool.{and_parts, and_from, cases_eq, false_from_ne_true, false≢true}
use Rattle.std.proofs.lemmas.List.{append_cancel_left}
use Rattle.std.proofs.lemmas.Slice.Eq.{bytes_eq-Decides}
use Rattle.ttp_base.specs.NodeSet.{set_bits, members_in}
use Rattle.ttp_world.specs.declared.node.CState.{CState}
use Rattle.ttp_world.specs.CheckWord.{check_word}
use Rattle.ttp_world.specs.Diary.{Place, joined_place}
use Rattle.ttp_world.specs.Fitting.{number_in, payload_in, fits, is_formed}
use Rattle.ttp_world.specs.Frame.{big_endian, is_explicit, word_bytes, frame}
use Rattle.ttp_world.specs.Medl.{member_bytes}
use Rattle.ttp_frame.specs.Bytes.{DifferWithin}
use Rattle.ttp_frame.proofs.Bursts.{numbers_change_the_word, own_words_are_apart}
use Rattle.ttp_frame.proofs.Words.{check_word-lt, length-big_endian}
use Rattle.ttp_frame.specs.declared.judging.FrameMatch.{FrameMatch}
use Rattle.ttp_frame.specs.declared.judging.FrameMatch.TheVariants.{Match, Differs, Invalid}
use Rattle.ttp_frame.specs.Match.{match_of}
use Rattle.ttp_frame.specs.Shape.{HaveRoom, HavePlaces, sent, unsent, has_shape, has_word, carries}
use Rattle.ttp_frame.proofs.Frames.{front, ended, frame-pieces, fits-parts, is_formed-parts}

-- What fits.

-- the parts of bytes that fit
pub record FitParts (width : ℕ) (bytes : List ℕ) (header size start : ℕ) (c : CState) : Type 0 where
  pub shape : has_shape width bytes header size ≡ true
  pub word : has_word start (unsent width header c) bytes ≡ true
  pub carried : carries (sent width header c) bytes ≡ true

pub parts_of : (width : ℕ) (bytes : List ℕ) (header size start : ℕ) (c : CState)
    → fits width bytes header size start c ≡ true → FitParts width bytes header size start c
parts_of width bytes header size start c told =
    let both = and_parts _ _ (sym (fits-parts width bytes header size start c) ∙ told) in
    let rest = and_parts _ _ both.1 in
    record { shape = both.0; word = rest.0; carried = rest.1 }

-- bytes that fit are formed
pub is_formed-fits : (width : ℕ) (bytes : List ℕ) (header size start : ℕ) (c : CState)
    → fits width bytes header size start c ≡ true → is_formed width bytes header size start ≡ true
is_formed-fits width bytes header size start c told =
    let parts = parts_of width bytes header size start c told in
    is_formed-parts width bytes header size start c ∙ and_from _ _ parts.shape (by (is_explicit header) _ parts.word)
  where
    by : (e w : Bool) → w ≡ true → (if e then w else true) ≡ true
    by true w is = is
    by false w is = refl

-- they are a frame of the payload that stands in its place
frame_of : (width : ℕ) (bytes : List ℕ) (header size start : ℕ) (c : CState)
    → fits width bytes header size start c ≡ true
    → bytes ≡ ended start (unsent width header c)
    (front header (sent width header c) (payload_in width header size bytes))
frame_of width bytes header size start c told =
    (bytes_eq-Decides bytes (frame width header c (payload_in width header size bytes) start)).0 told
    ∙ frame-pieces width header c (payload_in width header size bytes) start

-- How bytes are judged, by what fits and is formed.

match_is : (f m : Bool) → ((if f then Match else (if m then Differs else Invalid)) ≡ Match) ↔ (f ≡ true)
match_is true m = (λ _. refl, λ _. refl)
match_is false true = (λ e. cc, λ e. cc)
match_is false false = (λ e. cc, λ e. cc)

differs_is : (f m : Bool) → ((if f then Match else (if m then Differs else Invalid)) ≡ Differs) ↔ ((m && not f) ≡ true)
differs_is true true = (λ e. cc, λ e. cc)
differs_is true false = (λ e. cc, λ e. cc)
differs_is false true = (λ _. refl, λ _. refl)
differs_is false false = (λ e. cc, λ e. cc)

invalid_is : (f m : Bool) → (f ≡ true → m ≡ true)
    → ((if f then Match else (if m then Differs else Invalid)) ≡ Invalid) ↔ (not m ≡ true)
invalid_is true true formed = (λ e. cc, λ e. cc)
invalid_is true false formed = absurd (false≢true (formed refl))
invalid_is false true formed = (λ e. cc, λ e. cc)
invalid_is false false formed = (λ _. refl, λ _. refl)

along : (found is want : FrameMatch) (P : Type 0) → found ≡ is → (is ≡ want) ↔ P → (found ≡ want) ↔ P
along found is want P same both = (λ e. both.0 (sym same ∙ e), λ p. same ∙ both.1 p)

pub Match-fits : (found : FrameMatch) (wide : Bool) (bytes : List ℕ) (header size start : ℕ) (c : CState)
    → found ≡ match_of wide bytes header size start c
    → (found ≡ Match) ↔ IsTrue (fits (member_bytes wide) bytes header size start c)
Match-fits found wide bytes header size start c is =
    along found _ Match _ is
    (match_is (fits (member_bytes wide) bytes header size start c)
    (is_formed (member_bytes wide) bytes header size start))

pub Differs-formed : (found : FrameMatch) (wide : Bool) (bytes : List ℕ) (header size start : ℕ) (c : CState)
    → found ≡ match_of wide bytes header size start c
    → (found ≡ Differs) ↔ IsTrue
    (is_formed (member_bytes wide) bytes header size start && not (fits (member_bytes wide) bytes header size start c))
Differs-formed found wide bytes header size start c is =
    along found _ Differs _ is
    (differs_is (fits (member_bytes wide) bytes header size start c)
    (is_formed (member_bytes wide) bytes header size start))

pub Invalid-formed : (found : FrameMatch) (wide : Bool) (bytes : List ℕ) (header size start : ℕ) (c : CState)
    → found ≡ match_of wide bytes header size start c
    → (found ≡ Invalid) ↔ IsTrue (not (is_formed (member_bytes wide) bytes header size start))
Invalid-formed found wide bytes header size start c is =
    along found _ Invalid _ is
    (invalid_is (fits (member_bytes wide) bytes header size start c)
    (is_formed (member_bytes wide) bytes header size start)
    (is_formed-fits (member_bytes wide) bytes header size start c))

-- Short runs of wrong bits.

-- Bytes that differ from a frame that fits, and only within 24 consecutive bits, don't fit.
pub bursts_never_fit : (width header size start : ℕ) (c : CState) (sender heard : List ℕ)
    → fits width sender header size start c ≡ true → DifferWithin 24 sender heard
    → fits width heard header size start c ≡ true → ⊥
bursts_never_fit width header size start c sender heard fit apart fit_too =
    own_words_are_apart start (unsent width header c) (bytes_of sender) (bytes_of heard)
    (subst (λ (xs : List ℕ). DifferWithin 24 xs (ended start (unsent width header c) (bytes_of heard)))
    (frame_of width sender header size start c fit)
    (subst (λ (ys : List ℕ). DifferWithin 24 sender ys) (frame_of width heard header size start c fit_too) apart))
  where
    bytes_of : List ℕ → List ℕ
    bytes_of bytes = front header (sent width header c) (payload_in width header size bytes)

-- What is told of the members.

number_of_two : (v : ℕ) → v < 65536 → number_in (big_endian 2 v) ≡ v
number_of_two v small = omega arith

number_of_three : (v : ℕ) → v < 16777216 → number_in (big_endian 3 v) ≡ v
number_of_three v small = omega arith

-- members' bytes tell their word
pub number_in-members : (wide : Bool) (v : ℕ) → v < 2 ^ (8 * member_bytes wide)
    → number_in (big_endian (member_bytes wide) v) ≡ v
number_in-members true v small = number_of_three v small
number_in-members false v small = number_of_two v small

few_bytes : (wide : Bool) → member_bytes wide ≤ 3
few_bytes true = omega arith
few_bytes false = omega arith

-- words in three bytes are told by these
word_bytes-injective : (start : ℕ) (one other : List ℕ) → word_bytes start one ≡ word_bytes start other
    → check_word start one ≡ check_word start other
word_bytes-injective start one other same =
    sym (number_of_three (check_word start one) (check_word-lt start one)) ∙ ap number_in same
    ∙ number_of_three (check_word start other) (check_word-lt start other)

-- Words of members behind the same place, both right for the same bytes, are one: where the C-state is sent it tells
-- them, and else the word does.
words_told : (wide e : Bool) (start v w : ℕ) (place bytes : List ℕ) → v < 2 ^ (8 * member_bytes wide)
    → w < 2 ^ (8 * member_bytes wide)
    → (let one = place ++ big_endian (member_bytes wide) v in let other = place ++ big_endian (member_bytes wide) w in
    has_word start (if e then [] else one) bytes ≡ true → has_word start (if e then [] else other) bytes ≡ true
    → carries (if e then one else []) bytes ≡ true → carries (if e then other else []) bytes ≡ true → v ≡ w)
words_told wide true start v w place bytes fit fit_too word word_too carried carried_too =
    let width = member_bytes wide in
    let one : List ℕ = place ++ big_endian width v in
    let other : List ℕ = place ++ big_endian width w in
    let long : length one ≡ length other =
    omega (
      arith,
      length-append place (big_endian width v),
      length-append place (big_endian width w),
      length-big_endian width v,
      length-big_endian width w,
    ) in
    let same : one ≡ other =
    sym ((bytes_eq-Decides (take (length one) (drop 1 bytes)) one).0 carried) ∙ ap (λ n. take n (drop 1 bytes)) long
    ∙ (bytes_eq-Decides (take (length other) (drop 1 bytes)) other).0 carried_too in
    sym (number_in-members wide v fit)
    ∙ ap number_in (append_cancel_left place (big_endian width v) (big_endian width w) same)
    ∙ number_in-members wide w fit_too
words_told wide false start v w place bytes fit fit_too word word_too carried carried_too =
    let width = member_bytes wide in
    let n : ℕ = length bytes - 3 in
    let back : List ℕ = take n bytes in
    let told = (bytes_eq-Decides (drop n bytes) (word_bytes start (place ++ big_endian width v ++ back))).0 word in
    let told_too =
    (bytes_eq-Decides (drop n bytes) (word_bytes start (place ++ big_endian width w ++ back))).0 word_too in
    let same : check_word start (place ++ (big_endian width v ++ back))
    ≡ check_word start (place ++ (big_endian width w ++ back)) =
    ap (check_word start) (sym (append_assoc place (big_endian width v) back))
    ∙ word_bytes-injective start (place ++ big_endian width v ++ back) (place ++ big_endian width w ++ back)
    (sym told ∙ told_too)
    ∙ ap (check_word start) (append_assoc place (big_endian width w) back) in
    elim (cases_eq v w) [
      | inl equal ↦ equal
      | inr apart ↦ absurd (numbers_change_the_word start width v w place back (few_bytes wide) fit fit_too apart same)
    ]

-- C-states of one place that fit the same bytes have one word of members
pub set_bits-told : (wide : Bool) (bytes : List ℕ) (header size start : ℕ) (c d : CState)
    → joined_place c ≡ joined_place d → HaveRoom wide c.members → HaveRoom wide d.members
    → fits (member_bytes wide) bytes header size start c ≡ true
    → fits (member_bytes wide) bytes header size start d ≡ true → set_bits c.members ≡ set_bits d.members
set_bits-told wide bytes header size start c d place room room_too fit fit_too =
    words_told wide (is_explicit header) start (set_bits c.members) (set_bits d.members) (before c) bytes room room_too
    one.word (subst
    (λ (p : List ℕ). has_word start
    (if is_explicit header then [] else p ++ big_endian width (set_bits d.members)) bytes ≡ true) at other.word)
    one.carried (subst
    (λ (p : List ℕ). carries (if is_explicit header then p ++ big_endian width (set_bits d.members) else []) bytes
    ≡ true) at other.carried)
  where
    width : ℕ
    width = member_bytes wide

    before : CState → List ℕ
    before e = big_endian 2 e.time ++ big_endian 1 e.round ++ big_endian 1 e.slot

    at : before d ≡ before c
    at = ap (λ (p : Place). big_endian 2 p.time ++ big_endian 1 p.round ++ big_endian 1 p.slot) (sym place)

    one : FitParts width bytes header size start c
    one = parts_of width bytes header size start c fit

    other : FitParts width bytes header size start d
    other = parts_of width bytes header size start d fit_too

-- C-states of one place that fit the same bytes have the same members.
pub members_told : (wide : Bool) (bytes : List ℕ) (header size start : ℕ) (c d : CState)
    → joined_place c ≡ joined_place d → HavePlaces wide c.members → HavePlaces wide d.members
    → fits (member_bytes wide) bytes header size start c ≡ true
    → fits (member_bytes wide) bytes header size start d ≡ true → c.members ≡ d.members
members_told wide bytes header size start c d place has has_too fit fit_too =
    sym has.set ∙ ap members_in (set_bits-told wide bytes header size start c d place has.room has_too.room fit fit_too)
    ∙ has_too.set

-- So of C-states that differ in members alone, none but one matches.
pub other_members_never_fit : (found : FrameMatch) (wide : Bool) (bytes : List ℕ) (header size start : ℕ) (c : CState)
    → found ≡ match_of wide bytes header size start c
    → HaveRoom wide c.members → (members : List ℕ) → HaveRoom wide members → set_bits members ≢ set_bits c.members
    → found ≡ Match
    → IsTrue (not (fits (member_bytes wide) bytes header size start (record c { members = members })))
other_members_never_fit found wide bytes header size start c is room members room_too other match =
    ap not (false_from_ne_true (fits (member_bytes wide) bytes header size start (record c { members = members }))
    (λ fit_too. other
    (sym (set_bits-told wide bytes header size start c (record c { members = members }) refl room room_too
    ((Match-fits found wide bytes header size start c is).0 match) fit_too))))

pub bursts_never_match : (found : FrameMatch) (wide : Bool) (bytes : List ℕ) (header size start : ℕ) (c : CState)
    → found ≡ match_of wide bytes header size start c
    → (sender : List ℕ) → DifferWithin 24 sender bytes → IsTrue (fits (member_bytes wide) sender header size start c)
    → found ≢ Match
bursts_never_match found wide bytes header size start c is sender apart fit match =
    bursts_never_fit (member_bytes wide) header size start c sender bytes fit apart
    ((Match-fits found wide bytes header size start c is).0 match)
