-- Frames in pieces, and when bytes are one.
use Rattle.std.proofs.Common.{◌≡◌, ℕ, suc, ◌+◌, ◌-◌, ◌≤◌, Bool, true, false, ◌&&◌, List, [], ◌∷◌, ◌++◌, length, take}
use Rattle.std.proofs.Common.{drop, min, if◌then◌else◌, refl, ap, sym, ◌∙◌, arith, append_assoc, length-append}
use Rattle.std.specs.Prelude.{◌==◌}
use Rattle.std.proofs.lemmas.Bool.{and_parts, and_from, eq-eqb, eqb-true}
use Rattle.std.proofs.lemmas.Bool.Decides.{same_from_decides}
use Rattle.std.proofs.lemmas.List.{length-take, length-drop, take-append-drop, take-take, take_at, drop_at, drop-take}
use Rattle.std.proofs.lemmas.Slice.Eq.{bytes_eq-Decides}
use Rattle.ttp_base.specs.NodeSet.{set_bits}
use Rattle.ttp_world.specs.declared.node.CState.{CState}
use Rattle.ttp_world.specs.Fitting.{header_in, carried_length, payload_in, fits, is_formed}
use Rattle.ttp_world.specs.Frame.{big_endian, is_explicit, cstate_bytes, body, checked, word_bytes, frame}
use Rattle.ttp_world.specs.CheckWord.{check_word}
use Rattle.ttp_world.specs.Medl.{member_bytes}
use Rattle.ttp_frame.proofs.Words.{length-big_endian}
use Rattle.ttp_frame.specs.declared.judging.FrameMatch.TheVariants.{Match, Differs, Invalid}
use Rattle.ttp_frame.specs.Match.{match_of}
use Rattle.ttp_frame.specs.Shape.{sent, unsent, has_shape, carries, has_word}

-- Lengths.

pub length-cstate_bytes : (width : ℕ) (c : CState) → length (cstate_bytes width c) ≡ 4 + width
length-cstate_bytes width c =
    omega (
      arith,
      length-append (big_endian 2 c.time ++ big_endian 1 c.round ++ big_endian 1 c.slot)
          (big_endian width (set_bits c.members)),
      length-big_endian width (set_bits c.members),
    )

pub length-sent : (width header : ℕ) (c : CState) → length (sent width header c) ≡ carried_length width header
length-sent width header c = by (is_explicit header)
  where
    by : (e : Bool) → length (if e then cstate_bytes width c else []) ≡ (if e then 4 + width else 0)
    by true = length-cstate_bytes width c
    by false = refl

pub length-unsent : (width header : ℕ) (c : CState)
    → length (unsent width header c) ≡ (if is_explicit header then 0 else 4 + width)
length-unsent width header c = by (is_explicit header)
  where
    by : (e : Bool) → length (if e then [] else cstate_bytes width c) ≡ (if e then 0 else 4 + width)
    by true = refl
    by false = length-cstate_bytes width c

-- The pieces of a frame.

-- the word goes over what is not sent of the C-state, and then over the body
checked-unsent : (width header : ℕ) (c : CState) (payload : List ℕ)
    → checked width header c payload ≡ unsent width header c ++ body width header c payload
checked-unsent width header c payload = by (is_explicit header) (body width header c payload)
  where
    by : (e : Bool) (bs : List ℕ)
        → (if e then bs else cstate_bytes width c ++ bs) ≡ (if e then [] else cstate_bytes width c) ++ bs
    by true bs = refl
    by false bs = refl

-- what stands before the word: a header, a piece and a payload
abbrev pub front : ℕ → List ℕ → List ℕ → List ℕ
front header piece payload = header ∷ (piece ++ payload)

-- and the word behind it
abbrev pub ended : ℕ → List ℕ → List ℕ → List ℕ
ended start before bytes = bytes ++ word_bytes start (before ++ bytes)

pub frame-pieces : (width header : ℕ) (c : CState) (payload : List ℕ) (start : ℕ)
    → frame width header c payload start
    ≡ ended start (unsent width header c) (front header (sent width header c) payload)
frame-pieces width header c payload start =
    ap (λ bs. body width header c payload ++ word_bytes start bs) (checked-unsent width header c payload)

pub length-frame : (width header : ℕ) (c : CState) (payload : List ℕ) (start : ℕ)
    → length (frame width header c payload start) ≡ 1 + carried_length width header + length payload + 3
length-frame width header c payload start =
    omega (
      arith,
      length-append (body width header c payload) (word_bytes start (checked width header c payload)),
      length-append (sent width header c) payload,
      length-sent width header c,
      length-big_endian 3 (check_word start (checked width header c payload)),
    )

-- Bytes in pieces.

take-add : (m n : ℕ) (xs : List ℕ) → take (m + n) xs ≡ take m xs ++ take n (drop m xs)
take-add m n xs =
    let within : m ≤ m + n = omega arith in
    sym (take-append-drop m (take (m + n) xs)) ∙ (λ i. take-take m (m + n) xs within i ++ drop-take m n xs i)

-- what stands before the word
pub take-front : (count size : ℕ) (bytes : List ℕ) → length bytes ≡ 1 + count + size + 3
    → take (length bytes - 3) bytes
    ≡ front (header_in bytes) (take count (drop 1 bytes)) (take size (drop (1 + count) bytes))
take-front count size [] long = absurd (omega arith)
take-front count size (b ∷ bs) long =
    let cut : length (b ∷ bs) - 3 ≡ suc (count + size) = omega arith in
    let behind : suc count ≡ 1 + count = omega arith in
    ap (λ k. take k (b ∷ bs)) cut ∙ ap (λ xs. b ∷ xs) (take-add count size bs)
    ∙ ap (λ k. b ∷ (take count bs ++ take size (drop k (b ∷ bs)))) behind

-- what the parts of bytes tell that are a header, a piece, a payload in its place, and a word
record AreParts (header size start : ℕ) (piece before bytes : List ℕ) : Type 0 where
  long : length bytes ≡ 1 + length piece + size + 3
  first : header_in bytes ≡ header
  last : has_word start before bytes ≡ true
  carried : carries piece bytes ≡ true

AreParts-ended : (header size start : ℕ) (piece before payload bytes : List ℕ)
    → bytes ≡ ended start before (front header piece payload)
    → payload ≡ take size (drop (1 + length piece) bytes) → AreParts header size start piece before bytes
AreParts-ended header size start piece before payload bytes is place = record {
  long = omega (arith, total, few);
  first = ap header_in is;
  last = (bytes_eq-Decides _ _).1
      ((λ i. drop (cut i) (is i)) ∙ drop_at all word (length all) refl
      ∙ ap (λ bs. word_bytes start (before ++ bs)) (sym all_is));
  carried = (bytes_eq-Decides _ _).1
      (ap (λ bs. take (length piece) (drop 1 bs)) is ∙ ap (take (length piece)) (append_assoc piece payload word)
      ∙ take_at piece (payload ++ word) (length piece) refl);
}
  where
    all : List ℕ
    all = front header piece payload

    word : List ℕ
    word = word_bytes start (before ++ all)

    total : length bytes ≡ 1 + length piece + length payload + 3
    total = ap length is
        ∙ omega (
          arith,
          length-append all word,
          length-append piece payload,
          length-big_endian 3 (check_word start (before ++ all)),
        )

    few : length payload ≡ min size (length bytes - (1 + length piece))
    few = ap length place ∙ length-take size (drop (1 + length piece) bytes)
        ∙ ap (min size) (length-drop (1 + length piece) bytes)

    cut : length bytes - 3 ≡ length all
    cut = omega (arith, total, length-append piece payload)

    all_is : take (length bytes - 3) bytes ≡ all
    all_is = (λ i. take (cut i) (is i)) ∙ take_at all word (length all) refl

ended-AreParts : (header size start : ℕ) (piece before payload bytes : List ℕ)
    → AreParts header size start piece before bytes
    → payload ≡ take size (drop (1 + length piece) bytes) → bytes ≡ ended start before (front header piece payload)
ended-AreParts header size start piece before payload bytes parts place =
    sym (take-append-drop n bytes) ∙ (λ i. all_is i ++ word_is i)
  where
    n : ℕ
    n = length bytes - 3

    all_is : take n bytes ≡ front header piece payload
    all_is = take-front (length piece) size bytes parts.long
        ∙ (λ i. parts.first i ∷
        ((bytes_eq-Decides (take (length piece) (drop 1 bytes)) piece).0 parts.carried i ++ sym place i))

    word_is : drop n bytes ≡ word_bytes start (before ++ front header piece payload)
    word_is = (bytes_eq-Decides (drop n bytes) (word_bytes start (before ++ take n bytes))).0 parts.last
        ∙ ap (λ bs. word_bytes start (before ++ bs)) all_is

-- Bytes fit where header and length are right, the word is, and the C-state that is sent.
pub fits-parts : (width : ℕ) (bytes : List ℕ) (header size start : ℕ) (c : CState)
    → fits width bytes header size start c
    ≡ (has_shape width bytes header size &&
    (has_word start (unsent width header c) bytes && carries (sent width header c) bytes))
fits-parts width bytes header size start c =
    same_from_decides _ _ (bytes_eq-Decides bytes (frame width header c payload start)) (there, back)
  where
    piece : List ℕ
    piece = sent width header c

    before : List ℕ
    before = unsent width header c

    payload : List ℕ
    payload = payload_in width header size bytes

    place : payload ≡ take size (drop (1 + length piece) bytes)
    place = ap (λ n. take size (drop (1 + n) bytes)) (sym (length-sent width header c))

    there : (has_shape width bytes header size && (has_word start before bytes && carries piece bytes)) ≡ true
        → bytes ≡ frame width header c payload start
    there told =
        let shape = and_parts _ _ told in
        let sizes = and_parts _ _ shape.0 in
        let rest = and_parts _ _ shape.1 in
        ended-AreParts header size start piece before payload bytes
        (record {
          long = eqb-true _ _ sizes.0 ∙ ap (λ n. 1 + n + size + 3) (sym (length-sent width header c));
          first = eqb-true _ _ sizes.1;
          last = rest.0;
          carried = rest.1;
        }) place
        ∙ sym (frame-pieces width header c payload start)

    back : bytes ≡ frame width header c payload start
        → (has_shape width bytes header size && (has_word start before bytes && carries piece bytes)) ≡ true
    back same =
        let parts =
        AreParts-ended header size start piece before payload bytes
        (same ∙ frame-pieces width header c payload start) place in
        and_from _ _
        (and_from _ _ (eq-eqb _ _ (parts.long ∙ ap (λ n. 1 + n + size + 3) (length-sent width header c)))
        (eq-eqb _ _ parts.first))
        (and_from _ _ parts.last parts.carried)

and_regroup : (a b d : Bool) → (a && (b && d)) ≡ ((a && b) && d)
and_regroup true b d = refl
and_regroup false b d = refl

-- They are formed where header and length are right and, where the C-state is sent, the word.
pub is_formed-parts : (width : ℕ) (bytes : List ℕ) (header size start : ℕ) (c : CState)
    → is_formed width bytes header size start
    ≡ (has_shape width bytes header size &&
    (if is_explicit header then has_word start (unsent width header c) bytes else true))
is_formed-parts width bytes header size start c =
    and_regroup (length bytes == 1 + carried_length width header + size + 3) (header_in bytes == header) _
    ∙ ap (λ b. has_shape width bytes header size && b) (by (is_explicit header))
  where
    by : (e : Bool)
        → (if e then has_word start [] bytes else true)
        ≡ (if e then has_word start (if e then [] else cstate_bytes width c) bytes else true)
    by true = refl
    by false = refl

-- So it is judged.
pub match_of-parts : (wide : Bool) (bytes : List ℕ) (header size start : ℕ) (c : CState)
    → match_of wide bytes header size start c
    ≡ (if has_shape (member_bytes wide) bytes header size
    then (if has_word start (unsent (member_bytes wide) header c) bytes
    then (if carries (sent (member_bytes wide) header c) bytes then Match else Differs)
    else (if is_explicit header then Invalid else Differs))
    else Invalid)
match_of-parts wide bytes header size start c =
    (λ i. if fits-parts width bytes header size start c i then Match
    else (if is_formed-parts width bytes header size start c i then Differs else Invalid))
    ∙ by (is_explicit header) (has_shape width bytes header size) (has_word start (unsent width header c) bytes)
    (carries (sent width header c) bytes)
  where
    width : ℕ
    width = member_bytes wide

    by : (e s w k : Bool)
        → (if (s && (w && k)) then Match else (if (s && (if e then w else true)) then Differs else Invalid))
        ≡ (if s then (if w then (if k then Match else Differs) else (if e then Invalid else Differs)) else Invalid)
    by e false w k = refl
    by e true true true = refl
    by false true true false = refl
    by true true true false = refl
    by false true false k = refl
    by true true false k = refl

-- what a frame matches, by what was found
pub match_of-found : (wide : Bool) (bytes : List ℕ) (header size start : ℕ) (c : CState) (s w k e : Bool)
    → s ≡ has_shape (member_bytes wide) bytes header size
    → w ≡ has_word start (unsent (member_bytes wide) header c) bytes
    → k ≡ carries (sent (member_bytes wide) header c) bytes → e ≡ is_explicit header
    → (if s then (if w then (if k then Match else Differs) else (if e then Invalid else Differs)) else Invalid)
    ≡ match_of wide bytes header size start c
match_of-found wide bytes header size start c s w k e s_is w_is k_is e_is =
    (λ i. if s_is i then (if w_is i then (if k_is i then Match else Differs) else (if e_is i then Invalid else Differs))
    else Invalid)
    ∙ sym (match_of-parts wide bytes header size start c)
