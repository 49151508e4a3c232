-- What is known of the bytes on a channel.
use Rattle.controller.proofs.Words.{◌≡◌, ℕ, List, [], ◌∷◌, ◌++◌, ap, sym, ◌∙◌, subst, if◌then◌else◌, Medl, CState}
use Rattle.controller.proofs.Words.{Place, joined_place, is_wide, Arrival, BytesAre, found_by, is_formed, payload_in}
use Rattle.controller.proofs.Words.{member_bytes, IsPartOf, IsFormOf, KnownView, IsKnownOf, IsSameState}
use Rattle.ttp_world.specs.Reception.{expected_header, expected_length}
use Rattle.std.specs.Str.{bytes_eq}
use Rattle.ttp_frame.specs.declared.judging.Expect.{Expect}
use Rattle.ttp_frame.specs.declared.judging.FrameMatch.{FrameMatch}
use Rattle.ttp_frame.specs.declared.judging.FrameMatch.TheVariants.{Match, Differs, Invalid}
use Rattle.ttp_frame.specs.Match.{match_of}
use Rattle.ttp_world.specs.Frame.{big_endian, is_explicit, word_bytes}
use Rattle.medium.specs.declared.arrival.Arrival.TheVariants as arrival

-- what is judged by the form of the list is what bytes are to a receiver of that C-state
pub judged-found : {list : Medl} {form : Expect} {place : Place} {found : FrameMatch} (bytes : List ℕ) (c : CState)
    → IsFormOf list place form → joined_place c ≡ place
    → found ≡ match_of form.wide bytes form.header form.payload list.schedule c → found ≡ found_by list bytes c
judged-found {list = list} bytes c is at answer =
    let header = is.header ∙ ap (expected_header list) (sym at) in
    let payload = is.payload ∙ ap (expected_length list) (sym at) in
    answer ∙ (λ i. match_of (is.wide i) bytes (header i) (payload i) list.schedule c)

-- what bytes are to it, by the bytes of the C-state
abbrev found_by_bytes : Medl → List ℕ → Place → List ℕ → FrameMatch
found_by_bytes list bytes place state =
    let header = expected_header list place in
    let size = expected_length list place in
    let width = member_bytes (is_wide list) in
    let said = header ∷ ((if is_explicit header then state else []) ++ payload_in width header size bytes) in
    let word = word_bytes list.schedule (if is_explicit header then said else state ++ said) in
    if bytes_eq bytes (said ++ word) then Match
    else (if is_formed width bytes header size list.schedule then Differs else Invalid)

-- so two C-states with the same bytes find the same
pub same_found : (list : Medl) (bytes : List ℕ) (one other : CState) → IsSameState one other
    → found_by list bytes one ≡ found_by list bytes other
same_found list bytes one other same = λ i.
    found_by_bytes list bytes (record { time = same.time i; round = same.round i; slot = same.slot i })
    (big_endian 2 (same.time i) ++ big_endian 1 (same.round i) ++ big_endian 1 (same.slot i)
    ++ big_endian (member_bytes (is_wide list)) (same.members i))

-- what is known of what is there is known of what of it comes to a receiver
pub part-known : {list : Medl} {there came : Arrival} {known : KnownView} → IsPartOf there came
    → IsKnownOf list there known → IsKnownOf list came known
part-known {there = there} {came = came} {known = known} part is =
    record { list = is.list; bytes = bytes came part is.bytes }
  where
    bytes : (came : Arrival) → IsPartOf there came → BytesAre there known.bytes → BytesAre came known.bytes
    bytes arrival.Silence part are = tt
    bytes arrival.Noise part are = tt
    bytes (arrival.Bits came offset) part are = subst (λ (a : Arrival). BytesAre a known.bytes) part are
