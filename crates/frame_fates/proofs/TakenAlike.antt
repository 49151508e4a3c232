-- Frames that differ in payload alone, with the same bits flipped behind their headers, are taken alike by receivers.
use Rattle.std.proofs.Common.{◌≡◌, ℕ, ℤ, ◌≤◌, Bool, true, false, cond, ◌&&◌, List, length, refl, ap, sym, ◌∙◌}
use Rattle.std.proofs.Common.{arith, Option, Some, None, unwrap_or, option_map}
use Rattle.std.specs.Prelude.{slice_index}
use Rattle.ttp_world.specs.declared.medl.Medl.{Medl}
use Rattle.ttp_world.specs.declared.node.ChannelView.TheVariants as view
use Rattle.ttp_world.specs.declared.node.CState.{CState}
use Rattle.ttp_world.specs.Diary.{cstate_at}
use Rattle.ttp_world.specs.Fitting.{fits, is_formed, joinable}
use Rattle.ttp_world.specs.Frame.{frame}
use Rattle.ttp_world.specs.Medium.{flip_bits}
use Rattle.ttp_world.specs.Medl.{is_wide, member_bytes, member_width}
use Rattle.ttp_world.specs.Reception.{Expected, expected_header, expected_length, is_within_window, fits_members}
use Rattle.ttp_world.specs.Reception.{is_expected_form, view_of_frame, view_of_bits}
use Rattle.ttp_frame.specs.declared.judging.FrameMatch.{FrameMatch}
use Rattle.ttp_frame.specs.declared.judging.FrameMatch.TheVariants.{Match, Differs, Invalid}
use Rattle.frame_fates.proofs.FromBelow.{length-xor_bytes, AreAlike, AreAlike-flipped, match_of-alike, is_formed-alike}
use Rattle.frame_fates.proofs.FromBelow.{joinable-alike, length-frame}
use Rattle.ttp_frame.specs.Bytes.{xor_bytes}
use Rattle.frame_fates.proofs.FlipMasks.{mask_of, flip_bits-mask, length-mask_of, mask_of-AreBytes}

-- bytes that each receiver of a list sees alike, and on which a listening node joins alike
pub record AreTakenAlike (list : Medl) (one other : List ℕ) : Type 0 where
  pub seen : (expected : Expected) (deviation : ℤ)
      → view_of_bits list expected one deviation ≡ view_of_bits list expected other deviation
  pub joined : joinable list one ≡ joinable list other

pub same-alike : (list : Medl) (bytes : List ℕ) → AreTakenAlike list bytes bytes
same-alike list bytes = record { seen = λ expected deviation. refl; joined = refl }

-- what a match tells of the test whether bytes fit
match_fits : FrameMatch → Bool
match_fits Match = true
match_fits Differs = false
match_fits Invalid = false

fits-match : (f formed : Bool) → match_fits (cond f Match (cond formed Differs Invalid)) ≡ f
unfolding match_fits
fits-match true formed = refl
fits-match false true = refl
fits-match false false = refl

-- alike bytes fit alike
fits-alike : (wide : Bool) (header start : ℕ) (one other : List ℕ)
    → AreAlike (member_bytes wide) header start one other → (expected size : ℕ) (c : CState)
    → fits (member_bytes wide) one expected size start c ≡ fits (member_bytes wide) other expected size start c
fits-alike wide header start one other alike expected size c =
    sym (fits-match (fits (member_bytes wide) one expected size start c)
    (is_formed (member_bytes wide) one expected size start))
    ∙ ap match_fits (match_of-alike wide header start one other alike expected size c)
    ∙ fits-match (fits (member_bytes wide) other expected size start c)
    (is_formed (member_bytes wide) other expected size start)

second-alike : (f g : List ℕ → Bool) → ((members : List ℕ) → f members ≡ g members) → (second : Option (List ℕ))
    → unwrap_or (option_map f second) false ≡ unwrap_or (option_map g second) false
second-alike f g same None = refl
second-alike f g same (Some members) = same members

seen-alike : (list : Medl) (header : ℕ) (one other : List ℕ) → CState
    → AreAlike (member_width list) header list.schedule one other → (expected : Expected) (deviation : ℤ)
    → view_of_bits list expected one deviation ≡ view_of_bits list expected other deviation
seen-alike list header one other c alike expected deviation =
    let fit : (members : List ℕ) → fits_members list expected one members ≡ fits_members list expected other members =
    λ members. fits-alike (is_wide list) header list.schedule one other alike (expected_header list expected.place)
    (expected_length list expected.place) (cstate_at expected.place members) in
    let form : is_expected_form list expected one ≡ is_expected_form list expected other =
    is_formed-alike (member_width list) header list.schedule one other alike c (expected_header list expected.place)
    (expected_length list expected.place) in
    let second = second-alike (fits_members list expected one) (fits_members list expected other) fit
    expected.candidates.second in
    let frames : view_of_frame list expected one ≡ view_of_frame list expected other =
    λ i. elim (fit expected.candidates.first i) [
      | true ↦ view.First
      | false ↦ cond (second i) view.Second view.Other
    ] in
    λ i. cond (is_within_window list deviation && form i) (frames i) view.Bad

-- frames with flipped bits
pub flipped-alike : (list : Medl) (header : ℕ) (c : CState) (payload other bits : List ℕ)
    → length payload ≡ length other → ((size : ℕ) → slice_index (mask_of size bits) 0 ≡ 0)
    → AreTakenAlike list (flip_bits (frame (member_width list) header c payload list.schedule) bits)
    (flip_bits (frame (member_width list) header c other list.schedule) bits)
flipped-alike list header c payload other bits same kept = record {
  seen = λ expected deviation.
      ap (λ (bytes : List ℕ). view_of_bits list expected bytes deviation) mine
      ∙ seen-alike list header _ _ c alike expected deviation
      ∙ ap (λ (bytes : List ℕ). view_of_bits list expected bytes deviation) (sym theirs);
  joined = ap (joinable list) mine
      ∙ joinable-alike list header _ _ (omega (arith, length-xor_bytes (bytes_of payload) mask, size)) alike
      ∙ ap (joinable list) (sym theirs);
}
  where
    bytes_of : List ℕ → List ℕ
    bytes_of p = frame (member_width list) header c p list.schedule

    mask : List ℕ
    mask = mask_of (length (bytes_of payload)) bits

    size : 1 ≤ length (bytes_of payload)
    size = omega (arith, length-frame (member_width list) header c payload list.schedule)

    as_long : length (bytes_of other) ≡ length (bytes_of payload)
    as_long =
        let short = length-frame (member_width list) header c payload list.schedule in
        omega (arith, short, length-frame (member_width list) header c other list.schedule, same)

    mine : flip_bits (bytes_of payload) bits ≡ xor_bytes (bytes_of payload) mask
    mine = flip_bits-mask (bytes_of payload) bits

    theirs : flip_bits (bytes_of other) bits ≡ xor_bytes (bytes_of other) mask
    theirs =
        flip_bits-mask (bytes_of other) bits
        ∙ ap (λ n. xor_bytes (bytes_of other) (mask_of n bits)) as_long

    alike : AreAlike (member_width list) header list.schedule (xor_bytes (bytes_of payload) mask)
        (xor_bytes (bytes_of other) mask)
    alike =
        AreAlike-flipped (member_width list) header c payload other mask list.schedule same
        (length-mask_of (length (bytes_of payload)) bits
        ∙ length-frame (member_width list) header c payload list.schedule)
        (mask_of-AreBytes (length (bytes_of payload)) bits) (kept (length (bytes_of payload)))
