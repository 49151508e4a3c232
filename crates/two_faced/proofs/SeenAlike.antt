-- What is seen of clocks does not depend on the messages of frames.
use Rattle.two_faced.proofs.Words.{◌≡◌, ℕ, ◌<◌, ℤ, List, [], ◌∷◌, length, Option, Some, None, refl, ap, sym, ◌∙◌, cond}
use Rattle.two_faced.proofs.Words.{not, ◌&&◌, arith, ◌==◌, filter_map, AllByRecursion, below-lt, Medl, Script, History}
use Rattle.two_faced.proofs.Words.{nodes_of, IsValidScript, is_on, Numbers, world, clock_beside}
use Rattle.two_faced.proofs.Words.{apart_after, widest, seen_with_slot, seen_in, zeros_world}
use Rattle.std.specs.List.{cons_option}
use Rattle.ttp_world.specs.Legal.{IsLegalRun}
use Rattle.frame_fates.specs.Runs.{AreRuns}
use Rattle.two_faced.proofs.FromBelow.{older, runs-clocks, zeros-legal}

filter_map-agree : (f g : ℕ → Option ℤ) (n : ℕ) (ks : List ℕ) → ((k : ℕ) → k < n → f k ≡ g k)
    → AllByRecursion (λ k. k < n) ks → filter_map f ks ≡ filter_map g ks
filter_map-agree f g n [] agree within = refl
filter_map-agree f g n (k ∷ ks) agree within = λ i.
    cons_option (agree k within.0 i) (filter_map-agree f g n ks agree within.1 i)

apart-alike : (list : Medl) (script : Script) (z slot : ℕ) (one other : History) → AreRuns list script one other
    → apart_after list script z slot one ≡ apart_after list script z slot other
apart-alike list script z slot one other runs =
    ap widest (filter_map-agree (clock_beside list script z slot one) (clock_beside list script z slot other)
    (length list.slots) (nodes_of list)
    (λ k node i. cond (not (k == z) && is_on script k slot) (Some (runs-clocks list script one other k runs node i))
    None) (below-lt (length list.slots)))

seen_in-alike : (list : Medl) (script : Script) (z start : ℕ) (one other : History) → AreRuns list script one other
    → seen_in list script z start one ≡ seen_in list script z start other
seen_in-alike list script z start [] [] runs = refl
seen_in-alike list script z start [] (row ∷ other) runs = absurd (omega (arith, runs.slots))
seen_in-alike list script z start (row ∷ one) [] runs = absurd (omega (arith, runs.slots))
seen_in-alike list script z start (row ∷ one) (row_too ∷ other) runs =
    let before = seen_in-alike list script z start one other (older runs) in
    let slots = (older runs).slots in
    let apart : apart_after list script z (length one) (row ∷ one)
    ≡ apart_after list script z (length other) (row_too ∷ other) =
    apart-alike list script z (length one) (row ∷ one) (row_too ∷ other) runs
    ∙ ap (λ slot. apart_after list script z slot (row_too ∷ other)) slots in
    λ i. seen_with_slot start (before i) (record { value = apart i; slot = slots i })

-- What is seen where frames carry zeros is what is seen where they carry any legal messages.
pub seen_of-zeros : (list : Medl) (script : Script) (z start : ℕ) (numbers : Numbers) → IsValidScript list script
    → IsLegalRun list script numbers → seen_in list script z start (zeros_world list script script.slots)
    ≡ seen_in list script z start (world list script numbers)
seen_of-zeros list script z start numbers valid legal =
    sym (seen_in-alike list script z start (world list script numbers) (zeros_world list script script.slots)
    (zeros-legal list script numbers script.slots valid legal.legal legal.count))
