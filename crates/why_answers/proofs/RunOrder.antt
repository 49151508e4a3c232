-- The entries of a run, the newest first, are in an order by slot, rank and node.
use Rattle.std.proofs.Common.{◌≡◌, ℕ, zero, suc, ◌+◌, ◌*◌, ◌<◌, ◌≤◌, ◌++◌, ◌==◌}
use Rattle.std.proofs.Common.{◌⊎◌, inl, inr, Bool, true, false, List, [], ◌∷◌}
use Rattle.std.proofs.Common.{ap, sym, subst, ◌∙◌, refl, arith, length}
use Rattle.std.proofs.Math.Nat.{eq-or-lt_of_le}
use Rattle.std.proofs.lemmas.Bool.{false≢true}
use Rattle.std.proofs.lemmas.Bool.Decides.{nat_tests}
use Rattle.std.specs.List.{AllByRecursion}
use Rattle.std.specs.Prelude.{if◌then◌else◌}
use Rattle.causes.specs.Members.{entry_at_spot}
use Rattle.causes.specs.RunSlots.{RunSlots, slots_of_run}
use Rattle.causes.specs.Story.{has_spot, rank_of_entry, spots_back}
use Rattle.causes.specs.declared.cause.Spot.{Spot}
use Rattle.ttp_world.proofs.LineLists.{each-append}
use Rattle.ttp_world.specs.Diary.{History}
use Rattle.ttp_world.specs.declared.medl.Medl.{Medl}
use Rattle.ttp_world.specs.declared.node.Entry.{Entry}
use Rattle.ttp_world.specs.declared.node.Entry.TheVariants as entry
use Rattle.ttp_world.specs.declared.node.Reason.TheVariants as reason
use Rattle.ttp_world.specs.declared.script.Script.{Script}
use Rattle.why_answers.proofs.FromBelow.{length-run, slots_up_to-all, slots_up_to-none, spots_back-next}
use Rattle.why_story.specs.Passes.{rank_back, slot_back}
use Rattle.why_story.specs.RunSource.{slots_up_to, spot_at}
use Rattle.why_answers.proofs.SpotOrder.{Falls, IsBefore, each-weaker, falls-between, has-append-left, has-append-right}
use Rattle.why_answers.proofs.SpotOrder.{has-here}
use Rattle.why_answers.specs.Stories.{StandsAbove}

-- Ranks and levels.

pub rank-cases : (e : Entry) → (rank_of_entry e ≡ 2) ⊎ ((rank_of_entry e ≡ 1) ⊎ (rank_of_entry e ≡ 0))
rank-cases entry.Off = inr (inr refl)
rank-cases entry.Waited = inr (inl refl)
rank-cases entry.Retried = inr (inr refl)
rank-cases entry.Gone = inr (inr refl)
rank-cases entry.Started = inr (inr refl)
rank-cases (entry.Sent message) = inr (inr refl)
rank-cases (entry.Joined sender cstate deviation) = inr (inl refl)
rank-cases (entry.Judged sender v deviation) = inl refl
rank-cases (entry.Left reason.Denied peer) = inl refl
rank-cases (entry.Left reason.Unacknowledged peer) = inr (inr refl)
rank-cases (entry.Left reason.Clique peer) = inr (inr refl)

pub rank-most : (e : Entry) → rank_of_entry e ≤ 2
rank-most e = elim (rank-cases e) [
  | inl two ↦ omega (arith, two)
  | inr less ↦ elim less [ inl one ↦ omega (arith, one) | inr none ↦ omega (arith, none) ]
]

abbrev pub level : RunSlots → Spot → ℕ
level run s = 3 * s.slot + rank_of_entry (entry_at_spot run s)

pub above-level : (run : RunSlots) (a b : Spot) → StandsAbove run a b → level run a < level run b
above-level run a b (inl earlier) =
    let most : rank_of_entry (entry_at_spot run a) ≤ 2 = rank-most (entry_at_spot run a) in
    omega (arith, earlier, most)
above-level run a b (inr same) =
    let slot : a.slot ≡ b.slot = same.0 in
    let rank : rank_of_entry (entry_at_spot run a) < rank_of_entry (entry_at_spot run b) = same.1 in
    omega (arith, slot, rank)

-- an earlier slot is enough
pub slot-level : (run : RunSlots) (a b : Spot) → a.slot < b.slot → level run a < level run b
slot-level run a b earlier = above-level run a b (inl earlier)

-- Those of one rank.

abbrev AreOfRank : RunSlots → ℕ → ℕ → ℕ → List Spot → Type 0
AreOfRank run t rank n spots = AllByRecursion (λ s. (level run s ≡ 3 * t + rank) × (s.node < n)) spots

one-all : (run : RunSlots) (t rank k : ℕ) (rest : List Spot) (b : Bool)
    → (rank_of_entry (entry_at_spot run (spot_at t k)) == rank) ≡ b → AreOfRank run t rank k rest
    → AreOfRank run t rank (suc k) ((if b then spot_at t k ∷ [] else []) ++ rest)
one-all run t rank k rest true is all =
    let same : rank_of_entry (entry_at_spot run (spot_at t k)) ≡ rank = grind (arith, nat_tests) in (
      (omega (arith, same), omega arith),
      each-weaker (λ s. (level run s ≡ 3 * t + rank) × (s.node < k))
          (λ s. (level run s ≡ 3 * t + rank) × (s.node < suc k)) rest
          (λ s two. (two.0, omega (arith, two.1))) all,
    )
one-all run t rank k rest false is all =
    each-weaker (λ s. (level run s ≡ 3 * t + rank) × (s.node < k))
    (λ s. (level run s ≡ 3 * t + rank) × (s.node < suc k)) rest
    (λ s two. (two.0, omega (arith, two.1))) all

rank-all : (run : RunSlots) (t rank n : ℕ) → AreOfRank run t rank n (rank_back run t rank n)
rank-all run t rank zero = tt
rank-all run t rank (suc k) =
    one-all run t rank k (rank_back run t rank k) (rank_of_entry (entry_at_spot run (spot_at t k)) == rank) refl
    (rank-all run t rank k)

one-falls : (run : RunSlots) (t rank k : ℕ) (rest : List Spot) (b : Bool)
    → (rank_of_entry (entry_at_spot run (spot_at t k)) == rank) ≡ b
    → AreOfRank run t rank k rest → Falls (level run) rest
    → Falls (level run) ((if b then spot_at t k ∷ [] else []) ++ rest)
one-falls run t rank k rest true is all falls =
    let same : rank_of_entry (entry_at_spot run (spot_at t k)) ≡ rank = grind (arith, nat_tests) in (
      each-weaker (λ s. (level run s ≡ 3 * t + rank) × (s.node < k)) (λ o. IsBefore (level run) o (spot_at t k)) rest
          (λ s two. inr (omega (arith, same, two.0), two.1)) all,
      falls,
    )
one-falls run t rank k rest false is all falls = falls

rank-falls : (run : RunSlots) (t rank n : ℕ) → Falls (level run) (rank_back run t rank n)
rank-falls run t rank zero = tt
rank-falls run t rank (suc k) =
    one-falls run t rank k (rank_back run t rank k) (rank_of_entry (entry_at_spot run (spot_at t k)) == rank) refl
    (rank-all run t rank k) (rank-falls run t rank k)

-- Those of a slot.

abbrev AreAt : RunSlots → ℕ → ℕ → List Spot → Type 0
AreAt run low high spots = AllByRecursion (λ s. (low < level run s + 1) × (level run s < high)) spots

at-rank : (run : RunSlots) (t rank n low high : ℕ) → low ≤ 3 * t + rank → 3 * t + rank < high
    → AreAt run low high (rank_back run t rank n)
at-rank run t rank n low high over under =
    each-weaker (λ s. (level run s ≡ 3 * t + rank) × (s.node < n)) (λ s. (low < level run s + 1) × (level run s < high))
    (rank_back run t rank n)
    (λ s two. (omega (arith, two.0, over), omega (arith, two.0, under))) (rank-all run t rank n)

slot-all : (run : RunSlots) (t n : ℕ) → AreAt run (3 * t) (3 * t + 3) (slot_back run n t)
slot-all run t n =
    each-append (λ s. (3 * t < level run s + 1) × (level run s < 3 * t + 3)) (rank_back run t 2 n)
    (rank_back run t 1 n ++ rank_back run t 0 n)
    (at-rank run t 2 n (3 * t) (3 * t + 3) (omega arith) (omega arith))
    (each-append (λ s. (3 * t < level run s + 1) × (level run s < 3 * t + 3))
    (rank_back run t 1 n) (rank_back run t 0 n)
    (at-rank run t 1 n (3 * t) (3 * t + 3) (omega arith) (omega arith))
    (at-rank run t 0 n (3 * t) (3 * t + 3) (omega arith) (omega arith)))

over-low : (run : RunSlots) (low high : ℕ) (spots : List Spot) → AreAt run low high spots
    → AllByRecursion (λ s. low < level run s + 1) spots
over-low run low high spots all =
    each-weaker (λ s. (low < level run s + 1) × (level run s < high))
    (λ s. low < level run s + 1) spots (λ s two. two.0) all

under-high : (run : RunSlots) (low high : ℕ) (spots : List Spot) → AreAt run low high spots
    → AllByRecursion (λ s. level run s < high) spots
under-high run low high spots all =
    each-weaker (λ s. (low < level run s + 1) × (level run s < high))
    (λ s. level run s < high) spots (λ s two. two.1) all

slot-falls : (run : RunSlots) (t n : ℕ) → Falls (level run) (slot_back run n t)
slot-falls run t n =
    let low = rank_back run t 1 n ++ rank_back run t 0 n in
    falls-between (level run) (3 * t + 2) (rank_back run t 2 n) low (rank-falls run t 2 n)
    (falls-between (level run) (3 * t + 1) (rank_back run t 1 n) (rank_back run t 0 n) (rank-falls run t 1 n)
    (rank-falls run t 0 n)
    (over-low run (3 * t + 1) (3 * t + 2) (rank_back run t 1 n)
    (at-rank run t 1 n (3 * t + 1) (3 * t + 2) (omega arith) (omega arith)))
    (under-high run (3 * t) (3 * t + 1) (rank_back run t 0 n)
    (at-rank run t 0 n (3 * t) (3 * t + 1) (omega arith) (omega arith))))
    (over-low run (3 * t + 2) (3 * t + 3) (rank_back run t 2 n)
    (at-rank run t 2 n (3 * t + 2) (3 * t + 3) (omega arith) (omega arith)))
    (each-append (λ s. level run s < 3 * t + 2) (rank_back run t 1 n) (rank_back run t 0 n)
    (under-high run (3 * t) (3 * t + 2) (rank_back run t 1 n)
    (at-rank run t 1 n (3 * t) (3 * t + 2) (omega arith) (omega arith)))
    (under-high run (3 * t) (3 * t + 2) (rank_back run t 0 n)
    (at-rank run t 0 n (3 * t) (3 * t + 2) (omega arith) (omega arith))))

-- Those of a run.

abbrev IsInOrder : RunSlots → ℕ → List Spot → Type 0
IsInOrder run n spots = Falls (level run) spots × AllByRecursion (λ s. level run s < 3 * n) spots

append-order : (run : RunSlots) (t n : ℕ) (older : List Spot) → IsInOrder run t older
    → IsInOrder run (suc t) (slot_back run n t ++ older)
append-order run t n older is =
    let here = slot-all run t n in (
      falls-between (level run) (3 * t) (slot_back run n t) older (slot-falls run t n) is.0
          (over-low run (3 * t) (3 * t + 3) (slot_back run n t) here) is.1,
      each-append (λ s. level run s < 3 * suc t) (slot_back run n t) older
          (each-weaker (λ s. (3 * t < level run s + 1) × (level run s < 3 * t + 3))
          (λ s. level run s < 3 * suc t) (slot_back run n t)
          (λ s two. omega (arith, two.1)) here)
          (each-weaker (λ s. level run s < 3 * t) (λ s. level run s < 3 * suc t) older
          (λ s under. omega (arith, under)) is.1),
    )

first-order : (list : Medl) (script : Script) (history : History) (n : ℕ) → n ≤ length history
    → IsInOrder (slots_of_run list script history) n (spots_back (slots_up_to (slots_of_run list script history) n))
first-order list script history zero within =
    let run = slots_of_run list script history in
    subst (IsInOrder run 0) (sym (ap spots_back (slots_up_to-none run))) (tt, tt)
first-order list script history (suc t) within =
    let run = slots_of_run list script history in
    subst (IsInOrder run (suc t))
    (sym (spots_back-next list script history t (length list.slots) (omega (arith, within)) refl))
    (append-order run t (length list.slots) (spots_back (slots_up_to run t))
    (first-order list script history t (omega (arith, within))))

pub spots-order : (list : Medl) (script : Script) (history : History)
    → IsInOrder (slots_of_run list script history) (length history) (spots_back (slots_of_run list script history))
spots-order list script history =
    let run = slots_of_run list script history in
    subst (λ (slots : RunSlots). IsInOrder run (length history) (spots_back slots))
    (slots_up_to-all run (length history) (sym (length-run list script history)))
    (first-order list script history (length history) (omega arith))

-- Each entry of a slot is among them.

one-has : (run : RunSlots) (t rank k : ℕ) (rest : List Spot) (b : Bool)
    → (rank_of_entry (entry_at_spot run (spot_at t k)) == rank) ≡ b
    → rank_of_entry (entry_at_spot run (spot_at t k)) ≡ rank
    → has_spot ((if b then spot_at t k ∷ [] else []) ++ rest) (spot_at t k) ≡ true
one-has run t rank k rest true is same = has-here (spot_at t k) rest
one-has run t rank k rest false is same =
    let other : (rank_of_entry (entry_at_spot run (spot_at t k)) == rank) ≡ true = grind (arith, nat_tests) in
    absurd (false≢true (sym is ∙ other))

rank-has : (run : RunSlots) (t rank n k : ℕ) → k < n → rank_of_entry (entry_at_spot run (spot_at t k)) ≡ rank
    → has_spot (rank_back run t rank n) (spot_at t k) ≡ true
rank-has run t rank zero k less same = absurd (omega (arith, less))
rank-has run t rank (suc m) k less same =
    let within : k ≤ m = omega (arith, less) in
    elim (eq-or-lt_of_le within) [
      | inl last ↦ subst (λ (j : ℕ). has_spot (rank_back run t rank (suc j)) (spot_at t k) ≡ true) last
          (one-has run t rank k (rank_back run t rank k)
          (rank_of_entry (entry_at_spot run (spot_at t k)) == rank) refl same)
      | inr lower ↦ has-append-right (spot_at t k)
          (if rank_of_entry (entry_at_spot run (spot_at t m)) == rank then spot_at t m ∷ [] else [])
          (rank_back run t rank m)
          (rank-has run t rank m k lower same)
    ]

slot-has : (run : RunSlots) (t n k : ℕ) → k < n → has_spot (slot_back run n t) (spot_at t k) ≡ true
slot-has run t n k less =
    let s = spot_at t k in
    let low = rank_back run t 1 n ++ rank_back run t 0 n in
    elim (rank-cases (entry_at_spot run s)) [
      | inl two ↦ has-append-left s (rank_back run t 2 n) low (rank-has run t 2 n k less two)
      | inr less_two ↦ has-append-right s (rank_back run t 2 n) low (elim less_two [
        | inl one ↦ has-append-left s (rank_back run t 1 n) (rank_back run t 0 n) (rank-has run t 1 n k less one)
        | inr none ↦ has-append-right s (rank_back run t 1 n) (rank_back run t 0 n) (rank-has run t 0 n k less none)
      ])
    ]

pub newest-has : (list : Medl) (script : Script) (history : History) (t k : ℕ)
    → length history ≡ suc t → k < length list.slots
    → has_spot (spots_back (slots_of_run list script history)) (spot_at t k) ≡ true
newest-has list script history t k count node =
    let run = slots_of_run list script history in
    let n = length list.slots in
    subst (λ (spots : List Spot). has_spot spots (spot_at t k) ≡ true)
    (sym (ap spots_back (sym (slots_up_to-all run (suc t) (sym (length-run list script history ∙ count))))
    ∙ spots_back-next list script history t n (omega (arith, count)) refl))
    (has-append-left (spot_at t k) (slot_back run n t) (spots_back (slots_up_to run t)) (slot-has run t n k node))
