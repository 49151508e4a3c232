-- What is told lies in the slots and nodes of the run.
use Rattle.std.proofs.Common.{◌≡◌, ℕ, zero, suc, ◌+◌, ◌<◌, ◌≤◌, ◌==◌, ◌&&◌, ◌||◌}
use Rattle.std.proofs.Common.{Bool, true, false, List, [], ◌∷◌, ◌++◌, length}
use Rattle.std.proofs.Common.{ap, sym, ◌∙◌, refl, arith, subst, get_or, drop}
use Rattle.std.proofs.lemmas.Bool.Decides.{nat_tests}
use Rattle.std.proofs.lemmas.Bool.{false≢true}
use Rattle.std.proofs.lemmas.List.{drop_more}
use Rattle.std.proofs.lemmas.List.Elements.{All-nil, All-cons, All-head, All-tail, All-append, All-drop}
use Rattle.std.specs.Prelude.{All, filter, map, if◌then◌else◌}
use Rattle.ttp_base.specs.NodeSet.{most_nodes}
use Rattle.causes.specs.Members.{entry_at_spot}
use Rattle.causes.specs.RunSlots.{RunSlots}
use Rattle.causes.specs.Story.{has_spot, is_spot, kept_of_told, leading, leads_back, rank_of_entry}
use Rattle.causes.specs.Story.{reached, spots_back, told_spot, with_root}
use Rattle.causes.specs.declared.cause.Spot.{Spot}
use Rattle.causes.specs.declared.cause.Told.{Told}
use Rattle.why_story.specs.Marks.{AreMarked, AreToldWithin, AreInSlots}
use Rattle.why_story.specs.Passes.{rank_back, slot_back}
use Rattle.why_story.specs.RunSource.{RunSource, source_slots, slots_up_to, spot_at}
use Rattle.why_story.specs.declared.marks.Marks.{Marks}
use Rattle.why_story.proofs.Steps.{kept-no, kept-yes, reached-no, reached-yes}
use Rattle.why_story.proofs.Slots.{slots_up_to-none, spots_back-next}

-- an entry of the first so many slots, of so many nodes
abbrev pub IsPart : ℕ → ℕ → Spot → Type 0
IsPart count nodes s = (s.slot < count) × (s.node < nodes)

abbrev pub IsWithin : ℕ → Spot → Type 0
IsWithin count s = IsPart count most_nodes s

-- The entries of a run.

rank-one : (run : RunSlots) (count most t rank k : ℕ) → t < count → k < most → (b : Bool) (rest : List Spot)
    → All (IsPart count most) rest → All (IsPart count most) ((if b then spot_at t k ∷ [] else []) ++ rest)
rank-one run count most t rank k slot node true rest all =
    All-cons (IsPart count most) (spot_at t k) rest (slot, node) all
rank-one run count most t rank k slot node false rest all = all

rank-within : (run : RunSlots) (count most t rank n : ℕ) → t < count → n ≤ most
    → All (IsPart count most) (rank_back run t rank n)
rank-within run count most t rank zero slot few = All-nil (IsPart count most)
rank-within run count most t rank (suc k) slot few =
    rank-one run count most t rank k slot (omega (arith, few)) (rank_of_entry (entry_at_spot run (spot_at t k)) == rank)
    (rank_back run t rank k) (rank-within run count most t rank k slot (omega (arith, few)))

slot-within : (run : RunSlots) (count most t nodes : ℕ) → t < count → nodes ≤ most
    → All (IsPart count most) (slot_back run nodes t)
slot-within run count most t nodes slot few =
    All-append (IsPart count most) (rank_back run t 2 nodes) (rank_back run t 1 nodes ++ rank_back run t 0 nodes)
    (rank-within run count most t 2 nodes slot few)
    (All-append (IsPart count most) (rank_back run t 1 nodes) (rank_back run t 0 nodes)
    (rank-within run count most t 1 nodes slot few) (rank-within run count most t 0 nodes slot few))

pub spots-within : (source : RunSource) (nodes count most n : ℕ) → n ≤ length source.history → n ≤ count
    → nodes ≡ length source.list.slots → nodes ≤ most
    → All (IsPart count most) (spots_back (slots_up_to (source_slots source) n))
spots-within source nodes count most zero within fits same few =
    subst (All (IsPart count most))
    (sym (ap spots_back (slots_up_to-none (source_slots source)))) (All-nil (IsPart count most))
spots-within source nodes count most (suc t) within fits same few =
    subst (All (IsPart count most))
    (sym (spots_back-next source.list source.script source.history t nodes (omega (arith, within)) same))
    (All-append (IsPart count most) (slot_back (source_slots source) nodes t)
    (spots_back (slots_up_to (source_slots source) t))
    (slot-within (source_slots source) count most t nodes (omega (arith, fits)) few)
    (spots-within source nodes count most t (omega (arith, within)) (omega (arith, fits)) same few))

-- What is reached.

abbrev pub AreToldPart : ℕ → ℕ → List Told → Type 0
AreToldPart count nodes told = All (λ t. IsPart count nodes t.spot) told

reached-by : (run : RunSlots) (count most : ℕ) (marks : List Spot) (s : Spot)
    (older : List Spot) (b : Bool) → has_spot marks s ≡ b
    → IsPart count most s → ((m : List Spot) → AreToldPart count most (reached run m older))
    → AreToldPart count most (reached run marks (s ∷ older))
reached-by run count most marks s older false is within rest =
    subst (AreToldPart count most) (sym (reached-no run marks s older is)) (rest marks)
reached-by run count most marks s older true is within rest =
    let others = reached run ((told_spot run s).cause.entries ++ marks) older in
    subst (AreToldPart count most) (sym (reached-yes run marks s older is))
    (All-cons (λ t. IsPart count most t.spot) (told_spot run s) others within
    (rest ((told_spot run s).cause.entries ++ marks)))

reached-all : (run : RunSlots) (count most : ℕ) (spots : List Spot) → All (IsPart count most) spots
    → (marks : List Spot) → AreToldPart count most (reached run marks spots)
reached-all run count most [] all marks = All-nil (λ t. IsPart count most t.spot)
reached-all run count most (s ∷ older) all marks =
    reached-by run count most marks s older (has_spot marks s) refl (All-head (IsPart count most) s older all)
    (reached-all run count most older (All-tail (IsPart count most) s older all))

pub reached-part : (source : RunSource) (nodes count most : ℕ) (marks : List Spot) → count ≤ length source.history
    → nodes ≡ length source.list.slots → nodes ≤ most
    → AreToldPart count most
    (reached (source_slots source) marks (spots_back (slots_up_to (source_slots source) count)))
reached-part source nodes count most marks within same few =
    reached-all (source_slots source) count most (spots_back (slots_up_to (source_slots source) count))
    (spots-within source nodes count most count within (omega arith) same few) marks

pub reached-within : (source : RunSource) (nodes count : ℕ) (marks : List Spot) → count ≤ length source.history
    → nodes ≡ length source.list.slots → nodes ≤ most_nodes
    → AreToldWithin count (reached (source_slots source) marks (spots_back (slots_up_to (source_slots source) count)))
reached-within source nodes count marks within same few =
    reached-part source nodes count most_nodes marks within same few

pub root-part : (count nodes : ℕ) (origin : List Spot) (told : List Told) → AreToldPart count nodes told
    → AreToldPart count nodes (with_root origin told)
root-part count nodes origin [] all = all
root-part count nodes origin (t ∷ older) all =
    All-cons (λ u. IsPart count nodes u.spot) _ older (All-head (λ u. IsPart count nodes u.spot) t older all)
    (All-tail (λ u. IsPart count nodes u.spot) t older all)

pub root-within : (count : ℕ) (origin : List Spot) (told : List Told) → AreToldWithin count told
    → AreToldWithin count (with_root origin told)
root-within count origin told all = root-part count most_nodes origin told all

-- What is kept.

kept-by : (count nodes : ℕ) (back marks : List Spot) (t : Told) (older : List Told) (b : Bool)
    → has_spot marks t.spot ≡ b
    → IsPart count nodes t.spot
    → ((m : List Spot) → All (IsPart count nodes) (map (λ u. u.spot) (kept_of_told back m older)))
    → All (IsPart count nodes) (map (λ u. u.spot) (kept_of_told back marks (t ∷ older)))
kept-by count nodes back marks t older false is here rest =
    subst (λ (ts : List Told). All (IsPart count nodes) (map (λ u. u.spot) ts))
    (sym (kept-no back marks t older is)) (rest marks)
kept-by count nodes back marks t older true is here rest =
    let more = filter (has_spot back) t.cause.entries ++ marks in
    subst (λ (ts : List Told). All (IsPart count nodes) (map (λ u. u.spot) ts)) (sym (kept-yes back marks t older is))
    (All-cons (IsPart count nodes) t.spot (map (λ u. u.spot) (kept_of_told back more older)) here (rest more))

pub kept-part : (count nodes : ℕ) (back : List Spot) (told : List Told)
    → AreToldPart count nodes told → (marks : List Spot)
    → All (IsPart count nodes) (map (λ u. u.spot) (kept_of_told back marks told))
kept-part count nodes back [] all marks = All-nil (IsPart count nodes)
kept-part count nodes back (t ∷ older) all marks =
    kept-by count nodes back marks t older (has_spot marks t.spot) refl
    (All-head (λ u. IsPart count nodes u.spot) t older all)
    (kept-part count nodes back older (All-tail (λ u. IsPart count nodes u.spot) t older all))

-- What leads back.

pub AreInSlots-none : (count : ℕ) → AreInSlots count []
AreInSlots-none count s none = absurd (false≢true none)

same_spot : (s x : Spot) (count : ℕ) (b c : Bool) → (x.slot == s.slot) ≡ b → (x.node == s.node) ≡ c → (b && c) ≡ true
    → IsWithin count s → IsWithin count x
same_spot s x count true true slot node is within =
    let same : x.slot ≡ s.slot = grind (arith, nat_tests) in
    let one : x.node ≡ s.node = grind (arith, nat_tests) in
    (omega (arith, same, within.0), omega (arith, one, within.1))
same_spot s x count true false slot node is within = absurd (false≢true is)
same_spot s x count false c slot node is within = absurd (false≢true is)

more_within : (count : ℕ) (s x : Spot) (spots : List Spot) (b : Bool) → is_spot x s ≡ b → (b || has_spot spots x) ≡ true
    → IsWithin count s → AreInSlots count spots → IsWithin count x
more_within count s x spots true is has here all =
    same_spot s x count (x.slot == s.slot) (x.node == s.node) refl refl is here
more_within count s x spots false is has here all = all x has

pub AreInSlots-more : (count : ℕ) (s : Spot) (spots : List Spot) → IsWithin count s → AreInSlots count spots
    → AreInSlots count (s ∷ spots)
AreInSlots-more count s spots here all x has = more_within count s x spots (is_spot x s) refl has here all

lead-by : (count : ℕ) (s : Spot) (back : List Spot) (b : Bool) → IsWithin count s → AreInSlots count back
    → AreInSlots count (if b then s ∷ back else back)
lead-by count s back true here all = AreInSlots-more count s back here all
lead-by count s back false here all = all

pub leading-within : (count : ℕ) (told : List Told) → AreToldWithin count told → AreInSlots count (leading told)
leading-within count [] all = AreInSlots-none count
leading-within count (t ∷ older) all =
    lead-by count t.spot (leading older) (leads_back (leading older) t.cause)
    (All-head (λ u. IsWithin count u.spot) t older all)
    (leading-within count older (All-tail (λ u. IsWithin count u.spot) t older all))

-- a step of the loop over them
leading-if : (count : ℕ) (t : Told) (older : List Told) (b : Bool) (marks : Marks)
    → leads_back (leading older) t.cause ≡ b
    → AreMarked count (if b then t.spot ∷ leading older else leading older) marks
    → AreMarked count (leading (t ∷ older)) marks
leading-if count t older b marks is are =
    subst (λ (x : Bool). AreMarked count (if x then t.spot ∷ leading older else leading older) marks) (sym is) are

pub leading-step : (count : ℕ) (told : List Told) (i : ℕ) (d : Told) (b : Bool) (marks : Marks) → i < length told
    → leads_back (leading (drop (i + 1) told)) (get_or told i d).cause ≡ b
    → AreMarked count (if b then (get_or told i d).spot
    ∷ leading (drop (i + 1) told) else leading (drop (i + 1) told)) marks
    → AreMarked count (leading (drop i told)) marks
leading-step count told i d b marks within is are =
    subst (λ (ts : List Told). AreMarked count (leading ts) marks) (sym (drop_more told i d within))
    (leading-if count (get_or told i d) (drop (i + 1) told) b marks is are)

-- the loop that marks them, the oldest first
pub leading-more : (count : ℕ) (told : List Told) (place i : ℕ) (one : Told)
    (b : Bool) (old new : Marks) → place ≡ i + 1
    → i < length told → one ≡ get_or told i one → AreToldWithin count told
    → AreMarked count (leading (drop place told)) old
    → ((spots : List Spot) → AreMarked count spots old → AreInSlots count spots → b ≡ leads_back spots one.cause)
    → AreMarked count (if b then one.spot ∷ leading (drop place told) else leading (drop place told)) new
    → AreMarked count (leading (drop i told)) new
leading-more count told place i one b old new is within here all are leads marked =
    let back : AreInSlots count (leading (drop place told)) =
    leading-within count (drop place told) (All-drop (λ t. IsWithin count t.spot) place told all) in
    let same : drop place told ≡ drop (i + 1) told = ap (λ (n : ℕ). drop n told) is in
    leading-step count told i one b new within
    (sym (leads (leading (drop place told)) are back
    ∙ (ap (λ (ts : List Told). leads_back (leading ts) one.cause) same
    ∙ ap (λ (t : Told). leads_back (leading (drop (i + 1) told)) t.cause) here)))
    (subst (λ (t : Told). AreMarked count
    (if b then t.spot ∷ leading (drop (i + 1) told) else leading (drop (i + 1) told)) new)
    here
    (subst (λ (ts : List Told). AreMarked count (if b then one.spot ∷ leading ts else leading ts) new) same marked))
