-- The root, which is looked for in the slots before one; and the whole story.
use Rattle.std.proofs.Common.{◌≡◌, ℕ, zero, suc, ◌+◌, ◌-◌, ◌<◌, ◌≤◌, Bool, true, false, List, [], ◌∷◌, ◌++◌, length}
use Rattle.std.proofs.Common.{ap, sym, ◌∙◌, refl, arith, drop, subst}
use Rattle.std.proofs.Math.Seq.{drop-nil}
use Rattle.std.proofs.lemmas.List.{length-drop}
use Rattle.std.proofs.lemmas.List.Elements.{All-nil, All-cons, All-head, All-tail}
use Rattle.std.specs.List.{list_any}
use Rattle.std.specs.Prelude.{All}
use Rattle.causes.specs.Causes.{cause_at, newest_cause}
use Rattle.causes.specs.RunSlots.{RunSlots, slots_to}
use Rattle.causes.specs.Said.{root}
use Rattle.causes.specs.Story.{added_root, has_fault_line, has_spot, kept_of_told, leading, leads_to_fault, reached}
use Rattle.causes.specs.Story.{spots_back, story, told_spot, with_root}
use Rattle.causes.specs.declared.cause.Cause.{Cause}
use Rattle.causes.specs.declared.cause.Spot.{Spot}
use Rattle.causes.specs.declared.cause.Story.{Story}
use Rattle.causes.specs.declared.cause.Told.{Told}
use Rattle.ttp_world.specs.declared.script.Script.{Script}
use Rattle.why_story.specs.RunSource.{RunSource, source_slots, slots_up_to, spot_at}
use Rattle.why_story.proofs.Steps.{reached-no, reached-yes}
use Rattle.why_story.proofs.Slots.{length-run, slots_up_to-all}
use Rattle.why_story.proofs.Within.{IsWithin, spots-within}

-- A run up to a slot shows of the slots before what the whole run does.

drop-twice : {X : Type 0} (m n : ℕ) (xs : List X) → drop m (drop n xs) ≡ drop (n + m) xs
drop-twice m zero xs = ap (λ (k : ℕ). drop k xs) (omega arith)
drop-twice m (suc n) [] = drop-nil m ∙ sym (drop-nil (suc n + m))
drop-twice m (suc n) (x ∷ xs) =
    let more : suc (n + m) ≡ suc n + m = omega arith in
    drop-twice m n xs ∙ ap (λ (k : ℕ). drop k (x ∷ xs)) more

length-before : (run : RunSlots) (n : ℕ) → n ≤ length run → length (slots_up_to run n) ≡ n
length-before run n within = length-drop (length run - n) run ∙ omega (arith, within)

slots_to-before : (run : RunSlots) (n slot : ℕ) → n ≤ length run → slot < n
    → slots_to (slots_up_to run n) slot ≡ slots_to run slot
slots_to-before run n slot within before =
    ap (λ (l : ℕ). drop (l - suc slot) (slots_up_to run n)) (length-before run n within)
    ∙ (drop-twice (n - suc slot) (length run - n) run
    ∙ ap (λ (l : ℕ). drop l run) (omega (arith, within, before)))

reached-by : (run part : RunSlots) (marks : List Spot) (s : Spot) (older : List Spot) (b : Bool) → has_spot marks s ≡ b
    → cause_at run s ≡ cause_at part s → ((m : List Spot) → reached run m older ≡ reached part m older)
    → reached run marks (s ∷ older) ≡ reached part marks (s ∷ older)
reached-by run part marks s older false is same rest =
    reached-no run marks s older is ∙ (rest marks ∙ sym (reached-no part marks s older is))
reached-by run part marks s older true is same rest =
    let next : RunSlots → Cause → List Told = λ r c.
    record { spot = s; cause = c } ∷ reached r (c.entries ++ marks) older in
    reached-yes run marks s older is
    ∙ (ap (next run) same
    ∙ (ap (λ (t : List Told). told_spot part s ∷ t) (rest ((cause_at part s).entries ++ marks))
    ∙ sym (reached-yes part marks s older is)))

reached-same : (run part : RunSlots) (spots : List Spot) → All (λ s. cause_at run s ≡ cause_at part s) spots
    → (marks : List Spot) → reached run marks spots ≡ reached part marks spots
reached-same run part [] all marks = refl
reached-same run part (s ∷ older) all marks =
    reached-by run part marks s older (has_spot marks s) refl
    (All-head (λ x. cause_at run x ≡ cause_at part x) s older all)
    (reached-same run part older (All-tail (λ x. cause_at run x ≡ cause_at part x) s older all))

causes-same : (run : RunSlots) (n : ℕ) (spots : List Spot) → n ≤ length run → All (IsWithin n) spots
    → All (λ s. cause_at run s ≡ cause_at (slots_up_to run n) s) spots
causes-same run n [] within all = All-nil (λ s. cause_at run s ≡ cause_at (slots_up_to run n) s)
causes-same run n (s ∷ older) within all =
    let here = All-head (IsWithin n) s older all in
    All-cons (λ x. cause_at run x ≡ cause_at (slots_up_to run n) x) s older
    (ap (newest_cause s.node) (sym (slots_to-before run n s.slot within here.0)))
    (causes-same run n older within (All-tail (IsWithin n) s older all))

pub leads-before : (source : RunSource) (script : Script) (nodes slot : ℕ) (from : Spot) → slot ≤ length source.history
    → nodes ≡ length source.list.slots → nodes ≤ 24
    → list_any (has_fault_line script)
    (reached (source_slots source) (from ∷ []) (spots_back (slots_up_to (source_slots source) slot)))
    ≡ leads_to_fault script (slots_up_to (source_slots source) slot) from
leads-before source script nodes slot from within same few =
    let run = source_slots source in
    let count : length run ≡ length source.history = length-run source.list source.script source.history in
    let spots = spots_back (slots_up_to run slot) in
    ap (list_any (has_fault_line script))
    (reached-same run (slots_up_to run slot) spots
    (causes-same run slot spots (omega (arith, within, count))
    (spots-within source nodes slot 24 slot within (omega arith) same few))
    (from ∷ []))

-- The story.

-- what is kept of what is reached from an entry and its root
abbrev pub told_from : RunSlots → Spot → List Spot → RunSlots → List Told
told_from run asked origin slots =
    let told = with_root origin (reached run (asked ∷ origin) (spots_back slots)) in
    kept_of_told (leading told) (asked ∷ []) told

-- by the entry of the newest slot
story-at : (script : Script) (run before : RunSlots) (k slot : ℕ) → slot ≡ length run - 1 → before ≡ drop 1 run
    → (origin : List Spot) → origin ≡ added_root script k before (cause_at run (spot_at slot k)).entries
    → record { root = origin; told = told_from run (spot_at slot k) origin run } ≡ story script run k
story-at script run before k slot at behind origin is =
    let made : ℕ → List Spot → Story = λ n o. record { root = o; told = told_from run (spot_at n k) o run } in
    let P : ℕ → RunSlots → Type 0 =
    λ n b. (o : List Spot) → o
    ≡ added_root script k b (cause_at run (spot_at n k)).entries → made n o ≡ story script run k in
    let base : P (length run - 1) (drop 1 run) = λ o e. ap (made (length run - 1)) e in
    subst (λ n. P n before) (sym at) (subst (λ b. P (length run - 1) b) (sym behind) base) origin is

pub story-is : (script : Script) (run : RunSlots) (k slots slot : ℕ) → slots ≡ length run → slots ≡ slot + 1
    → (origin : List Spot) → origin ≡ added_root script k (slots_up_to run slot) (cause_at run (spot_at slot k)).entries
    → (told : List Told) → told ≡ told_from run (spot_at slot k) origin (slots_up_to run slots)
    → record { root = origin; told = told } ≡ story script run k
story-is script run k slots slot all is origin added told kept =
    let one : length run - slot ≡ 1 = omega (arith, all, is) in
    ap (λ (t : List Told). record { root = origin; told = t })
    (kept ∙ ap (told_from run (spot_at slot k) origin) (slots_up_to-all run slots all))
    ∙ story-at script run (slots_up_to run slot) k slot (omega (arith, all, is))
    (ap (λ (n : ℕ). drop n run) one) origin added
