-- The story of an entry of a run in which causes stand above.
use Rattle.std.proofs.Common.{◌≡◌, ℕ, suc, ◌*◌, ◌<◌, ◌≤◌, ◌++◌, inl, inr, Bool, true, false, List, [], ◌∷◌}
use Rattle.std.proofs.Common.{ap, sym, subst, ◌∙◌, refl, arith, length}
use Rattle.std.proofs.lemmas.Bool.{false≢true}
use Rattle.std.specs.List.{AllByRecursion}
use Rattle.std.specs.Prelude.{if◌then◌else◌}
use Rattle.causes.specs.Causes.{cause_at}
use Rattle.causes.specs.RunSlots.{RunSlots, last_number, newest_spot, slots_of_run}
use Rattle.causes.specs.Said.{root}
use Rattle.causes.specs.Story.{added_root, has_spot, kept_from, leads_to_fault, reached}
use Rattle.causes.specs.Story.{spots_back, story, told_spot, was_active}
use Rattle.causes.specs.Story.{with_entries, with_root}
use Rattle.causes.specs.declared.cause.Spot.{Spot}
use Rattle.causes.specs.declared.cause.Told.{Told}
use Rattle.ttp_world.proofs.LineLists.{each-append}
use Rattle.ttp_world.specs.Diary.{History}
use Rattle.ttp_world.specs.declared.medl.Medl.{Medl}
use Rattle.ttp_world.specs.declared.node.Entry.{Entry}
use Rattle.ttp_world.specs.declared.script.Script.{Script}
use Rattle.why_answers.proofs.FromBelow.{length-run, reached-no, reached-yes}
use Rattle.why_story.specs.RunSource.{spot_at}
use Rattle.why_answers.proofs.PastSpots.{root-past}
use Rattle.why_answers.proofs.RunOrder.{level, newest-has, slot-level, spots-order}
use Rattle.why_answers.proofs.SpotOrder.{Falls, IsBefore, each-has, each-weaker, has-cases}
use Rattle.why_answers.proofs.SpotOrder.{has-here, not-above, not-itself}
use Rattle.why_answers.proofs.StoryOrder.{HasAbove, IsStory, kept-story}
use Rattle.why_answers.specs.Stories.{spots_told}

-- What is reached.

reached-if : (Q : List Told → Type 0) (run : RunSlots) (marks : List Spot) (s : Spot) (older : List Spot) (b : Bool)
    → has_spot marks s ≡ b
    → Q (told_spot run s ∷ reached run ((told_spot run s).cause.entries ++ marks) older) → Q (reached run marks older)
    → Q (reached run marks (s ∷ older))
reached-if Q run marks s older true is here left = subst Q (sym (reached-yes run marks s older is)) here
reached-if Q run marks s older false is here left = subst Q (sym (reached-no run marks s older is)) left

-- by whether the newest is marked
reached-by : (Q : List Told → Type 0) (run : RunSlots) (marks : List Spot) (s : Spot) (older : List Spot)
    → Q (told_spot run s ∷ reached run ((told_spot run s).cause.entries ++ marks) older) → Q (reached run marks older)
    → Q (reached run marks (s ∷ older))
reached-by Q run marks s older here left = reached-if Q run marks s older (has_spot marks s) refl here left

pub reached-each : (Q : Told → Type 0) (run : RunSlots) (marks spots : List Spot)
    → AllByRecursion (λ s. Q (told_spot run s)) spots → AllByRecursion Q (reached run marks spots)
reached-each Q run marks [] all = tt
reached-each Q run marks (s ∷ older) all =
    reached-by (AllByRecursion Q) run marks s older
    (all.0, reached-each Q run ((told_spot run s).cause.entries ++ marks) older all.1)
    (reached-each Q run marks older all.1)

told-spots : (P : Spot → Type 0) (told : List Told)
    → AllByRecursion (λ t. P t.spot) told → AllByRecursion P (spots_told told)
told-spots P [] all = tt
told-spots P (t ∷ older) all = (all.0, told-spots P older all.1)

pub reached-falls : (order : Spot → ℕ) (run : RunSlots) (marks spots : List Spot) → Falls order spots
    → Falls order (spots_told (reached run marks spots))
reached-falls order run marks [] falls = tt
reached-falls order run marks (s ∷ older) falls =
    let more = (told_spot run s).cause.entries ++ marks in
    reached-by (λ (ts : List Told). Falls order (spots_told ts)) run marks s older (
      told-spots (λ o. IsBefore order o s) (reached run more older)
          (reached-each (λ t. IsBefore order t.spot s) run more older falls.0),
      reached-falls order run more older falls.1,
    )
    (reached-falls order run marks older falls.1)

-- The first is the one that is asked for, of which the others that are marked stand above.
pub record IsFirst (P : Spot → Type 0) (order : Spot → ℕ) (run : RunSlots)
    (marks : List Spot) (asked : Spot) (spots : List Spot)
    : Type 0 where
  pub rest : List Spot
  pub reached : reached run marks spots
      ≡ told_spot run asked ∷ reached run ((told_spot run asked).cause.entries ++ marks) rest
  pub falls : Falls order (asked ∷ rest)
  pub holds : AllByRecursion P (asked ∷ rest)

not-marked : (order : Spot → ℕ) (asked s : Spot) (origin : List Spot) → IsBefore order asked s
    → AllByRecursion (λ o. order o < order asked) origin → (b : Bool) → has_spot (asked ∷ origin) s ≡ b → b ≡ false
not-marked order asked s origin before above false is = refl
not-marked order asked s origin before above true is = elim (has-cases s asked origin is) [
  | inl same ↦ absurd (not-itself order asked s before (sym same))
  | inr other ↦ absurd (not-above order asked s before (each-has (λ o. order o < order asked) origin s above other))
]

pub reached-first : (P : Spot → Type 0) (order : Spot → ℕ) (run : RunSlots) (origin : List Spot) (asked : Spot)
    → AllByRecursion (λ o. order o < order asked) origin → (spots : List Spot)
    → Falls order spots → AllByRecursion P spots
    → has_spot spots asked ≡ true → IsFirst P order run (asked ∷ origin) asked spots
reached-first P order run origin asked above [] falls holds has = absurd (false≢true has)
reached-first P order run origin asked above (s ∷ older) falls holds has = elim (has-cases asked s older has) [
  | inl same ↦ subst (λ (x : Spot). Falls order (x ∷ older) → AllByRecursion P (x ∷ older)
      → IsFirst P order run (asked ∷ origin) asked (x ∷ older)) same
      (λ falls holds. record {
        rest = older;
        reached = reached-yes run (asked ∷ origin) asked older (has-here asked origin);
        falls = falls;
        holds = holds;
      }) falls holds
  | inr more ↦
      let before = each-has (λ o. IsBefore order o s) older asked falls.0 more in
      let next = reached-first P order run origin asked above older falls.1 holds.1 more in record {
        rest = next.rest;
        reached = reached-no run (asked ∷ origin) s older
            (not-marked order asked s origin before above (has_spot (asked ∷ origin) s) refl)
            ∙ next.reached;
        falls = next.falls;
        holds = next.holds;
      }
]

-- The root stands above.

pub numbers-below : (list : Medl) (script : Script) (history : History) (n : ℕ) → length history ≤ n
    → AllByRecursion (λ s. s.begun.number < n) (slots_of_run list script history)
numbers-below list script [] n within = tt
numbers-below list script (row ∷ history) n within =
    (omega (arith, within), numbers-below list script history n (omega (arith, within)))

active-if : Bool → Bool → Bool → Spot → List Spot
active-if active named leads origin =
    elim active as (λ b. List Spot) [
      | false ↦ []
      | true ↦ elim named as (λ b. List Spot) [ true ↦ [] | false ↦ if leads then origin ∷ [] else [] ]
    ]

added-is : (script : Script) (k : ℕ) (before : RunSlots) (entries : List Spot)
    → added_root script k before entries
    ≡ active-if (was_active k before) (has_spot entries (root k before))
    (leads_to_fault script before (root k before)) (root k before)
unfolding active-if
added-is script k before entries = refl

added-each : (P : Spot → Type 0) (active named leads : Bool) (origin : Spot) → (active ≡ true → P origin)
    → AllByRecursion P (active-if active named leads origin)
unfolding active-if
added-each P false named leads origin holds = tt
added-each P true true leads origin holds = tt
added-each P true false true origin holds = (holds refl, tt)
added-each P true false false origin holds = tt

active-some : (list : Medl) (script : Script) (history : History) (k : ℕ)
    → was_active k (slots_of_run list script history) ≡ true → 0 < length history
active-some list script [] k active = absurd (false≢true active)
active-some list script (row ∷ history) k active = omega arith

pub root-above : (script : Script) (list : Medl) (history : History) (run : RunSlots) (k : ℕ) (entries : List Spot)
    → AllByRecursion (λ o. level run o < level run (spot_at (length history) k))
    (added_root script k (slots_of_run list script history) entries)
root-above script list history run k entries =
    let before = slots_of_run list script history in
    let asked = spot_at (length history) k in
    subst (AllByRecursion (λ o. level run o < level run asked)) (sym (added-is script k before entries))
    (added-each (λ o. level run o < level run asked) (was_active k before) (has_spot entries (root k before))
    (leads_to_fault script before (root k before)) (root k before)
    (λ active. slot-level run (root k before) asked
    (root-past (length history) k before (active-some list script history k active)
    (numbers-below list script history (length history) (omega arith)))))

-- The whole.

-- the causes of each entry of a run stand above it
abbrev pub HaveAbove : RunSlots → ℕ → Type 0
HaveAbove run count =
    (s : Spot) → s.slot < count → AllByRecursion (λ e. level run e < level run s) (cause_at run s).entries

newest-is : (list : Medl) (script : Script) (history : History) (t k : ℕ) → length history ≡ suc t
    → newest_spot k (slots_of_run list script history) ≡ spot_at t k
newest-is list script history t k count =
    let long = length-run list script history ∙ count in
    let last : last_number (slots_of_run list script history) ≡ t = omega (arith, long) in
    ap (λ (slot : ℕ). spot_at slot k) last

in-slot : (run : RunSlots) (n : ℕ) (s : Spot) → level run s < 3 * n → s.slot < n
in-slot run n s under = omega (arith, under)

-- by what is reached
abbrev kept_of : List Spot → Spot → List Told → List Told
kept_of origin asked told = kept_from asked (with_root origin told)

first-story : (run : RunSlots) (n : ℕ) (origin : List Spot) (asked : Spot) (told : List Told)
    → AllByRecursion (λ o. level run o < level run asked) origin → HaveAbove run n
    → (first : IsFirst (λ s. s.slot < n) (level run) run (asked ∷ origin) asked (spots_back run))
    → told ≡ reached run (asked ∷ origin) (spots_back run)
    → IsStory asked (kept_of origin asked told)
first-story run n origin asked told above causes first is =
    let t = told_spot run asked in
    let more = t.cause.entries ++ (asked ∷ origin) in
    let others = reached run more first.rest in
    let newest = with_entries t (origin ++ t.cause.entries) in
    subst (λ (ts : List Told). IsStory asked (kept_of origin asked ts)) (sym (is ∙ first.reached))
    (kept-story (level run) newest others (
      told-spots (λ o. IsBefore (level run) o asked) others
          (reached-each (λ u. IsBefore (level run) u.spot asked) run more first.rest first.falls.0),
      reached-falls (level run) run more first.rest first.falls.1,
    ) (
      each-append (λ e. level run e < level run asked) origin t.cause.entries above (causes asked first.holds.0),
      reached-each (HasAbove (level run)) run more first.rest
          (each-weaker (λ s. s.slot < n) (λ s. HasAbove (level run) (told_spot run s))
          first.rest (λ s within. causes s within)
          first.holds.1),
    ))

pub told-story : (list : Medl) (script : Script) (row : List Entry) (history : History) (k : ℕ) → k < length list.slots
    → HaveAbove (slots_of_run list script (row ∷ history)) (suc (length history))
    → IsStory (spot_at (length history) k)
    (story script (slots_of_run list script (row ∷ history)) k).told
told-story list script row history k node causes =
    let run = slots_of_run list script (row ∷ history) in
    let n = suc (length history) in
    let asked = spot_at (length history) k in
    let order = spots-order list script (row ∷ history) in
    let whole : (spot : Spot) → spot ≡ asked
    → IsStory asked
    (kept_of (added_root script k (slots_of_run list script history) (cause_at run spot).entries) spot
    (reached run (spot ∷ added_root script k (slots_of_run list script history)
    (cause_at run spot).entries) (spots_back run))) =
    λ spot same.
    let origin = added_root script k (slots_of_run list script history) (cause_at run asked).entries in
    let above = root-above script list history run k (cause_at run asked).entries in
    subst (λ (s : Spot). IsStory asked
    (kept_of (added_root script k (slots_of_run list script history) (cause_at run s).entries) s
    (reached run (s ∷ added_root script k (slots_of_run list script history) (cause_at run s).entries)
    (spots_back run)))) (sym same)
    (first-story run n origin asked (reached run (asked ∷ origin) (spots_back run)) above causes
    (reached-first (λ s. s.slot < n) (level run) run origin asked above (spots_back run) order.0
    (each-weaker (λ s. level run s < 3 * n) (λ s. s.slot < n) (spots_back run) (in-slot run n) order.1)
    (newest-has list script (row ∷ history) (length history) k refl node)) refl) in
    whole (newest_spot k run) (newest-is list script (row ∷ history) (length history) k refl)
