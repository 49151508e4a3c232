-- Entries that are read of the slots before one are of earlier slots.
use Rattle.std.proofs.Common.{◌≡◌, ℕ, zero, suc, ◌<◌, ◌≤◌, Bool, true, false, List, [], ◌∷◌, refl, arith}
use Rattle.std.proofs.Common.{cond, drop, length, map}
use Rattle.std.specs.List.{AllByRecursion}
use Rattle.std.specs.Prelude.{None, Option, Some, filter, flat_map, if◌then◌else◌}
use Rattle.causes.specs.Judged.{doubt_entries}
use Rattle.causes.specs.RunSlots.{RunSlot, RunSlots, back_to, entry_in_slot, is_judged_so, is_left, is_miss, is_started}
use Rattle.causes.specs.RunSlots.{is_tentative, judged_since_own, judged_so, newest_departure}
use Rattle.causes.specs.RunSlots.{newest_spot, node_spot, since_own}
use Rattle.causes.specs.RunSlots.{spots_at_node}
use Rattle.causes.specs.Said.{joined_from, path, root, said, speaks_of}
use Rattle.causes.specs.declared.cause.Spot.{Spot}
use Rattle.ttp_world.proofs.LineLists.{each-append}
use Rattle.ttp_world.specs.Acknowledgement.{is_sent_or_joined}
use Rattle.ttp_world.specs.Diary.{begins_stint}
use Rattle.ttp_world.specs.declared.node.Entry.{Entry}
use Rattle.ttp_world.specs.declared.node.Verdict.{Verdict}

-- What holds of each of some.

pub each-any : {X : Type 0} (P : X → Type 0) → ((x : X) → P x) → (xs : List X) → AllByRecursion P xs
each-any P holds [] = tt
each-any P holds (x ∷ xs) = (holds x, each-any P holds xs)

pub each-map : {X Y : Type 0} (P : Y → Type 0) (f : X → Y) (xs : List X) → AllByRecursion (λ x. P (f x)) xs
    → AllByRecursion P (map f xs)
each-map P f [] all = tt
each-map P f (x ∷ xs) all = (all.0, each-map P f xs all.1)

pub each-flat_map : {X Y : Type 0} (P : Y → Type 0) (f : X → List Y) (xs : List X)
    → AllByRecursion (λ x. AllByRecursion P (f x)) xs → AllByRecursion P (flat_map f xs)
each-flat_map P f [] all = tt
each-flat_map P f (x ∷ xs) all = each-append P (f x) (flat_map f xs) all.0 (each-flat_map P f xs all.1)

one-kept : {X : Type 0} (P : X → Type 0) (x : X) (xs : List X) (b : Bool) → P x → AllByRecursion P xs
    → AllByRecursion P (cond b (x ∷ xs) xs)
one-kept P x xs true here rest = (here, rest)
one-kept P x xs false here rest = rest

pub each-kept : {X : Type 0} (P : X → Type 0) (p : X → Bool) (xs : List X) → AllByRecursion P xs
    → AllByRecursion P (filter p xs)
each-kept P p [] all = tt
each-kept P p (x ∷ xs) all = one-kept P x (filter p xs) (p x) all.0 (each-kept P p xs all.1)

pub each-drop : {X : Type 0} (P : X → Type 0) (n : ℕ) (xs : List X) → AllByRecursion P xs → AllByRecursion P (drop n xs)
each-drop P zero xs all = all
each-drop P (suc n) [] all = tt
each-drop P (suc n) (x ∷ xs) all = each-drop P n xs all.1

-- What holds of both parts of a test.

pub elim-both : {A : Type 0} (b : Bool) (x y : A) (P : A → Type 0) → (b ≡ true → P x) → (b ≡ false → P y)
    → P (elim b as (λ c. A) [ true ↦ x | false ↦ y ])
elim-both true x y P p q = p refl
elim-both false x y P p q = q refl

pub if-both : {A : Type 0} (b : Bool) (x y : A) (P : A → Type 0) → P x → P y → P (if b then x else y)
if-both true x y P p q = p
if-both false x y P p q = q

pub elim-option : {A : Type 0} (o : Option ℕ) (x : A) (f : ℕ → A) (P : A → Type 0) → P x → ((p : ℕ) → P (f p))
    → P (elim o as (λ q. A) [ None ↦ x | Some p ↦ f p ])
elim-option None x f P here there = here
elim-option (Some p) x f P here there = there p

-- Slots before one.

abbrev pub ArePast : ℕ → RunSlots → Type 0
ArePast t slots = AllByRecursion (λ u. u.begun.number < t) slots

abbrev pub IsPast : ℕ → Spot → Type 0
IsPast t e = e.slot < t

pub back-each : (P : RunSlot → Type 0) (p : Entry → Bool) (k : ℕ) (run : RunSlots) → AllByRecursion P run
    → AllByRecursion P (back_to p k run)
back-each P p k [] all = tt
back-each P p k (s ∷ before) all =
    elim-both (p (entry_in_slot k s)) (s ∷ before) (back_to p k before) (AllByRecursion P) (λ is. all)
    (λ is. back-each P p k before all.1)

pub back-count : (p : Entry → Bool) (k t : ℕ) (run : RunSlots) → length run ≤ t → length (back_to p k run) ≤ t
back-count p k t [] few = few
back-count p k t (s ∷ before) few =
    elim-both (p (entry_in_slot k s)) (s ∷ before) (back_to p k before)
    (λ (slots : RunSlots). length slots ≤ t) (λ is. few)
    (λ is. back-count p k t before (omega (arith, few)))

pub newest-past : (k t : ℕ) (run : RunSlots) → 0 < t → length run ≤ t → IsPast t (newest_spot k run)
newest-past k t run some few = omega (arith, some, few)

pub departure-past : (k t : ℕ) (run : RunSlots) → 0 < t → length run ≤ t → IsPast t (newest_departure k run)
departure-past k t run some few = newest-past k t (back_to is_left k run) some (back-count is_left k t run few)

-- Since its own.

pub since-each : (P : RunSlot → Type 0) (k : ℕ) (run : RunSlots)
    → AllByRecursion P run → AllByRecursion P (since_own k run)
since-each P k [] all = tt
since-each P k (s ∷ before) all =
    elim-both (is_sent_or_joined (entry_in_slot k s)) [] (s ∷ since_own k before) (AllByRecursion P) (λ is. tt)
    (λ is. (all.0, since-each P k before all.1))

pub judged-each : (t : ℕ) (p : Verdict → Bool) (k : ℕ) (slots : RunSlots)
    → ArePast t slots → ArePast t (judged_so p k slots)
judged-each t p k slots past =
    each-kept (λ u. u.begun.number < t) (λ s. is_judged_so p (entry_in_slot k s)) slots past

pub spots-past : (t k : ℕ) (slots : RunSlots) → ArePast t slots → AllByRecursion (IsPast t) (spots_at_node k slots)
spots-past t k slots past = each-map (IsPast t) (node_spot k) slots past

pub judged-past : (t : ℕ) (p : Verdict → Bool) (k : ℕ) (before : RunSlots) → ArePast t before
    → AllByRecursion (IsPast t) (judged_since_own p k before)
judged-past t p k before past =
    spots-past t k (judged_so p k (since_own k before))
    (judged-each t p k (since_own k before) (since-each (λ u. u.begun.number < t) k before past))

doubt-next : (t k : ℕ) (s : RunSlot) (rest : List Spot) → s.begun.number < t → AllByRecursion (IsPast t) rest
    → AllByRecursion (IsPast t)
    (elim (is_judged_so is_miss (entry_in_slot k s)) as (λ c. List Spot) [ true ↦ node_spot k s ∷ rest | false ↦ rest ])
doubt-next t k s rest here past =
    elim-both (is_judged_so is_miss (entry_in_slot k s)) (node_spot k s ∷ rest) rest (AllByRecursion (IsPast t))
    (λ is. (here, past)) (λ is. past)

pub doubts-past : (t k : ℕ) (before : RunSlots) → ArePast t before → AllByRecursion (IsPast t) (doubt_entries k before)
doubts-past t k [] past = tt
doubts-past t k (s ∷ before) past =
    elim-both (is_judged_so is_tentative (entry_in_slot k s)) (node_spot k s ∷ [])
    (elim (is_judged_so is_miss (entry_in_slot k s)) as (λ c. List Spot) [
      | true ↦ node_spot k s ∷ doubt_entries k before
      | false ↦ doubt_entries k before
    ]) (AllByRecursion (IsPast t)) (λ is. (past.0, tt))
    (λ is. doubt-next t k s (doubt_entries k before) past.0 (doubts-past t k before past.1))

-- Where nodes come from, and what they said.

abbrev or_rest : RunSlot → (ℕ → Spot) → ℕ → Spot
or_rest s rest p = elim (is_started (entry_in_slot p s)) as (λ c. Spot) [ true ↦ node_spot p s | false ↦ rest p ]

abbrev by_join : RunSlot → ℕ → (ℕ → Spot) → Option ℕ → Spot
by_join s x rest from = elim from as (λ o. Spot) [ None ↦ node_spot x s | Some p ↦ or_rest s rest p ]

joined-past : (t x : ℕ) (s : RunSlot) (rest : ℕ → Spot) (from : Option ℕ)
    → s.begun.number < t → ((p : ℕ) → IsPast t (rest p))
    → IsPast t (by_join s x rest from)
joined-past t x s rest from here past =
    elim-option from (node_spot x s) (or_rest s rest) (IsPast t) here
    (λ p. elim-both (is_started (entry_in_slot p s)) (node_spot p s) (rest p) (IsPast t) (λ is. here) (λ is. past p))

pub said-past : (t x j : ℕ) (before : RunSlots) → 0 < t → ArePast t before → IsPast t (said x j before)
said-past t x j [] some past = some
said-past t x j (s ∷ before) some past =
    elim-both (speaks_of x j s) (by_join s x (λ p. said p j before) (joined_from x s)) (said x j before) (IsPast t)
    (λ is. joined-past t x s (λ p. said p j before) (joined_from x s) past.0 (λ p. said-past t p j before some past.1))
    (λ is. said-past t x j before some past.1)

pub root-past : (t x : ℕ) (before : RunSlots) → 0 < t → ArePast t before → IsPast t (root x before)
root-past t x [] some past = some
root-past t x (s ∷ before) some past =
    elim-both (begins_stint (entry_in_slot x s))
    (by_join s x (λ p. root p before) (joined_from x s)) (root x before) (IsPast t)
    (λ is. joined-past t x s (λ p. root p before) (joined_from x s) past.0 (λ p. root-past t p before some past.1))
    (λ is. root-past t x before some past.1)

abbrev or_path : RunSlot → RunSlots → ℕ → List Spot
or_path s before p =
    elim (is_started (entry_in_slot p s)) as (λ c. List Spot) [ true ↦ node_spot p s ∷ [] | false ↦ path p before ]

pub path-past : (t x : ℕ) (before : RunSlots) → ArePast t before → AllByRecursion (IsPast t) (path x before)
path-past t x [] past = tt
path-past t x (s ∷ before) past =
    elim-both (begins_stint (entry_in_slot x s))
    (elim (joined_from x s) as (λ o. List Spot)
    [ None ↦ node_spot x s ∷ [] | Some p ↦ node_spot x s ∷ or_path s before p ])
    (path x before) (AllByRecursion (IsPast t))
    (λ is. elim-option (joined_from x s) (node_spot x s ∷ []) (λ p. node_spot x s ∷ or_path s before p)
    (AllByRecursion (IsPast t)) (past.0, tt)
    (λ p. (
      past.0,
      elim-both (is_started (entry_in_slot p s)) (node_spot p s ∷ []) (path p before) (AllByRecursion (IsPast t))
          (λ is. (past.0, tt)) (λ is. path-past t p before past.1),
    )))
    (λ is. path-past t x before past.1)
