-- The first faults of a range of slots, and how far their second ones are apart.
use Rattle.std.proofs.Common.{◌≡◌, ℕ, suc, ◌+◌, ◌-◌, ◌<◌, ◌≤◌, Bool, true, false}
use Rattle.std.proofs.Common.{cond, ◌&&◌, List, [], ◌∷◌, ◌++◌, refl, ap}
use Rattle.std.proofs.Common.{◌∙◌, arith, map, min}
use Rattle.std.specs.Prelude.{nat_le, filter, flat_map}
use Rattle.std.specs.List.{AllByRecursion}
use Rattle.std.proofs.lemmas.Bool.{and_parts, leb-true}
use Rattle.std.proofs.lemmas.List.{map-append}
use Rattle.ttp_base.specs.NodeSet.{below}
use Rattle.ttp_base.proofs.Below.{below-lt}
use Rattle.ttp_world.proofs.LineLists.{each-append}
use Rattle.ttp_world.specs.declared.medl.Medl.{Medl}
use Rattle.ttp_world.specs.declared.script.Event.{Event}
use Rattle.ttp_world.specs.declared.script.Script.{Script}
use Rattle.ttp_world.specs.Diary.{History}
use Rattle.campaign.specs.Tried.{with_fault, faults_in, row_of, slots_between}
use Rattle.ttp_world.specs.ZerosWorld.{zeros_world}
use Rattle.fault_pairs.specs.Pairs.{FirstFault, SecondFault, firsts_among, firsts_in}
use Rattle.fault_pairs.specs.Pairs.{second_apart, seconds_beside, seconds_in, seconds_behind, seconds_of}
use Rattle.fault_pairs.specs.Sums.{PairTold}
use Rattle.pair_laws.specs.Ranges.{firsts_of_range, pairs_of_first, pairs_of_range}

-- They are the faults of a campaign.

faults-among : (slot : ℕ) (faults : List Event)
    → map (λ (one : FirstFault). one.fault) (firsts_among slot faults) ≡ faults
faults-among slot [] = refl
faults-among slot (fault ∷ faults) = ap (λ fs. fault ∷ fs) (faults-among slot faults)

pub faults-same : (list : Medl) (script : Script) (history : History) (slots : List ℕ)
    → map (λ (one : FirstFault). one.fault) (flat_map (firsts_in list script history) slots)
    ≡ flat_map (λ slot. faults_in list script (row_of history slot) slot) slots
faults-same list script history [] = refl
faults-same list script history (slot ∷ slots) =
    map-append (λ (one : FirstFault). one.fault) (firsts_in list script history slot)
    (flat_map (firsts_in list script history) slots)
    ∙ (λ i. faults-among slot (faults_in list script (row_of history slot) slot) i
    ++ faults-same list script history slots i)

-- What holds of each.

pub each-flat : {X Y : Type 0} (P : Y → Type 0) (Q : X → Type 0) (f : X → List Y)
    → ((x : X) → Q x → AllByRecursion P (f x)) → (xs : List X) → AllByRecursion Q xs → AllByRecursion P (flat_map f xs)
each-flat P Q f of [] each = tt
each-flat P Q f of (x ∷ xs) each = each-append P (f x) (flat_map f xs) (of x each.0) (each-flat P Q f of xs each.1)

pub each-mapped : {X Y : Type 0} (P : Y → Type 0) (Q : X → Type 0) (f : X → Y)
    → ((x : X) → Q x → P (f x)) → (xs : List X)
    → AllByRecursion Q xs → AllByRecursion P (map f xs)
each-mapped P Q f of [] each = tt
each-mapped P Q f of (x ∷ xs) each = (of x each.0, each-mapped P Q f of xs each.1)

always : {X : Type 0} (P : X → Type 0) → ((x : X) → P x) → (xs : List X) → AllByRecursion P xs
always P of [] = tt
always P of (x ∷ xs) = (of x, always P of xs)

-- Slots.

pub record IsBetween (first last slots slot : ℕ) : Type 0 where
  pub from : first ≤ slot
  pub to : slot ≤ last
  pub inside : slot < slots

within-filtered : (first last n : ℕ) (slots : List ℕ) → AllByRecursion (λ slot. slot < n) slots
    → AllByRecursion (IsBetween first last n) (filter (λ slot. nat_le first slot && nat_le slot last) slots)
within-filtered first last n [] each = tt
within-filtered first last n (slot ∷ slots) each =
    by (nat_le first slot && nat_le slot last) refl (within-filtered first last n slots each.1)
  where
    by : (b : Bool) → (nat_le first slot && nat_le slot last) ≡ b
        → AllByRecursion (IsBetween first last n) (filter (λ s. nat_le first s && nat_le s last) slots)
        → AllByRecursion (IsBetween first last n) (cond b (slot ∷ filter (λ s. nat_le first s && nat_le s last) slots)
        (filter (λ s. nat_le first s && nat_le s last) slots))
    by false is others = others
    by true is others =
        let parts = and_parts (nat_le first slot) (nat_le slot last) is in (
          record {
            from = leb-true first slot parts.0;
            to = leb-true slot last parts.1;
            inside = each.0;
          },
          others,
        )

pub slots-within : (script : Script) (first last : ℕ)
    → AllByRecursion (IsBetween first last script.slots) (slots_between script first last)
slots-within script first last =
    within-filtered first last script.slots (below script.slots) (below-lt script.slots)

-- Distances.

abbrev IsNear : ℕ → ℕ → SecondFault → Type 0
IsNear within slots two = two.apart < min (suc within) slots

first-inside : (slot slots : ℕ) (faults : List Event) → slot < slots
    → AllByRecursion (λ (one : FirstFault). one.slot < slots) (firsts_among slot faults)
first-inside slot slots [] inside = tt
first-inside slot slots (fault ∷ faults) inside = (inside, first-inside slot slots faults inside)

seconds-near : (list : Medl) (script : Script) (within : ℕ) (one : FirstFault) → one.slot < script.slots
    → AllByRecursion (IsNear within script.slots) (seconds_of list script within one)
seconds-near list script within one inside =
    let more = with_fault script one.fault in
    let history = zeros_world list more script.slots in
    each-append (IsNear within script.slots) (seconds_beside one) (seconds_behind list more history one.slot within)
    (each-mapped (IsNear within script.slots) (λ fault. Unit {0}) (second_apart 0)
    (λ fault is. omega (arith, inside)) one.behind (always (λ fault. Unit {0}) (λ fault. tt) one.behind))
    (each-flat (IsNear within script.slots) (IsBetween (suc one.slot) (one.slot + within) script.slots)
    (seconds_in list more history one.slot)
    (λ later is. each-mapped (IsNear within script.slots) (λ fault. Unit {0}) (second_apart (later - one.slot))
    (λ fault t. omega (arith, is.from, is.to, is.inside)) (faults_in list more (row_of history later) later)
    (always (λ fault. Unit {0}) (λ fault. tt) (faults_in list more (row_of history later) later)))
    (slots_between more (suc one.slot) (one.slot + within)) (slots-within more (suc one.slot) (one.slot + within)))

pub pairs-near : (list : Medl) (script : Script) (first last within : ℕ)
    → AllByRecursion (λ (told : PairTold). told.apart < min (suc within) script.slots)
    (pairs_of_range list script first last within)
pairs-near list script first last within =
    let history = zeros_world list script script.slots in
    each-flat (λ (told : PairTold). told.apart < min (suc within) script.slots)
    (λ (one : FirstFault). one.slot < script.slots) (pairs_of_first list script within)
    (λ one inside. each-mapped (λ (told : PairTold). told.apart < min (suc within) script.slots)
    (IsNear within script.slots) _ (λ two near. near) (seconds_of list script within one)
    (seconds-near list script within one inside))
    (firsts_of_range list script first last)
    (each-flat (λ (one : FirstFault). one.slot < script.slots) (IsBetween first last script.slots)
    (firsts_in list script history)
    (λ slot is. first-inside slot script.slots (faults_in list script (row_of history slot) slot) is.inside)
    (slots_between script first last) (slots-within script first last))
