-- First faults of a slot, one after another, and the texts of first faults.
use Rattle.std.proofs.Common.{◌≡◌, ℕ, zero, suc, ◌+◌, ◌-◌, ◌<◌, ◌≤◌, Bool, true}
use Rattle.std.proofs.Common.{false, cond, List, [], ◌∷◌, ◌++◌, length, get_or}
use Rattle.std.proofs.Common.{take, drop, refl, sym, ap, subst, ◌∙◌, arith, length-append, add-one, not, ◌||◌, ◌*◌}
use Rattle.std.specs.Prelude.{map, flat_map, filter, ◌==◌, min}
use Rattle.std.specs.List.{list_any, range_with_len}
use Rattle.std.proofs.lemmas.Bool.{ne_eqb}
use Rattle.std.proofs.lemmas.List.{length-map, map-append}
use Rattle.std.proofs.lemmas.List.FromFn.{length-range_with_len}
use Rattle.std.proofs.lemmas.List.Concat.{flat_map-append}
use Rattle.std.proofs.lemmas.Simd.{map-map}
use Rattle.ttp_base.specs.NodeSet.{below}
use Rattle.ttp_world.specs.declared.script.Event.{Event}
use Rattle.ttp_world.specs.Medl.{IsValid}
use Rattle.ttp_world.specs.ZerosWorld.{zeros_world}
use Rattle.fault_pairs.specs.Pairs.{FirstFault, second_apart, firsts_among, seconds_in}
use Rattle.fault_pairs.specs.PairText.{apart_line}
use Rattle.fault_pairs.specs.Sums.{PairTold, told_apart, are_so_far_apart, distances}
use Rattle.pair_runs.specs.declared.tried.PairsSetting.{PairsSetting}
use Rattle.pair_runs.specs.declared.tried.FirstSetting.{FirstSetting}
use Rattle.pair_runs.specs.Counted.{distances_of}
use Rattle.pair_runs.specs.Tries.{told_pair}
use Rattle.pair_runs.specs.Written.{first_with, told_second, tolds_behind, faults_at}
use Rattle.pair_runs.specs.Written.{firsts_of, firsts_between, all_firsts}
use Rattle.pair_runs.specs.Written.{lines_at, distance_lines}
use Rattle.pair_runs.proofs.Begins.{at-few}
use Rattle.pair_runs.proofs.Ranges.{slots-range, from-first}

-- the first faults of a slot from one of them on
among-drop : (slot : ℕ) (faults : List Event) (i : ℕ) (d : Event) → i < length faults
    → firsts_among slot (drop i faults) ≡ first_with slot (get_or faults i d) (drop (suc i) faults)
    ∷ firsts_among slot (drop (suc i) faults)
among-drop slot [] i d inside = absurd (omega (arith, inside))
among-drop slot (fault ∷ faults) zero d inside = refl
among-drop slot (fault ∷ faults) (suc i) d inside = among-drop slot faults i d (omega (arith, inside))

-- those before one of them, and the others
abbrev pub firsts_before : ℕ → List Event → ℕ → List FirstFault
firsts_before slot faults i = take i (firsts_among slot faults)

among-split : (slot : ℕ) (faults : List Event) (i : ℕ)
    → firsts_before slot faults i ++ firsts_among slot (drop i faults) ≡ firsts_among slot faults
among-split slot [] zero = refl
among-split slot [] (suc i) = refl
among-split slot (fault ∷ faults) zero = refl
among-split slot (fault ∷ faults) (suc i) = ap (λ more. first_with slot fault faults ∷ more) (among-split slot faults i)

among-next : (slot : ℕ) (faults : List Event) (i : ℕ) (d : Event) → i < length faults
    → firsts_before slot faults i ++ first_with slot (get_or faults i d) (drop (suc i) faults)
    ∷ [] ≡ firsts_before slot faults (suc i)
among-next slot [] i d inside = absurd (omega (arith, inside))
among-next slot (fault ∷ faults) zero d inside = refl
among-next slot (fault ∷ faults) (suc i) d inside =
    ap (λ more. first_with slot fault faults ∷ more) (among-next slot faults i d (omega (arith, inside)))

pub among-all : (slot : ℕ) (faults : List Event) (i : ℕ) → length faults ≤ i
    → firsts_before slot faults i ≡ firsts_among slot faults
among-all slot [] zero all = refl
among-all slot [] (suc i) all = refl
among-all slot (fault ∷ faults) zero all = absurd (omega (arith, all))
among-all slot (fault ∷ faults) (suc i) all =
    ap (λ more. first_with slot fault faults ∷ more) (among-all slot faults i (omega (arith, all)))

-- what a text of first faults is of some, of one and of those behind
pub texts-split : {Y : Type 0} (f : FirstFault → List Y) (slot : ℕ)
    (faults : List Event) (i : ℕ) (d : Event) → i < length faults
    → flat_map f (firsts_before slot faults i)
    ++ (flat_map f (first_with slot (get_or faults i d) (drop (i + 1) faults) ∷ [])
    ++ flat_map f (firsts_among slot (drop (i + 1) faults)))
    ≡ flat_map f (firsts_among slot faults)
texts-split f slot faults i d inside =
    let one = first_with slot (get_or faults i d) (drop (suc i) faults) in
    let rest = firsts_among slot (drop (suc i) faults) in
    let front = firsts_before slot faults i in
    ap (λ n. flat_map f front ++ (flat_map f (first_with slot (get_or faults i d) (drop n faults) ∷ [])
    ++ flat_map f (firsts_among slot (drop n faults)))) (add-one i)
    ∙ ap (λ ys. flat_map f front ++ ys) (sym (flat_map-append f (one ∷ []) rest))
    ∙ sym (flat_map-append f front (one ∷ rest))
    ∙ ap (flat_map f) (ap (λ more. front ++ more) (sym (among-drop slot faults i d inside)) ∙ among-split slot faults i)

pub texts-next : {Y : Type 0} (f : FirstFault → List Y) (slot : ℕ)
    (faults : List Event) (i : ℕ) (d : Event) → i < length faults
    → flat_map f (firsts_before slot faults i)
    ++ flat_map f (first_with slot (get_or faults i d) (drop (i + 1) faults) ∷ [])
    ≡ flat_map f (firsts_before slot faults (i + 1))
texts-next f slot faults i d inside =
    let one = first_with slot (get_or faults i d) (drop (suc i) faults) in
    ap (λ n. flat_map f (firsts_before slot faults i)
    ++ flat_map f (first_with slot (get_or faults i d) (drop n faults) ∷ [])) (add-one i)
    ∙ sym (flat_map-append f (firsts_before slot faults i) (one ∷ []))
    ∙ ap (flat_map f) (among-next slot faults i d inside ∙ ap (firsts_before slot faults) (sym (add-one i)))

-- The pairs of which the second fault comes in a later slot.

abbrev pub tolds_later : FirstSetting → ℕ → List PairTold
tolds_later setting later =
    map (told_pair setting (later - setting.slot)) (faults_at setting.common.list.now setting.more.now later)

later-each : (setting : FirstSetting) (slots : List ℕ)
    → map (told_second setting) (flat_map (seconds_in setting.common.list.now setting.more.now
    (zeros_world setting.common.list.now setting.more.now setting.more.now.slots) setting.slot) slots)
    ≡ flat_map (tolds_later setting) slots
later-each setting [] = refl
later-each setting (later ∷ slots) =
    let list = setting.common.list.now in
    let more = setting.more.now in
    let history = zeros_world list more more.slots in
    map-append (told_second setting) (seconds_in list more history setting.slot later)
    (flat_map (seconds_in list more history setting.slot) slots)
    ∙ (λ i. map-map (told_second setting) (second_apart (later - setting.slot)) (faults_at list more later) i
    ++ later-each setting slots i)

-- there are not many
flat-few : {X : Type 0} (f : ℕ → List X) (ks : List ℕ) → ((k : ℕ) → length (f k) ≤ 384)
    → length (flat_map f ks) ≤ 384 * length ks
flat-few f [] few = omega arith
flat-few f (k ∷ ks) few = omega (arith, length-append (f k) (flat_map f ks), flat-few f ks few, few k)

pub later-few : (setting : FirstSetting) → IsValid setting.common.list.now → (a n : ℕ)
    → length (flat_map (tolds_later setting) (range_with_len a n)) ≤ 384 * n
later-few setting valid a n =
    let each : (later : ℕ) → length (tolds_later setting later) ≤ 384 =
    λ later. subst (λ (m : ℕ). m ≤ 384)
    (sym (length-map (faults_at setting.common.list.now setting.more.now later) (told_pair setting (later - setting.slot))))
    (at-few setting.common.list.now setting.more.now later valid) in
    omega (arith, flat-few (tolds_later setting) (range_with_len a n) each, length-range_with_len a n)

-- they are those of the slots up to an end
pub behind-range : (setting : FirstSetting) (end : ℕ) → end
    ≡ min (suc (setting.slot + setting.common.within)) setting.more.now.slots
    → flat_map (tolds_later setting) (range_with_len (setting.slot + 1) (end - (setting.slot + 1))) ≡ tolds_behind setting
behind-range setting end is =
    let next : setting.slot + 1 ≡ suc setting.slot = omega arith in
    (λ i. flat_map (tolds_later setting) (range_with_len (next i) (is i - next i)))
    ∙ ap (flat_map (tolds_later setting))
    (sym (slots-range setting.more.now (suc setting.slot) (setting.slot + setting.common.within)))
    ∙ sym (later-each setting _)

-- First faults of a range.

pub firsts-range : (common : PairsSetting) (end : ℕ) → end ≡ min (suc common.last) common.script.now.slots
    → firsts_between common (min common.first end) (end - min common.first end) ≡ all_firsts common
firsts-range common end is =
    ap (flat_map (firsts_of common)) (from-first common.first end
    ∙ ap (λ e. range_with_len common.first (e - common.first)) is
    ∙ sym (slots-range common.script.now common.first common.last))

-- Sums.

pub some-apart : (d : ℕ) (tolds : List PairTold)
    → not (length (told_apart d tolds) == 0) ≡ list_any (are_so_far_apart d) tolds
some-apart d [] = refl
some-apart d (told ∷ tolds) = by (are_so_far_apart d told) (some-apart d tolds)
  where
    by : (b : Bool) → not (length (told_apart d tolds) == 0) ≡ list_any (are_so_far_apart d) tolds
        → not (length (cond b (told ∷ told_apart d tolds) (told_apart d tolds)) == 0)
        ≡ (b || list_any (are_so_far_apart d) tolds)
    by true rest = ap not (ne_eqb (suc (length (told_apart d tolds))) 0 (λ same. omega (arith, same)))
    by false rest = rest

lines-each : (tolds : List PairTold) (ds : List ℕ)
    → flat_map (lines_at tolds) ds ≡ map (apart_line tolds) (filter (λ d. list_any (are_so_far_apart d) tolds) ds)
lines-each tolds [] = refl
lines-each tolds (d ∷ ds) = by (list_any (are_so_far_apart d) tolds) (lines-each tolds ds)
  where
    by : (b : Bool)
        → flat_map (lines_at tolds) ds ≡ map (apart_line tolds) (filter (λ e. list_any (are_so_far_apart e) tolds) ds)
        → cond b (apart_line tolds d ∷ []) [] ++ flat_map (lines_at tolds) ds
        ≡ map (apart_line tolds) (cond b (d ∷ filter (λ e. list_any (are_so_far_apart e) tolds) ds)
        (filter (λ e. list_any (are_so_far_apart e) tolds) ds))
    by true rest = ap (λ ls. apart_line tolds d ∷ ls) rest
    by false rest = rest

-- the lines of all distances are those of the distances that some pair has
pub lines-distances : (common : PairsSetting) (tolds : List PairTold)
    → distance_lines tolds (distances_of common)
    ≡ map (apart_line tolds) (distances common.script.now common.within tolds)
lines-distances common tolds = lines-each tolds (below (distances_of common))
