-- What is told of a value can be written, and so can its range.
use Rattle.std.proofs.Common.{◌≡◌, ℕ, suc, ◌≤◌, ℤ, Bool, true, false, ◌&&◌, not, cond, List, [], ◌∷◌, ◌++◌, map, length}
use Rattle.std.proofs.Common.{Option, Some, None, sym, subst, arith}
use Rattle.std.specs.Prelude.{◌==◌, filter, is_some}
use Rattle.std.specs.List.{filter_map, cons_option}
use Rattle.std.specs.Str.{bytes_eq}
use Rattle.ttp_base.proofs.NodeLists.{without_node-filter}
use Rattle.std.proofs.lemmas.List.FromFn.{length-range_with_len}
use Rattle.ttp_world.specs.declared.medl.Medl.{Medl}
use Rattle.ttp_world.specs.declared.script.Script.{Script}
use Rattle.ttp_world.specs.Diary.{History}
use Rattle.ttp_world.specs.Hypothesis.{nodes_of}
use Rattle.ttp_world.specs.Medl.{IsValid}
use Rattle.ttp_world.proofs.Lists.{nodes-most}
use Rattle.campaign.specs.Cost.{newest_leave, is_hurt, firm_members, each_once}
use Rattle.ttp_world.specs.ZerosWorld.{zeros_world}
use Rattle.clock_margins.specs.declared.margin.Sweep.{Sweep}
use Rattle.clock_margins.specs.Outcomes.{ValueTold, outcome_beside, told_of_value}
use Rattle.clock_margins.specs.Ranges.{Range, is_told_as, range_alone, range_before, ranges_of}
use Rattle.clock_margins.specs.Sweeps.{swept_script}
use Rattle.margin_laws.specs.Behind.{closed_ranges, open_range}
use Rattle.margin_runs.proofs.FromBelow.{closed-open, nodes-left, in_order-sieve}
use Rattle.margin_text.specs.Taken.{IsInOrder, IsWritable}
use Rattle.margin_runs.specs.Written.{AreWritable}

-- An outcome.

fewer-kept : (p : List ℕ → Bool) (sets : List (List ℕ)) → length (filter p sets) ≤ length sets
fewer-kept p [] = omega arith
fewer-kept p (s ∷ sets) = by (p s) (fewer-kept p sets)
  where
    by : (b : Bool) → length (filter p sets) ≤ length sets
        → length (cond b (s ∷ filter p sets) (filter p sets)) ≤ suc (length sets)
    by true few = omega (arith, few)
    by false few = omega (arith, few)

fewer-once : (sets : List (List ℕ)) → length (each_once sets) ≤ length sets
fewer-once [] = omega arith
fewer-once (s ∷ sets) =
    let kept = fewer-kept (λ m. not (bytes_eq s m)) (each_once sets) in
    let once = fewer-once sets in
    omega (arith, kept, once)

fewer-found : (f : ℕ → Option (List ℕ)) (ks : List ℕ) → length (filter_map f ks) ≤ length ks
fewer-found f [] = omega arith
fewer-found f (k ∷ ks) = by (f k) (fewer-found f ks)
  where
    by : (o : Option (List ℕ)) → length (filter_map f ks) ≤ length ks
        → length (cons_option o (filter_map f ks)) ≤ suc (length ks)
    by None few = omega (arith, few)
    by (Some s) few = omega (arith, few)

pub outcome-writable : (list : Medl) (script : Script) (k : ℕ) (history : History) → IsValid list
    → IsWritable (outcome_beside list script k history)
outcome-writable list script k history valid =
    let n = length list.slots in
    let most = nodes-most list valid in
    let left = nodes-left history (nodes_of list) in
    let hurt = without_node-filter (is_hurt list script history) n k in
    let sets = filter_map (firm_members list history (λ other. true)) (nodes_of list) in
    let once = fewer-once sets in
    let found = fewer-found (firm_members list history (λ other. true)) (nodes_of list) in
    let count = length-range_with_len 0 n in
    record {
      left = subst IsInOrder (sym left) (in_order-sieve (λ j. is_some (newest_leave history j)) n most);
      hurt = subst IsInOrder (sym hurt) (in_order-sieve (λ j. is_hurt list script history j && not (j == k)) n most);
      few = omega (arith, once, found, count, most);
    }

pub told-writable : (list : Medl) (script : Script) (sweep : Sweep) (value : ℤ) → IsValid list
    → IsWritable (told_of_value list script sweep value).outcome
told-writable list script sweep value valid =
    let more = swept_script script sweep value in
    outcome-writable list more sweep.node (zeros_world list more more.slots) valid

pub tolds-writable : (list : Medl) (script : Script) (sweep : Sweep) (values : List ℤ) → IsValid list
    → AreWritable (map (told_of_value list script sweep) values)
tolds-writable list script sweep [] valid = tt
tolds-writable list script sweep (value ∷ values) valid =
    (told-writable list script sweep value valid, tolds-writable list script sweep values valid)

-- some values and those behind them

pub front-writable : (tolds more : List ValueTold) → AreWritable (tolds ++ more) → AreWritable tolds
front-writable [] more are = tt
front-writable (t ∷ tolds) more are = (are.0, front-writable tolds more are.1)

-- Ranges.

abbrev pub AllWritable : List Range → Type 0
AllWritable [] = Unit {0}
AllWritable (range ∷ ranges) = IsWritable range.outcome × AllWritable ranges

before-writable : (t : ValueTold) (ranges : List Range) → IsWritable t.outcome → AllWritable ranges
    → AllWritable (range_before t ranges)
before-writable t [] is are = (is, tt)
before-writable t (r ∷ ranges) is are = by (is_told_as t r)
  where
    by : (b : Bool) → AllWritable (cond b (record r { from = t.value } ∷ ranges) (range_alone t ∷ r ∷ ranges))
    by true = are
    by false = (is, are)

pub ranges-writable : (tolds : List ValueTold) → AreWritable tolds → AllWritable (ranges_of tolds)
ranges-writable [] are = tt
ranges-writable (t ∷ tolds) are = before-writable t (ranges_of tolds) are.0 (ranges-writable tolds are.1)

part-writable : (front rest : List Range) → AllWritable (front ++ rest) → AllWritable front
part-writable [] rest are = tt
part-writable (r ∷ front) rest are = (are.0, part-writable front rest are.1)

rest-writable : (front rest : List Range) → AllWritable (front ++ rest) → AllWritable rest
rest-writable [] rest are = are
rest-writable (r ∷ front) rest are = rest-writable front rest are.1

-- the range that is closed last, and the one that is open

pub closed-writable : (tolds : List ValueTold) (before : List Range) (range : Range) → AreWritable tolds
    → closed_ranges (ranges_of tolds) ≡ before ++ range ∷ [] → IsWritable range.outcome
closed-writable tolds before range are is =
    let ranges = ranges_of tolds in
    let all = subst AllWritable (closed-open ranges) (ranges-writable tolds are) in
    let closed = part-writable (closed_ranges ranges) (cons_option (open_range ranges) []) all in
    (rest-writable before (range ∷ []) (subst AllWritable is closed)).0

pub open-writable : (tolds : List ValueTold) (range : Range) → AreWritable tolds
    → Some range ≡ open_range (ranges_of tolds)
    → IsWritable range.outcome
open-writable tolds range are is =
    let ranges = ranges_of tolds in
    let all = subst AllWritable (closed-open ranges) (ranges-writable tolds are) in
    let last = rest-writable (closed_ranges ranges) (cons_option (open_range ranges) []) all in
    (subst (λ (o : Option Range). AllWritable (cons_option o [])) (sym is) last).0
