-- A pair whose test says yes hurts nobody and splits no memberships, so none of them is divided.
use Rattle.std.proofs.Common.{◌≡◌, ℕ, suc, ◌+◌, ◌-◌, ◌<◌, Bool, true, false, cond}
use Rattle.std.proofs.Common.{List, [], ◌∷◌, length, Option, refl, ap, ◌∙◌}
use Rattle.std.proofs.Common.{arith, length-append}
use Rattle.std.specs.Prelude.{count_by, is_some}
use Rattle.std.specs.List.{AllByRecursion}
use Rattle.std.proofs.lemmas.List.Elements.{recursion_from_All}
use Rattle.std.proofs.lemmas.List.Sums.{sum_by-cons}
use Rattle.ttp_world.specs.declared.medl.Medl.{Medl}
use Rattle.ttp_world.specs.declared.script.Event.{Event}
use Rattle.ttp_world.specs.declared.script.Script.{Script}
use Rattle.ttp_world.specs.declared.script.TheConstants.{EVENT_LIMIT}
use Rattle.ttp_world.specs.Diary.{History}
use Rattle.ttp_world.specs.Medl.{IsValid}
use Rattle.ttp_world.specs.Script.{IsValidScript}
use Rattle.campaign.specs.declared.cost.Span.{Span}
use Rattle.campaign.specs.Lines.{summary_with, fault_node}
use Rattle.campaign.specs.Tried.{with_fault, faults_in, row_of, slots_between}
use Rattle.ttp_world.specs.ZerosWorld.{zeros_world}
use Rattle.single_faults.specs.Tried.{MayStand}
use Rattle.single_faults.proofs.ForAbove.{faults_in-stand, with_fault-valid}
use Rattle.campaign_laws.proofs.Yes.{IsUnharmed, yes-line}
use Rattle.fault_pairs.specs.declared.pair.Harm.{Harm}
use Rattle.fault_pairs.specs.declared.pair.PairClass.TheVariants as class
use Rattle.fault_pairs.specs.Classes.{only_both, has_third, has_own, has_less, pair_class, is_divided, harm_of}
use Rattle.fault_pairs.specs.Pairs.{FirstFault, SecondFault, firsts_among, firsts_in}
use Rattle.fault_pairs.specs.Pairs.{firsts_from, second_apart, seconds_beside}
use Rattle.fault_pairs.specs.Pairs.{seconds_in, seconds_behind, seconds_of}
use Rattle.fault_pairs.specs.PairText.{summary_of_both}
use Rattle.fault_pairs.specs.Sums.{PairTold, told_kept}
use Rattle.pair_laws.specs.Ranges.{firsts_of_range, pairs_of_first, pairs_of_range}
use Rattle.pair_laws.proofs.Firsts.{each-flat, each-mapped, IsBetween, slots-within}
use Rattle.ttp_world.proofs.LineLists.{each-append}

-- A class.

mild : (dead torn third own less : Bool)
    → is_divided (cond dead class.Dead (cond torn class.Torn (cond third class.Third
    (cond false class.Divided (cond own class.Own (cond less class.Less class.Sum)))))) ≡ false
mild true torn third own less = refl
mild false true third own less = refl
mild false false true own less = refl
mild false false false true less = refl
mild false false false false true = refl
mild false false false false false = refl

not-divided : (k j : ℕ) (both one two : Harm) → both.split ≡ false → is_divided (pair_class k j both one two) ≡ false
not-divided k j both one two whole =
    ap (λ b. is_divided (cond (only_both both.dead one.dead two.dead) class.Dead
    (cond (only_both both.torn one.torn two.torn) class.Torn
    (cond (has_third k j both one two) class.Third
    (cond (only_both b one.split two.split) class.Divided
    (cond (has_own k j both one two) class.Own (cond (has_less both one two) class.Less class.Sum))))))) whole
    ∙ mild (only_both both.dead one.dead two.dead) (only_both both.torn one.torn two.torn) (has_third k j both one two)
    (has_own k j both one two) (has_less both one two)

-- Pairs that say yes and are not divided.

abbrev IsMild : PairTold → Type 0
IsMild told = told.yes ≡ true → is_divided told.class ≡ false

pub none-divided : (tolds : List PairTold) → AllByRecursion IsMild tolds
    → count_by (λ told. is_divided told.class) (told_kept tolds) ≡ 0
none-divided [] each = refl
none-divided (told ∷ tolds) each = by told.yes refl (none-divided tolds each.1)
  where
    by : (b : Bool) → told.yes ≡ b → count_by (λ t. is_divided t.class) (told_kept tolds) ≡ 0
        → count_by (λ t. is_divided t.class) (cond b (told ∷ told_kept tolds) (told_kept tolds)) ≡ 0
    by false is rest = rest
    by true is rest =
        sum_by-cons (λ t. cond (is_divided t.class) 1 0) told (told_kept tolds)
        ∙ (λ i. cond (each.0 is i) 1 0 + rest i)

module _ (list : Medl) (script : Script) (valid : IsValid list) (script_valid : IsValidScript list script)
    (room : length script.events + 1 < EVENT_LIMIT) where
  -- of two faults that may stand in the script, the second behind the first
  pub pair-unharmed : (one two : Event) → MayStand list script one → MayStand list (with_fault script one) two
      → (summary_of_both list script one two).yes ≡ true → IsUnharmed (summary_of_both list script one two).cost
  pair-unharmed one two may also says =
      let more = with_fault script one in
      let long = length-append script.events (one ∷ []) in
      yes-line list (with_fault more two) valid
      (with_fault-valid list more two (with_fault-valid list script one script_valid may (omega (arith, room))) also
      (omega (arith, room, long)))
      says

  -- a first fault may stand in the script, and those behind it in the script with any fault more
  record Stands (one : FirstFault) : Type 0 where
    pub first : MayStand list script one.fault
    pub behind : (e : Event) → AllByRecursion (MayStand list (with_fault script e)) one.behind

  among : (slot : ℕ) (faults : List Event) → AllByRecursion (MayStand list script) faults
      → ((e : Event) → AllByRecursion (MayStand list (with_fault script e)) faults)
      → AllByRecursion Stands (firsts_among slot faults)
  among slot [] stand beside = tt
  among slot (fault ∷ faults) stand beside =
      (record { first = stand.0; behind = λ e. (beside e).1 }, among slot faults stand.1 (λ e. (beside e).1))

  firsts-stand : (history : History) (first last : ℕ)
      → AllByRecursion Stands (firsts_from list script history first last)
  firsts-stand history first last =
      each-flat Stands (IsBetween first last script.slots) (firsts_in list script history)
      (λ slot is.
      let faults = faults_in list script (row_of history slot) slot in
      among slot faults
      (recursion_from_All (MayStand list script) faults
      (faults_in-stand list script (row_of history slot) slot valid is.inside))
      (λ e. recursion_from_All (MayStand list (with_fault script e)) faults
      (faults_in-stand list (with_fault script e) (row_of history slot) slot valid is.inside)))
      (slots_between script first last) (slots-within script first last)

  abbrev StandsBehind : Event → SecondFault → Type 0
  StandsBehind one two = MayStand list (with_fault script one) two.fault

  seconds-stand : (within : ℕ) (one : FirstFault) → Stands one
      → AllByRecursion (StandsBehind one.fault) (seconds_of list script within one)
  seconds-stand within one stands =
      let more = with_fault script one.fault in
      let history = zeros_world list more script.slots in
      each-append (StandsBehind one.fault) (seconds_beside one) (seconds_behind list more history one.slot within)
      (each-mapped (StandsBehind one.fault) (MayStand list more) (second_apart 0) (λ fault may. may) one.behind
      (stands.behind one.fault))
      (each-flat (StandsBehind one.fault) (IsBetween (suc one.slot) (one.slot + within) script.slots)
      (seconds_in list more history one.slot)
      (λ later is.
      let faults = faults_in list more (row_of history later) later in
      each-mapped (StandsBehind one.fault) (MayStand list more)
      (second_apart (later - one.slot)) (λ fault may. may) faults
      (recursion_from_All (MayStand list more) faults
      (faults_in-stand list more (row_of history later) later valid is.inside)))
      (slots_between more (suc one.slot) (one.slot + within)) (slots-within more (suc one.slot) (one.slot + within)))

  pub pairs-mild : (first last within : ℕ) → AllByRecursion IsMild (pairs_of_range list script first last within)
  pairs-mild first last within =
      each-flat IsMild Stands (pairs_of_first list script within)
      (λ one stands. each-mapped IsMild (StandsBehind one.fault) _
      (λ two may says.
      let unharmed = pair-unharmed one.fault two.fault stands.first may says in
      not-divided (fault_node one.fault) (fault_node two.fault)
      (harm_of (summary_of_both list script one.fault two.fault).cost)
      (harm_of (summary_with list script one.fault).cost) (harm_of (summary_with list script two.fault).cost)
      (ap (λ (split : Option Span). is_some split) unharmed.split))
      (seconds_of list script within one) (seconds-stand within one stands))
      (firsts_of_range list script first last) (firsts-stand (zeros_world list script script.slots) first last)
