-- The promise of `pairs LIST SCRIPT FIRST LAST WITHIN` in its own words.
use Rattle.std.specs.Prelude.{◌≡◌, ℕ, ◌+◌, ◌<◌, ◌≤◌, true, List, [], ◌∷◌, ◌++◌, map, length, None}
use Rattle.ttp_base.specs.Outside.{WroteLines}
use Rattle.ttp_world.specs.declared.medl.Medl.{Medl}
use Rattle.ttp_world.specs.declared.script.Event.{Event}
use Rattle.ttp_world.specs.declared.script.Script.{Script}
use Rattle.ttp_world.specs.declared.script.TheConstants.{EVENT_LIMIT}
use Rattle.campaign.specs.Lines.{summary, summary_with}
use Rattle.campaign.specs.Tried.{with_fault, faults_from}
use Rattle.ttp_world.specs.ZerosWorld.{zeros_world}
use Rattle.single_faults.specs.Tried.{MayStand}
use Rattle.fault_pairs.specs.Classes.{harm_of}
use Rattle.fault_pairs.specs.Pairs.{FirstFault, SecondFault}
use Rattle.fault_pairs.specs.PairText.{pairs_lines, pair_line, told_of_pair, pair_tolds, first_fault_line}
use Rattle.fault_pairs.specs.PairText.{first_fault_lines, lines_of_told}
use Rattle.fault_pairs.specs.PairText.{summary_of_both}
use Rattle.fault_pairs.specs.Sums.{PairTold, pair_counts, told_apart, told_kept, told_broken, distances}
use Rattle.pair_laws.specs.Added.{counts_of_both, sum_of_counts, classes_sum}
use Rattle.pair_laws.specs.Ranges.{own_harm, firsts_of_range, pairs_of_range, lines_of_range, counts_of_first}
use Rattle.commands.specs.Plan.{Outside}
use Rattle.lab_top.specs.LinesPromise.{MayBeBoth, LinesPromise}

-- What is told of a pair is read of the run of the script with both faults: its test, and in its line the words of that
-- run, which a trace of this script shows. A first fault's line is read of the run with it.
pub record AreRead (list : Medl) (script : Script) (within : ℕ) : Type 0 where
  pub yes : (one : FirstFault) (two : SecondFault)
      → (told_of_pair list script (own_harm list script) one
      (harm_of (summary_with list script one.fault).cost) two).yes
      ≡ (summary list (with_fault (with_fault script one.fault) two.fault)).yes
  pub line : (one : FirstFault) (two : SecondFault)
      → let told = told_of_pair list script (own_harm list script) one
      (harm_of (summary_with list script one.fault).cost) two in
      told.line ≡ pair_line list told.class one two (own_harm list script)
      (harm_of (summary_with list script one.fault).cost)
      (harm_of (summary_with list script two.fault).cost)
      (summary list (with_fault (with_fault script one.fault) two.fault))
  pub first : (one : FirstFault)
      → first_fault_lines list script within (own_harm list script) one
      ≡ lines_of_told (pair_tolds list script within (own_harm list script) one)
      ++ first_fault_line list one (summary list (with_fault script one.fault))
      (pair_counts (pair_tolds list script within (own_harm list script) one)) ∷ []

-- The counts of a text add up: the seven classes to the pairs of their line; those of the first faults, of the
-- distances, and of both answers of the test, to those of all pairs.
pub record AddUp (list : Medl) (script : Script) (first last within : ℕ) : Type 0 where
  pub classes : (tolds : List PairTold) → classes_sum (pair_counts tolds) ≡ (pair_counts tolds).pairs
  pub firsts : sum_of_counts (map (counts_of_first list script within) (firsts_of_range list script first last))
      ≡ pair_counts (pairs_of_range list script first last within)
  pub apart : sum_of_counts (map (λ d. pair_counts (told_apart d (pairs_of_range list script first last within)))
      (distances script within (pairs_of_range list script first last within)))
      ≡ pair_counts (pairs_of_range list script first last within)
  pub tests : counts_of_both (pair_counts (told_kept (pairs_of_range list script first last within)))
      (pair_counts (told_broken (pairs_of_range list script first last within)))
      ≡ pair_counts (pairs_of_range list script first last within)

-- what a yes is worth: a pair that says it hurts no correct node and splits no memberships, and none of them is divided
pub record IsWorth (list : Medl) (script : Script) (first last within : ℕ) : Type 0 where
  pub hurt : (one two : Event) → MayStand list script one → MayStand list (with_fault script one) two
      → (summary_of_both list script one two).yes ≡ true → (summary_of_both list script one two).cost.hurt ≡ []
  pub split : (one two : Event) → MayStand list script one → MayStand list (with_fault script one) two
      → (summary_of_both list script one two).yes ≡ true → (summary_of_both list script one two).cost.split ≡ None
  pub divided : (pair_counts (told_kept (pairs_of_range list script first last within))).divided ≡ 0

-- exactly the lines of a list and a script were written
pub record WrotePairs (list script : List ℕ) (first last within : ℕ) (before now : Outside) : Type 0 where
  pub medl : Medl
  pub right : Script
  pub files : MayBeBoth list script before medl right
  pub wrote : WroteLines before.output now.output (pairs_lines medl right first last within)
  -- What its lines are read of, and that its counts add up.
  pub read : AreRead medl right within
  pub sums : AddUp medl right first last within
  -- Its first faults are those of a campaign, in its order.
  pub firsts : map (λ (one : FirstFault). one.fault) (firsts_of_range medl right first last)
      ≡ faults_from medl right (zeros_world medl right right.slots) first last
  -- What a yes is worth, where the script has room for two events more.
  pub worth : length right.events + 1 < EVENT_LIMIT → IsWorth medl right first last within

-- Two ranges that join make a whole: the lines of first faults and pairs, one after the other, and the counts, added
-- up.
pub record ArePiecesOf (list : Medl) (script : Script) (first middle last within : ℕ) : Type 0 where
  pub lines : lines_of_range list script first middle within ++ lines_of_range list script (middle + 1) last within
      ≡ lines_of_range list script first last within
  pub counts : counts_of_both (pair_counts (pairs_of_range list script first middle within))
      (pair_counts (pairs_of_range list script (middle + 1) last within))
      ≡ pair_counts (pairs_of_range list script first last within)

-- a call that is asked for pairs promises
pub record PairPromise (list script : List ℕ) (first last within : ℕ) (before now : Outside) (status : ℕ) : Type 0 where
  -- What every call promises that writes lines of a list and a script, of those of the pairs.
  pub text : LinesPromise (λ medl right. pairs_lines medl right first last within) list script before now status
  pub open text use *
  -- Of the text that is written with status 0 it says what its lines and its sums are worth.
  pub worth : status ≡ 0 → WrotePairs list script first last within before now
  -- The pieces of a range are the whole, whatever the list and the script are.
  pub pieces : (middle : ℕ) → first ≤ middle → middle ≤ last → (medl : Medl) (right : Script)
      → ArePiecesOf medl right first middle last within
