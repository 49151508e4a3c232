-- The promise of `margins LIST SCRIPT [FIRST LAST]` in its own words.
use Rattle.std.specs.Prelude.{◌≡◌, ℕ, suc, ◌+◌, ◌*◌, ◌<◌, ◌≤◌, ℤ, false, List, [], ◌++◌, map, flat_map, length}
use Rattle.std.specs.Prelude.{Option, Some, None, IsTrue, IfSome}
use Rattle.ttp_base.specs.NodeSet.{without_node}
use Rattle.ttp_base.specs.Outside.{WroteLines}
use Rattle.ttp_world.specs.declared.medl.Medl.{Medl}
use Rattle.ttp_world.specs.declared.script.Script.{Script}
use Rattle.ttp_world.specs.Events.{IsWithinSpan}
use Rattle.campaign.specs.declared.cost.Span.{Span}
use Rattle.campaign.specs.Cost.{says_yes}
use Rattle.campaign.specs.Lines.{summary}
use Rattle.ttp_world.specs.ZerosWorld.{zeros_world}
use Rattle.clock_margins.specs.declared.margin.Sweep.{Sweep}
use Rattle.clock_margins.specs.Forms.{clock_place}
use Rattle.clock_margins.specs.MarginText.{tolds_of, sweep_lines, sweep_margin, margin_lines}
use Rattle.clock_margins.specs.Outcomes.{ValueTold, told_of_value, whom_it_costs, is_others}
use Rattle.clock_margins.specs.Ranges.{ranges_of}
use Rattle.clock_margins.specs.Sums.{counts_by_cost, count_of_values, total_of}
use Rattle.clock_margins.specs.Sweeps.{swept_script, reach, sweeps}
use Rattle.margin_laws.specs.Ranges.{told_in_range, AreApart}
use Rattle.margin_laws.specs.Sums.{totals_together}
use Rattle.commands.specs.Plan.{Outside}
use Rattle.lab_top.specs.LinesPromise.{MayBeBoth, LinesPromise}

-- the sweeps that are asked for
abbrev pub asked_sweeps : Medl → Script → Option Span → List Sweep
asked_sweeps list script asked = sweeps list script (zeros_world list script script.slots) asked

-- a sweep of drifts, or of jumps where slots are asked for: of a node of the list, in a slot of the script
pub record IsSweepOf (list : Medl) (script : Script) (asked : Option Span) (sweep : Sweep) : Type 0 where
  pub kind : clock_place sweep.slot ≡ clock_place asked
  pub node : sweep.node < length list.slots
  pub slot : IfSome sweep.slot (λ slot. slot < script.slots)

-- What is told of a value is what a campaign tells of the script of its run, in which only node k counts as faulty
-- besides.
pub record IsReadAs (list : Medl) (script : Script) (k : ℕ) (told : ValueTold) : Type 0 where
  pub test : told.test ≡ (summary list script).test
  pub left : told.outcome.left ≡ map (λ leave. leave.node) (summary list script).cost.left
  pub hurt : told.outcome.hurt ≡ without_node (summary list script).cost.hurt k
  pub split : (summary list script).cost.split ≡ None → told.outcome.split ≡ false
  pub end : told.outcome.end ≡ (summary list script).cost.end

-- a value costs nobody else: no node but the one that is swept was hurt, and memberships were never split
pub record IsHarmless (sweep : Sweep) (told : ValueTold) : Type 0 where
  pub hurt : told.outcome.hurt ≡ []
  pub split : told.outcome.split ≡ false
  pub costs : is_others (whom_it_costs sweep.node told.outcome) ≡ false

-- what the lines of a list and a script are worth
pub record AreWorth (list : Medl) (script : Script) (asked : Option Span) : Type 0 where
  -- What is told of a value is read of the run of its script and of nothing else.
  pub read : (sweep : Sweep) (value : ℤ)
      → IsReadAs list (swept_script script sweep value) sweep.node (told_of_value list script sweep value)
  -- What the ranges of a sweep say, value by value, is what is told of each of its values: each lies in one range. Two
  -- ranges that follow each other differ.
  pub once : (sweep : Sweep) → flat_map told_in_range (ranges_of (tolds_of list script (reach list asked) sweep))
      ≡ tolds_of list script (reach list asked) sweep
  pub apart : (sweep : Sweep) → AreApart (ranges_of (tolds_of list script (reach list asked) sweep))
  -- The values that cost nobody, the node itself and others are all values of a sweep.
  pub counts : (sweep : Sweep)
      → count_of_values (counts_by_cost sweep.node (tolds_of list script (reach list asked) sweep))
      ≡ suc (2 * reach list asked)
  -- Where the test of a value's script says yes, it costs nobody else.
  pub yes : (sweep : Sweep) (value : ℤ) → IsSweepOf list script asked sweep → IsWithinSpan (reach list asked) value
      → IsTrue (says_yes list (swept_script script sweep value))
      → IsHarmless sweep (told_of_value list script sweep value)

-- the lines of two ranges of slots, one after the other, are those of a whole, and their sums together its sums
pub record AreInPieces (list : Medl) (script : Script) (front back : Span) (whole : Option Span) : Type 0 where
  pub lines : flat_map (sweep_lines list script (reach list whole)) (asked_sweeps list script (Some front))
      ++ flat_map (sweep_lines list script (reach list whole)) (asked_sweeps list script (Some back))
      ≡ flat_map (sweep_lines list script (reach list whole)) (asked_sweeps list script whole)
  pub sums : totals_together
      (total_of (map (sweep_margin list script (reach list whole)) (asked_sweeps list script (Some front))))
      (total_of (map (sweep_margin list script (reach list whole)) (asked_sweeps list script (Some back))))
      ≡ total_of (map (sweep_margin list script (reach list whole)) (asked_sweeps list script whole))

-- exactly the lines of a list and a script were written
pub record WroteMargins (list script : List ℕ) (asked : Option Span) (before now : Outside) : Type 0 where
  pub medl : Medl
  pub right : Script
  pub files : MayBeBoth list script before medl right
  pub wrote : WroteLines before.output now.output (margin_lines medl right asked)
  pub worth : AreWorth medl right asked

-- a call that is asked for margins promises
pub record MarginPromise (list script : List ℕ) (asked : Option Span) (before now : Outside) (status : ℕ) : Type 0 where
  -- What every call promises that writes lines of a list and a script, of those of the margins.
  pub text : LinesPromise (λ medl right. margin_lines medl right asked) list script before now status
  pub open text use *
  -- Of the text that is written with status 0 it says what its ranges, its sums and a yes are worth.
  pub worth : status ≡ 0 → WroteMargins list script asked before now
  -- The sweeps and the lines of two ranges that join are those of the whole, one after the other; what both ranges come
  -- to is what the whole comes to.
  pub pieces : (first last end : ℕ) → asked ≡ Some (record { first = first; last = end }) → first ≤ last → last ≤ end
      → (medl : Medl) (right : Script)
      → AreInPieces medl right (record { first = first; last = last }) (record { first = last + 1; last = end }) asked
