-- The headline in a caller's words: a text that can be trusted.
use Rattle.std.specs.Prelude.{◌≡◌, ◌⊎◌, ◌<◌, ◌≤ℤ◌, ◌-ℤ◌, neg_ℤ, ℕ, List, length, IsTrue}
use Rattle.std.specs.List.{concat}
use Rattle.ttp_base.specs.Text.{Lines}
use Rattle.ttp_world.specs.declared.keep.Keep.TheVariants as keep
use Rattle.ttp_world.specs.declared.medl.Medl.{Medl}
use Rattle.ttp_world.specs.declared.script.Script.{Script}
use Rattle.ttp_world.specs.declared.keep.Back.TheVariants as back
use Rattle.ttp_world.specs.BackSafety.{IsBackSafe}
use Rattle.ttp_world.specs.Diary.{History}
use Rattle.ttp_world.specs.Hypothesis.{keeps, needed, is_correct_after}
use Rattle.ttp_world.specs.Legal.{IsLegalRun}
use Rattle.ttp_world.specs.Medl.{IsValid}
use Rattle.ttp_world.specs.Returning.{returns}
use Rattle.ttp_world.specs.Safety.{newest_slot, members_agree, senders_are_members, none_has_left, faulty_are_gone}
use Rattle.ttp_world.specs.Script.{IsValidScript}
use Rattle.ttp_world.specs.Trace.{trace_lines}
use Rattle.ttp_world.specs.World.{Numbers, world}
use Rattle.precision.specs.Spread.{spread}
use Rattle.precision.specs.Together.{IsIn, clock_at, measured}
use Rattle.safety_laws.specs.SameFrames.{AcceptsAlikeSince}
use Rattle.theorems.specs.Since.{HoldsSince}
use Rattle.commands.specs.Read.{trace_limit}
use Rattle.commands.specs.Right.{AreRight}
use Rattle.ttp_top.specs.Calls.Texts.{IsTrace}
use Rattle.uses.specs.declared.bench.memory.Missing.{Missing}
use Rattle.uses.specs.declared.bench.memory.Missing.TheVariants as missing

-- correct nodes hold one membership, in which all are that have sent; none has left, and no faulty one has stayed
abbrev pub IsOneCluster : Medl → Script → History → Type 0
IsOneCluster list script history =
    IsTrue (members_agree list script history)
    × IsTrue (senders_are_members list script history)
    × IsTrue (none_has_left list script history)
    × IsTrue (faulty_are_gone list script history)

-- in the slot that comes next, clocks of correct nodes differ by less than the list's spread, and each measures of the
-- others no more than the list needs
abbrev pub AreOnTime : Medl → Script → History → Type 0
AreOnTime list script history =
    length history < script.slots → (j k : ℕ)
    → IsIn list (is_correct_after list script (length history)) j
    → IsIn list (is_correct_after list script (length history)) k
    → ((clock_at list script history j -ℤ clock_at list script history k) ≤ℤ spread list)
    × (neg_ℤ (needed list) ≤ℤ measured list script history j k)
    × (measured list script history j k ≤ℤ needed list)

-- correct nodes have accepted the same frames since the start
abbrev pub AcceptedAlike : Medl → Script → ℕ → History → Type 0
AcceptedAlike list script start history =
    AcceptsAlikeSince list script (is_correct_after list script (newest_slot history)) start history

-- The bytes are a list and a script for it, and the text is that of a run of both by the protocol's rules. Where the
-- script keeps the single-fault hypothesis, the cluster is one after each slot of that run from its start on, its
-- clocks are on time, and it has judged frames alike; where armed nodes are guaranteed their places, it is safe with
-- them.
pub record IsSafeTrace (list_bytes script_bytes text : List ℕ) : Type 0 where
  pub list : Medl
  pub script : Script
  pub are : AreRight list_bytes script_bytes list script
  pub valid : IsValid list
  pub valid_script : IsValidScript list script
  pub numbers : Numbers
  pub legal : IsLegalRun list script numbers
  pub whole : text ≡ concat (trace_lines list script numbers)
  pub one : (start : ℕ) → keeps list script ≡ keep.Yes start
      → HoldsSince (IsOneCluster list script) start (world list script numbers)
  pub on_time : (start : ℕ) → keeps list script ≡ keep.Yes start
      → HoldsSince (AreOnTime list script) start (world list script numbers)
  pub alike : (start : ℕ) → keeps list script ≡ keep.Yes start
      → HoldsSince (AcceptedAlike list script start) start (world list script numbers)
  pub back_safe : (start : ℕ) → returns list script ≡ back.Yes start
      → HoldsSince (IsBackSafe list script) start (world list script numbers)

-- a trace of a list and a script is longer than a room, which is less than the file of a trace may have
pub record IsTooSmall (room : ℕ) (list : Medl) (script : Script) : Type 0 where
  pub lines : Lines
  pub trace : IsTrace list script lines
  pub longer : room < length (concat lines)
  pub limit : room < trace_limit

-- a list and a script that are right are missed by want of memory alone, or, with status 6, for want of room
abbrev pub IsMissed : List ℕ → List ℕ → ℕ → Missing → Type 0
IsMissed list_bytes script_bytes room missing.Memory = Unit {0}
IsMissed list_bytes script_bytes room (missing.Status status) =
    (list : Medl) (script : Script) → AreRight list_bytes script_bytes list script
    → (status ≡ 7) ⊎ ((status ≡ 6) × IsTooSmall room list script)
