-- That a text of modes shows one mode.
use Rattle.std.specs.Prelude.{ℕ, Bool, Option, Some}
use Rattle.std.specs.List.{Contains}
use Rattle.ttp_base.specs.Text.{Lines}
use Rattle.ttp_world.specs.declared.medl.Medl.{Medl}
use Rattle.ttp_world.specs.declared.script.Script.{Script}
use Rattle.ttp_world.specs.Hypothesis.{is_correct_after}
use Rattle.precision.specs.Together.{IsIn}
use Rattle.mode_change.specs.ModeText.{mode_line}

-- the line of node k after a slot shows this mode, and this next one or none
pub record ShowsMode (lines : Lines) (slot k mode : ℕ) (next : Option ℕ) : Type 0 where
  pub live : Option Bool
  pub line : Contains lines (mode_line slot k (record { mode = Some mode; next = next }) live)

-- those of two nodes show the same
pub record ShowSameMode (lines : Lines) (slot j k : ℕ) : Type 0 where
  pub mode : ℕ
  pub next : Option ℕ
  pub one : ShowsMode lines slot j mode next
  pub other : ShowsMode lines slot k mode next

-- the lines of any two nodes that are correct after the slot show one mode
abbrev pub ShowsOneMode : Medl → Script → Lines → ℕ → Type 0
ShowsOneMode list script lines slot =
    (j k : ℕ) → IsIn list (is_correct_after list script slot) j → IsIn list (is_correct_after list script slot) k
    → ShowSameMode lines slot j k
