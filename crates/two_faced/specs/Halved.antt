-- What holds of a script in which one sender may be two-faced: each frame is judged correct.
--
-- A history has its newest slot first, and its length is the number of the slot after it.
use Rattle.std.specs.Prelude.{◌≢◌, ℕ, ◌<◌, List, [], ◌∷◌, length, IsTrue}
use Rattle.ttp_world.specs.declared.medl.Medl.{Medl}
use Rattle.ttp_world.specs.declared.node.Entry.{Entry}
use Rattle.ttp_world.specs.declared.script.Script.{Script}
use Rattle.ttp_world.specs.Diary.{History, entry_of}
use Rattle.ttp_world.specs.Medium.{is_sending}
use Rattle.ttp_world.specs.Script.{is_on}
use Rattle.precision.specs.Together.{TellsOf}

-- in the slot of a row after a history, each node that is on judged the frame of each other node that sent correct, by
-- the deviation that it measured
abbrev pub AreJudgedCorrect : Medl → Script → List Entry → History → Type 0
AreJudgedCorrect list script row history =
    (p r : ℕ) → p < length list.slots → r < length list.slots → r ≢ p → IsTrue (is_on script r (length history))
    → IsTrue (is_sending (entry_of row p)) → TellsOf list script history p r (entry_of row r)

-- in each slot behind this one all nodes that are on judged all frames correct
abbrev pub JudgedCorrectSince : Medl → Script → ℕ → History → Type 0
JudgedCorrectSince list script slot [] = Unit {0}
JudgedCorrectSince list script slot (row ∷ history) =
    (slot < length history → AreJudgedCorrect list script row history) × JudgedCorrectSince list script slot history
