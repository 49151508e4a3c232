-- A script as a text: a line for its slots, one for each node that is switched on, one for each node whose clock
-- drifts, and one for each event.
use Rattle.std.specs.Prelude.{ℕ, nat_abs, ℤ, ◌==◌, List, [], ◌∷◌, ◌++◌, map, length, Option, Some, None}
use Rattle.std.specs.Prelude.{codes, decimal, if◌then◌else◌}
use Rattle.std.specs.Fmt.{signed_decimal}
use Rattle.ttp_base.specs.Text.{Lines, newline, hex_bytes, lines_below}
use Rattle.ttp_world.specs.declared.script.Event.{Event}
use Rattle.ttp_world.specs.declared.script.Event.TheVariants as event
use Rattle.ttp_world.specs.declared.script.Script.{Script}
use Rattle.ttp_world.specs.Script.{on_slot, drift_of}
use Rattle.ttp_world.specs.Trace.{source_word}
use Rattle.campaign.specs.CostText.{channels_word, loss_words}

-- The line of an event.

-- an event as the line of a script, without the line feed
unfoldable pub event_words : Event → List ℕ
event_words (event.Send node channels kind from to) = loss_words (codes "send ") node channels kind from to
event_words (event.Receive node channels kind from to) = loss_words (codes "receive ") node channels kind from to
event_words (event.Flip node channels bit slot) =
    codes "flip " ++ decimal node ++ codes " " ++ channels_word channels ++ codes " " ++ decimal bit
    ++ codes " " ++ decimal slot
event_words (event.Error node value from to) =
    codes "error " ++ decimal node ++ codes " " ++ signed_decimal value ++ codes " " ++ decimal from
    ++ codes " " ++ decimal to
event_words (event.Jump node value slot) =
    codes "jump " ++ decimal node ++ codes " " ++ signed_decimal value ++ codes " " ++ decimal slot
event_words (event.Arm node slot) = codes "arm " ++ decimal node ++ codes " " ++ decimal slot
event_words (event.Write node slot payload) =
    codes "write " ++ decimal node ++ codes " " ++ decimal slot ++ codes " " ++ hex_bytes payload
event_words (event.Read node slot from) =
    codes "read " ++ decimal node ++ codes " " ++ decimal slot ++ codes " " ++ source_word from

-- its whole line
abbrev pub event_line : Event → List ℕ
event_line e = event_words e ++ newline

-- The lines before the events.

-- the line for the slots of the run
unfoldable pub slots_line : ℕ → List ℕ
slots_line count = codes "slots " ++ decimal count ++ newline

-- the line of a node that is switched on
unfoldable pub on_line : ℕ → ℕ → List ℕ
on_line k slot = codes "on " ++ decimal k ++ codes " " ++ decimal slot ++ newline

-- a node that never is has none
abbrev pub on_lines : ℕ → Option ℕ → Lines
on_lines k None = []
on_lines k (Some slot) = on_line k slot ∷ []

-- the line of a node whose clock drifts
unfoldable pub drift_line : ℕ → ℤ → List ℕ
drift_line k value = codes "drift " ++ decimal k ++ codes " " ++ signed_decimal value ++ newline

-- a node whose clock does not has none
abbrev pub drift_lines : ℕ → ℤ → Lines
drift_lines k value = if nat_abs value == 0 then [] else drift_line k value ∷ []

-- those of all nodes
abbrev pub all_on_lines : Script → Lines
all_on_lines script = lines_below (λ k. on_lines k (on_slot script k)) (length script.on)

abbrev pub all_drift_lines : Script → Lines
all_drift_lines script = lines_below (λ k. drift_lines k (drift_of script k)) (length script.drift)

-- the text of a script
unfoldable pub script_lines : Script → Lines
script_lines script =
    slots_line script.slots ∷ all_on_lines script ++ (all_drift_lines script ++ map event_line script.events)
