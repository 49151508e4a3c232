-- Each line of the text of a script is one line: its one line feed is its last byte.
use Rattle.std.proofs.Common.{◌≡◌, ℕ, Bool, true, false, cond, ℤ, List, [], ◌∷◌, ◌++◌, map, length, Option, Some, None}
use Rattle.std.proofs.Common.{refl, arith, codes, decimal}
use Rattle.std.specs.Prelude.{◌==◌, nat_abs}
use Rattle.std.specs.Fmt.{signed_decimal}
use Rattle.std.specs.List.{flat_map}
use Rattle.std.proofs.lemmas.List.Folds.{list_any-append}
use Rattle.ttp_base.specs.NodeSet.{below}
use Rattle.ttp_base.specs.Text.{Lines, newline, is_line, hex_bytes}
use Rattle.ttp_base.proofs.Numerals.{has-signed, has-hex_bytes}
use Rattle.ttp_world.specs.declared.script.Event.{Event}
use Rattle.ttp_world.specs.declared.script.Event.TheVariants as event
use Rattle.ttp_world.specs.declared.script.Script.{Script}
use Rattle.ttp_world.specs.Script.{on_slot, drift_of}
use Rattle.ttp_world.proofs.LineLists.{each-append}
use Rattle.campaign.specs.CostText.{channels_word}
use Rattle.lab_top.proofs.FromBelow.{HasNone, none-decimal, none-source}
use Rattle.commands.specs.Lines.{AreLines}
use Rattle.script_lines.specs.ScriptLines.{event_words, event_line, slots_line, on_line, on_lines, drift_line}
use Rattle.script_lines.specs.ScriptLines.{drift_lines, all_on_lines, all_drift_lines, script_lines}
use Rattle.ttp_world.specs.Trace.{source_word}
use Rattle.lab_top.proofs.CampaignLines.{ended, loss_words-none, jump-none, channels-none}

-- The words of an event.

flip-none : (node channels bit slot : List ℕ) → HasNone node → HasNone channels → HasNone bit → HasNone slot
    → HasNone (codes "flip " ++ node ++ codes " " ++ channels ++ codes " " ++ bit ++ codes " " ++ slot)
flip-none node channels bit slot p q r s = simp (list_any-append (λ c. c == 10), p, q, r, s)

error-none : (node value from to : List ℕ) → HasNone node → HasNone value → HasNone from → HasNone to
    → HasNone (codes "error " ++ node ++ codes " " ++ value ++ codes " " ++ from ++ codes " " ++ to)
error-none node value from to p q r s = simp (list_any-append (λ c. c == 10), p, q, r, s)

arm-none : (node slot : List ℕ) → HasNone node → HasNone slot → HasNone (codes "arm " ++ node ++ codes " " ++ slot)
arm-none node slot p q = simp (list_any-append (λ c. c == 10), p, q)

three-none : (word node slot last : List ℕ) → HasNone word → HasNone node → HasNone slot → HasNone last
    → HasNone (word ++ node ++ codes " " ++ slot ++ codes " " ++ last)
three-none word node slot last p q r s = simp (list_any-append (λ c. c == 10), p, q, r, s)

event-none : (e : Event) → HasNone (event_words e)
unfolding event_words
event-none (event.Send node channels kind from to) = loss_words-none (codes "send ") node channels kind from to refl
event-none (event.Receive node channels kind from to) =
    loss_words-none (codes "receive ") node channels kind from to refl
event-none (event.Flip node channels bit slot) =
    flip-none (decimal node) (channels_word channels) (decimal bit) (decimal slot) (none-decimal node)
    (channels-none channels.a channels.b) (none-decimal bit) (none-decimal slot)
event-none (event.Error node value from to) =
    error-none (decimal node) (signed_decimal value) (decimal from) (decimal to) (none-decimal node)
    (has-signed 10 value (omega arith)) (none-decimal from) (none-decimal to)
event-none (event.Jump node value slot) =
    jump-none (decimal node) (signed_decimal value) (decimal slot)
    (none-decimal node) (has-signed 10 value (omega arith))
    (none-decimal slot)
event-none (event.Arm node slot) = arm-none (decimal node) (decimal slot) (none-decimal node) (none-decimal slot)
event-none (event.Write node slot payload) =
    three-none (codes "write ") (decimal node) (decimal slot) (hex_bytes payload)
    refl (none-decimal node) (none-decimal slot)
    (has-hex_bytes 10 payload (omega arith))
event-none (event.Read node slot from) =
    three-none (codes "read ") (decimal node) (decimal slot) (source_word from)
    refl (none-decimal node) (none-decimal slot)
    (none-source from)

-- The lines.

slots-is_line : (count : ℕ) → is_line (slots_line count) ≡ true
unfolding slots_line
slots-is_line count = by (decimal count) (none-decimal count)
  where
    by : (word : List ℕ) → HasNone word → is_line (codes "slots " ++ word ++ newline) ≡ true
    by word p = ended (codes "slots " ++ word) (simp (list_any-append (λ c. c == 10), p))

on-is_line : (k slot : ℕ) → is_line (on_line k slot) ≡ true
unfolding on_line
on-is_line k slot = by (decimal k) (decimal slot) (none-decimal k) (none-decimal slot)
  where
    by : (node at : List ℕ) → HasNone node → HasNone at
        → is_line (codes "on " ++ node ++ codes " " ++ at ++ newline) ≡ true
    by node at p q = ended (codes "on " ++ node ++ codes " " ++ at) (simp (list_any-append (λ c. c == 10), p, q))

drift-is_line : (k : ℕ) (value : ℤ) → is_line (drift_line k value) ≡ true
unfolding drift_line
drift-is_line k value =
    by (decimal k) (signed_decimal value) (none-decimal k) (has-signed 10 value (omega arith))
  where
    by : (node drift : List ℕ) → HasNone node → HasNone drift
        → is_line (codes "drift " ++ node ++ codes " " ++ drift ++ newline) ≡ true
    by node drift p q = ended (codes "drift " ++ node ++ codes " " ++ drift)
        (simp (list_any-append (λ c. c == 10), p, q))

on-each : (k : ℕ) (on : Option ℕ) → AreLines (on_lines k on)
on-each k None = tt
on-each k (Some slot) = (on-is_line k slot, tt)

drift-each : (k : ℕ) (value : ℤ) → AreLines (drift_lines k value)
drift-each k value = by (nat_abs value == 0)
  where
    by : (none : Bool) → AreLines (cond none [] (drift_line k value ∷ []))
    by true = tt
    by false = (drift-is_line k value, tt)

events-each : (events : List Event) → AreLines (map event_line events)
events-each [] = tt
events-each (e ∷ events) = (ended (event_words e) (event-none e), events-each events)

flat-each : (lines : ℕ → Lines) → ((k : ℕ) → AreLines (lines k)) → (ks : List ℕ) → AreLines (flat_map lines ks)
flat-each lines each [] = tt
flat-each lines each (k ∷ ks) =
    each-append (λ (line : List ℕ). is_line line ≡ true) (lines k)
    (flat_map lines ks) (each k) (flat-each lines each ks)

pub script_lines-each : (script : Script) → AreLines (script_lines script)
unfolding script_lines
script_lines-each script = (
  slots-is_line script.slots,
  each-append (λ (line : List ℕ). is_line line ≡ true) (all_on_lines script) _
      (flat-each (λ k. on_lines k (on_slot script k)) (λ k. on-each k (on_slot script k)) (below (length script.on)))
      (each-append (λ (line : List ℕ). is_line line ≡ true) (all_drift_lines script) (map event_line script.events)
      (flat-each (λ k. drift_lines k (drift_of script k))
      (λ k. drift-each k (drift_of script k)) (below (length script.drift)))
      (events-each script.events)),
)
