-- The line of each event of a generated script.
use Rattle.std.proofs.Common.{◌≡◌, ℕ, ◌+◌, ◌*◌, ◌<◌, ◌≤◌, ◌==◌, ℤ, true, false, List}
use Rattle.std.proofs.Common.{[], ◌∷◌, ◌++◌, length, count_by, Some, refl, sym, ap, ◌∙◌, subst, arith, decimal, codes}
use Rattle.std.proofs.lemmas.Int.{ints}
use Rattle.std.specs.Prelude.{nat_abs}
use Rattle.std.specs.Fmt.{signed_decimal}
use Rattle.std.specs.List.{AllByRecursion}
use Rattle.std.proofs.lemmas.Bool.{lt-ltb, le-leb}
use Rattle.std.proofs.lemmas.Bool.Decides.{nat_tests}
use Rattle.std.proofs.lemmas.List.{append_assoc}
use Rattle.ttp_base.specs.Text.{hex_bytes}
use Rattle.ttp_world.specs.declared.medl.Medl.{Medl}
use Rattle.ttp_world.specs.declared.script.Event.TheVariants as event
use Rattle.ttp_world.specs.declared.script.Fault.TheVariants as fault
use Rattle.ttp_world.specs.declared.script.Script.{Script}
use Rattle.ttp_world.specs.declared.script.Source.TheVariants as source
use Rattle.ttp_world.specs.declared.script.TheConstants.{SLOT_LIMIT, ERROR_LIMIT}
use Rattle.ttp_world.specs.Medl.{plan_at}
use Rattle.ttp_world.specs.Script.{IsValidEvent, IsWithinSpan}
use Rattle.ttp_world.proofs.SmallTests.{both}
use Rattle.script_gen.specs.Generator.{both_channels}
use Rattle.script_lines.specs.ScriptLines.{event_words}
use Rattle.script_text.specs.Faults.{slots_of, stated_slots, is_write_at, is_span}
use Rattle.script_text.specs.Statement.{Statement, says_event}
use Rattle.script_laws.proofs.Numbers.{number-word, signed-word, hex-word, hex-is_word, number-not_status}
use Rattle.script_laws.proofs.Statements.{IsLine, read_line}
use Rattle.script_laws.proofs.Words.{word_then, last_word}

-- a line that is written from the left, as its words one after another

abbrev pub from_left : List ℕ → List (List ℕ) → List ℕ
from_left text [] = text
from_left text (word ∷ words) = from_left (text ++ codes " " ++ word) words

abbrev pub spaced_words : List ℕ → List (List ℕ) → List ℕ
spaced_words word [] = word
spaced_words word (next ∷ words) = word ++ 32 ∷ spaced_words next words

pub left-spaced : (text word : List ℕ) (words : List (List ℕ))
    → from_left (text ++ word) words ≡ text ++ spaced_words word words
left-spaced text word [] = refl
left-spaced text word (next ∷ words) =
    ap (λ (l : List ℕ). from_left (l ++ next) words) (append_assoc text word (codes " "))
    ∙ left-spaced (text ++ (word ++ codes " ")) next words
    ∙ append_assoc text (word ++ codes " ") (spaced_words next words)
    ∙ ap (λ (l : List ℕ). text ++ l) (append_assoc word (codes " ") (spaced_words next words))

-- what is known of the lines before, and of the run
pub record Stands (list : Medl) (script : Script) (before : List Statement) : Type 0 where
  pub slots : slots_of before ≡ Some script.slots
  pub few : script.slots ≤ SLOT_LIMIT
  pub nodes : length list.slots ≤ 24

module _ (list : Medl) (script : Script) (before : List Statement) (stands : Stands list script before) where
  span_true : (from to : ℕ) → (from ≤ to) × (to < script.slots) → is_span (stated_slots before) from to ≡ true
  span_true from to span =
      rw (
        stands.slots,
        lt-ltb from script.slots (omega (arith, span.0, span.1)),
        lt-ltb to script.slots span.1,
        le-leb from to span.0,
      ) refl

  within_true : (bound : ℕ) (value : ℤ) → IsWithinSpan bound value → nat_abs value ≤ bound
  within_true bound value within = omega (arith, ints, within.0, within.1)

  pub error_read : (node : ℕ) (value : ℤ) (from to : ℕ) → IsValidEvent list script (event.Error node value from to)
      → IsLine list before (event_words (event.Error node value from to)) (says_event (event.Error node value from to))
  unfolding event_words
  error_read node value from to valid =
      let small = within_true ERROR_LIMIT value valid.1 in
      let n = number-word node (omega (arith, valid.0, stands.nodes)) in
      let v = signed-word value (omega (arith, small)) in
      let f = number-word from (omega (arith, valid.2.0, valid.2.1, stands.few)) in
      let t = number-word to (omega (arith, valid.2.1, stands.few)) in
      let line =
      word_then (codes "error") _ _ (record { some = omega arith; parts = refl; feeds = refl; returns = refl })
      (word_then (decimal node) _ _ n.spells (word_then (signed_decimal value) _ _ v.spells
      (word_then (decimal from) _ _ f.spells (last_word (decimal to) t.spells)))) in
      subst (λ (l : List ℕ). IsLine list before l (says_event (event.Error node value from to)))
      (sym (left-spaced (codes "error ") (decimal node) (signed_decimal value ∷ decimal from ∷ decimal to ∷ [])))
      (record {
        feeds = line.feeds;
        returns = line.returns;
        read =
            read_line list before _ _ _ (says_event (event.Error node value from to)) line.cut refl refl (record {
              spelled = refl;
              slots = rw stands.slots refl;
              numbers = rw (n.is, v.is, f.is, t.is) refl;
              states = rw (n.value, v.value, f.value, t.value) refl;
              nodes = lt-ltb node (length list.slots) valid.0;
              payload = refl;
              range = both _ _ (le-leb (nat_abs value) ERROR_LIMIT small) (span_true from to valid.2);
              once = refl;
              buffer = refl;
              few = refl;
            });
      })

  pub send_read : (node from to : ℕ) → IsValidEvent list script (event.Send node both_channels fault.Noise from to)
      → IsLine list before (event_words (event.Send node both_channels fault.Noise from to))
      (says_event (event.Send node both_channels fault.Noise from to))
  unfolding event_words
  send_read node from to valid =
      let n = number-word node (omega (arith, valid.0, stands.nodes)) in
      let f = number-word from (omega (arith, valid.1.0, valid.1.1, stands.few)) in
      let t = number-word to (omega (arith, valid.1.1, stands.few)) in
      let line =
      word_then (codes "send") _ _ (record { some = omega arith; parts = refl; feeds = refl; returns = refl })
      (word_then (decimal node) _ _ n.spells
      (word_then (codes "AB") _ _ (record { some = omega arith; parts = refl; feeds = refl; returns = refl })
      (word_then (codes "noise") _ _ (record { some = omega arith; parts = refl; feeds = refl; returns = refl })
      (word_then (decimal from) _ _ f.spells (last_word (decimal to) t.spells))))) in
      subst (λ (l : List ℕ). IsLine list before l (says_event (event.Send node both_channels fault.Noise from to)))
      (sym (left-spaced (codes "send ") (decimal node) (codes "AB" ∷ codes "noise" ∷ decimal from ∷ decimal to ∷ [])))
      (record {
        feeds = line.feeds;
        returns = line.returns;
        read =
            read_line list before _ _ _
            (says_event (event.Send node both_channels fault.Noise from to)) line.cut refl refl
            (record {
              spelled = refl;
              slots = rw stands.slots refl;
              numbers = rw (n.is, f.is, t.is) refl;
              states = rw (n.value, f.value, t.value) refl;
              nodes = lt-ltb node (length list.slots) valid.0;
              payload = refl;
              range = span_true from to valid.1;
              once = refl;
              buffer = refl;
              few = refl;
            });
      })

  pub receive_read : (node from to : ℕ)
      → IsValidEvent list script (event.Receive node both_channels fault.Noise from to)
      → IsLine list before (event_words (event.Receive node both_channels fault.Noise from to))
      (says_event (event.Receive node both_channels fault.Noise from to))
  unfolding event_words
  receive_read node from to valid =
      let n = number-word node (omega (arith, valid.0, stands.nodes)) in
      let f = number-word from (omega (arith, valid.1.0, valid.1.1, stands.few)) in
      let t = number-word to (omega (arith, valid.1.1, stands.few)) in
      let line =
      word_then (codes "receive") _ _ (record { some = omega arith; parts = refl; feeds = refl; returns = refl })
      (word_then (decimal node) _ _ n.spells
      (word_then (codes "AB") _ _ (record { some = omega arith; parts = refl; feeds = refl; returns = refl })
      (word_then (codes "noise") _ _ (record { some = omega arith; parts = refl; feeds = refl; returns = refl })
      (word_then (decimal from) _ _ f.spells (last_word (decimal to) t.spells))))) in
      subst (λ (l : List ℕ). IsLine list before l (says_event (event.Receive node both_channels fault.Noise from to)))
      (sym (left-spaced (codes "receive ") (decimal node) (codes "AB" ∷ codes "noise" ∷ decimal from
      ∷ decimal to ∷ [])))
      (record {
        feeds = line.feeds;
        returns = line.returns;
        read =
            read_line list before _ _ _
            (says_event (event.Receive node both_channels fault.Noise from to)) line.cut refl refl
            (record {
              spelled = refl;
              slots = rw stands.slots refl;
              numbers = rw (n.is, f.is, t.is) refl;
              states = rw (n.value, f.value, t.value) refl;
              nodes = lt-ltb node (length list.slots) valid.0;
              payload = refl;
              range = span_true from to valid.1;
              once = refl;
              buffer = refl;
              few = refl;
            });
      })

  pub write_read : (node slot : ℕ) (payload : List ℕ) → IsValidEvent list script (event.Write node slot payload)
      → AllByRecursion (λ b. b < 256) payload → count_by (is_write_at node slot) before + 1 < list.buffers
      → IsLine list before (event_words (event.Write node slot payload)) (says_event (event.Write node slot payload))
  unfolding event_words
  write_read node slot payload valid small few =
      let n = number-word node (omega (arith, valid.0, stands.nodes)) in
      let s = number-word slot (omega (arith, valid.1, stands.few)) in
      let h = hex-word payload small in
      let spells = hex-is_word payload small (omega (arith, valid.2, valid.3)) in
      let line =
      word_then (codes "write") _ _ (record { some = omega arith; parts = refl; feeds = refl; returns = refl })
      (word_then (decimal node) _ _ n.spells
      (word_then (decimal slot) _ _ s.spells (last_word (hex_bytes payload) spells))) in
      let size : (length (hex_bytes payload) == 2 * (plan_at list node).payload) ≡ true =
      grind (arith, nat_tests, h.size, valid.3) in
      let more : (list.buffers == 1) ≡ false = grind (arith, nat_tests, few) in
      subst (λ (l : List ℕ). IsLine list before l (says_event (event.Write node slot payload)))
      (sym (left-spaced (codes "write ") (decimal node) (decimal slot ∷ hex_bytes payload ∷ []))) (record {
        feeds = line.feeds;
        returns = line.returns;
        read =
            read_line list before _ _ _ (says_event (event.Write node slot payload)) line.cut refl refl (record {
              spelled = refl;
              slots = rw stands.slots refl;
              numbers = rw (n.is, s.is, h.is) refl;
              states = rw (n.value, s.value, h.value) refl;
              nodes = lt-ltb node (length list.slots) valid.0;
              payload = le-leb 1 (plan_at list node).payload valid.2;
              range = rw (stands.slots, lt-ltb slot script.slots valid.1, size) refl;
              once = refl;
              buffer = more;
              few = grind (arith, nat_tests, few);
            });
      })

  -- a host reads its status, or a node

  pub status_read : (node slot : ℕ) → IsValidEvent list script (event.Read node slot source.Status)
      → IsLine list before (event_words (event.Read node slot source.Status))
      (says_event (event.Read node slot source.Status))
  unfolding event_words
  status_read node slot valid =
      let n = number-word node (omega (arith, valid.0, stands.nodes)) in
      let s = number-word slot (omega (arith, valid.1, stands.few)) in
      let line =
      word_then (codes "read") _ _ (record { some = omega arith; parts = refl; feeds = refl; returns = refl })
      (word_then (decimal node) _ _ n.spells (word_then (decimal slot) _ _ s.spells
      (last_word (codes "status") (record { some = omega arith; parts = refl; feeds = refl; returns = refl })))) in
      subst (λ (l : List ℕ). IsLine list before l (says_event (event.Read node slot source.Status)))
      (sym (left-spaced (codes "read ") (decimal node) (decimal slot ∷ codes "status" ∷ []))) (record {
        feeds = line.feeds;
        returns = line.returns;
        read =
            read_line list before _ _ _ (says_event (event.Read node slot source.Status)) line.cut refl refl (record {
              spelled = refl;
              slots = rw stands.slots refl;
              numbers = rw (n.is, s.is) refl;
              states = rw (n.value, s.value) refl;
              nodes = both _ _ (lt-ltb node (length list.slots) valid.0) refl;
              payload = refl;
              range = rw (stands.slots, lt-ltb slot script.slots valid.1) refl;
              once = refl;
              buffer = refl;
              few = refl;
            });
      })

  pub node_read : (node slot k : ℕ) → IsValidEvent list script (event.Read node slot (source.Node k))
      → IsLine list before (event_words (event.Read node slot (source.Node k)))
      (says_event (event.Read node slot (source.Node k)))
  unfolding event_words
  node_read node slot k valid =
      let n = number-word node (omega (arith, valid.0, stands.nodes)) in
      let s = number-word slot (omega (arith, valid.1, stands.few)) in
      let f = number-word k (omega (arith, valid.2.0, stands.nodes)) in
      let named = number-not_status k (omega (arith, valid.2.0, stands.nodes)) in
      let other : (k == node) ≡ false = grind (arith, nat_tests, valid.2.2) in
      let line =
      word_then (codes "read") _ _ (record { some = omega arith; parts = refl; feeds = refl; returns = refl })
      (word_then (decimal node) _ _ n.spells
      (word_then (decimal slot) _ _ s.spells (last_word (decimal k) f.spells))) in
      subst (λ (l : List ℕ). IsLine list before l (says_event (event.Read node slot (source.Node k))))
      (sym (left-spaced (codes "read ") (decimal node) (decimal slot ∷ decimal k ∷ []))) (record {
        feeds = line.feeds;
        returns = line.returns;
        read =
            read_line list before _ _ _ (says_event (event.Read node slot (source.Node k))) line.cut refl refl (record {
              spelled = refl;
              slots = rw stands.slots refl;
              numbers = rw (n.is, s.is, f.is, named) refl;
              states = rw (n.value, s.value, named, f.value) refl;
              nodes = both _ _ (lt-ltb node (length list.slots) valid.0) (lt-ltb k (length list.slots) valid.2.0);
              payload = le-leb 1 (plan_at list k).payload valid.2.1;
              range = rw (stands.slots, lt-ltb slot script.slots valid.1, other) refl;
              once = refl;
              buffer = refl;
              few = refl;
            });
      })
