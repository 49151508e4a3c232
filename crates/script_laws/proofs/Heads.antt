-- The lines before the events: the slots, who is switched on, and whose clock drifts.
use Rattle.std.proofs.Common.{◌≡◌, ℕ, ◌<◌, ◌≤◌, ℤ, List, [], ◌∷◌, ◌++◌, length, None}
use Rattle.std.proofs.Common.{refl, sym, subst, arith, decimal, codes}
use Rattle.std.specs.Prelude.{nat_abs}
use Rattle.std.specs.Fmt.{signed_decimal}
use Rattle.std.proofs.lemmas.Bool.{lt-ltb, le-leb}
use Rattle.std.proofs.lemmas.Int.{ints}
use Rattle.ttp_world.specs.declared.medl.Medl.{Medl}
use Rattle.ttp_world.specs.declared.script.Script.{Script}
use Rattle.ttp_world.specs.declared.script.TheConstants.{SLOT_LIMIT, DRIFT_LIMIT}
use Rattle.ttp_world.specs.Script.{IsWithinSpan}
use Rattle.ttp_world.proofs.SmallTests.{both}
use Rattle.script_text.specs.Faults.{on_of, drift_stated}
use Rattle.script_text.specs.Statement.{Statement, says_slots, says_on, says_drift}
use Rattle.script_laws.proofs.Events.{Stands, left-spaced}
use Rattle.script_laws.proofs.Numbers.{number-word, signed-word}
use Rattle.script_laws.proofs.Statements.{IsLine, read_line}
use Rattle.script_laws.proofs.Words.{word_then, last_word}

pub slots_read : (list : Medl) (count : ℕ) → 1 ≤ count → count ≤ SLOT_LIMIT
    → IsLine list [] (codes "slots " ++ decimal count) (says_slots count)
slots_read list count some few =
    let n = number-word count (omega (arith, few)) in
    let line =
    word_then (codes "slots") _ _ (record { some = omega arith; parts = refl; feeds = refl; returns = refl })
    (last_word (decimal count) n.spells) in
    record {
      feeds = line.feeds;
      returns = line.returns;
      read =
          read_line list [] _ _ _ (says_slots count) line.cut refl refl (record {
            spelled = refl;
            slots = refl;
            numbers = n.is;
            states = rw n.value refl;
            nodes = refl;
            payload = refl;
            range = both _ _ (le-leb 1 count some) (le-leb count SLOT_LIMIT few);
            once = refl;
            buffer = refl;
            few = refl;
          });
    }

module _ (list : Medl) (script : Script) (before : List Statement) (stands : Stands list script before) where
  pub on_read : (node slot : ℕ) → node < length list.slots → slot < script.slots → on_of before node ≡ None
      → IsLine list before (codes "on " ++ decimal node ++ codes " " ++ decimal slot) (says_on node slot)
  on_read node slot is_node within new =
      let n = number-word node (omega (arith, is_node, stands.nodes)) in
      let s = number-word slot (omega (arith, within, stands.few)) in
      let line =
      word_then (codes "on") _ _ (record { some = omega arith; parts = refl; feeds = refl; returns = refl })
      (word_then (decimal node) _ _ n.spells (last_word (decimal slot) s.spells)) in
      subst (λ (l : List ℕ). IsLine list before l (says_on node slot))
      (sym (left-spaced (codes "on ") (decimal node) (decimal slot ∷ []))) (record {
        feeds = line.feeds;
        returns = line.returns;
        read =
            read_line list before _ _ _ (says_on node slot) line.cut refl refl (record {
              spelled = refl;
              slots = rw stands.slots refl;
              numbers = rw (n.is, s.is) refl;
              states = rw (n.value, s.value) refl;
              nodes = lt-ltb node (length list.slots) is_node;
              payload = refl;
              range = rw (stands.slots, lt-ltb slot script.slots within) refl;
              once = rw new refl;
              buffer = refl;
              few = refl;
            });
      })

  pub drift_read : (node : ℕ) (value : ℤ) → node < length list.slots → IsWithinSpan DRIFT_LIMIT value
      → drift_stated before node ≡ None
      → IsLine list before (codes "drift " ++ decimal node ++ codes " " ++ signed_decimal value) (says_drift node value)
  drift_read node value is_node within new =
      let small : nat_abs value ≤ DRIFT_LIMIT = omega (arith, ints, within.0, within.1) in
      let n = number-word node (omega (arith, is_node, stands.nodes)) in
      let v = signed-word value (omega (arith, small)) in
      let line =
      word_then (codes "drift") _ _ (record { some = omega arith; parts = refl; feeds = refl; returns = refl })
      (word_then (decimal node) _ _ n.spells (last_word (signed_decimal value) v.spells)) in
      subst (λ (l : List ℕ). IsLine list before l (says_drift node value))
      (sym (left-spaced (codes "drift ") (decimal node) (signed_decimal value ∷ []))) (record {
        feeds = line.feeds;
        returns = line.returns;
        read =
            read_line list before _ _ _ (says_drift node value) line.cut refl refl (record {
              spelled = refl;
              slots = rw stands.slots refl;
              numbers = rw (n.is, v.is) refl;
              states = rw (n.value, v.value) refl;
              nodes = lt-ltb node (length list.slots) is_node;
              payload = refl;
              range = le-leb (nat_abs value) DRIFT_LIMIT small;
              once = rw new refl;
              buffer = refl;
              few = refl;
            });
      })
