use Rattle.std.proofs.Common.{arith, ap, sym, ◌∙◌, ◌≡◌, ◌≢◌, [], ◌∷◌, ℕ, zero, suc, List}
use Rattle.std.proofs.Common.{map, get_or, Option, Some, slice_get, unwrap_or}
use Rattle.std.specs.List.{Contains}
use Rattle.uses.specs.declared.ring.newest.Measurement.{Measurement}
use Rattle.uses.specs.Measured.{measured_words}
use Rattle.uses.proofs.ring.newest.seen_in.Goals as goal

-- the measurement of two words
abbrev read : List ℕ → Measurement
read words = record { value = get_or words 0 0; time = get_or words 1 0 }

-- words that are one of these messages are read as one of these measurements
found : (measured : List Measurement) (n : ℕ) (words : List ℕ) → slice_get (map measured_words measured) n ≡ Some words
    → Contains measured (read words)
found [] n words e = grind (arith, e)
found (m ∷ measured) zero words e = (0, omega arith, ap (λ (o : Option (List ℕ)). read (unwrap_or o [])) e)
found (m ∷ measured) (suc n) words e =
    let (k, within, is) = found measured n words e in
    (suc k, omega (arith, within), is)

-- words of one of the messages behind the opening one are read as one of these measurements
behind : (opening : List ℕ) (measured : List Measurement) (n : ℕ) (words : List ℕ) → n ≢ 0
    → slice_get (opening ∷ map measured_words measured) n ≡ Some words → Contains measured (read words)
behind opening measured zero words some e = grind (arith, some)
behind opening measured (suc n) words some e = found measured n words e

pub returns-in_default-len2 : goal.returns-in_default-len2
returns-in_default-len2 c =
    λ opening measured is.
    behind opening measured c.args.pair.now.number c.words.result.now
    (grind (arith, c.number.ensures, c.in_default-len2.is-0)) (is ∙ ap Some (sym c.words.ensures))
