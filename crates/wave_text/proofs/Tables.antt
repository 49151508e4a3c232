-- Tables of what hosts do, with one line more.
use Rattle.wave_text.proofs.Words.{◌≡◌, ℕ, ◌<◌, List, [], ◌∷◌, ◌++◌, Option, Some, None, length, set, refl, sym}
use Rattle.wave_text.proofs.Words.{ap, subst, ◌∙◌, arith, inl, inr, length-set, slice_get, slice_get-get_or}
use Rattle.wave_text.proofs.Words.{get_or_from_slice_get, eqb_tells, HostLine, Message, What, larger, later}
use Rattle.wave_text.proofs.Words.{message_in_line, most_bytes, newest_host_message, size_of, HasMost, HasNewest}
use Rattle.wave_text.proofs.Words.{HasPlace, host_in, message_said, table_place, what_in, HasSourceLetter}
use Rattle.std.proofs.Common.{◌≢◌}
use Rattle.std.proofs.lemmas.List.{get_or-set_other}
use Rattle.std.proofs.lemmas.Option.{slice_get_within}
use Rattle.wave_text.proofs.FromBelow.{some_same}
use Rattle.ttp_world.specs.declared.script.Source.TheVariants as source
use Rattle.shown_slot.specs.declared.host.What.TheVariants as what
use Rattle.wave_text.specs.Places.{in_row}
use Rattle.wave_text.proofs.HostLines.{its_message, its_port, most-append, most-other, newest-append, newest-other}
use Rattle.wave_text.specs.declared.place.TheConstants.{PLACES}
use Rattle.ttp_world.proofs.ListFacts.{slice_get-set_same as set_there}

-- Lists as tables.

pub set_elsewhere : {X : Type 0} (xs : List X) (i j : ℕ) (v x : X) → j ≢ i → slice_get xs j ≡ Some x
    → slice_get (set xs i v) j ≡ Some x
set_elsewhere xs i j v x other is =
    let less = slice_get_within xs j x is in
    let within : j < length (set xs i v) = omega (arith, less, length-set xs i v) in
    slice_get-get_or (set xs i v) j x within
    ∙ ap (λ (y : _). Some y) (get_or-set_other xs i j v x other ∙ get_or_from_slice_get xs j x x is)

-- Places.

in_row-lt : (does : What) → HasSourceLetter does → in_row does < 26
in_row-lt what.Write has = omega arith
in_row-lt (what.Read source.Status) has = omega arith
in_row-lt (what.Read (source.Node p)) has = omega (arith, has)

pub place-lt : (k : ℕ) (does : What) → HasPlace k does → table_place k does < PLACES
place-lt k does has = omega (arith, has.0, in_row-lt does has.1)

in_row-same : (does did : What) → in_row does ≡ in_row did → does ≡ did
in_row-same what.Write what.Write is = refl
in_row-same what.Write (what.Read source.Status) is = absurd (omega (arith, is))
in_row-same what.Write (what.Read (source.Node q)) is = absurd (omega (arith, is))
in_row-same (what.Read source.Status) what.Write is = absurd (omega (arith, is))
in_row-same (what.Read source.Status) (what.Read source.Status) is = refl
in_row-same (what.Read source.Status) (what.Read (source.Node q)) is = absurd (omega (arith, is))
in_row-same (what.Read (source.Node p)) what.Write is = absurd (omega (arith, is))
in_row-same (what.Read (source.Node p)) (what.Read source.Status) is = absurd (omega (arith, is))
in_row-same (what.Read (source.Node p)) (what.Read (source.Node q)) is =
    let same : p ≡ q = omega (arith, is) in ap (λ (k : ℕ). what.Read (source.Node k)) same

place-same : (k h : ℕ) (does did : What) → HasPlace k does → HasPlace h did → table_place k does ≡ table_place h did
    → (k ≡ h) × (does ≡ did)
place-same k h does did has had is =
    let a = in_row-lt does has.1 in
    let b = in_row-lt did had.1 in
    (omega (arith, is, a, b), in_row-same does did (omega (arith, is, a, b)))

-- a line of a port without a place has no message of one that has a place
unplaced : (k : ℕ) (does : What) (shown : HostLine) → HasPlace k does → ¬ (HasPlace (host_in shown) (what_in shown))
    → message_in_line k does shown ≡ None
unplaced k does shown has none = by_message (message_in_line k does shown) refl
  where
    by_message : (m : Option Message) → message_in_line k does shown ≡ m → m ≡ None
    by_message None is = refl
    by_message (Some m) is =
        let port = its_port k does shown m is in
        absurd (none (subst (λ (d : What). HasPlace (host_in shown) d) port.1
        (subst (λ (h : ℕ). HasPlace h does) port.0 has)))

elsewhere : (k : ℕ) (does : What) (shown : HostLine) → table_place k does ≢ table_place (host_in shown) (what_in shown)
    → message_in_line k does shown ≡ None
elsewhere k does shown other = by_message (message_in_line k does shown) refl
  where
    by_message : (m : Option Message) → message_in_line k does shown ≡ m → m ≡ None
    by_message None is = refl
    by_message (Some m) is =
        let port = its_port k does shown m is in
        absurd (other (ap (λ (h : ℕ). table_place h does) port.0 ∙ ap (table_place (host_in shown)) port.1))

-- Messages.

pub newest-unplaced : (messages : List (Option Message)) (lines : List HostLine)
    (shown : HostLine) (k : ℕ) (does : What)
    → HasPlace k does → ¬ (HasPlace (host_in shown) (what_in shown)) → HasNewest messages lines k does
    → HasNewest messages (lines ++ shown ∷ []) k does
newest-unplaced messages lines shown k does has none is =
    is ∙ ap (λ (m : Option Message). Some m) (sym (newest-other k does lines shown (unplaced k does shown has none)))

pub newest-placed : (messages : List (Option Message)) (lines : List HostLine) (shown : HostLine) (k : ℕ) (does : What)
    → HasPlace k does → HasPlace (host_in shown) (what_in shown) → length messages ≡ PLACES
    → HasNewest messages lines k does
    → HasNewest (set messages (table_place (host_in shown) (what_in shown))
    (message_in_line (host_in shown) (what_in shown) shown))
    (lines ++ shown ∷ []) k does
newest-placed messages lines shown k does has had size is =
    let at = table_place (host_in shown) (what_in shown) in
    let message : Option Message = message_in_line (host_in shown) (what_in shown) shown in
    let noted : List (Option Message) = set messages at message in
    elim (eqb_tells (table_place k does) at) [
      | inl same ↦
          (let port = place-same k (host_in shown) does (what_in shown) has had same.1 in
          let there : slice_get noted at ≡ Some message =
          set_there messages at message (omega (arith, size, place-lt (host_in shown) (what_in shown) had)) in
          let own : message_in_line k does shown ≡ message =
          ap (λ (h : ℕ). message_in_line h does shown) port.0
          ∙ ap (λ (d : What). message_in_line (host_in shown) d shown) port.1 in
          let newest : newest_host_message k does (lines ++ shown ∷ []) ≡ message =
          newest-append k does lines shown ∙ ap (later (newest_host_message k does lines)) (own ∙ its_message shown)
          ∙ sym (its_message shown) in
          ap (slice_get noted) same.1 ∙ there ∙ ap (λ (m : Option Message). Some m) (sym newest))
      | inr other ↦
          (set_elsewhere messages at (table_place k does) message (newest_host_message k does lines) other.1 is
          ∙ ap (λ (m : Option Message). Some m)
          (sym (newest-other k does lines shown (elsewhere k does shown other.1))))
    ]

-- Sizes.

pub most-unplaced : (sizes : List (Option ℕ)) (lines : List HostLine) (shown : HostLine) (k : ℕ) (does : What)
    → HasPlace k does → ¬ (HasPlace (host_in shown) (what_in shown)) → HasMost sizes lines k does
    → HasMost sizes (lines ++ shown ∷ []) k does
most-unplaced sizes lines shown k does has none is =
    is ∙ ap (λ (m : Option ℕ). Some m) (sym (most-other k does lines shown (unplaced k does shown has none)))

-- the size that the table has of this line's port
pub most-placed : (sizes : List (Option ℕ)) (lines : List HostLine)
    (shown : HostLine) (size : Option ℕ) (k : ℕ) (does : What)
    → HasPlace k does → HasPlace (host_in shown) (what_in shown) → length sizes ≡ PLACES
    → slice_get sizes (table_place (host_in shown) (what_in shown)) ≡ Some size
    → HasMost sizes lines k does
    → HasMost (set sizes (table_place (host_in shown) (what_in shown))
    (larger size (Some (length (message_said shown).payload))))
    (lines ++ shown ∷ []) k does
most-placed sizes lines shown size k does has had few here is =
    let at = table_place (host_in shown) (what_in shown) in
    let most : Option ℕ = larger size (Some (length (message_said shown).payload)) in
    let noted : List (Option ℕ) = set sizes at most in
    elim (eqb_tells (table_place k does) at) [
      | inl same ↦
          (let port = place-same k (host_in shown) does (what_in shown) has had same.1 in
          let there : slice_get noted at ≡ Some most =
          set_there sizes at most (omega (arith, few, place-lt (host_in shown) (what_in shown) had)) in
          let before : size ≡ most_bytes k does lines =
          some_same size (most_bytes k does lines) (sym here ∙ ap (slice_get sizes) (sym same.1) ∙ is) in
          let own : message_in_line k does shown ≡ Some (message_said shown) =
          ap (λ (h : ℕ). message_in_line h does shown) port.0
          ∙ ap (λ (d : What). message_in_line (host_in shown) d shown) port.1
          ∙ its_message shown in
          let all : most_bytes k does (lines ++ shown ∷ []) ≡ most =
          most-append k does lines shown
          ∙ ap (λ (m : Option Message). larger (most_bytes k does lines) (size_of m)) own
          ∙ ap (λ (m : Option ℕ). larger m (Some (length (message_said shown).payload))) (sym before) in
          ap (slice_get noted) same.1 ∙ there ∙ ap (λ (m : Option ℕ). Some m) (sym all))
      | inr other ↦
          (set_elsewhere sizes at (table_place k does) most (most_bytes k does lines) other.1 is
          ∙ ap (λ (m : Option ℕ). Some m) (sym (most-other k does lines shown (elsewhere k does shown other.1))))
    ]
