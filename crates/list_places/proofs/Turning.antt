-- The loops over a text, a turn at a time.
use Rattle.std.proofs.Common.{◌≡◌, ℕ, suc, Bool, true, false, ◌==◌, List, [], ◌∷◌, length, drop, Ok}
use Rattle.toml_parser.specs.Lexical.{first, skip_blank}
use Rattle.toml_parser.specs.Strings.{Key}
use Rattle.toml_walk.specs.Walk.{ReadStatement, statement, member, element}
use Rattle.list_places.specs.Marks.{Marked, key_place, first_part, element_place, element_keys, member_places}
use Rattle.list_places.specs.Marks.{element_places, behind_header, by_header, with_begun_slot, with_these_slots}
use Rattle.list_places.specs.Marks.{with_top, after_header, after_statement, marks_from}

module _ (n : ℕ) (text : List ℕ) where
  pub member_on : (k : Key) (rest : List ℕ) → (first (skip_blank text) == 125) ≡ false
      → member (skip_blank text) ≡ Ok (k, rest)
      → member_places (suc n) text ≡ key_place (first_part k) (length (skip_blank text)) ∷ member_places n rest
  unfolding member_places
  member_on k rest other read = rw (other, read)

  pub element_on : (rest : List ℕ) → (first (skip_blank text) == 93) ≡ false → element (skip_blank text) ≡ Ok rest
      → element_places (suc n) text ≡ element_place (skip_blank text) ∷ element_places n rest
  unfolding element_places
  element_on rest other read = rw (other, read)

  pub marks_on_statement : (m : Marked) (s : ReadStatement) (rest : List ℕ) → (length (skip_blank text) == 0) ≡ false
      → statement (skip_blank text) ≡ Ok (s, rest)
      → marks_from (suc n) m text ≡ marks_from n (after_statement m (length (skip_blank text)) s) rest
  unfolding marks_from
  marks_on_statement m s rest some read = rw (some, read)

pub keys_inside : (text : List ℕ) → (first text == 123) ≡ true → element_keys text
    ≡ member_places (length text) (drop 1 text)
keys_inside text is = rw is

pub no_keys : (text : List ℕ) → (first text == 123) ≡ false → element_keys text ≡ []
no_keys text other = rw other

pub header_of_slot : (m : Marked) (left : ℕ) (key : Key) (b : Bool) → b ≡ true
    → after_header m left key b ≡ with_begun_slot (with_top (behind_header m true) left key) left
header_of_slot m left key b is = rw is

pub header_of_none : (m : Marked) (left : ℕ) (key : Key) (b : Bool) → b ≡ false
    → after_header m left key b
    ≡ with_these_slots (with_top (behind_header m false) left key) (by_header m.slots key left)
header_of_none m left key b is = rw is
