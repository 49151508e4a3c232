-- A text of whole lines, cut into these lines.
use Rattle.std.proofs.Common.{◌≡◌, ℕ, suc, ◌-◌, ◌<◌, ◌==◌, false, List, [], ◌∷◌, ◌++◌, length}
use Rattle.std.proofs.Common.{Some, refl, ◌∙◌, zero, arith, length-append}
use Rattle.std.specs.Prelude.{slice_index}
use Rattle.std.specs.List.{position, position_or_len}
use Rattle.std.proofs.lemmas.Bool.Decides.{nat_tests}
use Rattle.ttp_base.proofs.Numerals.{has}
use Rattle.ttp_world.proofs.SmallTests.{or_parts}
use Rattle.script_text.specs.Lines.{is_line_feed, without_return, lines_of_file}
use Rattle.script_laws.proofs.FromBelow.{lines_of-cut}
use Rattle.script_laws.proofs.Words.{take-front, drop-front}

feed_at : (text rest : List ℕ) → has 10 text ≡ false → position_or_len is_line_feed (text ++ 10 ∷ rest) ≡ length text
feed_at [] rest none = refl
feed_at (x ∷ text) rest none =
    let both = or_parts (x == 10) (has 10 text) none in
    rw both.0 (omega (arith, feed_at text rest both.1))

found : (xs : List ℕ) (i : ℕ) → position_or_len is_line_feed xs ≡ i → i < length xs → position is_line_feed xs ≡ Some i
found xs i here within = grind (arith, nat_tests)

-- no byte of it is that one
none_at : (b : ℕ) (text : List ℕ) (i : ℕ) → has b text ≡ false → (0 == b) ≡ false → (slice_index text i == b) ≡ false
none_at b [] i none low = low
none_at b (x ∷ text) zero none low = (or_parts (x == b) (has b text) none).0
none_at b (x ∷ text) (suc i) none low = none_at b text i (or_parts (x == b) (has b text) none).1 low

no_return : (text : List ℕ) → has 13 text ≡ false → without_return text ≡ text
no_return text none = rw (none_at 13 text (length text - 1) none refl) refl

pub line_then : (text rest : List ℕ) → has 10 text ≡ false → has 13 text ≡ false
    → lines_of_file (text ++ 10 ∷ rest) ≡ text ∷ lines_of_file rest
line_then text rest feeds returns =
    let all = text ++ 10 ∷ rest in
    let within : length text < length all = omega (arith, length-append text (10 ∷ rest)) in
    lines_of-cut all (length text) (found all (length text) (feed_at text rest feeds) within)
    ∙ rw (take-front text 10 rest, drop-front text 10 rest, no_return text returns) refl
