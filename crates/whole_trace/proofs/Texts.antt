-- The first line of a text that is left.
use Rattle.std.proofs.Common.{◌≡◌, ℕ, suc, ◌<◌, Bool, true, false, cond, List}
use Rattle.std.proofs.Common.{[], ◌∷◌, ◌++◌, length, get_or, take, drop}
use Rattle.std.proofs.Common.{Some, None, refl, sym, ap, ◌∙◌, arith, length-append}
use Rattle.std.specs.List.{concat}
use Rattle.std.specs.Prelude.{Option, option_map, IfSome, ◌-◌}
use Rattle.std.specs.Str.{bytes_eq}
use Rattle.std.proofs.lemmas.Bool.{false_from_ne_true}
use Rattle.std.proofs.lemmas.Bool.Decides.{nat_tests}
use Rattle.std.proofs.lemmas.List.Sums.{position_or_len_is}
use Rattle.memchr.specs.Find.{IsFirstByte, is_byte}
use Rattle.ttp_base.specs.Text.{Lines, newline, is_newline, before_lines, lines_of}
use Rattle.line_reader.specs.declared.trace_line.TraceLine.{TraceLine}
use Rattle.line_reader.specs.declared.trace_line.NodeLine.{NodeLine}
use Rattle.line_reader.specs.Reading.{or_else, line_in, node_in, read_line_in, write_line_in, head_in, kept_in}
use Rattle.line_reader.specs.Reading.{broken_in, owed_in, refused_in}
use Rattle.whole_trace.proofs.FromBelow.{concat-lines_of, IsCut, cut-Some, cut-None}
use Rattle.whole_trace.specs.Alike.{said_by}
use Rattle.whole_trace.specs.Whole.{value_of}

uncons : (lines : Lines) → 0 < length lines → lines ≡ get_or lines 0 [] ∷ drop 1 lines
uncons [] some = absurd (omega (arith, some))
uncons (line ∷ lines) some = refl

before-some : (b : ℕ) (lines : Lines) → 0 < length (before_lines b lines)
before-some b [] = omega arith
before-some b (line ∷ lines) = omega arith

lines-some : (text : List ℕ) → 0 < length text → 0 < length (lines_of text)
lines-some [] some = absurd (omega (arith, some))
lines-some (b ∷ text) some = by_feed (is_newline b)
  where
    by_feed : (feed : Bool) → 0 < length (cond feed (newline ∷ lines_of text) (before_lines b (lines_of text)))
    by_feed true = omega arith
    by_feed false = before-some b (lines_of text)

-- what is cut off the front of a text that has some bytes is its first line
pub cut-front : (text line rest : List ℕ) → get_or (lines_of text) 0 [] ≡ line → drop 1 (lines_of text) ≡ lines_of rest
    → 0 < length text → lines_of text ≡ line ∷ lines_of rest
cut-front text line rest first others some =
    uncons (lines_of text) (lines-some text some)
    ∙ ap (λ (l : List ℕ). l ∷ drop 1 (lines_of text)) first ∙ ap (λ (ls : Lines). line ∷ ls) others

some-bytes : (line : List ℕ) (v : TraceLine) → value_of line ≡ Some v → 0 < length line
some-bytes [] v is = cc
some-bytes (b ∷ line) v is = omega arith

-- a text from which a line with a value is cut has some bytes
pub text-some : (text line : List ℕ) (v : TraceLine) → get_or (lines_of text) 0 [] ≡ line → value_of line ≡ Some v
    → 0 < length text
text-some [] line v first is = let none : value_of [] ≡ Some v = ap value_of first ∙ is in
    absurd (omega (arith, some-bytes [] v none))
text-some (b ∷ text) line v first is = omega arith

pub rest-shorter : (text line rest : List ℕ) (v : TraceLine) → lines_of text ≡ line ∷ lines_of rest
    → value_of line ≡ Some v → length rest < length text
rest-shorter text line rest v cut is =
    let whole : text ≡ line ++ rest =
    sym (concat-lines_of text) ∙ ap concat cut ∙ ap (λ (bytes : List ℕ). line ++ bytes) (concat-lines_of rest) in
    omega (arith, ap length whole, length-append line rest, some-bytes line v is)

-- A text cut by a search for its first line feed.

pub cut-behind_feed : (text : List ℕ) (end : ℕ) → IsFirstByte (is_byte 10) text (Some end)
    → IsCut text (take (suc end) text) (drop (suc end) text)
cut-behind_feed text end here =
    let within = here.0.high in
    let at = position_or_len_is is_newline text end 0 (omega arith)
    (λ k below. false_from_ne_true (is_newline (get_or text k 0))
    (here.0.before k (omega arith) below)) (λ _. here.1) in
    cut-Some text end (grind (arith, nat_tests))

pub cut-no_feed : (text : List ℕ) → IsFirstByte (is_byte 10) text None → IsCut text text []
cut-no_feed text nowhere =
    let at = position_or_len_is is_newline text (length text) 0 (omega arith)
    (λ k below. false_from_ne_true (is_newline (get_or text k 0)) (nowhere k (omega arith) below))
    (λ within. absurd (omega arith)) in
    cut-None text (grind (arith, nat_tests))

-- The line of a node.

-- what is read as the line of a node is what the line says
pub node-said : (text : List ℕ) (o : Option NodeLine) → bytes_eq (drop (length text - 1) text) newline ≡ true
    → option_map said_by o ≡ node_in (take (length text - 1) text) → IfSome o (λ n. value_of text ≡ Some (said_by n))
unfolding line_in
node-said text None feed is = tt
node-said text (Some n) feed is =
    let bytes = take (length text - 1) text in
    rw feed (ap (λ (o : Option TraceLine). or_else o (or_else (read_line_in bytes) (or_else (write_line_in bytes) (
    or_else (head_in bytes) (or_else (kept_in bytes) (or_else (broken_in bytes) (
    or_else (owed_in bytes) (refused_in bytes)))))))) (sym is))
