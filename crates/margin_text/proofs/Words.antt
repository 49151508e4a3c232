-- The words of tests.
use Rattle.std.proofs.Common.{◌≡◌, ℕ, ◌-◌, List, [], ◌∷◌, ◌++◌, length, take, refl, ap}
use Rattle.std.proofs.Common.{sym, ◌∙◌, append_assoc, append-nil, length-append, arith}
use Rattle.std.specs.Prelude.{codes, decimal}
use Rattle.ttp_base.specs.Text.{newline}
use Rattle.line_form.specs.Forms.{worded}
use Rattle.ttp_world.specs.declared.keep.Back.TheVariants as back
use Rattle.ttp_world.specs.declared.keep.Keep.TheVariants as keep
use Rattle.ttp_world.specs.Trace.{keep_line, back_line}
use Rattle.campaign.specs.CostText.{unended}

front : (text more : List ℕ) → take (length text) (text ++ more) ≡ text
front [] more = refl
front (b ∷ text) more = ap (λ (rest : List ℕ). b ∷ rest) (front text more)

unended-line : (text : List ℕ) → unended (text ++ newline) ≡ text
unended-line text =
    let long = length-append text newline in
    let one : length (text ++ newline) - 1 ≡ length text = omega (arith, long) in
    ap (λ (n : ℕ). take n (text ++ newline)) one ∙ front text newline

one-word : (label word line : List ℕ) → line ≡ worded [] label word → line ≡ unended (label ++ (word ++ newline))
unfolding worded
one-word label word line is =
    is ∙ sym (unended-line (label ++ word)) ∙ ap unended (append_assoc label word newline)

two-words : (label word between other first line : List ℕ) → first ≡ worded [] label word
    → line ≡ worded first between other → line ≡ unended (label ++ word ++ between ++ other ++ newline)
unfolding worded
two-words label word between other first line is and =
    and ∙ ap (λ (l : List ℕ). l ++ between ++ other) is ∙ sym (unended-line (label ++ word ++ between ++ other))

pub kept-yes : (start : ℕ) (line : List ℕ) → line ≡ worded [] (codes "keeps yes start ") (decimal start)
    → line ≡ unended (keep_line (keep.Yes start))
kept-yes start line is = one-word (codes "keeps yes start ") (decimal start) line is

pub kept-no : (rule slot : ℕ) (first line : List ℕ) → first ≡ worded [] (codes "keeps no H") (decimal rule)
    → line ≡ worded first (codes " ") (decimal slot) → line ≡ unended (keep_line (keep.No rule slot))
kept-no rule slot first line is and =
    two-words (codes "keeps no H") (decimal rule) (codes " ") (decimal slot) first line is and

pub owed-yes : (start : ℕ) (line : List ℕ) → line ≡ worded [] (codes "returns yes start ") (decimal start)
    → line ≡ unended (back_line (back.Yes start))
owed-yes start line is = one-word (codes "returns yes start ") (decimal start) line is

pub owed-no : (rule slot : ℕ) (first line : List ℕ) → first ≡ worded [] (codes "returns no Q") (decimal rule)
    → line ≡ worded first (codes " ") (decimal slot) → line ≡ unended (back_line (back.No rule slot))
owed-no rule slot first line is and =
    two-words (codes "returns no Q") (decimal rule) (codes " ") (decimal slot) first line is and

-- six words behind another, without a line feed
pub six-words : (text a b c d e f g h j k l m : List ℕ)
    → worded (worded (worded (worded (worded (worded text a b) c d) e f) g h) j k) l m
    ≡ text ++ (a ++ (b ++ (c ++ (d ++ (e ++ (f ++ (g ++ (h ++ (j ++ (k ++ (l ++ (m ++ []))))))))))))
unfolding worded
six-words text a b c d e f g h j k l m = simp (append_assoc, append-nil)
