-- The line on a node that may be two-faced.
use Rattle.ttp_top.proofs.Terms.{◌≡◌, ℕ, true, false, List, [], ◌∷◌, ◌++◌, length, refl, ap, sym, subst, ◌∙◌, inl, inr}
use Rattle.ttp_top.proofs.Terms.{arith, ◌==◌, codes, decimal, list_any-append, Output, Lines, newline, is_line}
use Rattle.ttp_top.proofs.Terms.{is_line-append, has, has-decimal, Medl, Script, IsLegalRun, Numbers, legal-none}
use Rattle.ttp_top.proofs.Terms.{legal-whole, Faced, faced_of, seen_of, AreLines, Says, line_ending, BenchAnswer}
use Rattle.ttp_top.proofs.Terms.{ttpbench, precision_ending, faced_line, broken_line, answer_line, IsPrecision}
use Rattle.std.specs.Fmt.{signed_decimal}
use Rattle.ttp_base.proofs.Numerals.{has-signed}
use Rattle.two_faced.specs.declared.faced.Faced.TheVariants as faced
use Rattle.two_faced.specs.declared.seen.Seen.{Seen}
use Rattle.two_faced.specs.Faced.{bound}
use Rattle.ttp_top.specs.Calls.Precision.{precision_line}

-- It is one line.

ends : (x : List ℕ) → has 10 x ≡ false → is_line (x ++ newline) ≡ true
ends x none = is_line-append x newline none refl

yes-by_words : (node start bound seen slot : List ℕ) → has 10 node ≡ false → has 10 start ≡ false
    → has 10 bound ≡ false → has 10 seen ≡ false → has 10 slot ≡ false
    → is_line (codes "precision node " ++ node ++ codes " start " ++ start ++ codes " bound " ++ bound
    ++ codes " seen " ++ seen ++ codes " slot " ++ slot ++ newline)
    ≡ true
yes-by_words node start bound seen slot p q r s t =
    ends (codes "precision node " ++ node ++ codes " start " ++ start ++ codes " bound " ++ bound
    ++ codes " seen " ++ seen ++ codes " slot " ++ slot)
    (simp (list_any-append (λ c. c == 10), p, q, r, s, t))

no-by_words : (rule slot : List ℕ) → has 10 rule ≡ false → has 10 slot ≡ false
    → is_line (codes "precision no F" ++ rule ++ codes " " ++ slot ++ newline) ≡ true
no-by_words rule slot p q =
    ends (codes "precision no F" ++ rule ++ codes " " ++ slot) (simp (list_any-append (λ c. c == 10), p, q))

answer_line-is_line : (list : Medl) (node : ℕ) (answer : Faced) (seen : Seen)
    → is_line (answer_line list node answer seen) ≡ true
answer_line-is_line list node (faced.Yes start) seen =
    yes-by_words (decimal node) (decimal start) (signed_decimal (bound list)) (signed_decimal seen.value)
    (decimal seen.slot) (has-decimal 10 node (omega arith)) (has-decimal 10 start (omega arith))
    (has-signed 10 (bound list) (omega arith)) (has-signed 10 seen.value (omega arith))
    (has-decimal 10 seen.slot (omega arith))
answer_line-is_line list node (faced.No rule slot) seen =
    no-by_words (decimal rule) (decimal slot) (has-decimal 10 rule (omega arith)) (has-decimal 10 slot (omega arith))

-- each text of a test is one line, since there are legal numbers
pub precisions-each : (list : Medl) (script : Script) (node : ℕ) (lines : Lines) → IsPrecision list script node lines
    → AreLines lines
precisions-each list script node lines is =
    let run = legal-whole list script [] script.slots (legal-none list script) in
    let count : length run.whole ≡ script.slots = omega (arith, run.slots) in
    let line = answer_line-is_line list node (faced_of list script node) (seen_of list script run.whole node) in
    subst AreLines (sym (is run.whole (record { count = count; legal = run.legal }))) (line, tt)

-- It says what the test answers, and what is seen.

pub faced_line-is : (list : Medl) (script : Script) (node start : ℕ) (seen : Seen) (numbers : Numbers)
    → faced.Yes start ≡ faced_of list script node → seen ≡ seen_of list script numbers node
    → faced_line list node start seen ≡ precision_line list script node numbers
faced_line-is list script node start seen numbers answers is =
    ap (faced_line list node start) is
    ∙ ap (λ (answer : Faced). answer_line list node answer (seen_of list script numbers node)) answers

pub broken_line-is : (list : Medl) (script : Script) (node rule slot : ℕ) (numbers : Numbers)
    → faced.No rule slot ≡ faced_of list script node
    → broken_line rule slot ≡ precision_line list script node numbers
broken_line-is list script node rule slot numbers answers =
    ap (λ (answer : Faced). answer_line list node answer (seen_of list script numbers node)) answers

-- It was said.

pub precision-said : (list : Medl) (script : Script) (node : ℕ) (line : List ℕ) (before now : Output)
    (answer : BenchAnswer)
    → ((numbers : Numbers) → IsLegalRun list script numbers → line ≡ precision_line list script node numbers)
    → Says ttpbench (line_ending 0 line) before now answer
    → Says ttpbench (precision_ending node list script) before now answer
precision-said list script node line before now answer is (inl showed) =
    inl (record {
      status = showed.status;
      text = record {
        lines = showed.text.lines;
        among = λ numbers legal. showed.text.among ∙ ap (λ (l : List ℕ). l ∷ []) (is numbers legal);
        wrote = showed.text.wrote;
      };
      kept = showed.kept;
    })
precision-said list script node line before now answer is (inr stopped) =
    inr (record {
      status = stopped.status;
      text = record {
        lines = stopped.text.lines;
        among = λ numbers legal. stopped.text.among ∙ ap (λ (l : List ℕ). l ∷ []) (is numbers legal);
        cut = stopped.text.cut;
      };
      none = stopped.none;
    })
