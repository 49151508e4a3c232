-- The lines on a generated run are lines.
use Rattle.ttp_top.proofs.Terms.{◌≡◌, ℕ, true, false, List, [], ◌++◌, refl, sym, subst, arith, length, ◌==◌, codes}
use Rattle.ttp_top.proofs.Terms.{decimal, list_any-append, set_bits, Lines, newline, is_line, is_line-append, has}
use Rattle.ttp_top.proofs.Terms.{has-decimal, Medl, Script, world, legal-none, legal-whole, generated, AreLines, Totals}
use Rattle.ttp_top.proofs.Terms.{IsSample, asked_line, sent_line, hosts_line, summary_lines, totals_of}
use Rattle.ttp_base.specs.Text.{hex}
use Rattle.ttp_base.proofs.Numerals.{has-hex}
use Rattle.ttp_world.specs.Hypothesis.{keeps}
use Rattle.ttp_world.specs.Trace.{member_digits}
use Rattle.ttp_world.proofs.TraceLines.{keep_line-IsLine}

ends : (x : List ℕ) → has 10 x ≡ false → is_line (x ++ newline) ≡ true
ends x none = is_line-append x newline none refl

asked-by_words : (slots number : List ℕ) → has 10 slots ≡ false → has 10 number ≡ false
    → is_line (codes "sample slots " ++ slots ++ codes " number " ++ number ++ newline) ≡ true
asked-by_words slots number p q =
    ends (codes "sample slots " ++ slots ++ codes " number " ++ number) (simp (list_any-append (λ c. c == 10), p, q))

sent-by_words : (sent left members : List ℕ) → has 10 sent ≡ false → has 10 left ≡ false → has 10 members ≡ false
    → is_line (codes "sent " ++ sent ++ codes " left " ++ left ++ codes " members " ++ members ++ newline) ≡ true
sent-by_words sent left members p q r =
    ends (codes "sent " ++ sent ++ codes " left " ++ left ++ codes " members " ++ members)
    (simp (list_any-append (λ c. c == 10), p, q, r))

hosts-by_words : (writes reads : List ℕ) → has 10 writes ≡ false → has 10 reads ≡ false
    → is_line (codes "writes " ++ writes ++ codes " reads " ++ reads ++ newline) ≡ true
hosts-by_words writes reads p q =
    ends (codes "writes " ++ writes ++ codes " reads " ++ reads) (simp (list_any-append (λ c. c == 10), p, q))

asked_line-is_line : (slots number : ℕ) → is_line (asked_line slots number) ≡ true
asked_line-is_line slots number =
    asked-by_words (decimal slots) (decimal number) (has-decimal 10 slots (omega arith))
    (has-decimal 10 number (omega arith))

sent_line-is_line : (list : Medl) (totals : Totals) → is_line (sent_line list totals) ≡ true
sent_line-is_line list totals =
    sent-by_words (decimal totals.sent) (decimal totals.left) (hex (member_digits list) (set_bits totals.members))
    (has-decimal 10 totals.sent (omega arith)) (has-decimal 10 totals.left (omega arith))
    (has-hex 10 (member_digits list) (set_bits totals.members) (omega arith))

hosts_line-is_line : (totals : Totals) → is_line (hosts_line totals) ≡ true
hosts_line-is_line totals =
    hosts-by_words (decimal totals.writes) (decimal totals.reads) (has-decimal 10 totals.writes (omega arith))
    (has-decimal 10 totals.reads (omega arith))

summary-each : (list : Medl) (script : Script) (slots number : ℕ) (totals : Totals)
    → AreLines (summary_lines list script slots number totals)
summary-each list script slots number totals = (
  asked_line-is_line slots number,
  (
    sent_line-is_line list totals,
    (hosts_line-is_line totals, (keep_line-IsLine (keeps list script), tt)),
  ),
)

-- each text of a sample is lines, since there are legal numbers
pub samples-each : (list : Medl) (slots number : ℕ) (lines : Lines) → IsSample list slots number lines → AreLines lines
samples-each list slots number lines is =
    let script = generated list slots number in
    let run = legal-whole list script [] script.slots (legal-none list script) in
    let count : length run.whole ≡ script.slots = omega (arith, run.slots) in
    subst AreLines (sym (is run.whole (record { count = count; legal = run.legal })))
    (summary-each list script slots number (totals_of list script (world list script run.whole)))
