use Rattle.std.proofs.Common.{◌≡◌, true, false, ◌+◌, get_or, drop, sym, ap, ◌∙◌, arith}
use Rattle.std.specs.Prelude.{nat_le}
use Rattle.std.proofs.lemmas.Bool.{eq-eqb, ne_eqb, le-leb, lt-leb}
use Rattle.whole_campaign.specs.Words.{is_space, length_of_words}
use Rattle.whole_campaign.proofs.Lengths.{length-letter, length-space, length-last, length-all}
use Rattle.whole_campaign.proofs.cut.length_of_words.Goals as goal
use Rattle.whole_campaign.proofs.cut.length_of_words.Goals.{then-bytes-i-eq32+else-left-le1, else-bytes-i-eq32}

pub returns-then-left-le1-clause-value : goal.returns-then-left-le1-clause-value
returns-then-left-le1-clause-value c =
    let bytes = c.args.bytes.now in
    let i = c.loop-i.i in
    let left = c.loop-i.left in
    let space : is_space (get_or bytes i 0) ≡ true = eq-eqb (get_or bytes i 0) 32 c.if-bytes-i-eq32.true in
    let last : nat_le left 1 ≡ true = le-leb left 1 c.if-left-le1.true in
    sym (length-last left bytes i c.loop-i-test.true space last) ∙ c.loop-i.invariant

pub loop-i-preserved : goal.loop-i-preserved
loop-i-preserved c =
    let bytes = c.args.bytes.now in
    let i = c.loop-i.i in
    let left = c.loop-i.left in
    elim c.if-bytes-i-eq32.branch [
      | then-bytes-i-eq32+else-left-le1 w ↦ (
          let space : is_space (get_or bytes i 0) ≡ true = eq-eqb (get_or bytes i 0) 32 w.if-bytes-i-eq32.true in
          let more : nat_le left 1 ≡ false = lt-leb left 1 w.if-left-le1.false in
          ap (λ n. i + 1 + length_of_words n (drop (i + 1) bytes)) w.left-is
          ∙ sym (length-space left bytes i c.loop-i-test.true space more) ∙ c.loop-i.invariant)
      | else-bytes-i-eq32 w ↦ (
          let letter : is_space (get_or bytes i 0) ≡ false = ne_eqb (get_or bytes i 0) 32 w.if-bytes-i-eq32.false in
          ap (λ n. i + 1 + length_of_words n (drop (i + 1) bytes)) w.left-is
          ∙ sym (length-letter left bytes i c.loop-i-test.true letter) ∙ c.loop-i.invariant)
    ]

pub returns-clause-value : goal.returns-clause-value
returns-clause-value c =
    let bytes = c.args.bytes.now in
    let i = c.loop-i.i in
    let all = length-all c.loop-i.left bytes i (omega (arith, c.loop-i-test.false)) in
    omega (arith, all, c.loop-i.invariant, c.loop-i.auto.i-end, c.loop-i-test.false)
