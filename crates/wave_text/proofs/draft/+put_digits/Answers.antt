use Rattle.wave_text.proofs.Words.{◌≡◌, ℕ, ◌+◌, ◌-◌, ◌/◌, ◌%◌, List, [], ◌∷◌, ◌++◌, ◌∙◌, ap, sym, arith, append_assoc}
use Rattle.wave_text.proofs.Words.{append-nil, binary_number}
use Rattle.wave_text.proofs.Binary.{number_step, number_digit, no_number}
use Rattle.wave_text.proofs.draft.+put_digits.Goals as goal

pub returns-then-v-ge2-clause-text : goal.returns-then-v-ge2-clause-text
returns-then-v-ge2-clause-text t c =
    let line = c.args.line.now in
    let bit : List ℕ = (48 + c.args.v % 2) ∷ [] in
    c.put_bytes.ensures ∙ ap (λ (front : List ℕ). front ++ bit) c.put_digits.ensures.text
    ∙ append_assoc line (binary_number (c.args.more - 1) (c.args.v / 2)) bit
    ∙ ap (λ (more : List ℕ). line ++ more) (sym (number_step c.args.more c.args.v c.if-more-gt0.true c.if-v-ge2.true))

pub returns-else-v-ge2-clause-text : goal.returns-else-v-ge2-clause-text
returns-else-v-ge2-clause-text t c =
    c.put_bytes-else-v-ge2.ensures
    ∙ ap (λ (more : List ℕ). c.args.line.now ++ more)
    (sym (number_digit c.args.more c.args.v c.if-more-gt0.true (omega arith)))

pub returns-else-more-gt0-clause-text : goal.returns-else-more-gt0-clause-text
returns-else-more-gt0-clause-text t c =
    let none : c.args.more ≡ 0 = omega arith in
    rw (none, no_number c.args.v) (sym (append-nil c.args.line.now))
