use Rattle.wave_text.proofs.Words.{◌≡◌, ℕ, ◌+◌, ◌-◌, ◌/◌, ◌%◌, List, [], ◌∷◌, ◌++◌, ◌∙◌, ap, sym, arith, append_assoc}
use Rattle.wave_text.proofs.Words.{append-nil, binary}
use Rattle.wave_text.proofs.Binary.{binary_step, no_binary}
use Rattle.wave_text.proofs.draft.+put_binary.Goals as goal

pub returns-then-digits-gt0-clause-text : goal.returns-then-digits-gt0-clause-text
returns-then-digits-gt0-clause-text t c =
    let line = c.args.line.now in
    let bit : List ℕ = (48 + c.args.v % 2) ∷ [] in
    c.put_bytes.ensures ∙ ap (λ (front : List ℕ). front ++ bit) c.put_binary.ensures.text
    ∙ append_assoc line (binary (c.args.digits - 1) (c.args.v / 2)) bit
    ∙ ap (λ (more : List ℕ). line ++ more) (sym (binary_step c.args.digits c.args.v c.if-digits-gt0.true))

pub returns-else-digits-gt0-clause-text : goal.returns-else-digits-gt0-clause-text
returns-else-digits-gt0-clause-text t c =
    let none : c.args.digits ≡ 0 = omega arith in
    rw (none, no_binary c.args.v) (sym (append-nil c.args.line.now))
