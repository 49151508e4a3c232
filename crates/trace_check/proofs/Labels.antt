-- What is left of a text behind a line that is due, and what `?` hands on where there is none.
use Rattle.trace_check.proofs.Words.{◌≡◌, List, ◌++◌, ℕ, None, subst, sym, ap, ◌∙◌, none-some, after_label}
use Rattle.std.proofs.Common.{Result, Ok, Err}
use Rattle.std.specs.Prelude.{IfErr}
use Rattle.std.specs.Result.{IsErrAnd}
use Rattle.trace_check.proofs.FromBelow.{label-again}

pub passed_up : {T E : Type 0} (r : Result T E) (e : E) (P : E → Type 0) → IsErrAnd r (λ y. y ≡ e) → P e → IfErr r P
passed_up (Ok x) e P is p = absurd is
passed_up (Err y) e P is p = subst P (sym is) p

pub err_by_both : {T E : Type 0} (r : Result T E) (P Q R : E → Type 0) → ((e : E) → P e → Q e → R e) → IfErr r P
    → IfErr r Q → IfErr r R
err_by_both (Ok x) P Q R by p q = tt
err_by_both (Err e) P Q R by p q = by e p q

pub no_line : (line text : List ℕ) → after_label line text ≡ None → (more : List ℕ) → ¬ (text ≡ line ++ more)
no_line line text none more = λ is.
    none-some more (sym none ∙ ap (after_label line) is ∙ label-again line more)
