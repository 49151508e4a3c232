use Rattle.chart_text.proofs.Words.{◌++◌, ◌≡◌, ◌≢◌, ◌∙◌, ◌∷◌, [], ℕ, List, Bool, cond, ap, sym, codes, decimal, ne_eqb}
use Rattle.ttp_base.proofs.Gathered.{gather-behind}
use Rattle.chart_text.specs.Worst.{list_title}
use Rattle.chart_text.proofs.listed.put_list_title.Goals as goal

title-some : (n : ℕ) → n ≢ 0 → list_title n ≡ codes "the worst of " ++ decimal n ++ codes " harmful faults"
title-some n some =
    ap (λ (b : Bool). cond b (codes "no fault is harmful")
    (codes "the worst of " ++ decimal n ++ codes " harmful faults"))
    (ne_eqb n 0 some)

pub returns-else-harmful-eq0-clause-text : goal.returns-else-harmful-eq0-clause-text
returns-else-harmful-eq0-clause-text c =
    rw (c.put_text-else-harmful-eq0.ensures, c.put_field.ensures.text)
    (sym (gather-behind c.args.line.now (codes "the worst of " ∷ decimal c.args.harmful ∷ codes " harmful faults" ∷ []))
    ∙ ap (λ (t : List ℕ). c.args.line.now ++ t) (sym (title-some c.args.harmful c.if-harmful-eq0.false)))
