use Rattle.chart_text.proofs.Words.{◌∙◌, ◌∷◌, [], ℕ, List, ◌++◌, codes, ap, sym, append_assoc, place_attributes}
use Rattle.ttp_base.proofs.Gathered.{gather-behind}
use Rattle.chart_text.proofs.head.make_own.Goals as goal

pub returns-clause-text : goal.returns-clause-text
returns-clause-text c =
    let front = codes "<text" ++ place_attributes 12 60 ++ codes ">" in
    let named = codes "<title>" ++ c.args.own.text.now in
    let said = codes "</title>without any of them: " in
    rw (
      c.put_bytes-5.ensures.text,
      c.put_bytes-4.ensures.text,
      c.put_bytes-3.ensures.text,
      c.put_bytes-2.ensures.text,
      c.put_bytes.ensures.text,
      c.bytes.ensures,
      c.clear.ensures.text,
      c.put_text.ensures,
      c.open_text.ensures.text,
    )
    (ap (λ (l : List ℕ). l ++ codes "</text>\n")
    (sym (gather-behind front (codes "<title>" ∷ c.args.own.text.now ∷ said ∷ c.args.own.cost.now ∷ []))
    ∙ ap (λ (l : List ℕ). front ++ (l ++ c.args.own.cost.now))
    (sym (append_assoc named (codes "</title>") (codes "without any of them: ")))))
