use Rattle.chart_text.proofs.Words.{[], ◌∷◌, ◌++◌, List, ℕ, ap, sym, codes, decimal, place_attributes}
use Rattle.picture_text.specs.Picture.{class_of}
use Rattle.ttp_base.proofs.Gathered.{gather-behind}
use Rattle.chart_text.proofs.head.make_harm.Goals as goal

pub returns : goal.returns
returns c =
    rw (
      c.close_text.ensures,
      c.put_number.ensures,
      c.from-2.ensures,
      c.put_many-3.ensures.text,
      c.from.ensures,
      c.put_many-2.ensures.text,
      c.put_many.ensures.text,
      c.open_text_of.ensures.text,
    )
    (ap (λ (line : List ℕ). line ++ codes "</text>\n")
    (sym (gather-behind (codes "<text" ++ class_of (codes "said") ++ place_attributes 12 20 ++ codes ">")
    (decimal c.args.harmful ∷ codes " of " ∷ decimal c.args.all
    ∷ codes " faults are harmful; the most healthy nodes that one of them costs: " ∷ decimal c.args.most
    ∷ codes " of " ∷ decimal c.args.nodes ∷ []))))
