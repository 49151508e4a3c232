use Rattle.chart_text.proofs.Words.{[], ◌∷◌, ◌++◌, List, ℕ, ap, sym, codes, decimal, place_attributes, told_of}
use Rattle.chart_text.specs.Looks.{fault_look, look_text}
use Rattle.chart_text.specs.Worst.{lost_nodes}
use Rattle.ttp_base.proofs.Gathered.{gather-behind}
use Rattle.chart_text.proofs.listed.make_lost.Goals as goal

pub returns-clause-text : goal.returns-clause-text
returns-clause-text c =
    let fault = c.args.fault.now in
    rw (
      c.put_bytes-2.ensures.text,
      c.put_lost_nodes.ensures.text,
      c.put_bytes.ensures.text,
      c.bytes.ensures,
      c.clear.ensures.text,
      c.put_field.ensures.text,
      c.from.ensures,
      c.put_text.ensures,
      c.look_text.ensures.text,
      c.fault_look.ensures,
      c.open_text.ensures.text,
    )
    (ap (λ (line : List ℕ). line ++ codes "</text>\n")
    (sym (gather-behind (codes "<text" ++ place_attributes 300 c.args.y ++ codes ">")
    (look_text (fault_look c.args.size fault.shown) ∷ codes ", healthy nodes lost: " ∷ decimal fault.shown.hurt
    ∷ lost_nodes (told_of fault) ∷ []))))
