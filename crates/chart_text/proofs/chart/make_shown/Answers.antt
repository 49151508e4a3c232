use Rattle.chart_text.proofs.Words.{◌-◌, [], ◌∷◌, ◌++◌, List, ℕ, ap, sym, codes}
use Rattle.chart_text.proofs.Words.{decimal, get_or, length, place_attributes}
use Rattle.chart_text.proofs.Words.{marked_slots}
use Rattle.chart_text.specs.Chart.{hidden_text}
use Rattle.ttp_base.proofs.Gathered.{gather-behind}
use Rattle.chart_text.proofs.chart.make_shown.Goals as goal

pub returns : goal.returns
returns c =
    let shown = marked_slots c.args.marks.now in
    rw (
      c.close_text.ensures,
      c.put_hidden.ensures.text,
      c.put_number.ensures,
      c.from-5.ensures,
      c.put_many-4.ensures.text,
      c.from-4.ensures,
      c.put_many-3.ensures.text,
      c.from-3.ensures,
      c.put_many-2.ensures.text,
      c.from-2.ensures,
      c.put_many.ensures.text,
      c.from.ensures,
      c.open_text.ensures.text,
      c.marked_slot-last.ensures,
      c.marked_slot-first.ensures,
      c.requires.many,
    )
    (ap (λ (line : List ℕ). line ++ codes "</text>\n")
    (sym (gather-behind (codes "<text" ++ place_attributes 12 40 ++ codes ">")
    (decimal c.args.extent.size.nodes ∷ codes " nodes, " ∷ decimal c.args.extent.size.slots ∷ codes " slots, shown: "
    ∷ decimal (length shown) ∷ codes " of them, " ∷ decimal (get_or shown 0 0) ∷ codes " to "
    ∷ decimal (get_or shown (length shown - 1) 0) ∷ hidden_text c.args.hidden ∷ []))))
