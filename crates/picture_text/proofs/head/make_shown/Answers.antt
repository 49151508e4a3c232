use Rattle.picture_text.proofs.Words.{List, ℕ, ◌++◌, ◌-◌, [], ◌∷◌, ap, codes, sym, place_attributes, more_text}
use Rattle.std.proofs.Common.{decimal}
use Rattle.ttp_base.proofs.Gathered.{gather-behind}
use Rattle.picture_text.specs.Picture.{before_text, behind_text}
use Rattle.picture_text.proofs.head.make_shown.Goals as goal

pub returns : goal.returns
returns c =
    let span = c.args.layout.span in
    let slots = c.args.layout.head.slots in
    rw (
      c.close_text.ensures,
      c.put_more.ensures.text,
      c.put_behind.ensures.text,
      c.put_before.ensures.text,
      c.put_field-3.ensures.text,
      c.from-3.ensures,
      c.put_field-2.ensures.text,
      c.from-2.ensures,
      c.put_field.ensures.text,
      c.from.ensures,
      c.open_text.ensures.text,
    )
    (ap (λ (line : List ℕ). line ++ codes "</text>\n")
    (sym (gather-behind (codes "<text" ++ place_attributes 12 40 ++ codes ">")
    (codes "shown: slots " ∷ decimal span.first ∷ codes " to " ∷ decimal span.last ∷ codes " of 0 to "
    ∷ decimal (slots - 1) ∷ before_text span.first c.args.quiet ∷ behind_text span.last slots
    ∷ more_text c.args.strange ∷ []))))
