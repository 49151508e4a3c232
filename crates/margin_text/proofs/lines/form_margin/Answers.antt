use Rattle.std.proofs.Common.{List, ℕ, ◌++◌, ap, ◌∙◌, refl, decimal}
use Rattle.line_form.specs.Forms.{spelled_line}
use Rattle.margin_text.proofs.FromBelow.{puts, put_word, put_end}
use Rattle.clock_margins.specs.Forms.{margin_form, margin_values}
use Rattle.margin_text.proofs.lines.form_margin.Goals as goal

pub returns : goal.returns
returns c =
    let values = margin_values c.args.sweep c.args.margin.now in
    puts margin_form values c.clear.new.self c.put_text.new.self
    (put_word _ _ _ _ _ _ _ _ _ c.put_word.ensures.text c.clock_word_of.ensures.text
    (put_word _ _ _ _ _ _ _ _ _ c.put_number.ensures.text (ap decimal c.from.ensures)
    (put_word _ _ _ _ _ _ _ _ _ c.put_slot.ensures.text refl
    (put_word _ _ _ _ _ _ _ _ _ c.put_number-2.ensures.text refl
    (put_word _ _ _ _ _ _ _ _ _ c.put_number-3.ensures.text refl
    (put_word _ _ _ _ _ _ _ _ _ c.put_number-4.ensures.text refl
    (put_word _ _ _ _ _ _ _ _ _ c.put_number-5.ensures.text refl
    (put_word _ _ _ _ _ _ _ _ _ c.put_least.ensures.text refl
    (put_word _ _ _ _ _ _ _ _ _ c.put_greatest.ensures.text refl
    (put_word _ _ _ _ _ _ _ _ _ c.put_least-2.ensures.text refl
    (put_word _ _ _ _ _ _ _ _ _ c.put_greatest-2.ensures.text refl
    (put_word _ _ _ _ _ _ _ _ _ c.put_least-3.ensures.text refl
    (put_word _ _ _ _ _ _ _ _ _ c.put_greatest-3.ensures.text refl
    (put_word _ _ _ _ _ _ _ _ _ c.put_number-6.ensures.text refl
    (put_end _ _ c.put_text.ensures)))))))))))))))
    ∙ ap (λ (l : List ℕ). l ++ spelled_line margin_form values) c.clear.ensures
