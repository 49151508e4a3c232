use Rattle.std.proofs.Common.{◌≡◌, List, ℕ, ◌++◌, rules, ap, ◌∙◌, refl, w64, to_z, of_z, decimal}
use Rattle.std.specs.Fmt.{signed_decimal}
use Rattle.std.proofs.lemmas.Int.{to_z-of_z}
use Rattle.line_form.specs.Forms.{spelled_line}
use Rattle.margin_text.proofs.FromBelow.{puts, put_word, put_end}
use Rattle.clock_margins.specs.Forms.{margins_head_form, margins_head_values}
use Rattle.margin_text.proofs.lines.form_head.Goals as goal

pub returns : goal.returns
returns c =
    let list = c.args.list.now in
    let values = margins_head_values list c.args.script.now c.args.asked in
    let drift : to_z w64 (of_z w64 list.drift) ≡ list.drift = search (rules, to_z-of_z) in
    let window : to_z w64 (of_z w64 list.window) ≡ list.window = search (rules, to_z-of_z) in
    puts margins_head_form values c.clear.new.self c.put_text.new.self
    (put_word _ _ _ _ _ _ _ _ _ c.put_number.ensures.text (ap decimal (c.from.ensures ∙ c.nodes.ensures))
    (put_word _ _ _ _ _ _ _ _ _ c.put_number-2.ensures.text (ap decimal c.from-2.ensures)
    (put_word _ _ _ _ _ _ _ _ _ c.put_first.ensures.text refl
    (put_word _ _ _ _ _ _ _ _ _ c.put_last.ensures.text refl
    (put_word _ _ _ _ _ _ _ _ _ c.put_signed.ensures.text (ap signed_decimal drift)
    (put_word _ _ _ _ _ _ _ _ _ c.put_signed-2.ensures.text (ap signed_decimal window)
    (put_word _ _ _ _ _ _ _ _ _ c.put_number-3.ensures.text (ap decimal (c.from-3.ensures ∙ c.requires.reach))
    (put_end _ _ c.put_text.ensures))))))))
    ∙ ap (λ (l : List ℕ). l ++ spelled_line margins_head_form values) c.clear.ensures
