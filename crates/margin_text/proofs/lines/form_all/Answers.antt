use Rattle.std.proofs.Common.{List, ℕ, ◌++◌, rules, ap, ◌∙◌}
use Rattle.line_form.specs.Forms.{spelled_line}
use Rattle.margin_text.proofs.FromBelow.{puts, putting}
use Rattle.clock_margins.specs.Forms.{all_form, all_values}
use Rattle.margin_text.proofs.lines.form_all.Goals as goal

pub returns : goal.returns
returns c =
    let values = all_values c.args.asked c.args.total.now in
    puts all_form values c.clear.new.self c.put_text.new.self (search (putting, rules) depth 60 fits 100000)
    ∙ ap (λ (l : List ℕ). l ++ spelled_line all_form values) c.clear.ensures
