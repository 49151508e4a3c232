use Rattle.std.proofs.Common.{List, ℕ, map, ap, refl}
use Rattle.line_form.specs.Kinds.{hexed, spell, listed_words}
use Rattle.margin_text.proofs.FromBelow.{puts, put_word, put_list, put_end}
use Rattle.ttp_base.specs.NodeSet.{set_bits}
use Rattle.ttp_world.specs.Trace.{member_digits}
use Rattle.clock_margins.specs.Forms.{outcome_form, outcome_values}
use Rattle.margin_text.proofs.lines.put_outcome.Goals as goal

pub returns : goal.returns
returns c =
    let list = c.args.list.now in
    puts (outcome_form list) (outcome_values list c.args.outcome.now) c.args.line.now c.put_text.new.self
    (put_list _ _ _ _ _ _ _ _ _ _ c.put_nodes.ensures.text refl
    (put_list _ _ _ _ _ _ _ _ _ _ c.put_nodes-2.ensures.text refl
    (put_word _ _ _ _ _ _ _ _ _ c.put_word.ensures.text c.truth_word.ensures.text
    (put_word _ _ _ _ _ _ _ _ _ c.put_sets.ensures.text
    (ap (λ (sets : List (List ℕ)). listed_words (map (spell (hexed (member_digits list))) (map set_bits sets)))
    c.as_slice.ensures)
    (put_end _ _ c.put_text.ensures)))))
