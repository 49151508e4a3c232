use Rattle.std.proofs.Common.{refl, subst}
use Rattle.line_reader.proofs.FromBelow.{ReadAs, closes_with, read_word, read_none}
use Rattle.line_form.specs.Forms.{Values}
use Rattle.line_reader.specs.Reading.{head_in}
use Rattle.line_reader.specs.TraceForms.{head_form, head_meaning}
use Rattle.line_reader.proofs.read.head_in.Goals as goal

pub returns : goal.returns
unfolding head_in
returns c =
    let vs : Values head_form = (
      c.byte-version.result,
      (
        c.byte-nodes.result,
        (c.byte-rounds.result, (c.number-slots.result, (c.hexed-schedule.result, tt))),
      ),
    ) in
    closes_with head_form head_meaning c.args.bytes.now _ vs _ c.close.result c.close.ensures refl
    (subst (λ before. ReadAs head_form before c.hexed-schedule.new.self vs) c.of-line.ensures
    (read_word _ _ _ _ _ _ _ _ c.byte-version.ensures.value c.byte-version.ensures.left
    (read_word _ _ _ _ _ _ _ _ c.byte-nodes.ensures.value c.byte-nodes.ensures.left
    (read_word _ _ _ _ _ _ _ _ c.byte-rounds.ensures.value c.byte-rounds.ensures.left
    (read_word _ _ _ _ _ _ _ _ c.number-slots.ensures.value c.number-slots.ensures.left
    (read_word _ _ _ _ _ _ _ _ c.hexed-schedule.ensures.value c.hexed-schedule.ensures.left (read_none _)))))))
