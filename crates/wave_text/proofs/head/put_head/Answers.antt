use Rattle.wave_text.proofs.Words.{◌∙◌, ap, puts_both, puts_one, comment_line, header_text}
use Rattle.line_reader.specs.TraceLines.{keep_text}
use Rattle.wave_text.proofs.head.put_head.Goals as goal

pub returns : goal.returns
returns g c =
    puts_both
    (puts_both
    (puts_both
    (puts_both c.put.ensures
    (puts_one (ap comment_line (c.bytes.ensures ∙ c.header_text.ensures.text ∙ ap header_text c.head.ensures.value))
    c.put_comment.ensures))
    (puts_one (ap comment_line (c.bytes-2.ensures ∙ c.keep_text.ensures.text ∙ ap keep_text c.keep.ensures))
    c.put_comment-2.ensures))
    c.put_back.ensures)
    c.put-2.ensures
