use Rattle.picture_text.proofs.Words.{ap, ◌∙◌, svg_line}
use Rattle.picture_text.specs.Picture.{ground_line}
use Rattle.ttp_base.proofs.Puts.{puts_both, puts_first}
use Rattle.picture_text.proofs.head.put_head.Goals as goal

pub returns : goal.returns
returns g c =
    let high = c.height-high.ensures in
    puts_both
    (puts_first (c.make_svg.ensures ∙ ap svg_line high) c.write.ensures
    (puts_first c.make_title.ensures c.write-2.ensures c.put_styles.ensures))
    (puts_first (c.make_ground.ensures ∙ ap ground_line high) c.write-3.ensures
    (puts_first c.make_first.ensures c.write-4.ensures
    (puts_first c.make_shown.ensures c.write-5.ensures
    (puts_first c.make_keep_said.ensures c.write-6.ensures c.put_back_said.ensures))))
