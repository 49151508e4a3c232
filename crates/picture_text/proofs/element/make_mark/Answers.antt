use Rattle.picture_text.proofs.Words.{refl}
use Rattle.picture_text.proofs.element.make_mark.Goals as goal

pub returns : goal.returns
returns c =
    rw (c.close_mark.ensures, c.put_text.ensures, c.open_mark.ensures.text) refl
