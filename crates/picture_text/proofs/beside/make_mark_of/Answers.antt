use Rattle.picture_text.proofs.Words.{refl}
use Rattle.picture_text.proofs.beside.make_mark_of.Goals as goal

pub returns : goal.returns
returns c =
    rw (c.close_mark.ensures, c.put_host_text.ensures.text, c.open_mark.ensures.text) refl
