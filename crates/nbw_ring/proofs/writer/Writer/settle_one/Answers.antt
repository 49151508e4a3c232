use Rattle.std.proofs.Common.{◌≡◌, ◌≤◌, List, length, slice_get, sym, ap, ◌∙◌, subst}
use Rattle.nbw_ring.specs.declared.view.Message.{Message}
use Rattle.nbw_ring.specs.Pairs.{pairs_of}
use Rattle.nbw_ring.specs.Seats.{reading_of}
use Rattle.nbw_ring.proofs.Shelves.{only_pair}
use Rattle.nbw_ring.proofs.writer.Writer.settle_one.Goals as goal

pub returns-clause-pair : goal.returns-clause-pair
returns-clause-pair c =
    let got : List Message = (reading_of c.reader.inside.seat.me.0).got in
    let same : got ≡ c.args.reader.got = ap (λ r. r.got) c.reader.view_is in
    let few = c.requires.few in
    c.first_pair.ensures
    ∙ ((λ i. slice_get (pairs_of ((c.deref-2.ensures.value ∙ c.reader.invariant.numbers) i)
    (c.reader.invariant.words i) (length (c.reader.invariant.words i))) 0)
    ∙ (only_pair got (subst (λ (g : List Message). length g ≤ 1) (sym same) few) ∙ ap (λ g. slice_get g 0) same))
