use Rattle.controller.proofs.Words.{Some, length, refl, sym, ap, ◌∙◌, arith, slice_get_read}
use Rattle.controller.proofs.Parts.{ArePassed-more, ArePassed-coming, all-copied}
use Rattle.controller.proofs.seat.copy_seats.Goals as goal

pub copy_from-requires : goal.copy_from-requires
copy_from-requires c =
    let from = c.args.from.now in
    c.requires.lists c.loop-k.k _ _ (ArePassed-coming c.loop-k.invariant c.index-to-k.result (omega arith))
    (slice_get_read from (length from) c.loop-k.k c.index-from-k.result refl (omega (arith, c.requires.count))
    c.index-from-k.is)

pub loop-k-preserved : goal.loop-k-preserved
loop-k-preserved c =
    let from = c.args.from.now in
    ArePassed-more c.loop-k.invariant c.index-to-k.result (omega arith)
    (slice_get_read from (length from) c.loop-k.k c.index-from-k.result refl (omega (arith, c.requires.count))
    c.index-from-k.is ∙ ap Some (sym c.copy_from.ensures))

pub returns : goal.returns
returns c = all-copied c.args.from.now c.loop-k.invariant (omega arith) c.requires.count
