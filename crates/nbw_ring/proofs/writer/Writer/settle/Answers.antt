use Rattle.std.proofs.Common.{ℕ, ◌*◌, List, length, sym, ap, ◌∙◌}
use Rattle.nbw_ring.specs.declared.view.Message.{Message}
use Rattle.nbw_ring.specs.Pairs.{pairs_of}
use Rattle.nbw_ring.specs.Seats.{reading_of}
use Rattle.nbw_ring.proofs.Shelves.{words_count, pairs_again}
use Rattle.nbw_ring.proofs.writer.Writer.settle.Goals as goal

pub pair_up-requires : goal.pair_up-requires
pair_up-requires c =
    let got : List Message = (reading_of c.reader.inside.seat.me.0).got in
    ap length (c.deref-2.ensures.value ∙ c.reader.invariant.words)
    ∙ (words_count c.reader.inside.width got c.reader.invariant.wide
    ∙ ap (λ l. length l * c.reader.inside.width) (sym (c.deref.ensures.value ∙ c.reader.invariant.numbers)))

pub returns-clause-pairs : goal.returns-clause-pairs
returns-clause-pairs c =
    let got : List Message = (reading_of c.reader.inside.seat.me.0).got in
    let width : ℕ = c.reader.inside.width in
    c.in_ok-receipts.ensures
    ∙ ((λ i. pairs_of ((c.deref.ensures.value ∙ c.reader.invariant.numbers) i)
    ((c.deref-2.ensures.value ∙ c.reader.invariant.words) i) width)
    ∙ (pairs_again width got c.reader.invariant.wide ∙ ap (λ r. r.got) c.reader.view_is))
