use Rattle.std.proofs.Common.{◌≡◌, ◌<◌, ◌≤◌, List, length, sym, ap, ◌∙◌, subst, arith}
use Rattle.nbw_ring.specs.declared.view.Message.{Message}
use Rattle.nbw_ring.specs.Seats.{reading_of}
use Rattle.nbw_ring.specs.Pairs.{words_in}
use Rattle.nbw_ring.proofs.Shelves.{newest_words, newest_slice}
use Rattle.nbw_ring.proofs.reader.Reader.words.Goals as goal

pub overflow_sub-result : goal.overflow_sub-result
overflow_sub-result c =
    let got = (reading_of c.self.inside.seat.me.0).got in
    let some_pair : 0 < length got =
    subst (λ (g : List Message). 0 < length g) (ap (λ r. r.got) (sym c.self.view_is)) c.requires in
    let inside : c.self.inside.width ≤ length (words_in got) =
    (newest_words c.self.inside.width got c.self.invariant.wide some_pair).2 in
    let same : length c.self.inside.words.items ≡ length (words_in got) = ap length c.self.invariant.words in
    let shown : length c.deref.result.now ≡ length c.self.inside.words.items = ap length c.deref.ensures.value in
    let long = c.deref.ensures.len in
    let len = c.len.ensures in
    omega arith

pub returns : goal.returns
returns c =
    newest_slice c.self.inside.width
    (reading_of c.self.inside.seat.me.0).got c.args.self.now.got c.deref.result.now c.len.result c.self.invariant.wide
    (ap (λ r. r.got) (sym c.self.view_is)) c.requires
    (c.deref.ensures.value ∙ c.self.invariant.words) (c.len.ensures ∙ sym c.deref.ensures.len)
