use Rattle.std.proofs.Common.{◌≡◌, ℕ, ◌+◌, ◌/◌, ◌<◌, [], ◌∷◌, ◌++◌, vec_len, refl, sym, ap, ◌∙◌, subst, arith}
use Rattle.nbw_ring.specs.declared.view.Shape.{Shape}
use Rattle.nbw_ring.specs.declared.view.Reading.{Reading}
use Rattle.nbw_ring.specs.declared.view.View.TheVariants.{Reader}
use Rattle.nbw_ring.specs.Numbers.{limit}
use Rattle.nbw_ring.specs.Seats.{reading_of}
use Rattle.nbw_ring.specs.Steps.{with_first, with_last, attempt_of}
use Rattle.nbw_ring.proofs.Calls.{reader_next, at_ring, view_is, got_last, loaded_next}
use Rattle.nbw_ring.proofs.Keeps.{first_loads, last_loads}
use Rattle.nbw_ring.proofs.Shelves.{shelved_more}
use Rattle.nbw_ring.proofs.reader.Reader.try_read.Goals as goal

pub load-begin-requires : goal.load-begin-requires
load-begin-requires g c =
    let ring = c.ring.inside in
    let table = ring.table.shared in
    let seat = c.self.inside.seat in
    let y : Reading = reading_of seat.me.0 in
    let at =
    at_ring ring.table.shared.table_id seat.table_id ring.shape y.shape _ _ c.self.invariant.own
    c.ring.view_is c.deref-ring.ensures in
    let words = c.ring.invariant.2 in (
      at.0,
      omega arith,
      first_loads table.key table.table_id.slots seat.id seat.me y
          (view_is seat.me (Reader y) c.self.invariant.seated),
    )

pub load-end-requires : goal.load-end-requires
load-end-requires g c =
    let ring = c.ring.inside in
    let table = ring.table.shared in
    let seat = c.self.inside.seat in
    let after = c.load_words.new.seat in
    let y : Reading = reading_of seat.me.0 in
    let at =
    at_ring ring.table.shared.table_id seat.table_id ring.shape y.shape _ _ c.self.invariant.own
    c.ring.view_is c.deref-ring.ensures in
    let words = c.ring.invariant.2 in
    let begin : ℕ = c.load-begin.result in
    let z : Reading = record (with_first begin y) {
      words = (reading_of after.me.0).words;
      steps = y.steps + 1 + ring.shape.width;
    } in
    let loaded =
    loaded_next begin seat.me c.load-begin.new.seat.me after.me y
    (reading_of after.me.0).words ring.shape.width c.self.invariant.seated
    c.load-begin.ensures.2.0 c.load_words.ensures.seat in (
      c.load_words.ensures.table ∙ (c.load-begin.ensures.0 ∙ at.0),
      omega arith,
      last_loads table.key table.table_id.slots after.id after.me z (view_is after.me (Reader z) loaded)
          (c.load_words.ensures.wide ∙ ap (λ (s : Shape). s.width) (sym c.ring.invariant.1)),
    )

pub invariant_of-self-2 : goal.invariant_of-self-2
invariant_of-self-2 g c =
    let ring = c.ring.inside in
    let seat = c.self.inside.seat in
    let y : Reading = reading_of seat.me.0 in
    let after : Reading = reading_of c.load_words.new.seat.me.0 in
    let at =
    at_ring ring.table.shared.table_id seat.table_id ring.shape y.shape _ _ c.self.invariant.own
    c.ring.view_is c.deref-ring.ensures in
    let begin : ℕ = c.load-begin.result in
    let z : Reading = record (with_first begin y) { words = after.words; steps = y.steps + 1 + ring.shape.width } in
    let loaded =
    loaded_next begin seat.me c.load-begin.new.seat.me c.load_words.new.seat.me y after.words
    ring.shape.width c.self.invariant.seated
    c.load-begin.ensures.2.0 c.load_words.ensures.seat in
    let ended =
    reader_next (with_last c.load-end.result) c.load_words.new.seat.me c.load-end.new.seat.me z loaded
    c.load-end.ensures.2.0 in
    let near : c.load-end.result < limit ring.shape (begin / 2) = c.if-end-limit.false in
    let below : c.load-end.result < limit z.shape (z.first / 2) =
    subst (λ (s : Shape). c.load-end.result < limit s (begin / 2)) (sym at.1) near in
    let width : ring.shape.width ≡ c.self.inside.width =
    ap (λ (s : Shape). s.width) (sym at.1) ∙ sym c.self.invariant.width in
    let room = c.requires.room in
    let spare : c.self.inside.spare ≡ c.args.self.now.spare = ap (λ r. r.spare) c.self.view_is in
    shelved_more c.self.inside c.load-end.new.seat c.push_reserved.new.self c.load_words.new.words
    (record z {
      seen = c.load-end.result;
      floor = z.first / 2;
      got = z.got ++ attempt_of z ∷ [];
      steps = z.steps + 1;
    })
    (attempt_of z)
    c.self.invariant (omega arith)
    (c.load-end.ensures.0 ∙ (c.load_words.ensures.table ∙ c.load-begin.ensures.0)) refl refl
    (ended ∙ ap (λ v. (Reader v, [])) (got_last c.load-end.result z below))
    (c.load_words.ensures.wide ∙ width)
    c.push_reserved.ensures.items c.load_words.ensures.loaded c.push_reserved.ensures.len
    c.push_reserved.ensures.capacity
    (c.load_words.ensures.more ∙ ap (λ k. vec_len c.self.inside.words + k) width) c.load_words.ensures.room
