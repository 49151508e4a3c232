-- What the rings of a new port take, and their readers.
use Rattle.std.proofs.Common.{◌≡◌, ℕ, ◌<◌, ◌≤◌, Bool, true, false, cond, Option, Some, None, option_map, sym, ap, subst}
use Rattle.std.proofs.Common.{arith}
use Rattle.std.specs.Prelude.{◌==◌}
use Rattle.std.proofs.lemmas.Bool.{false≢true, ne_eqb}
use Rattle.nbw_ring.specs.declared.view.Shape.{Shape}
use Rattle.nbw_ring.specs.Numbers.{most_number, newest_number}
use Rattle.nbw_ring.specs.States.{WriterState, new_reader, new_writer}
use Rattle.ttp_world.specs.declared.medl.Medl.{Medl}
use Rattle.ttp_world.specs.Words.{word_count}
use Rattle.host_port.specs.Rings.{shape_of, IsNew}
use Rattle.host_port.specs.Writing.{HasRoom, Takes}
use Rattle.host_port.specs.Reading.{lent, IsLeft}

pub new_room : (shape : Shape) (w : Option WriterState) → IsNew (Some shape) w → HasRoom w
new_room shape None new = new
new_room shape (Some w) new =
    let few : newest_number (new_writer w.ring).messages < most_number = omega arith in
    subst (λ v. newest_number v.messages < most_number) (sym new.1) few

pub new_takes : (list : Medl) (size : ℕ) (w : Option WriterState) → size ≤ 240
    → IsNew (Some (shape_of list (word_count size))) w → Takes w size
new_takes list size None few new = new
new_takes list size (Some w) few new = (few, sym (ap (λ (s : Shape). s.width) new.0))

left_if : (w : Option WriterState) (reads : ℕ) (unread : Bool) → unread ≡ false → HasRoom w → 1 ≤ reads
    → IsLeft (cond unread None (option_map (λ (v : WriterState). new_reader v reads) w))
left_if w reads true is room some = absurd (false≢true (sym is))
left_if None reads false is room some = room
left_if (Some w) reads false is room some = some

pub lent_left : (w : Option WriterState) (reads : ℕ) → HasRoom w → 1 ≤ reads → IsLeft (lent w reads)
lent_left w reads room some =
    left_if w reads (reads == 0) (ne_eqb reads 0 (λ none. omega (arith, none, some))) room some
