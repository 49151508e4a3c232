use Rattle.toml.specs.View.{table_view}
use Rattle.list_errors.proofs.Told.{top_told}
use Rattle.list_errors.proofs.file.tell_top.Goals as goal

pub returns-clause-told : goal.returns-clause-told
returns-clause-told c =
    top_told (table_view c.args.file.now) c.args.wrongs.now c.number.new.wrongs c.number-2.new.wrongs
    c.number-3.new.wrongs c.number-4.new.wrongs c.number-5.new.wrongs c.number-6.new.wrongs c.number-7.new.wrongs
    c.elements.new.wrongs c.tell_modes.new.wrongs (rw c.at_top.ensures at c.in_ok-version.ensures.told)
    (rw c.at_top-2.ensures at c.in_ok-number.ensures.told) (rw c.at_top-3.ensures at c.in_ok-number-2.ensures.told)
    (rw c.at_top-4.ensures at c.in_ok-number-3.ensures.told) (rw c.at_top-5.ensures at c.in_ok-number-4.ensures.told)
    (rw c.at_top-6.ensures at c.in_ok-number-5.ensures.told) (rw c.at_top-7.ensures at c.in_ok-number-6.ensures.told)
    c.in_ok-slots.ensures.told c.in_ok-modes.ensures.told
