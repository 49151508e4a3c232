use Rattle.std.proofs.Common.{None, refl}
use Rattle.commands.specs.Files.{list_file}
use Rattle.commands.specs.Plan.{outside, ends}
use Rattle.commands.specs.Texts.{alone}
use Rattle.lab_top.proofs.FromBelow.{bytes_came, no_bytes}
use Rattle.lab_top.specs.Forms.{check_ending}
use Rattle.lab_top.specs.Texts.{ttplab}
use Rattle.lab_top.proofs.check.check_list.Goals as goal

pub returns-in-Ok : goal.returns-in-Ok
returns-in-Ok g c =
    let later = outside (g.L.Library.files c.load_list_text.new.library) (g.K.Sink.output c.show_list.new.out) in
    let shown = rw c.as_slice.ensures.value at c.show_list.ensures in
    bytes_came ttplab (list_file c.args.list.now)
    (λ text. ends (check_ending (record { name = c.args.list.now; text = text }) None)) _ _ c.in-Ok.text.items
    c.in-Ok.ensures.ok later (alone c.show_list.result) (refl, shown)

pub returns-in-Err : goal.returns-in-Err
returns-in-Err g c =
    no_bytes ttplab (list_file c.args.list.now)
    (λ text. ends (check_ending (record { name = c.args.list.now; text = text }) None)) _ _ c.in-Err.status
    c.in-Err.ensures.err
