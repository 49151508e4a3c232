use Rattle.commands.specs.Files.{list_file}
use Rattle.commands.specs.Plan.{outside}
use Rattle.commands.specs.Texts.{alone}
use Rattle.lab_top.proofs.FromBelow.{bytes_came, no_bytes}
use Rattle.lab_top.specs.Forms.{beside_plan}
use Rattle.lab_top.specs.Texts.{ttplab}
use Rattle.lab_top.proofs.check.check_both.Goals as goal

pub returns-in-Ok : goal.returns-in-Ok
returns-in-Ok g c =
    let later = outside (g.L.Library.files c.check_beside.new.library) (g.K.Sink.output c.check_beside.new.out) in
    let follows = rw c.as_slice.ensures.value at c.check_beside.ensures in
    bytes_came ttplab (list_file c.args.list.now)
    (λ text. beside_plan (record { name = c.args.list.now; text = text }) c.args.script.now) _ _ c.in-Ok.text.items
    c.in-Ok.ensures.ok later (alone c.check_beside.result) follows

pub returns-in-Err : goal.returns-in-Err
returns-in-Err g c =
    no_bytes ttplab (list_file c.args.list.now)
    (λ text. beside_plan (record { name = c.args.list.now; text = text }) c.args.script.now) _ _ c.in-Err.status
    c.in-Err.ensures.err
