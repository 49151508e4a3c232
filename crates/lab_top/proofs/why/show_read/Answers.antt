use Rattle.std.proofs.Common.{refl}
use Rattle.commands.specs.Plan.{outside}
use Rattle.commands.specs.Texts.{alone}
use Rattle.lab_top.specs.Why.{ends_why}
use Rattle.lab_top.proofs.ReadScripts.{script_came, no_script}
use Rattle.lab_top.proofs.why.show_read.Goals as goal

pub returns-in-Ok : goal.returns-in-Ok
returns-in-Ok g c =
    let later = outside (g.L.Library.files c.load_read.new.library) (g.K.Sink.output c.show.new.out) in
    let shown = rw c.as_slice.ensures.value at c.show.ensures in
    script_came c.args.script.now (ends_why c.args.node c.args.slot c.args.list.now) c.args.list.now _ _
    c.in-Ok.bytes.items c.in-Ok.right c.in-Ok.ensures.loaded c.in-Ok.ensures.read
    later (alone c.show.result) (refl, shown)

pub returns-in-Err : goal.returns-in-Err
returns-in-Err g c =
    no_script c.args.script.now (ends_why c.args.node c.args.slot c.args.list.now) c.args.list.now _ _ c.in-Err.status
    c.in-Err.ensures.err
