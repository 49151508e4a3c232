use Rattle.std.proofs.Common.{Some, refl}
use Rattle.commands.specs.Files.{script_file}
use Rattle.commands.specs.Plan.{outside, ends}
use Rattle.commands.specs.Texts.{alone}
use Rattle.lab_top.proofs.FromBelow.{bytes_came, no_bytes}
use Rattle.lab_top.specs.Forms.{check_ending}
use Rattle.lab_top.specs.Texts.{ttplab}
use Rattle.lab_top.proofs.check.check_beside.Goals as goal

pub returns-in-Ok : goal.returns-in-Ok
returns-in-Ok g c =
    let later = outside (g.L.Library.files c.load_script_text.new.library) (g.K.Sink.output c.show_both.new.out) in
    let shown = rw c.as_slice.ensures.value at c.show_both.ensures in
    bytes_came ttplab (script_file c.args.script.now)
    (λ other. ends (check_ending (record { name = c.args.list.now; text = c.args.text.now })
    (Some (record { name = c.args.script.now; text = other })))) _ _ c.in-Ok.other.items c.in-Ok.ensures.ok later
    (alone c.show_both.result) (refl, shown)

pub returns-in-Err : goal.returns-in-Err
returns-in-Err g c =
    no_bytes ttplab (script_file c.args.script.now)
    (λ other. ends (check_ending (record { name = c.args.list.now; text = c.args.text.now })
    (Some (record { name = c.args.script.now; text = other })))) _ _ c.in-Err.status c.in-Err.ensures.err
