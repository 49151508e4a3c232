use Rattle.std.proofs.Common.{refl}
use Rattle.commands.specs.Plan.{outside, ends}
use Rattle.commands.specs.Texts.{alone}
use Rattle.lab_top.proofs.FromBelow.{pair_came, no_pair}
use Rattle.lab_top.specs.Forms.{lines_ending}
use Rattle.lab_top.specs.Texts.{ttplab}
use Rattle.lab_top.proofs.Room.{room_of}
use Rattle.lab_top.proofs.both.write_lines.Goals as goal

pub returns-in-Ok : goal.returns-in-Ok
returns-in-Ok g c =
    let later = outside (g.L.Library.files c.load_both.new.library) (g.K.Sink.output c.show_lines.new.out) in
    pair_came ttplab c.args.list.now c.args.script.now
    (λ medl right. ends (lines_ending (g.F.LinesOf.lines c.args.form.now medl right))) _ _ c.in-Ok.medl c.in-Ok.right
    c.in-Ok.ensures.ok later (alone c.show_lines.result) (refl, c.show_lines.ensures)

pub returns-in-Err : goal.returns-in-Err
returns-in-Err g c =
    no_pair ttplab c.args.list.now c.args.script.now
    (λ medl right. ends (lines_ending (g.F.LinesOf.lines c.args.form.now medl right))) _ _ c.in-Err.status
    c.in-Err.ensures.err

pub show_lines-requires-clause-room : goal.show_lines-requires-clause-room
show_lines-requires-clause-room g c κs within =
    room_of c.args.list.now c.args.script.now _ _ c.in-Ok.medl c.in-Ok.right c.in-Ok.ensures.ok
