use Rattle.std.proofs.Common.{refl}
use Rattle.commands.specs.Files.{list_file, refused_list}
use Rattle.commands.specs.Plan.{outside, ends}
use Rattle.commands.specs.Read.{list_from}
use Rattle.commands.specs.Texts.{alone}
use Rattle.lab_top.proofs.FromBelow.{value_came, no_value}
use Rattle.lab_top.specs.Forms.{script_ending}
use Rattle.lab_top.specs.Texts.{ttplab}
use Rattle.lab_top.proofs.generated.script.Goals as goal

pub returns-in-Ok : goal.returns-in-Ok
returns-in-Ok g c =
    let later = outside (g.L.Library.files c.load_list.new.library) (g.K.Sink.output c.show_script.new.out) in
    value_came ttplab (list_file c.args.list.now) list_from refused_list
    (λ medl. ends (script_ending c.args.slots c.args.number medl)) _ _ c.in-Ok.medl c.in-Ok.ensures.ok later
    (alone c.show_script.result) (refl, c.show_script.ensures)

pub returns-in-Err : goal.returns-in-Err
returns-in-Err g c =
    no_value ttplab (list_file c.args.list.now) list_from refused_list
    (λ medl. ends (script_ending c.args.slots c.args.number medl)) _ _ c.in-Err.status c.in-Err.ensures.err
