use Rattle.commands.specs.Files.{list_file, refused_list}
use Rattle.commands.specs.Plan.{outside}
use Rattle.commands.specs.Read.{list_from}
use Rattle.commands.specs.Texts.{alone}
use Rattle.lab_top.proofs.FromBelow.{value_came, no_value}
use Rattle.lab_top.specs.Texts.{ttplab}
use Rattle.lab_top.specs.Why.{ends_why, read_script_plan}
use Rattle.lab_top.proofs.why.why.Goals as goal

pub returns-in-Ok : goal.returns-in-Ok
returns-in-Ok g c =
    let later = outside (g.L.Library.files c.show_read.new.library) (g.K.Sink.output c.show_read.new.out) in
    value_came ttplab (list_file c.args.list.now) list_from refused_list
    (λ medl. read_script_plan c.args.script.now (ends_why c.args.node c.args.slot medl) medl) _ _ c.in-Ok.medl
    c.in-Ok.ensures.ok later (alone c.show_read.result) c.show_read.ensures

pub returns-in-Err : goal.returns-in-Err
returns-in-Err g c =
    no_value ttplab (list_file c.args.list.now) list_from refused_list
    (λ medl. read_script_plan c.args.script.now (ends_why c.args.node c.args.slot medl) medl) _ _ c.in-Err.status
    c.in-Err.ensures.err
