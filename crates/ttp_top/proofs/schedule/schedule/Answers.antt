use Rattle.ttp_top.proofs.Terms.{refl, inl, list_file, refused_list, outside, ends, list_from, alone, value_came}
use Rattle.ttp_top.proofs.Terms.{no_value, ttpbench, table_ending}
use Rattle.ttp_top.proofs.schedule.schedule.Goals as goal

pub returns-in-Ok : goal.returns-in-Ok
returns-in-Ok g c =
    let later = outside (g.L.Library.files c.load_list.new.library) (g.K.Sink.output c.show_table.new.out) in
    value_came ttpbench (list_file c.args.list.now) list_from refused_list
    (λ list. ends (table_ending list)) _ _ c.in-Ok.medl
    c.in-Ok.ensures.ok later (alone c.show_table.result) (refl, inl c.show_table.ensures)

pub returns-in-Err : goal.returns-in-Err
returns-in-Err g c =
    no_value ttpbench (list_file c.args.list.now) list_from refused_list (λ list. ends (table_ending list)) _ _
    c.in-Err.status c.in-Err.ensures.err
