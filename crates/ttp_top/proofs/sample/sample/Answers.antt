use Rattle.ttp_top.proofs.Terms.{refl, list_file, refused_list, outside, ends, list_from, answer, value_came, no_value}
use Rattle.ttp_top.proofs.Terms.{ttpbench, sample_ending}
use Rattle.ttp_top.proofs.sample.sample.Goals as goal

pub returns-in-Ok : goal.returns-in-Ok
returns-in-Ok g c =
    let later = outside (g.L.Library.files c.load_list.new.library) (g.K.Sink.output c.show_sample.new.out) in
    value_came ttpbench (list_file c.args.list.now) list_from refused_list
    (λ list. ends (sample_ending c.args.slots c.args.number list)) _ _ c.in-Ok.medl c.in-Ok.ensures.ok later
    (answer c.show_sample.result c.show_sample.new.kept) (refl, c.show_sample.ensures)

pub returns-in-Err : goal.returns-in-Err
returns-in-Err g c =
    rw c.requires.none
    (no_value ttpbench (list_file c.args.list.now) list_from refused_list
    (λ list. ends (sample_ending c.args.slots c.args.number list)) _ _ c.in-Err.status c.in-Err.ensures.err)
