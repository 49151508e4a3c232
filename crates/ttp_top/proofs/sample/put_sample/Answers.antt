use Rattle.ttp_top.proofs.Terms.{ap, subst, ◌∙◌, Script, IsValidScript, generated}
use Rattle.ttp_top.proofs.Samples.Said.{HasCountedAll, all_counted, sample_said, sample_stopped}
use Rattle.ttp_top.proofs.sample.put_sample.Goals as goal

pub returns-in-Ok-put_summary : goal.returns-in-Ok-put_summary
returns-in-Ok-put_summary g c =
    let list = c.args.cluster.now.list in
    let script = generated list c.args.slots c.args.number in
    let cluster = c.count_run.new.cluster in
    let totals = c.in-Ok.totals in
    let made = c.requires.generated in
    let list_is = c.in-Ok.ensures.list in
    let script_is = c.in-Ok.ensures.script ∙ made in
    let done = c.in-Ok.ensures.done ∙ ap (λ (s : Script). s.slots) made in
    let valid = subst (IsValidScript list) made c.requires.script in
    let w : HasCountedAll list script cluster totals =
    all_counted list script cluster totals c.requires.valid valid list_is script_is done c.in-Ok.ensures.ok in
    let wrote = rw (c.list.ensures.value, list_is, c.script.ensures.value, script_is) at
    c.in-Ok-put_summary.ensures.ok in
    sample_said list c.args.slots c.args.number (g.K.Sink.output c.args.out.now)
    (g.K.Sink.output c.put_summary.new.out) cluster totals w wrote

pub returns-in-Err-put_summary : goal.returns-in-Err-put_summary
returns-in-Err-put_summary g c =
    let list = c.args.cluster.now.list in
    let script = generated list c.args.slots c.args.number in
    let cluster = c.count_run.new.cluster in
    let totals = c.in-Ok.totals in
    let made = c.requires.generated in
    let list_is = c.in-Ok.ensures.list in
    let script_is = c.in-Ok.ensures.script ∙ made in
    let done = c.in-Ok.ensures.done ∙ ap (λ (s : Script). s.slots) made in
    let valid = subst (IsValidScript list) made c.requires.script in
    let w : HasCountedAll list script cluster totals =
    all_counted list script cluster totals c.requires.valid valid list_is script_is done c.in-Ok.ensures.ok in
    let cut = rw (c.list.ensures.value, list_is, c.script.ensures.value, script_is)
    at c.in-Err-put_summary.ensures.failed in
    sample_stopped list c.args.slots c.args.number (g.K.Sink.output c.args.out.now)
    (g.K.Sink.output c.put_summary.new.out) cluster totals w cut
