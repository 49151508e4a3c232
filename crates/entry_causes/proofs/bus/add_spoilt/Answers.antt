use Rattle.std.proofs.Common.{Bool, true, false, ap, subst, sym, ◌∙◌}
use Rattle.causes.specs.LinesOf.{heard_in, spoilt_by}
use Rattle.causes.specs.Sources as causes
use Rattle.causes.specs.Sources.{no_sources, with_sources}
use Rattle.entry_causes.proofs.Adding.{adds-both, adds-none, on-ok}
use Rattle.run_looks.specs.Added.{AddsSources}
use Rattle.run_rows.specs.Rows.{run_slot}
use Rattle.ttp_world.specs.declared.script.Channel.TheVariants as channel
use Rattle.entry_causes.proofs.bus.add_spoilt.Goals as goal

-- by whether somebody sends
abbrev if_sent : Bool → causes.Sources → causes.Sources
if_sent sent sources = elim sent [ true ↦ sources | false ↦ no_sources ]

pub returns : goal.returns
returns c =
    let s = run_slot c.args.run.now c.args.slot in
    let k = c.args.node in
    let both =
    with_sources (spoilt_by k s channel.A (heard_in k s channel.A))
    (spoilt_by k s channel.B (heard_in k s channel.B)) in
    subst (λ (sources : causes.Sources). AddsSources c.args.out.now c.args.out.now sources)
    (ap (λ (b : Bool). if_sent b both) (sym (sym c.has_frames.ensures ∙ c.if-has_frames.false)))
    (adds-none c.args.out.now)

pub returns-then-has_frames : goal.returns-then-has_frames
returns-then-has_frames c =
    let s = run_slot c.args.run.now c.args.slot in
    let k = c.args.node in
    let both =
    with_sources (spoilt_by k s channel.A (heard_in k s channel.A))
    (spoilt_by k s channel.B (heard_in k s channel.B)) in
    let sent = sym c.has_frames.ensures ∙ c.if-has_frames.true in
    on-ok c.add_spoilt_on-then-has_frames.result (λ added.
    subst (λ (sources : causes.Sources). AddsSources c.args.out.now c.add_spoilt_on-then-has_frames.new.out sources)
    (ap (λ (b : Bool). if_sent b both) (sym sent))
    (adds-both c.args.out.now c.add_spoilt_on.new.out c.add_spoilt_on-then-has_frames.new.out
    _ _ c.in_ok-add_spoilt_on.ensures added))
    c.add_spoilt_on-then-has_frames.ensures
