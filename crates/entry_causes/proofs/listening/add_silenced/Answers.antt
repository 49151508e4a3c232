use Rattle.std.proofs.Common.{Bool, true, false, ◌++◌, ap, sym, ◌∙◌}
use Rattle.causes.specs.LinesOf.{silencing_in}
use Rattle.causes.specs.Listening.{silenced_in}
use Rattle.causes.specs.Sources as causes
use Rattle.causes.specs.Sources.{no_sources, only_lines}
use Rattle.entry_causes.proofs.Adding.{adds-both, adds-none, on-ok}
use Rattle.entry_causes.proofs.Remaining.{adds-same}
use Rattle.run_rows.specs.Rows.{run_slot}
use Rattle.ttp_world.specs.declared.script.Channel.TheVariants as channel
use Rattle.entry_causes.proofs.listening.add_silenced.Goals as goal

pub returns-then-not-has_frames : goal.returns-then-not-has_frames
returns-then-not-has_frames c =
    let s = run_slot c.args.run.now c.args.slot in
    let k = c.args.node in
    adds-same c.args.out.now c.args.out.now no_sources (silenced_in k s)
    (ap (λ (b : Bool). elim b as (λ c. causes.Sources) [
      | true ↦ only_lines (silencing_in k s channel.A ++ silencing_in k s channel.B)
      | false ↦ no_sources
    ]) (sym (sym c.has_frames.ensures ∙ c.if-not-has_frames.true)))
    (adds-none c.args.out.now)

pub returns : goal.returns
returns c =
    let s = run_slot c.args.run.now c.args.slot in
    let k = c.args.node in
    let a = only_lines (silencing_in k s channel.A) in
    let b = only_lines (silencing_in k s channel.B) in
    let is =
    ap (λ (b : Bool). elim b as (λ c. causes.Sources) [
      | true ↦ only_lines (silencing_in k s channel.A ++ silencing_in k s channel.B)
      | false ↦ no_sources
    ]) (sym (sym c.has_frames.ensures ∙ c.if-not-has_frames.false)) in
    on-ok c.add_silencing-2.result (λ added.
    adds-same c.args.out.now c.add_silencing-2.new.out
    (only_lines (silencing_in k s channel.A ++ silencing_in k s channel.B))
    (silenced_in k s) is
    (adds-both c.args.out.now c.add_silencing.new.out c.add_silencing-2.new.out
    a b c.in_ok-add_silencing.ensures added))
    c.add_silencing-2.ensures
