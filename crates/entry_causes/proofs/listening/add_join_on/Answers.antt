use Rattle.std.proofs.Common.{Bool, cond, ap, sym}
use Rattle.causes.specs.LinesOf.{spoilt_in}
use Rattle.causes.specs.Listening.{sources_before_join}
use Rattle.causes.specs.Sources.{no_sources, with_sources}
use Rattle.entry_causes.proofs.Adding.{adds-both, adds-none, on-ok}
use Rattle.entry_causes.proofs.Remaining.{adds-same}
use Rattle.run_rows.specs.Rows.{past_slots, run_slot}
use Rattle.entry_causes.proofs.listening.add_join_on.Goals as goal

pub returns-then-joined : goal.returns-then-joined
returns-then-joined c =
    let run = c.args.run.now in
    let k = c.args.node in
    let before = sources_before_join k (past_slots run c.args.slot) in
    let spoilt = spoilt_in k (run_slot run c.args.slot) in
    adds-same c.args.out.now c.add_before_join.new.out (with_sources before no_sources)
    (with_sources before (cond c.args.joined.now.is_as_sent no_sources spoilt))
    (ap (λ (b : Bool). with_sources before (cond b no_sources spoilt)) (sym c.if-joined.true))
    (adds-both c.args.out.now c.add_before_join.new.out c.add_before_join.new.out before no_sources
    c.in_ok-add_before_join.ensures (adds-none c.add_before_join.new.out))

pub returns : goal.returns
returns c =
    let run = c.args.run.now in
    let k = c.args.node in
    let before = sources_before_join k (past_slots run c.args.slot) in
    let spoilt = spoilt_in k (run_slot run c.args.slot) in
    on-ok c.add_spoilt.result (λ added.
    adds-same c.args.out.now c.add_spoilt.new.out (with_sources before spoilt)
    (with_sources before (cond c.args.joined.now.is_as_sent no_sources spoilt))
    (ap (λ (b : Bool). with_sources before (cond b no_sources spoilt)) (sym c.if-joined.false))
    (adds-both c.args.out.now c.add_before_join.new.out c.add_spoilt.new.out before spoilt
    c.in_ok-add_before_join.ensures added))
    c.add_spoilt.ensures
