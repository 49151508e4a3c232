use Rattle.std.proofs.Common.{Bool, true, false, ap, sym, ◌∙◌}
use Rattle.causes.specs.LinesOf.{spoilt_in}
use Rattle.causes.specs.Listening.{kept_from_joining}
use Rattle.causes.specs.Sources as causes
use Rattle.causes.specs.Sources.{no_sources}
use Rattle.entry_causes.proofs.Adding.{adds-none, on-ok}
use Rattle.entry_causes.proofs.Remaining.{adds-same}
use Rattle.run_rows.specs.Rows.{run_slot}
use Rattle.entry_causes.proofs.listening.add_kept_in.Goals as goal

pub returns-then-has_joinable : goal.returns-then-has_joinable
returns-then-has_joinable c =
    let s = run_slot c.args.run.now c.args.slot in
    let k = c.args.node in
    on-ok c.add_spoilt.result
    (adds-same c.args.out.now c.add_spoilt.new.out (spoilt_in k s) (kept_from_joining k s)
    (ap (λ (b : Bool). elim b as (λ c. causes.Sources) [ true ↦ spoilt_in k s | false ↦ no_sources ])
    (sym (sym c.has_joinable.ensures ∙ c.if-has_joinable.true))))
    c.add_spoilt.ensures

pub returns-else-has_joinable : goal.returns-else-has_joinable
returns-else-has_joinable c =
    let s = run_slot c.args.run.now c.args.slot in
    let k = c.args.node in
    adds-same c.args.out.now c.args.out.now no_sources (kept_from_joining k s)
    (ap (λ (b : Bool). elim b as (λ c. causes.Sources) [ true ↦ spoilt_in k s | false ↦ no_sources ])
    (sym (sym c.has_joinable.ensures ∙ c.if-has_joinable.false)))
    (adds-none c.args.out.now)
