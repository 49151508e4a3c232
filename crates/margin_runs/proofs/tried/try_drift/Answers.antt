use Rattle.std.proofs.Common.{◌≡◌, ℕ, ℤ, ◌<◌, length, ap, sym, subst, ◌∙◌, arith}
use Rattle.std.proofs.lemmas.List.{length-set}
use Rattle.ttp_world.specs.declared.script.Script.{Script}
use Rattle.ttp_world.specs.Script.{IsValidScript}
use Rattle.clock_margins.specs.Outcomes.{told_by_script}
use Rattle.clock_margins.specs.Sweeps.{with_drift}
use Rattle.margin_runs.proofs.Drifts.{drift-twice}
use Rattle.margin_runs.proofs.tried.try_drift.Goals as goal

pub with_drift-more-requires : goal.with_drift-more-requires
with_drift-more-requires c =
    let script = c.args.common.now.script.now in
    let node = c.args.sweep.node in
    let may = c.requires.may in
    let valid = may.script in
    let more : length c.args.more.drift ≡ length script.drift =
    ap (λ (s : Script). length s.drift) c.requires.more.1 ∙ length-set script.drift node c.requires.more.0 in
    omega (arith, more, valid.drift_count, may.node)

pub begin-requires-clause-script : goal.begin-requires-clause-script
begin-requires-clause-script c =
    let list = c.args.common.now.list.now in
    let script = c.args.common.now.script.now in
    let node = c.args.sweep.node in
    let may = c.requires.may in
    let inside : node < length list.slots = omega (arith, may.node) in
    let same : c.with_drift-more.result ≡ with_drift script node c.args.value.now =
    c.with_drift-more.ensures ∙ ap (λ (s : Script). with_drift s node c.args.value.now) c.requires.more.1
    ∙ drift-twice script node c.requires.more.0 c.args.value.now in
    subst (IsValidScript list) (sym same)
    (c.drift_is_valid.ensures node c.args.value.now inside
    c.requires.value)

pub begin-requires-clause-start : goal.begin-requires-clause-start
begin-requires-clause-start c = c.requires.start.before c.with_drift-more.result

pub try_script-requires-clause-script : goal.try_script-requires-clause-script
try_script-requires-clause-script c =
    let list = c.args.common.now.list.now in
    let script = c.args.common.now.script.now in
    let node = c.args.sweep.node in
    let may = c.requires.may in
    let inside : node < length list.slots = omega (arith, may.node) in
    let same : c.with_drift-more.result ≡ with_drift script node c.args.value.now =
    c.with_drift-more.ensures ∙ ap (λ (s : Script). with_drift s node c.args.value.now) c.requires.more.1
    ∙ drift-twice script node c.requires.more.0 c.args.value.now in
    subst (IsValidScript list) (sym same)
    (c.drift_is_valid.ensures node c.args.value.now inside
    c.requires.value)

pub returns-clause-told : goal.returns-clause-told
returns-clause-told c =
    let list = c.args.common.now.list.now in
    let script = c.args.common.now.script.now in
    let node = c.args.sweep.node in
    let value : ℤ = c.args.value.now in
    let same : c.with_drift-more.result ≡ with_drift script node value =
    c.with_drift-more.ensures ∙ ap (λ (s : Script). with_drift s node value) c.requires.more.1
    ∙ drift-twice script node c.requires.more.0 value in
    c.in_ok-told.ensures.told
    ∙ ap (λ (k : ℕ). told_by_script list c.with_drift-more.result k value) (c.begin.ensures.node ∙ c.requires.node)
    ∙ ap (λ (s : Script). told_by_script list s node value) same

pub returns-clause-more : goal.returns-clause-more
returns-clause-more c =
    let script = c.args.common.now.script.now in
    let node = c.args.sweep.node in
    c.with_drift-more.ensures ∙ ap (λ (s : Script). with_drift s node c.args.value.now) c.requires.more.1
    ∙ drift-twice script node c.requires.more.0 c.args.value.now
