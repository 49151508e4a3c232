use Rattle.std.proofs.Common.{◌≡◌, ◌∙◌, Bool, cond, List, ℕ, [], ap, sym, subst}
use Rattle.std.specs.Prelude.{IfOk}
use Rattle.campaign.specs.Lines.{summary}
use Rattle.fault_pairs.specs.Pairs.{second_apart}
use Rattle.fault_pairs.specs.PairText.{pair_line}
use Rattle.pair_runs.specs.Tries.{first_of}
use Rattle.pair_runs.proofs.tried.line_of.Goals as goal

pub returns-then-has_line : goal.returns-then-has_line
returns-then-has_line c =
    let line = pair_line c.args.setting.now.common.list.now c.args.class (first_of c.args.setting.now)
    (second_apart c.args.apart c.args.two.now) c.args.setting.now.common.own c.args.harms.now.one c.args.harms.now.two
    (summary c.args.setting.now.common.list.now c.args.both.now) in
    subst (λ (w : List ℕ). IfOk c.form_line.result (λ (told : List ℕ). told ≡ w))
    (ap (λ (b : Bool). cond b line []) (sym (sym c.has_line.ensures ∙ c.if-has_line.true))) c.form_line.ensures

pub returns : goal.returns
returns c =
    let line = pair_line c.args.setting.now.common.list.now c.args.class (first_of c.args.setting.now)
    (second_apart c.args.apart c.args.two.now) c.args.setting.now.common.own c.args.harms.now.one c.args.harms.now.two
    (summary c.args.setting.now.common.list.now c.args.both.now) in
    c.new.ensures ∙ ap (λ (b : Bool). cond b line []) (sym (sym c.has_line.ensures ∙ c.if-has_line.false))
