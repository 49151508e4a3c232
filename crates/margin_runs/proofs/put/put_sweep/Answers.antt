use Rattle.std.proofs.Common.{◌≡◌, ℕ, suc, ◌*◌, ◌^◌, pos, List, [], ◌∷◌, length, ap, subst, ◌∙◌, arith}
use Rattle.std.specs.Prelude.{neg_ℤ}
use Rattle.ttp_base.specs.Outside.{WroteLines}
use Rattle.ttp_base.proofs.Outputs.{Wrote-none}
use Rattle.ttp_world.proofs.Lists.{nodes-most}
use Rattle.clock_margins.specs.MarginText.{tolds_of, margin_line, sweep_margin}
use Rattle.clock_margins.specs.Sums.{margin_of}
use Rattle.clock_margins.specs.Sweeps.{values}
use Rattle.fault_runs.specs.Ends.{LeftBy}
use Rattle.margin_runs.specs.Written.{most_values}
use Rattle.margin_runs.proofs.Puts.{fewer-left, few-more, margin-few, last-left, sum-left, sweep-written}
use Rattle.margin_runs.proofs.ToldParts.{tolds-count}
use Rattle.margin_runs.proofs.Within.{limit-few}
use Rattle.margin_runs.proofs.Writable.{tolds-writable}
use Rattle.margin_runs.proofs.put.put_sweep.Goals as goal

pub new-swept-requires : goal.new-swept-requires
new-swept-requires g c =
    let may = c.requires.may in
    omega (arith, may.node, nodes-most c.args.common.now.list.now may.valid)

pub put_ranges-requires-clause-put : goal.put_ranges-requires-clause-put
put_ranges-requires-clause-put g c κs within = (
  g.K.Sink.output c.args.out.now,
  record {
    swept = c.new-swept.ensures.swept;
    node = c.new-swept.ensures.node;
    few = c.new-swept.ensures.few;
    wrote = Wrote-none (g.K.Sink.output c.args.out.now);
  },
)

pub returns-in-Err-clause-err : goal.returns-in-Err-clause-err
returns-in-Err-clause-err g c =
    c.in-Err.ensures.err (g.K.Sink.output c.args.out.now) (record {
      swept = c.new-swept.ensures.swept;
      node = c.new-swept.ensures.node;
      few = c.new-swept.ensures.few;
      wrote = Wrote-none (g.K.Sink.output c.args.out.now);
    })

pub put_last-requires : goal.put_last-requires
put_last-requires g c =
    let common = c.args.common.now in
    let out = g.K.Sink.output c.args.out.now in
    let may = c.requires.may in
    let put = c.in_default.ensures.ok out (record {
      swept = c.new-swept.ensures.swept;
      node = c.new-swept.ensures.node;
      few = c.new-swept.ensures.few;
      wrote = Wrote-none out;
    }) in
    record {
      valid = may.valid;
      swept = (
        tolds_of common.list.now common.script.now common.reach c.args.sweep,
        put.swept,
        tolds-writable common.list.now common.script.now c.args.sweep (values common.reach) may.valid,
      );
      node = omega (arith, may.node, nodes-most common.list.now may.valid);
    }

pub returns-in-Err-put_last-clause-err : goal.returns-in-Err-put_last-clause-err
returns-in-Err-put_last-clause-err g c =
    let common = c.args.common.now in
    let out = g.K.Sink.output c.args.out.now in
    let put = c.in_default.ensures.ok out (record {
      swept = c.new-swept.ensures.swept;
      node = c.new-swept.ensures.node;
      few = c.new-swept.ensures.few;
      wrote = Wrote-none out;
    }) in
    let tolds = tolds_of common.list.now common.script.now common.reach c.args.sweep in
    last-left common.list.now common.script.now common.reach c.args.sweep c.in-Err-put_last.why out
    (g.K.Sink.output c.put_ranges.new.out) (g.K.Sink.output c.put_last.new.out) put.wrote
    (c.in-Err-put_last.ensures.err tolds put.swept)

pub margin-margin-requires : goal.margin-margin-requires
margin-margin-requires g c =
    let may = c.requires.may in
    let common = c.args.common.now in
    let reach = common.reach in
    let out = g.K.Sink.output c.args.out.now in
    let put = c.in_default.ensures.ok out (record {
      swept = c.new-swept.ensures.swept;
      node = c.new-swept.ensures.node;
      few = c.new-swept.ensures.few;
      wrote = Wrote-none out;
    }) in
    let tolds = tolds_of common.list.now common.script.now reach c.args.sweep in
    let count : length tolds ≡ suc (2 * reach) =
    tolds-count common.list.now common.script.now c.args.sweep (neg_ℤ (pos reach)) (suc (2 * reach)) in
    let few = limit-few c.args.sweep.slot in
    record {
      reach = omega (arith, few, may.reach);
      few =
          few-more (length tolds) (2 ^ 62) c.put_ranges.new.swept (omega (arith, count, few, may.reach)) put.few;
      swept = (tolds, put.swept);
    }

pub returns-in-Err-put_line-clause-err : goal.returns-in-Err-put_line-clause-err
returns-in-Err-put_line-clause-err g c =
    let common = c.args.common.now in
    let list = common.list.now in
    let script = common.script.now in
    let sweep = c.args.sweep in
    let reach = common.reach in
    let out = g.K.Sink.output c.args.out.now in
    let put = c.in_default.ensures.ok out (record {
      swept = c.new-swept.ensures.swept;
      node = c.new-swept.ensures.node;
      few = c.new-swept.ensures.few;
      wrote = Wrote-none out;
    }) in
    let tolds = tolds_of list script reach sweep in
    let margin : c.margin-margin.result ≡ sweep_margin list script reach sweep =
    c.margin-margin.ensures tolds put.swept ∙ ap (λ (k : ℕ). margin_of reach k tolds) put.node in
    let line : c.form_margin.new.line ≡ margin_line sweep (sweep_margin list script reach sweep) =
    c.form_margin.ensures ∙ ap (margin_line sweep) margin in
    let why = c.in-Err-put_line.why in
    let last = g.K.Sink.output c.put_last.new.out in
    let now = g.K.Sink.output c.put_line.new.out in
    sum-left list script reach sweep why out (g.K.Sink.output c.put_ranges.new.out) last now put.wrote
    (c.in_default-put_last.ensures.ok tolds put.swept)
    (subst (λ (text : List ℕ). LeftBy why last now (text ∷ [])) line
    (fewer-left why last now (c.form_margin.new.line ∷ []) c.in-Err-put_line.ensures.err))

pub returns : goal.returns
returns g c =
    let may = c.requires.may in
    let common = c.args.common.now in
    let list = common.list.now in
    let script = common.script.now in
    let sweep = c.args.sweep in
    let reach = common.reach in
    let out = g.K.Sink.output c.args.out.now in
    let put = c.in_default.ensures.ok out (record {
      swept = c.new-swept.ensures.swept;
      node = c.new-swept.ensures.node;
      few = c.new-swept.ensures.few;
      wrote = Wrote-none out;
    }) in
    let tolds = tolds_of list script reach sweep in
    let told = c.margin-margin.ensures tolds put.swept in
    let margin : c.margin-margin.result ≡ sweep_margin list script reach sweep =
    told ∙ ap (λ (k : ℕ). margin_of reach k tolds) put.node in
    let line : c.form_margin.new.line ≡ margin_line sweep (sweep_margin list script reach sweep) =
    c.form_margin.ensures ∙ ap (margin_line sweep) margin in
    let last = g.K.Sink.output c.put_last.new.out in
    let now = g.K.Sink.output c.put_line.new.out in
    let count : length tolds ≡ suc (2 * reach) = tolds-count list script sweep (neg_ℤ (pos reach)) (suc (2 * reach)) in
    let limit = limit-few sweep.slot in
    record {
      margin = margin;
      few =
          margin-few most_values reach tolds c.put_ranges.new.swept c.margin-margin.result put.swept put.few
          (omega (arith, count, limit, may.reach)) told;
      ok =
          sweep-written list script reach sweep out (g.K.Sink.output c.put_ranges.new.out) last now put.wrote
          (c.in_default-put_last.ensures.ok tolds put.swept)
          (subst (λ (text : List ℕ). WroteLines last now (text ∷ [])) line c.in_default-put_line.ensures.ok);
      err = tt;
    }
