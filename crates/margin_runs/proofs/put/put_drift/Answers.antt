use Rattle.std.proofs.Common.{◌≡◌, ◌+◌, Bool, true, false, cond, List, [], ◌∷◌}
use Rattle.std.proofs.Common.{◌++◌, ap, sym, subst, ◌∙◌, append-nil, arith}
use Rattle.std.specs.Prelude.{OnOk, IfErr}
use Rattle.ttp_world.specs.Script.{is_ever_on}
use Rattle.clock_margins.specs.declared.margin.Sweep.{Sweep}
use Rattle.clock_margins.specs.Sweeps.{drift_sweep}
use Rattle.fault_runs.specs.declared.put.CampaignFault.{CampaignFault}
use Rattle.fault_runs.specs.declared.put.CampaignFault.TheVariants as fault
use Rattle.fault_runs.specs.Ends.{LeftBy}
use Rattle.margin_runs.specs.Tries.{IsBesideAfter}
use Rattle.margin_runs.specs.Written.{AreSwept, lines_swept, most_in_sweep}
use Rattle.margin_runs.proofs.Sweeping.{total-more, lines-both}
use Rattle.margin_runs.proofs.put.put_drift.Goals as goal

pub is_ever_on-requires : goal.is_ever_on-requires
is_ever_on-requires g c =
    let valid = c.requires.may.script in
    omega (arith, c.requires.node, valid.on_count)

-- a node that is never on has no sweep
pub returns-then-not-is_ever_on : goal.returns-then-not-is_ever_on
returns-then-not-is_ever_on g c =
    let off : is_ever_on c.args.common.now.script.now c.args.node ≡ false =
    sym c.is_ever_on.ensures ∙ c.if-not-is_ever_on.true in
    record {
      few = λ most few. total-more most (most + most_in_sweep) c.args.total.now (omega arith) few;
      ok = λ begin swept are.
          subst
          (λ (xs : List Sweep). AreSwept begin (g.K.Sink.output c.args.out.now) c.args.common.now xs c.args.total.now)
          (sym (ap (λ (b : Bool). swept ++ cond b (drift_sweep c.args.node ∷ []) []) off ∙ append-nil swept)) are;
      err = λ begin swept are. tt;
    }

-- where memory is refused, the sweeps before it stand
pub returns-in_default-clause-err : goal.returns-in_default-clause-err
returns-in_default-clause-err g c = λ begin swept are.
    let script = c.args.common.now.script.now in
    let out = g.K.Sink.output c.args.out.now in
    let on : is_ever_on script c.args.node ≡ true = sym c.is_ever_on.ensures ∙ c.if-not-is_ever_on.false in
    let sweep = drift_sweep c.args.node in
    subst (λ (b : Bool). LeftBy fault.Memory begin out
    (lines_swept c.args.common.now (swept ++ cond b (sweep ∷ []) [])))
    (sym on) (record {
      whole = lines_swept c.args.common.now swept;
      rest = lines_swept c.args.common.now (sweep ∷ []);
      text = lines-both c.args.common.now swept (sweep ∷ []);
      wrote = are.wrote;
    })

pub put_counted-requires-clause-may : goal.put_counted-requires-clause-may
put_counted-requires-clause-may g c κs within = record {
  valid = c.requires.may.valid;
  script = c.requires.may.script;
  room = c.requires.may.room;
  node = c.requires.node;
  reach = c.requires.reach;
  slot = tt;
}

pub put_counted-requires-clause-past : goal.put_counted-requires-clause-past
put_counted-requires-clause-past g c κs within =
    let common = c.args.common.now in
    let run = c.in-Ok.ensures.run in
    record {
      run = subst (IsBesideAfter c.in-Ok.past common.list.now common.script.now) (sym run.run.count) run;
      node = c.in-Ok.ensures.node;
      slot = tt;
    }

pub returns-clause-ok : goal.returns-clause-ok
returns-clause-ok g c = λ begin swept are.
    let on : is_ever_on c.args.common.now.script.now c.args.node ≡ true =
    sym c.is_ever_on.ensures ∙ c.if-not-is_ever_on.false in
    subst
    (λ (b : Bool). OnOk c.put_counted.result
    (AreSwept begin (g.K.Sink.output c.put_counted.new.out) c.args.common.now
    (swept ++ cond b (drift_sweep c.args.node ∷ []) []) c.put_counted.new.total))
    (sym on) (c.put_counted.ensures.ok begin swept are)

pub returns-clause-err : goal.returns-clause-err
returns-clause-err g c = λ begin swept are.
    let on : is_ever_on c.args.common.now.script.now c.args.node ≡ true =
    sym c.is_ever_on.ensures ∙ c.if-not-is_ever_on.false in
    subst
    (λ (b : Bool). IfErr c.put_counted.result
    (λ (why : CampaignFault). LeftBy why begin (g.K.Sink.output c.put_counted.new.out)
    (lines_swept c.args.common.now (swept ++ cond b (drift_sweep c.args.node ∷ []) []))))
    (sym on) (c.put_counted.ensures.err begin swept are)
