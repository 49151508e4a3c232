use Rattle.std.proofs.Common.{subst, ◌≤◌, ℤ, unsigned_abs, FitsSigned, ap, rules, sym, w64, ◌∙◌}
use Rattle.std.proofs.lemmas.Int.{to_z-of_z}
use Rattle.ttp_world.specs.declared.node.NodeState.{NodeState}
use Rattle.controller.specs.Limits.{most_clock}
use Rattle.run_rows.proofs.Near.{near-same}
use Rattle.run_rows.proofs.begun.begun_by.Goals as goal

pub returns-clause-value : goal.returns-clause-value
returns-clause-value c = λ past shown kept.
    let phase = sym (ap (λ (s : NodeState). s.phase) shown) in
    let offset =
    sym (near-same c.args.slot c.args.state.now.offset c.requires.near c.requires.slot
    ∙ ap (λ (s : NodeState). s.offset) shown) in
    let averaged = c.has_averaged.ensures past phase kept in
    let fits : FitsSigned w64 c.clock_in.result = search rules in
    let clock = to_z-of_z w64 c.clock_in.result fits ∙ c.clock_in.ensures.value past phase offset in
    λ i. record {
      cstate = record {
        time = (kept i).place.time;
        round = (kept i).place.round;
        slot = (kept i).place.slot;
        members = (shown i).members;
      };
      accepted = (shown i).accepted;
      rejected = (shown i).rejected;
      ack = (shown i).ack;
      limit = (kept i).limit;
      has_averaged = averaged i;
      clock = clock i;
    }

pub returns-clause-near : goal.returns-clause-near
returns-clause-near c =
    let fits : FitsSigned w64 c.clock_in.result = search rules in
    subst (λ (z : ℤ). unsigned_abs z ≤ most_clock) (sym (to_z-of_z w64 c.clock_in.result fits)) c.clock_in.ensures.near
