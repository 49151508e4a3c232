use Rattle.std.proofs.Common.{◌≡◌, ℕ, ◌<◌, ◌≤◌, Bool, true, ◌&&◌, Option, refl, ap, sym, subst, ◌∙◌, arith}
use Rattle.std.specs.Prelude.{ℤ, IfSome, IfOk}
use Rattle.std.proofs.lemmas.Bool.{le-leb}
use Rattle.ttp_world.specs.declared.script.Event.TheVariants as event
use Rattle.ttp_world.specs.declared.script.Script.{Script}
use Rattle.ttp_world.specs.declared.script.TheConstants.{JUMP_LIMIT}
use Rattle.ttp_world.specs.Events.{IsWithinSpan}
use Rattle.ttp_world.specs.Script.{IsValidScript}
use Rattle.campaign.specs.Tried.{with_fault}
use Rattle.clock_margins.specs.Outcomes.{ValueTold, told_by_script}
use Rattle.clock_margins.specs.Sweeps.{with_clock_value}
use Rattle.margin_text.specs.declared.told.Told.{Told}
use Rattle.margin_text.specs.Taken.{value_told}
use Rattle.margin_runs.specs.Tries.{IsBesideAfter}
use Rattle.margin_runs.proofs.Within.{same-within}
use Rattle.margin_runs.proofs.tried.try_jump.Goals as goal

pub more_is_valid-requires-clause-fault : goal.more_is_valid-requires-clause-fault
more_is_valid-requires-clause-fault c =
    let may = c.requires.may in
    let script = c.args.common.now.script.now in
    let inside = subst (λ (o : Option ℕ). IfSome o (λ (slot : ℕ). slot < script.slots)) c.requires.slot may.slot in
    let own = same-within 1000000 c.args.value.now (omega arith) c.requires.value in
    record { valid = (may.node, subst (IsWithinSpan JUMP_LIMIT) (sym own) c.requires.value, inside); unhosted = refl }

pub go_on_from-requires-clause-script : goal.go_on_from-requires-clause-script
go_on_from-requires-clause-script c =
    subst (IsValidScript c.args.common.now.list.now) (sym c.in_ok-more.ensures) c.more_is_valid.ensures.valid

pub go_on_from-requires-clause-slots : goal.go_on_from-requires-clause-slots
go_on_from-requires-clause-slots c =
    let script = c.args.common.now.script.now in
    let slots : c.in_ok-more.more.slots ≡ script.slots = ap (λ (s : Script). s.slots) c.in_ok-more.ensures in
    omega (arith, slots, c.requires.past.run.run.within)

pub go_on_from-requires-clause-other : goal.go_on_from-requires-clause-other
go_on_from-requires-clause-other c = record {
  same = c.requires.past.run.run.stands.same;
  zeros = c.requires.past.run.run.stands.zeros;
}

pub try_script-requires : goal.try_script-requires
try_script-requires c =
    let list = c.args.common.now.list.now in
    let script = c.args.common.now.script.now in
    let past = c.args.past.now in
    let may = c.requires.may in
    let slot = c.args.slot in
    let inside = subst (λ (o : Option ℕ). IfSome o (λ (slot : ℕ). slot < script.slots)) c.requires.slot may.slot in
    let at = subst (λ (o : Option ℕ). IfSome o (λ (slot : ℕ). past.run.slots ≡ slot))
    c.requires.slot c.requires.past.slot in
    let slots : c.in_ok-more.more.slots ≡ script.slots = ap (λ (s : Script). s.slots) c.in_ok-more.ensures in
    let near : past.run.slots ≤ slot = omega (arith, at) in
    let later = ap (λ (b : Bool). b && true) (le-leb past.run.slots slot near) in
    record {
      valid = may.valid;
      script = subst (IsValidScript list) (sym c.in_ok-more.ensures) c.more_is_valid.ensures.valid;
      first = omega (arith, slots, inside);
      run =
          subst (λ (n : ℕ). IsBesideAfter c.go_on_from.new.self list c.in_ok-more.more n) at
          (c.go_on_from.ensures.run script c.in_ok-more.ensures later c.requires.past.run);
    }

pub returns-clause-told : goal.returns-clause-told
returns-clause-told c =
    let list = c.args.common.now.list.now in
    let script = c.args.common.now.script.now in
    let node = c.args.sweep.node in
    let value : ℤ = c.args.value.now in
    let slot = c.args.sweep.slot in
    let same : told_by_script list c.in_ok-more.more c.go_on_from.new.self.node value
    ≡ told_by_script list (with_clock_value script node slot value) node value =
    ap (λ (k : ℕ). told_by_script list c.in_ok-more.more k value) (c.go_on_from.ensures.node ∙ c.requires.node)
    ∙ ap (λ (s : Script). told_by_script list s node value) c.in_ok-more.ensures
    ∙ ap (λ (z : ℤ). told_by_script list (with_fault script (event.Jump node z c.args.slot)) node value)
    (same-within 1000000 value (omega arith) c.requires.value)
    ∙ sym (ap (λ (o : Option ℕ).
    told_by_script list (with_clock_value script node o value) node value) c.requires.slot) in
    subst (λ (t : ValueTold). IfOk c.try_script.result (λ (told : Told). value_told told ≡ t)) same
    c.try_script.ensures.told
