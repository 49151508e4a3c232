use Rattle.std.proofs.Common.{to_z, of_z, w64, rules}
use Rattle.std.proofs.lemmas.Int.{to_z-of_z}
use Rattle.std.proofs.Common.{◌≡◌, ℕ, ◌<◌, ap, ◌∙◌, arith}
use Rattle.ttp_world.specs.ZerosWorld.{zeros_world}
use Rattle.clock_margins.specs.Outcomes.{outcome_beside}
use Rattle.margin_runs.proofs.tried.try_script.Goals as goal

pub returns-clause-told : goal.returns-clause-told
returns-clause-told c =
    let list = c.args.list.now in
    let more = c.args.more.now in
    let slot = c.loop-slot.slot in
    let beside = c.loop-slot.invariant.0 in
    let valid = c.requires.script in
    let last : slot ≡ more.slots = omega (arith, c.loop-slot-test.false, c.requires.first, beside.run.within) in
    let some : 0 < slot = omega (arith, last, valid.slots.0) in
    let outcome =
    c.in_ok-outcome.ensures more slot beside some
    ∙ ap (λ (k : ℕ). outcome_beside list more k (zeros_world list more slot)) c.loop-slot.invariant.1
    ∙ ap (λ (n : ℕ). outcome_beside list more c.args.run.now.node (zeros_world list more n)) last in
    let own : to_z w64 (of_z w64 c.args.value.now) ≡ c.args.value.now = search (rules, to_z-of_z) in
    λ i. record { value = own i; test = c.test_of.ensures i; outcome = outcome i }

pub returns-clause-run : goal.returns-clause-run
returns-clause-run c = record {
  same = c.loop-slot.invariant.0.run.stands.same;
  zeros = c.loop-slot.invariant.0.run.stands.zeros;
}
