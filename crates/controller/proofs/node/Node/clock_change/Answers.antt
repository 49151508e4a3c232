use Rattle.controller.proofs.Words.{◌≢◌, ap, sym, subst, ◌∙◌, w64, FitsSigned, rules, arith, ints, to_z-of_z}
use Rattle.controller.proofs.Words.{correction_after, AreChangesWithin}
use Rattle.controller.proofs.Endings.{slot_change-on}
use Rattle.ttp_world.specs.declared.node.Entry.TheVariants as entry
use Rattle.controller.proofs.node.Node.clock_change.Goals as goal

pub returns-in_default-clause-value : goal.returns-in_default-clause-value
returns-in_default-clause-value c =
    let node = c.args.self.now in
    let s = c.args.outside.now in
    let inside = c.outside.inside in
    let changes = subst AreChangesWithin (sym c.outside.view_is) c.requires.changes in
    let jump : FitsSigned w64 inside.jump = omega (arith, ints, changes.jump) in
    let drift : FitsSigned w64 inside.drift = omega (arith, ints, changes.drift) in
    let on : node.entry ≢ entry.Off =
    λ off. c.in_default.not-Off (ap (λ p. p.entry) c.self.view_is ∙ off) in
    search (
      rules,
      to_z-of_z,
      jump,
      drift,
      slot_change-on node.entry s (correction_after c.args.list.now node.place node.notes node.entry) on,
    )
