use Rattle.controller.proofs.Words.{◌≡◌, ◌+ℤ◌, ap, sym, subst, ◌∙◌, w64, to_z, of_z, arith, rules, ints, notes_after}
use Rattle.controller.proofs.Words.{place_after, IsDeviation, IsPastWithin}
use Rattle.controller.proofs.Stints.{correction_after-take, kept_after-within}
use Rattle.controller.proofs.node.Node.enter.Goals as goal

pub returns-clause-value : goal.returns-clause-value
returns-clause-value c =
    let a = c.args in
    let inside = c.self.inside in
    let change = c.clock_change.result in
    let stint = c.self.view_is ∙ c.enter_stint.ensures in
    let offset = subst IsDeviation (sym (ap (λ p. p.offset) stint)) c.requires.offset in
    let within = c.clock_change.ensures.within in
    let sum : to_z w64 (of_z w64 (to_z w64 (of_z w64 inside.offset) +ℤ to_z w64 (of_z w64 change)))
    ≡ inside.offset +ℤ change =
    omega (arith, ints, offset, within) in
    let past = a.self.now in
    let place = place_after a.list.now a.k past.place a.entry.now in
    let corrected = correction_after-take a.list.now place (notes_after a.list.now past.notes place a.entry.now)
    a.entry.now in
    search (rules, sum, stint, corrected, c.outside.view_is)

pub returns-clause-within : goal.returns-clause-within
returns-clause-within c =
    let a = c.args in
    subst (IsPastWithin a.list.now a.k) (sym (returns-clause-value c))
    (kept_after-within a.list.now a.k a.self.now c.requires.valid c.requires.node c.requires.within a.entry.now
    a.outside.now c.requires.entry)
