use Rattle.std.proofs.Common.{sym, subst}
use Rattle.medium.specs.Carried.{Carried}
use Rattle.medium.specs.StandsFor.{MediumStandsFor}
use Rattle.medium.proofs.Channels.{Shows-carried}
use Rattle.medium.proofs.medium.Medium.carried.Goals as goal

pub returns-in-A : goal.returns-in-A
returns-in-A c = λ script slot frames clock stands.
    let inside = c.self.inside in
    let old : MediumStandsFor (record { slot = inside.slot; a = inside.a; b = inside.b }) script slot frames clock =
    subst (λ (m : Carried). MediumStandsFor m script slot frames clock) (sym c.self.view_is) stands in
    rw c.in-A.is (Shows-carried _ inside.a _ clock old.a c.arrival.ensures)

pub returns-in-B : goal.returns-in-B
returns-in-B c = λ script slot frames clock stands.
    let inside = c.self.inside in
    let old : MediumStandsFor (record { slot = inside.slot; a = inside.a; b = inside.b }) script slot frames clock =
    subst (λ (m : Carried). MediumStandsFor m script slot frames clock) (sym c.self.view_is) stands in
    rw c.in-B.is (Shows-carried _ inside.b _ clock old.b c.arrival-in-B.ensures)
