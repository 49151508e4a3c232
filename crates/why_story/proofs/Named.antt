-- What is kept is named.
use Rattle.std.proofs.Common.{◌≡◌, Bool, true, false, List, [], ◌∷◌, ◌++◌, sym, subst, filter, refl}
use Rattle.causes.specs.Story.{has_spot, kept_of_told}
use Rattle.causes.specs.declared.cause.Spot.{Spot}
use Rattle.causes.specs.declared.cause.Told.{Told}
use Rattle.why_story.specs.Named.{AreNamed}
use Rattle.why_story.proofs.Steps.{kept-no, kept-yes}

named-by : (back marks : List Spot) (told : Told) (older : List Told) (b : Bool) → has_spot marks told.spot ≡ b
    → ((m : List Spot) → AreNamed m (kept_of_told back m older))
    → AreNamed marks (kept_of_told back marks (told ∷ older))
named-by back marks told older false is rest =
    subst (AreNamed marks) (sym (kept-no back marks told older is)) (rest marks)
named-by back marks told older true is rest =
    subst (AreNamed marks) (sym (kept-yes back marks told older is))
    (is, rest (filter (has_spot back) told.cause.entries ++ marks))

pub kept-named : (back marks : List Spot) (told : List Told) → AreNamed marks (kept_of_told back marks told)
kept-named back marks [] = tt
kept-named back marks (told ∷ older) =
    named-by back marks told older (has_spot marks told.spot) refl (λ m. kept-named back m older)
