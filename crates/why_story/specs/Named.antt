-- What a story tells is named in it.
use Rattle.std.specs.Prelude.{◌≡◌, true, List, [], ◌∷◌, ◌++◌}
use Rattle.causes.specs.Story.{has_spot}
use Rattle.causes.specs.declared.cause.Spot.{Spot}
use Rattle.causes.specs.declared.cause.Told.{Told}

-- of some entries that are told, the newest first, each is named by one before it, or is one of these
abbrev pub AreNamed : List Spot → List Told → Type 0
AreNamed spots [] = Unit {0}
AreNamed spots (told ∷ older) = (has_spot spots told.spot ≡ true) × AreNamed (told.cause.entries ++ spots) older
