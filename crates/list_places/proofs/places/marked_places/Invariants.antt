use Rattle.std.proofs.Common.{◌≡◌, take}
use Rattle.list_places.specs.Marks.{Marked}
use Rattle.list_places.specs.Places.{marked_places}
use Rattle.list_places.specs.Standing.{MarksAre}
use Rattle.list_places.proofs.places.marked_places.Given as goal

-- the errors so far have their places
abbrev pub invariant-loop-wrong : goal.invariant-loop-wrong
invariant-loop-wrong l =
    (m : Marked) → MarksAre l.marks m → l.places ≡ marked_places l.text m (take l.wrong-index l.wrongs)
