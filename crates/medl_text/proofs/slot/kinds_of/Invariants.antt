use Rattle.std.proofs.Common.{◌≡◌, true, take, map}
use Rattle.std.specs.List.{list_all}
use Rattle.medl_text.specs.ListFile.{is_kind, kind_of}
use Rattle.medl_text.proofs.slot.kinds_of.Given as goal

-- each letter so far is one, and its kind was added
abbrev pub invariant-loop-letter : goal.invariant-loop-letter
invariant-loop-letter l =
    (l.kinds ≡ map kind_of (take l.letter-index l.letters)) × (list_all is_kind (take l.letter-index l.letters) ≡ true)
