use Rattle.std.proofs.Common.{◌≡◌, ℕ, List, ◌++◌, chars, IsUtf8}
use Rattle.std.specs.Fmt.{HasWritten, IsPlainFormatter}
use Rattle.std.specs.Str.Iter.{chars_rest}
use Rattle.told.specs.Shown.{text_in_line}
use Rattle.told.proofs.shown.ShownDisplay.fmt.Given as goal

abbrev pub invariant-loop-ch : goal.invariant-loop-ch
invariant-loop-ch g l =
    IsUtf8 (chars_rest l.rest)
    × (IsPlainFormatter l.fn.f
    → (done : List ℕ) × HasWritten g.W.Write.write_str_gives l.fn.f done l.f
    × (done ++ text_in_line (chars (chars_rest l.rest)) ≡ text_in_line (chars l.fn.self.0.now)))
