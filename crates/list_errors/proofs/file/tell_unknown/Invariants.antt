use Rattle.std.proofs.Common.{◌≡◌, ◌++◌, map, string_bytes}
use Rattle.list_errors.proofs.Keys.{told_of}
use Rattle.list_errors.proofs.file.tell_unknown.Given as goal

-- the keys so far were told
abbrev pub invariant-loop-key : goal.invariant-loop-key
invariant-loop-key l =
    l.wrongs ≡ l.fn.wrongs ++ told_of l.slot l.known (map (λ key. string_bytes key.now) l.yielded)
