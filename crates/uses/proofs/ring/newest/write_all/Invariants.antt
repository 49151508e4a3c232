use Rattle.std.proofs.Common.{◌≡◌, ◌++◌, map, take}
use Rattle.uses.specs.Measured.{measured_words}
use Rattle.uses.proofs.ring.newest.write_all.Given as goal

abbrev pub invariant-loop-one : goal.invariant-loop-one
invariant-loop-one l =
    record {
      ring : l.writer.ring ≡ l.fn.writer.ring;
      written : l.writer.messages ≡ l.fn.writer.messages ++ map measured_words (take l.one-index l.measured);
    }
