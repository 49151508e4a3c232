use Rattle.cluster_run.proofs.Words.{◌≡◌, ◌*◌, take, length, flat_map}
use Rattle.std.specs.Int.{to_be_bytes, w64}
use Rattle.cluster_run.proofs.sending.payload_of.Given as goal

abbrev pub invariant-loop-i : goal.invariant-loop-i
invariant-loop-i l = record {
  size : length l.bytes ≡ 240;
  front : take (8 * l.i) l.bytes ≡ flat_map (to_be_bytes w64) (take l.i l.words);
}
