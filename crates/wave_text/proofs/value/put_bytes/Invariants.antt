use Rattle.wave_text.proofs.Words.{◌≡◌, ◌+◌, ◌*◌, ◌++◌, take, length, codes, flat_map, binary}
use Rattle.wave_text.proofs.value.put_bytes.Given as goal

-- the bytes so far were added
abbrev pub invariant-loop-byte : goal.invariant-loop-byte
invariant-loop-byte l = record {
  text : l.line ≡ codes "b" ++ flat_map (binary 8) (take l.byte-index l.byte-items);
  size : length l.line ≡ 8 * l.byte-index + 1;
}
