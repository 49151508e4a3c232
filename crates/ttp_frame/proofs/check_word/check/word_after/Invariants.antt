use Rattle.std.proofs.Common.{◌≡◌, ◌<◌, ◌^◌, take}
use Rattle.ttp_world.specs.CheckWord.{check_word}
use Rattle.ttp_frame.proofs.check_word.check.word_after.Given as goal

abbrev pub invariant-loop-byte : goal.invariant-loop-byte
invariant-loop-byte l = record {
  fits : l.word < 2 ^ 24;
  value : l.word ≡ check_word l.fn.word (take l.byte-index l.bytes);
}
