use Rattle.std.proofs.Common.{sym}
use Rattle.ttp_frame.proofs.Words.{check_word-none, check_word-more}
use Rattle.ttp_frame.proofs.check_word.check.word_after.Goals as goal

pub loop-byte-init : goal.loop-byte-init
loop-byte-init c = record {
  fits = c.requires;
  value = sym (check_word-none c.args.word c.requires);
}

pub loop-byte-preserved : goal.loop-byte-preserved
loop-byte-preserved c = record {
  fits = c.next_word-word.ensures.fits;
  value = check_word-more c.args.word c.loop-byte.word _ c.loop-byte.byte-index c.args.bytes.now c.loop-byte-test.true
      c.loop-byte.invariant.value c.next_word-word.ensures.value;
}
