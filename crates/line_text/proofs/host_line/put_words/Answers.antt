use Rattle.std.proofs.Common.{arith, rules}
use Rattle.line_text.proofs.WordTexts.{room_for_word, words_are_short}
use Rattle.line_text.proofs.host_line.put_words.Goals as goal

pub put_hex-requires : goal.put_hex-requires
put_hex-requires c = (
  omega arith,
  (
    (omega arith, omega arith),
    (
      search rules,
      room_for_word c.loop-word.line c.args.line.now c.args.words.now c.loop-word.word-index c.loop-word.invariant
          c.loop-word-test.true c.requires,
    ),
  ),
)

pub returns-clause-short : goal.returns-clause-short
returns-clause-short c =
    words_are_short c.loop-word.line c.args.line.now c.args.words.now c.loop-word.word-index c.loop-word.invariant
