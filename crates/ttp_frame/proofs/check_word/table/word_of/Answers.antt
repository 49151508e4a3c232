use Rattle.ttp_frame.proofs.WordsOfBytes.{get_or-WORDS}
use Rattle.ttp_frame.proofs.check_word.table.word_of.Goals as goal

pub returns : goal.returns
returns c = get_or-WORDS c.args.byte c.ranges.byte.fits
