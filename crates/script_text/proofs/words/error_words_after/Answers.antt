use Rattle.script_text.proofs.WordCuts.{AreCut-end, AreCut-more}
use Rattle.script_text.proofs.words.error_words_after.Goals as goal

pub invariant_of-result : goal.invariant_of-result
invariant_of-result c = (
    AreCut-more _ _ _ _ c.in-Some.ensures (
    AreCut-more _ _ _ _ c.next_word-third.ensures (
    AreCut-more _ _ _ _ c.in-Some-number_word.ensures (
    AreCut-more _ _ _ _ c.in-Some-number_word-2.ensures (
    AreCut-more _ _ _ _ c.next_word-sixth.ensures (AreCut-end _)))))).are
