-- What an active node holds is shown as it is.
use Rattle.wave_text.proofs.Words.{◌≡◌, true, List, ℕ, refl, Word, is_active_word, held_text}
use Rattle.line_reader.specs.declared.trace_line.Word.TheVariants as word

pub held_by_active : (w : Word) (text : List ℕ) → is_active_word w ≡ true → held_text w text ≡ text
held_by_active word.Start text is = refl
held_by_active word.Join text is = refl
held_by_active word.Send text is = refl
held_by_active word.Correct text is = refl
held_by_active word.Tentative text is = refl
held_by_active word.Incorrect text is = refl
held_by_active word.Invalid text is = refl
held_by_active word.Null text is = refl
held_by_active w text is = cc
