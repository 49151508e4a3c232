use Rattle.std.proofs.Common.{◌≡◌, ◌++◌, take}
use Rattle.std.specs.Prelude.{flat_map}
use Rattle.causes.specs.WhyText.{note_words}
use Rattle.why_words.proofs.miss.put_notes.Given as goal

-- the words so far
abbrev pub invariant-loop-note : goal.invariant-loop-note
invariant-loop-note l = l.text ≡ l.initial.text ++ flat_map note_words (take l.note-index l.notes)
