use Rattle.std.proofs.Common.{◌≡◌, drop}
use Rattle.line_form.specs.Kinds.{place_among}
use Rattle.line_form.proofs.Places.{texts_of, placed}
use Rattle.line_form.proofs.words.place_among.Given as goal

-- none of the texts so far is the word
abbrev pub invariant-loop-place : goal.invariant-loop-place
invariant-loop-place l =
    place_among (texts_of l.texts) l.word ≡ placed l.place (place_among (drop l.place (texts_of l.texts)) l.word)
