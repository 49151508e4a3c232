-- The text of a line is gathered from its labels and words.
use Rattle.std.proofs.Common.{◌≡◌, ℕ, List, [], ◌∷◌, ◌++◌, refl, sym, ap, ◌∙◌}
use Rattle.std.specs.List.{concat}
use Rattle.ttp_base.specs.Text.{gather}
use Rattle.ttp_base.proofs.Gathered.{gathered}
use Rattle.line_form.specs.Kinds.{spell}
use Rattle.line_form.specs.Forms.{LineForm, Values, spelled}

-- the labels and words of a line
abbrev pub pieces_of : (form : LineForm) → Values form → List (List ℕ)
pieces_of [] vs = []
pieces_of (f ∷ form) (v, vs) = f.label ∷ spell f.kind v ∷ pieces_of form vs

in_pieces : (form : LineForm) (vs : Values form) → spelled form vs ≡ concat (pieces_of form vs)
in_pieces [] vs = refl
in_pieces (f ∷ form) (v, vs) = ap (λ (t : List ℕ). f.label ++ (spell f.kind v ++ t)) (in_pieces form vs)

pub spelled-gathered : (form : LineForm) (vs : Values form) → spelled form vs ≡ gather [] (pieces_of form vs)
spelled-gathered form vs = in_pieces form vs ∙ sym (gathered [] (pieces_of form vs))
