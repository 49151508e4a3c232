-- A text in pieces.
use Rattle.std.specs.Prelude.{ℕ, List, [], ◌∷◌, ◌++◌}
use Rattle.std.specs.Fmt.{decimal, signed_decimal}
use Rattle.check_words.specs.declared.pieces.Piece.{Piece}
use Rattle.check_words.specs.declared.pieces.Piece.TheVariants as piece
use Rattle.check_words.specs.Nodes.{nodes_text}
use Rattle.check_words.specs.Shown.{shown_word}

abbrev pub piece_text : Piece → List ℕ
piece_text (piece.Words words) = words.now
piece_text (piece.Number number) = decimal number
piece_text (piece.Signed number) = signed_decimal number
piece_text (piece.Shown word) = shown_word word.now
piece_text (piece.Nodes nodes) = nodes_text nodes

-- pieces, one behind the other
abbrev pub pieces_text : List Piece → List ℕ
pieces_text [] = []
pieces_text (p ∷ []) = piece_text p
pieces_text (p ∷ q ∷ ps) = piece_text p ++ pieces_text (q ∷ ps)
