use Rattle.std.proofs.Common.{◌≡◌, ℕ, List, ◌++◌, subst}
use Rattle.std.specs.Prelude.{codes, OnOk}
use Rattle.std.specs.Fmt.{decimal, signed_decimal}
use Rattle.check_words.specs.Pieces.{piece_text}
use Rattle.warning_words.proofs.texts.put_errors.Goals as goal

pub returns : goal.returns
returns c =
    subst (λ (x : List ℕ). OnOk c.put_pieces.result (c.put_pieces.new.text
    ≡ c.args.text.now ++ (codes "error lines of node "
    ++ (decimal c.args.node ++ (codes " add up to "
    ++ (signed_decimal c.args.sum.now ++ (codes ", past error = " ++ (x ++ codes " of the list"))))))))
    c.error_piece.ensures (subst (λ (x : List ℕ). OnOk c.put_pieces.result (c.put_pieces.new.text
    ≡ c.args.text.now ++ (codes "error lines of node "
    ++ (decimal c.args.node ++ (codes " add up to "
    ++ (x ++ (codes ", past error = " ++ (piece_text c.error_piece.result ++ codes " of the list"))))))))
    c.signed_piece.ensures c.put_pieces.ensures)
