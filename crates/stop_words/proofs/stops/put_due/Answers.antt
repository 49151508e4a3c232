use Rattle.std.proofs.Common.{◌≡◌, ℕ, List, ◌++◌, subst}
use Rattle.std.specs.Prelude.{codes, OnOk}
use Rattle.check_words.specs.Pieces.{piece_text}
use Rattle.stop_words.specs.Stops.{due_words}
use Rattle.stop_words.proofs.stops.put_due.Goals as goal

pub returns : goal.returns
returns c =
    subst (λ (token : List ℕ). OnOk c.put_pieces.result (c.put_pieces.new.text
    ≡ c.args.line.now ++ (due_words c.args.due ++ (codes " is due, not " ++ token))))
    c.token_piece.ensures
    (subst (λ (due : List ℕ). OnOk c.put_pieces.result (c.put_pieces.new.text
    ≡ c.args.line.now ++ (due ++ (codes " is due, not " ++ piece_text c.token_piece.result))))
    c.due_words.ensures c.put_pieces.ensures)
