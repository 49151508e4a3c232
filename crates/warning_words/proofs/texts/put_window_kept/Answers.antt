use Rattle.std.proofs.Common.{◌≡◌, ℕ, List, ◌++◌, subst}
use Rattle.std.specs.Prelude.{codes, OnOk}
use Rattle.std.specs.Fmt.{decimal, signed_decimal}
use Rattle.check_words.specs.Pieces.{piece_text}
use Rattle.std.specs.Prelude.{length}
use Rattle.warning_words.proofs.texts.put_window_kept.Goals as goal

pub returns : goal.returns
returns c =
    subst (λ (x : List ℕ). OnOk c.put_pieces.result (c.put_pieces.new.text
    ≡ c.args.text.now ++ (codes "window is "
    ++ (signed_decimal c.args.list.now.window
    ++ (codes ", wanted " ++ (signed_decimal c.args.due.now
    ++ (codes " or more: 4 * drift "
    ++ (signed_decimal c.args.list.now.drift ++ (codes " * nodes "
    ++ (decimal (length c.args.list.now.slots) ++ (codes " + 3 * error " ++ (x ++ codes " + 1"))))))))))))
    c.error_piece.ensures (subst (λ (x : ℕ). OnOk c.put_pieces.result (c.put_pieces.new.text
    ≡ c.args.text.now ++ (codes "window is "
    ++ (signed_decimal c.args.list.now.window
    ++ (codes ", wanted " ++ (signed_decimal c.args.due.now
    ++ (codes " or more: 4 * drift "
    ++ (signed_decimal c.args.list.now.drift ++ (codes " * nodes "
    ++ (decimal (x) ++ (codes " + 3 * error " ++ (piece_text c.error_piece.result ++ codes " + 1"))))))))))))
    c.nodes.ensures (subst (λ (x : List ℕ). OnOk c.put_pieces.result (c.put_pieces.new.text
    ≡ c.args.text.now ++ (codes "window is "
    ++ (signed_decimal c.args.list.now.window
    ++ (codes ", wanted " ++ (signed_decimal c.args.due.now
    ++ (codes " or more: 4 * drift "
    ++ (x ++ (codes " * nodes " ++ (decimal (c.nodes.result)
    ++ (codes " + 3 * error " ++ (piece_text c.error_piece.result ++ codes " + 1"))))))))))))
    c.drift_piece.ensures (subst (λ (x : List ℕ). OnOk c.put_pieces.result (c.put_pieces.new.text
    ≡ c.args.text.now ++ (codes "window is "
    ++ (signed_decimal c.args.list.now.window
    ++ (codes ", wanted " ++ (x
    ++ (codes " or more: 4 * drift "
    ++ (piece_text c.drift_piece.result
    ++ (codes " * nodes " ++ (decimal (c.nodes.result)
    ++ (codes " + 3 * error " ++ (piece_text c.error_piece.result ++ codes " + 1"))))))))))))
    c.signed_piece.ensures (subst (λ (x : List ℕ). OnOk c.put_pieces.result (c.put_pieces.new.text
    ≡ c.args.text.now ++ (codes "window is "
    ++ (x ++ (codes ", wanted "
    ++ (piece_text c.signed_piece.result
    ++ (codes " or more: 4 * drift "
    ++ (piece_text c.drift_piece.result
    ++ (codes " * nodes " ++ (decimal (c.nodes.result)
    ++ (codes " + 3 * error " ++ (piece_text c.error_piece.result ++ codes " + 1"))))))))))))
    c.window_piece.ensures c.put_pieces.ensures))))
