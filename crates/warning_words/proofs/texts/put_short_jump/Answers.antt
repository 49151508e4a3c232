use Rattle.std.proofs.Common.{◌≡◌, ℕ, List, ◌++◌, subst}
use Rattle.std.specs.Prelude.{codes, OnOk}
use Rattle.std.specs.Fmt.{decimal, signed_decimal}
use Rattle.check_words.specs.Pieces.{piece_text}
use Rattle.ttp_world.specs.Hypothesis.{four_windows}
use Rattle.warning_words.proofs.texts.put_short_jump.Goals as goal

pub returns : goal.returns
returns c =
    subst (λ (x : List ℕ). OnOk c.put_pieces.result (c.put_pieces.new.text
    ≡ c.args.text.now ++ (codes "jumps of node "
    ++ (decimal c.args.node ++ (codes " add up to "
    ++ (signed_decimal c.args.sum.now ++ (codes ", wanted " ++ (x ++ codes " or more, ahead or back"))))))))
    c.four_windows_piece.ensures (subst (λ (x : List ℕ). OnOk c.put_pieces.result (c.put_pieces.new.text
    ≡ c.args.text.now ++ (codes "jumps of node "
    ++ (decimal c.args.node ++ (codes " add up to "
    ++ (x ++ (codes ", wanted " ++ (piece_text c.four_windows_piece.result ++ codes " or more, ahead or back"))))))))
    c.signed_piece.ensures c.put_pieces.ensures)
