use Rattle.std.proofs.Common.{◌≡◌, ℕ, ◌++◌, subst}
use Rattle.std.specs.Prelude.{codes, OnOk}
use Rattle.std.specs.Fmt.{decimal}
use Rattle.warning_words.proofs.texts.put_late.Goals as goal

pub returns : goal.returns
returns c =
    subst (λ (on : ℕ). OnOk c.put_pieces.result (c.put_pieces.new.text
    ≡ c.args.text.now ++ (codes "node " ++ (decimal c.args.node ++ (codes " is on from slot " ++ (decimal on ++ (codes
    ", wanted slot " ++ (decimal c.args.slot ++ codes " or earlier, the slot of the start"))))))))
    c.slot_on.ensures c.put_pieces.ensures
