use Rattle.std.proofs.Common.{◌≡◌, ℕ, List, ◌++◌, subst}
use Rattle.std.specs.Prelude.{codes, OnOk}
use Rattle.check_words.specs.Shown.{shown_word}
use Rattle.stop_words.specs.Stops.{no_value_words}
use Rattle.stop_words.proofs.stops.put_no_value.Goals as goal

pub returns : goal.returns
returns c =
    subst (λ (part : List ℕ). OnOk c.put_pieces.result (c.put_pieces.new.text
    ≡ c.args.line.now ++ (shown_word part ++ (codes " is no value, " ++ no_value_words c.args.reason))))
    c.part_of.ensures
    (subst (λ (why : List ℕ). OnOk c.put_pieces.result (c.put_pieces.new.text
    ≡ c.args.line.now ++ (shown_word c.part_of.result.now ++ (codes " is no value, " ++ why))))
    c.no_value_words.ensures c.put_pieces.ensures)
