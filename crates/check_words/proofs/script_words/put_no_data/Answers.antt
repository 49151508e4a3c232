use Rattle.std.proofs.Common.{◌≡◌, ℕ, List, ◌++◌, subst}
use Rattle.std.specs.Prelude.{codes, OnOk}
use Rattle.std.specs.Fmt.{decimal}
use Rattle.check_words.specs.Script.{script_said}
use Rattle.check_words.proofs.script_words.put_no_data.Goals as goal

pub returns : goal.returns
unfolding script_said
returns c =
    subst (λ (name : List ℕ). OnOk c.put_pieces.result (c.put_pieces.new.text
    ≡ c.args.text.now ++ (name ++ (codes " is " ++ (decimal c.args.node ++ codes ", whose data is 0 in the list")))))
    c.part_name.ensures c.put_pieces.ensures
