use Rattle.std.proofs.Common.{ℕ, ◌+◌, ◌-◌, List, ◌∷◌, length, take, drop, ap, sym, ◌∙◌, arith}
use Rattle.std.proofs.lemmas.List.{take_all, length-drop}
use Rattle.whole_campaign.specs.Words.{words_listed}
use Rattle.whole_campaign.proofs.CommaLists.{first_listed-Some, first_listed-None}
use Rattle.whole_campaign.proofs.cut.first_listed.Goals as goal

pub returns-in-Some-clause-words : goal.returns-in-Some-clause-words
returns-in-Some-clause-words c =
    let list = c.args.list.now in
    let end = c.in-Some.end in
    first_listed-Some list end (sym c.in-Some.ensures)
    ∙ ap (λ (bytes : List ℕ). take end list ∷ words_listed bytes)
    (sym (take_all (length list - (end + 1)) (drop (end + 1) list) (omega (arith, length-drop (end + 1) list))))

pub returns-in-None-clause-words : goal.returns-in-None-clause-words
returns-in-None-clause-words c = first_listed-None c.args.list.now (sym c.in-None.ensures)
