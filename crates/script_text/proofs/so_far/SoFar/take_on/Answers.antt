use Rattle.script_text.proofs.Terms.{◌≡◌, ◌<◌, length, refl, arith, sym, ◌∙◌, err_from_is_err_and, number_at_word}
use Rattle.script_text.proofs.Kept.{refuses_own, takes_on}
use Rattle.script_text.proofs.so_far.SoFar.take_on.Goals as goal

pub returns-in_err-said-clause-err : goal.returns-in_err-said-clause-err
returns-in_err-said-clause-err c =
    let told = err_from_is_err_and c.from_residual.result c.from_residual.ensures.1 in
    rw (told.1, told.2) (
    refuses_own c.args.list.now c.args.words.now c.args.self.now _ _
    (rw c.unwrap_or.ensures at c.in_err-said.ensures.err))

pub returns-clause-ok : goal.returns-clause-ok
returns-clause-ok c =
    let said = c.in_ok-said.ensures in
    let old = c.args.self.now in
    let none = rw said.value at (sym c.says_on.ensures ∙ c.if-says_on.false) in
    let node : number_at_word c.args.words.now 1 < length c.args.list.now.slots = rw said.value at said.node in
    rw said.value (
    takes_on c.args.list.now c.args.words.now old _ (rw c.unwrap_or.ensures at said.ok) none
    (omega (arith, node, c.requires.nodes.on, old.on.ok)) refl refl)
