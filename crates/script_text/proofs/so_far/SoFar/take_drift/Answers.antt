use Rattle.script_text.proofs.Terms.{◌≡◌, ◌<◌, length, arith, sym, ◌∙◌, err_from_is_err_and, number_at_word}
use Rattle.std.proofs.Common.{w64, to_z, of_z}
use Rattle.std.proofs.lemmas.Int.{to_z-of_z}
use Rattle.script_text.proofs.Kept.{refuses_own, takes_drift}
use Rattle.script_text.proofs.so_far.SoFar.take_drift.Goals as goal

pub returns-in_err-said-clause-err : goal.returns-in_err-said-clause-err
returns-in_err-said-clause-err c =
    let told = err_from_is_err_and c.from_residual.result c.from_residual.ensures.1 in
    rw (told.1, told.2) (
    refuses_own c.args.list.now c.args.words.now c.args.self.now _ _
    (rw c.unwrap_or.ensures at c.in_err-said.ensures.err))

pub returns-clause-ok : goal.returns-clause-ok
returns-clause-ok c =
    let said = c.in_ok-said.ensures in
    let old = c.args.self.now in
    let none = rw said.value at (sym c.says_drift.ensures ∙ c.if-says_drift.false) in
    let node : number_at_word c.args.words.now 1 < length c.args.list.now.slots = rw said.value at said.node in
    let value = c.in_ok-said.said.value in
    let same : to_z w64 (of_z w64 value) ≡ value = to_z-of_z w64 value said.fits in
    let drift = rw said.value at (rw same at c.set_drift.ensures.drift) in
    takes_drift c.args.list.now c.args.words.now old _ (rw c.unwrap_or.ensures at said.ok) none
    (omega (arith, node, c.requires.nodes.drift, old.drift.ok)) c.set_drift.ensures.value drift
