use Rattle.script_text.proofs.Terms.{◌≡◌, ◌<◌, length, refl, arith, sym, ◌∙◌, err_from_is_err_and, number_at_word}
use Rattle.script_text.proofs.Kept.{refuses_own, takes_write}
use Rattle.script_text.proofs.so_far.SoFar.take_write.Goals as goal

pub returns-in_err-message-clause-err : goal.returns-in_err-message-clause-err
returns-in_err-message-clause-err c =
    let told = err_from_is_err_and c.from_residual.result c.from_residual.ensures.1 in
    rw (told.1, told.2) (
    refuses_own c.args.list.now c.args.words.now c.args.self.now _ _
    (rw c.unwrap_or-slots.ensures at c.in_err-message.ensures.err))

pub returns-clause-ok : goal.returns-clause-ok
returns-clause-ok c =
    let said = c.in_ok-message.ensures in
    let old = c.args.self.now in
    let room = rw said.value at (sym c.has_room.ensures ∙ c.if-not-has_room.false) in
    let node : number_at_word c.args.words.now 1 < length c.args.list.now.slots = rw said.value at said.node in
    takes_write c.args.list.now c.args.words.now old _ _ (rw c.unwrap_or-slots.ensures at said.ok)
    (omega (arith, node, c.requires.nodes.writes)) refl room
    (rw said.value at c.in_ok-keep.ensures.value) (rw said.value at c.in_ok-keep.ensures.writes)
