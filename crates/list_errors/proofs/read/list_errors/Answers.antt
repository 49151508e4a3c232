use Rattle.std.proofs.Common.{List, sym, ◌∙◌, subst}
use Rattle.medl_text.specs.ListFile.{medl_of}
use Rattle.list_errors.specs.declared.error.Wrong.{Wrong}
use Rattle.list_errors.specs.Agrees.{ListAgrees}
use Rattle.list_errors.proofs.TableAgree.{large_wrongs, large_rounds, large_modes, right_wrongs}
use Rattle.list_errors.proofs.TableAgree.{right_rounds, right_modes, taken}
use Rattle.list_errors.proofs.TableAgree.{small_wrongs, small_rounds, small_modes, agrees, told_fault, refused_wrongs}
use Rattle.list_errors.proofs.read.list_errors.Goals as goal

pub returns-then-text-gt-LIST_LIMIT-clause-exact : goal.returns-then-text-gt-LIST_LIMIT-clause-exact
returns-then-text-gt-LIST_LIMIT-clause-exact c =
    c.in_ok-found.ensures.wrongs ∙ sym (large_wrongs c.args.text.now c.if-text-gt-LIST_LIMIT.true)

pub returns-then-text-gt-LIST_LIMIT-clause-rounds : goal.returns-then-text-gt-LIST_LIMIT-clause-rounds
returns-then-text-gt-LIST_LIMIT-clause-rounds c =
    c.in_ok-found.ensures.rounds ∙ sym (large_rounds c.args.text.now c.if-text-gt-LIST_LIMIT.true)

pub returns-then-text-gt-LIST_LIMIT-clause-modes : goal.returns-then-text-gt-LIST_LIMIT-clause-modes
returns-then-text-gt-LIST_LIMIT-clause-modes c =
    c.in_ok-found.ensures.modes ∙ sym (large_modes c.args.text.now c.if-text-gt-LIST_LIMIT.true)

pub returns-in-Ok-clause-exact : goal.returns-in-Ok-clause-exact
returns-in-Ok-clause-exact c =
    let text = c.args.text.now in
    c.right.ensures.wrongs
    ∙ sym (right_wrongs text c.in-Ok.list c.if-text-gt-LIST_LIMIT.false (taken text c.in-Ok.list c.in-Ok.ensures.exact))

pub returns-in-Ok-clause-rounds : goal.returns-in-Ok-clause-rounds
returns-in-Ok-clause-rounds c =
    let text = c.args.text.now in
    c.right.ensures.rounds
    ∙ sym (right_rounds text c.in-Ok.list c.if-text-gt-LIST_LIMIT.false (taken text c.in-Ok.list c.in-Ok.ensures.exact))

pub returns-in-Ok-clause-modes : goal.returns-in-Ok-clause-modes
returns-in-Ok-clause-modes c =
    let text = c.args.text.now in
    c.right.ensures.modes
    ∙ sym (right_modes text c.in-Ok.list c.if-text-gt-LIST_LIMIT.false (taken text c.in-Ok.list c.in-Ok.ensures.exact))

pub returns-in_ok-found-in_default-clause-exact : goal.returns-in_ok-found-in_default-clause-exact
returns-in_ok-found-in_default-clause-exact c =
    c.in_ok-found-in_default.ensures.wrongs ∙ sym (small_wrongs c.args.text.now c.if-text-gt-LIST_LIMIT.false)

pub returns-in_ok-found-in_default-clause-agrees : goal.returns-in_ok-found-in_default-clause-agrees
returns-in_ok-found-in_default-clause-agrees c = λ size.
    let text = c.args.text.now in
    subst (λ (told : List Wrong). ListAgrees told (medl_of text))
    (small_wrongs text size ∙ sym c.in_ok-found-in_default.ensures.wrongs) (agrees text size)

pub returns-in_ok-found-in_default-clause-rounds : goal.returns-in_ok-found-in_default-clause-rounds
returns-in_ok-found-in_default-clause-rounds c =
    c.in_ok-found-in_default.ensures.rounds ∙ sym (small_rounds c.args.text.now c.if-text-gt-LIST_LIMIT.false)

pub returns-in_ok-found-in_default-clause-modes : goal.returns-in_ok-found-in_default-clause-modes
returns-in_ok-found-in_default-clause-modes c =
    c.in_ok-found-in_default.ensures.modes ∙ sym (small_modes c.args.text.now c.if-text-gt-LIST_LIMIT.false)

pub returns-in_ok-found-in_default-clause-none : goal.returns-in_ok-found-in_default-clause-none
returns-in_ok-found-in_default-clause-none c =
    let text = c.args.text.now in
    let size = c.if-text-gt-LIST_LIMIT.false in
    rw c.in_ok-found-in_default.ensures.list
    (λ none. refused_wrongs text c.in-Err.fault size
    (told_fault text c.in-Err.fault c.in_default.not-Memory c.in-Err.ensures.exact)
    (small_wrongs text size ∙ sym c.in_ok-found-in_default.ensures.wrongs ∙ none))
