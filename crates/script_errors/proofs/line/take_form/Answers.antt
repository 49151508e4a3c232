use Rattle.std.proofs.Common.{arith}
use Rattle.std.proofs.lemmas.Bool.Decides.{nat_tests}
use Rattle.std.proofs.lemmas.Result.{on_ok_weaker}
use Rattle.script_errors.proofs.Taken.{takes_form_full, takes_form_other}
use Rattle.script_errors.proofs.line.take_form.Goals as goal

pub returns-then-words-parts_of : goal.returns-then-words-parts_of
returns-then-words-parts_of c = on_ok_weaker c.take_full.result (λ takes before stands.
    takes_form_full c.args.list.now before _ _ _ _ _ _ _ _ _ (grind (arith, nat_tests))
    (c.in_ok-tell_no_slots.ensures c.args.list.now before stands) (takes before stands)) c.take_full.ensures

pub returns : goal.returns
returns c = on_ok_weaker c.take_other_length.result (λ takes before stands.
    takes_form_other c.args.list.now before _ _ _ _ _ _ _ _ _ (grind (arith, nat_tests))
    (c.in_ok-tell_no_slots.ensures c.args.list.now before stands) (takes before stands)) c.take_other_length.ensures
