use Rattle.std.proofs.Common.{arith}
use Rattle.std.proofs.lemmas.Bool.Decides.{nat_tests}
use Rattle.std.proofs.lemmas.Result.{on_ok_weaker}
use Rattle.script_errors.specs.Spots.{spot}
use Rattle.script_errors.proofs.Taken.{takes_count, takes_comment, takes_short, comment_is}
use Rattle.script_errors.proofs.line.take_other_length.Goals as goal

pub returns-in_default : goal.returns-in_default
returns-in_default c = on_ok_weaker c.tell.result (λ now before stands.
    takes_count c.args.list.now before _ _ _ _ _ _ _ _ c.requires.other c.in_default.ensures.none
    c.in_default.ensures.all now (c.name.ensures c.args.list.now before stands)) c.tell.ensures

pub returns-then-here-parts_of : goal.returns-then-here-parts_of
returns-then-here-parts_of c = on_ok_weaker c.take_full.result (λ takes before stands.
    takes_comment c.args.list.now before _ _ _ _ c.args.words.now _ _ _ _ _ _ c.requires.other
    (comment_is c.args.line.now c.args.words.now _ (spot 0 0) c.in-Some.ensures.within c.in-Some.ensures.comment)
    c.in-Some.ensures.front (grind (arith, nat_tests)) c.in_ok-tell.ensures (takes before stands)) c.take_full.ensures

pub returns : goal.returns
returns c = λ before stands.
    takes_short c.args.list.now before _ _ _ _ c.args.words.now _ _ _ _ _ c.requires.other
    (comment_is c.args.line.now c.args.words.now _ (spot 0 0) c.in-Some.ensures.within c.in-Some.ensures.comment)
    c.in-Some.ensures.front (grind (arith, nat_tests)) c.in_ok-tell.ensures
    (c.name-2.ensures c.args.list.now before stands)
