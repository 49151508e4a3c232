use Rattle.script_text.proofs.Terms.{refl}
use Rattle.script_text.specs.declared.keyword.Keyword.TheVariants as keyword
use Rattle.script_text.proofs.read.take_stated.Goals as goal

pub returns-in-Send-clause-err : goal.returns-in-Send-clause-err
returns-in-Send-clause-err c = rw c.in-Send.is (
    c.take_event.ensures.err c.args.list.now c.args.words.now keyword.Send refl
    (rw c.unwrap_or-slots.ensures at c.send_in.ensures))

pub returns-in-Receive-clause-err : goal.returns-in-Receive-clause-err
returns-in-Receive-clause-err c = rw c.in-Receive.is (
    c.take_event-in-Receive.ensures.err c.args.list.now c.args.words.now keyword.Receive refl
    (rw c.unwrap_or-slots.ensures at c.receive_in.ensures))

pub returns-in-Flip-clause-err : goal.returns-in-Flip-clause-err
returns-in-Flip-clause-err c = rw c.in-Flip.is (
    c.take_event-in-Flip.ensures.err c.args.list.now c.args.words.now keyword.Flip refl
    (rw c.unwrap_or-slots.ensures at c.flip_in.ensures))

pub returns-in-Jump-clause-err : goal.returns-in-Jump-clause-err
returns-in-Jump-clause-err c = rw c.in-Jump.is (
    c.take_event-in-Jump.ensures.err c.args.list.now c.args.words.now keyword.Jump refl
    (rw c.unwrap_or-slots.ensures at c.jump_in.ensures))

pub returns-in-Arm-clause-err : goal.returns-in-Arm-clause-err
returns-in-Arm-clause-err c = rw c.in-Arm.is (
    c.take_event-in-Arm.ensures.err c.args.list.now c.args.words.now keyword.Arm refl
    (rw c.unwrap_or-slots.ensures at c.arm_in.ensures))

pub returns-in-Read-clause-err : goal.returns-in-Read-clause-err
returns-in-Read-clause-err c = rw c.in-Read.is (
    c.take_event-in-Read.ensures.err c.args.list.now c.args.words.now keyword.Read refl
    (rw c.unwrap_or-slots.ensures at c.read_in.ensures))
