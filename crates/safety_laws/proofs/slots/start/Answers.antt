use Rattle.safety_laws.proofs.Words.{length, ◌∙◌, subst, arith, length-world, node_past, world, messages_chosen, Waits}
use Rattle.ttp_world.proofs.Starts.{alone-start, on-start}
use Rattle.safety_laws.proofs.StartSlot.{starter-stands, joiner-stands, off-stays, first_due, has-begun}
use Rattle.safety_laws.proofs.Waiting.{WaitAll-world}
use Rattle.safety_laws.proofs.slots.start.Goals as goal

pub returns-clause-known : goal.returns-clause-known
returns-clause-known c = alone-start

pub returns-clause-all_on : goal.returns-clause-all_on
returns-clause-all_on c = on-start

pub returns-clause-waits : goal.returns-clause-waits
returns-clause-waits c = λ list script start numbers valid alone early k node.
    subst (λ slots. Waits list script slots k (node_past list script (world list script numbers) k))
    (length-world list script numbers)
    (WaitAll-world list script start.slot numbers valid (first_due list script start alone) early k node)

pub returns-clause-starts : goal.returns-clause-starts
returns-clause-starts c = λ list script start new numbers valid alone now.
    starter-stands list script start (world list script numbers)
    (messages_chosen list script (length numbers) new.sent) valid alone
    (WaitAll-world list script start.slot numbers valid (first_due list script start alone) (omega (arith, now)))
    (length-world list script numbers ∙ now)

pub returns-clause-joins : goal.returns-clause-joins
returns-clause-joins c = λ list script start new numbers valid alone now heard k node other on.
    joiner-stands list script start (world list script numbers)
    (messages_chosen list script (length numbers) new.sent) valid alone
    (WaitAll-world list script start.slot numbers valid (first_due list script start alone) (omega (arith, now)))
    (length-world list script numbers ∙ now) heard k node other on

pub returns-clause-off : goal.returns-clause-off
returns-clause-off c = λ list script start new numbers valid alone now k node other off.
    off-stays list script start (world list script numbers)
    (messages_chosen list script (length numbers) new.sent) valid alone
    (WaitAll-world list script start.slot numbers valid (first_due list script start alone) (omega (arith, now)))
    (length-world list script numbers ∙ now) k node other off

pub returns-clause-together : goal.returns-clause-together
returns-clause-together c = λ list script start new numbers valid alone now heard k node on.
    has-begun list script start (world list script numbers)
    (messages_chosen list script (length numbers) new.sent) valid alone
    (WaitAll-world list script start.slot numbers valid (first_due list script start alone) (omega (arith, now)))
    (length-world list script numbers ∙ now) heard k node on
