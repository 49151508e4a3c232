use Rattle.safety_laws.proofs.OneSender.{members-alone, outside-alone, none-alone, silent-none_sends}
use Rattle.safety_laws.proofs.OwnSlots.{act_made-sends}
use Rattle.safety_laws.proofs.Payloads.{HasPayload-world}
use Rattle.safety_laws.proofs.slots.one_sender.Goals as goal

pub returns-clause-heard : goal.returns-clause-heard
returns-clause-heard c = λ list script history chosen p r sends. members-alone r sends

pub returns-clause-outside : goal.returns-clause-outside
returns-clause-outside c = λ list script history chosen p r sends. outside-alone r sends

pub returns-clause-lost : goal.returns-clause-lost
returns-clause-lost c = λ list script history chosen p r sends. none-alone r sends

pub returns-clause-silent : goal.returns-clause-silent
returns-clause-silent c = silent-none_sends

pub returns-clause-payload : goal.returns-clause-payload
returns-clause-payload c = λ list script new numbers k valid legal node is closed more.
    HasPayload-world list script new numbers k valid legal node is.own (act_made-sends _ is closed more)
