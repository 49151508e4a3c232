-- The node's past is within the list.
use Rattle.controller.proofs.Words.{refl, sym, subst, ◌∙◌, rules, IsAckWithin}
use Rattle.controller.proofs.hearing.receiver_of.Goals as goal

pub returns-clause-receiver : goal.returns-clause-receiver
returns-clause-receiver c =
    let slot = c.args.node.now.place.slot in
    record {
      number = c.requires.number;
      coming = record { place = refl; rounds = c.coming-coming.ensures.rounds; slots = c.coming-coming.ensures.slots };
      doubt = λ x doubts. (subst (IsAckWithin c.args.list.now c.args.k slot)
          (sym c.acknowledgement.ensures ∙ doubts) c.requires.within.ack).0;
      members = search rules;
    }
