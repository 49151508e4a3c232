-- A join on channel A comes before one on B.
use Rattle.controller.proofs.Words.{sym, ◌∙◌, rules}
use Rattle.controller.proofs.hearing.listening_entry.Goals as goal

pub returns-in-Some : goal.returns-in-Some
returns-in-Some c sent_a sent_b clock shows_a shows_b =
    search (rules, sym (c.channel_join.ensures sent_a clock shows_a) ∙ c.in-Some.is)

pub returns-in-None : goal.returns-in-None
returns-in-None c sent_a sent_b clock shows_a shows_b =
    search (
      rules,
      sym (c.channel_join.ensures sent_a clock shows_a) ∙ c.in-None.is,
      c.channel_join-in-None.ensures sent_b clock shows_b,
    )
