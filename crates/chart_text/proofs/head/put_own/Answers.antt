use Rattle.chart_text.proofs.Words.{◌∙◌, puts_two}
use Rattle.chart_text.proofs.head.put_own.Goals as goal

pub returns-clause-puts : goal.returns-clause-puts
returns-clause-puts g c =
    puts_two (c.bytes.ensures ∙ c.make_own.ensures.text) (c.bytes-2.ensures ∙ c.make_said.ensures.text) c.put.ensures
    c.put-2.ensures
