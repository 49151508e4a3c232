use Rattle.chart_text.proofs.Words.{◌∙◌, puts_first, puts_two}
use Rattle.chart_text.proofs.listed.put_listed.Goals as goal

pub returns-clause-puts : goal.returns-clause-puts
returns-clause-puts g c =
    puts_first (rw (c.look_text-look.ensures.text, c.fault_look.ensures) at c.make_look_number.ensures) c.write.ensures
    (puts_two (c.bytes.ensures ∙ c.make_fault.ensures.text) (c.bytes-2.ensures ∙ c.make_lost.ensures.text) c.put.ensures
    c.put-2.ensures)
