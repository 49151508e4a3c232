use Rattle.chart_text.proofs.Words.{puts_first}
use Rattle.chart_text.proofs.listed.put_worst.Goals as goal

pub returns-clause-puts : goal.returns-clause-puts
returns-clause-puts g c = puts_first c.make_list_title.ensures c.write.ensures c.put_list.ensures.puts
