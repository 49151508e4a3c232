use Rattle.std.proofs.Common.{Option, None, subst}
use Rattle.fault_runs.specs.declared.put.CampaignFault.{CampaignFault}
use Rattle.check_text.specs.Page.{PutsOn}
use Rattle.check_text.proofs.Pages.{all_wrote, all_left}
use Rattle.check_text.proofs.page.Page.end.Goals as goal

pub returns-in-None-clause-ok : goal.returns-in-None-clause-ok
returns-in-None-clause-ok c = λ a b lines p.
    all_wrote a b lines (subst (λ (e : Option CampaignFault). PutsOn None a e b lines) c.in-None.is p)

pub returns-clause-err : goal.returns-clause-err
returns-clause-err c = λ a b lines p.
    all_left c.in-Some.why a b lines (subst (λ (e : Option CampaignFault). PutsOn None a e b lines) c.in-Some.is p)
