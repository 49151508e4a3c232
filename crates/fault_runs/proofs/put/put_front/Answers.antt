use Rattle.fault_runs.proofs.Words.{◌≡◌, ◌∷◌, [], sym, subst, ◌∙◌, WroteLines, Wrote-join, Counts, summary, head_line}
use Rattle.fault_runs.proofs.Words.{own_line, CampaignFault, LeftFewerBy, front_lines, AreAtMost, HasAtMost, IsTallyOf}
use Rattle.fault_runs.proofs.Endings.{fewer-after, fewer-more}
use Rattle.fault_runs.proofs.Results.{ok-always, ok-weaker, err-weaker}
use Rattle.fault_runs.proofs.put.put_front.Goals as goal

pub returns-in-Err-clause-err : goal.returns-in-Err-clause-err
returns-in-Err-clause-err g c =
    let common = c.args.common.now in
    let head = head_line common.list.now common.script.now common.first common.last in
    let own = own_line common.list.now (summary common.list.now common.script.now) in
    fewer-more c.in-Err.why (g.K.Sink.output c.args.out.now) (g.K.Sink.output c.put_formed.new.out) (head ∷ [])
    (own ∷ []) (c.in-Err.ensures.err head c.form_head-formed.ensures.line)

pub returns : goal.returns
returns g c =
    let list = c.args.common.now.list.now in
    let script = c.args.common.now.script.now in
    let first = c.args.common.now.first in
    let last = c.args.common.now.last in
    let a = g.K.Sink.output c.args.out.now in
    let b = g.K.Sink.output c.put_formed.new.out in
    let d = g.K.Sink.output c.put_formed-2.new.out in
    let head = head_line list script first last in
    let own = own_line list (summary list script) in
    let tally = c.form_own-formed.new.self in
    let wrote_head = c.in_default.ensures.ok head c.form_head-formed.ensures.line in
    let kept : tally.kept ≡ c.args.tally.now.kept = c.form_own-formed.ensures.kept ∙ c.form_head-formed.ensures.kept in
    let broken : tally.broken ≡ c.args.tally.now.broken =
    c.form_own-formed.ensures.broken ∙ c.form_head-formed.ensures.broken in
    record {
      told = ok-always (IsTallyOf list script [] tally) c.put_formed-2.result (record {
        kept = kept ∙ c.requires.told.kept;
        broken = broken ∙ c.requires.told.broken;
      });
      few = ok-always (HasAtMost 0 tally) c.put_formed-2.result (record {
        kept = subst (λ (k : Counts). AreAtMost 0 k) (sym kept) c.requires.few.kept;
        broken = subst (λ (k : Counts). AreAtMost 0 k) (sym broken) c.requires.few.broken;
      });
      ok =
          ok-weaker (WroteLines b d (own ∷ [])) (WroteLines a d (front_lines list script first last))
          c.put_formed-2.result
          (λ wrote. Wrote-join a b d (head ∷ []) (own ∷ []) wrote_head wrote)
          (c.put_formed-2.ensures.ok own c.form_own-formed.ensures.line);
      err =
          err-weaker (λ (why : CampaignFault). LeftFewerBy why b d (own ∷ []))
          (λ (why : CampaignFault). LeftFewerBy why a d (front_lines list script first last)) c.put_formed-2.result
          (λ why few. fewer-after why a b d (head ∷ []) (own ∷ []) wrote_head few)
          (c.put_formed-2.ensures.err own c.form_own-formed.ensures.line);
    }
