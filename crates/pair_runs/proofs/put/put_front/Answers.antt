use Rattle.std.proofs.Common.{◌≡◌, ◌++◌, ◌∷◌, [], List, ℕ, subst}
use Rattle.std.specs.Prelude.{OnOk}
use Rattle.ttp_base.specs.Outside.{WroteLines}
use Rattle.ttp_base.proofs.Outputs.{Wrote-join}
use Rattle.campaign.specs.Lines.{own_line, summary}
use Rattle.fault_runs.specs.declared.put.CampaignFault.{CampaignFault}
use Rattle.fault_runs.specs.Ends.{LeftFewerBy}
use Rattle.pair_runs.proofs.FromBelow.{fewer-after, fewer-more, ok-weaker, err-weaker}
use Rattle.fault_pairs.specs.PairText.{pairs_head_line}
use Rattle.pair_runs.proofs.put.put_front.Goals as goal

pub returns-in-Err-clause-err : goal.returns-in-Err-clause-err
returns-in-Err-clause-err g c =
    let common = c.args.common.now in
    let head = pairs_head_line common.list.now common.script.now common.first common.last common.within in
    let own = own_line common.list.now (summary common.list.now common.script.now) in
    let formed = subst (λ (old : List ℕ).
    OnOk c.put_head-formed.result (c.put_head-formed.new.text ≡ old ++ head)) c.clear.ensures
    c.put_head-formed.ensures in
    fewer-more c.in-Err.why (g.K.Sink.output c.args.out.now)
    (g.K.Sink.output c.put_formed.new.out) (head ∷ []) (own ∷ [])
    (c.in-Err.ensures.err head formed)

pub returns-clause-ok : goal.returns-clause-ok
returns-clause-ok g c =
    let common = c.args.common.now in
    let head = pairs_head_line common.list.now common.script.now common.first common.last common.within in
    let own = own_line common.list.now (summary common.list.now common.script.now) in
    let o = g.K.Sink.output c.args.out.now in
    let p = g.K.Sink.output c.put_formed.new.out in
    let q = g.K.Sink.output c.put_formed-2.new.out in
    let formed = subst (λ (old : List ℕ).
    OnOk c.put_head-formed.result (c.put_head-formed.new.text ≡ old ++ head)) c.clear.ensures
    c.put_head-formed.ensures in
    let also = subst (λ (old : List ℕ).
    OnOk c.put_own-formed.result (c.put_own-formed.new.text ≡ old ++ own)) c.clear-2.ensures
    (c.put_own-formed.ensures (summary common.list.now common.script.now).cost c.requires.words) in
    ok-weaker (WroteLines p q (own ∷ [])) (WroteLines o q (head ∷ own ∷ [])) c.put_formed-2.result
    (λ wrote. Wrote-join o p q (head ∷ []) (own ∷ []) (c.in_default.ensures.ok head formed) wrote)
    (c.put_formed-2.ensures.ok own also)

pub returns-clause-err : goal.returns-clause-err
returns-clause-err g c =
    let common = c.args.common.now in
    let head = pairs_head_line common.list.now common.script.now common.first common.last common.within in
    let own = own_line common.list.now (summary common.list.now common.script.now) in
    let o = g.K.Sink.output c.args.out.now in
    let p = g.K.Sink.output c.put_formed.new.out in
    let q = g.K.Sink.output c.put_formed-2.new.out in
    let formed = subst (λ (old : List ℕ).
    OnOk c.put_head-formed.result (c.put_head-formed.new.text ≡ old ++ head)) c.clear.ensures
    c.put_head-formed.ensures in
    let also = subst (λ (old : List ℕ).
    OnOk c.put_own-formed.result (c.put_own-formed.new.text ≡ old ++ own)) c.clear-2.ensures
    (c.put_own-formed.ensures (summary common.list.now common.script.now).cost c.requires.words) in
    err-weaker (λ (why : CampaignFault). LeftFewerBy why p q (own ∷ []))
    (λ (why : CampaignFault). LeftFewerBy why o q (head ∷ own ∷ []))
    c.put_formed-2.result
    (λ why few. fewer-after why o p q (head ∷ []) (own ∷ []) (c.in_default.ensures.ok head formed) few)
    (c.put_formed-2.ensures.err own also)
