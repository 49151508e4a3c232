use Rattle.std.proofs.Common.{◌≡◌, ◌∙◌, List, ℕ, [], ◌∷◌, ap, sym, subst, refl}
use Rattle.std.specs.Prelude.{IfErr}
use Rattle.ttp_base.specs.Outside.{WroteLines}
use Rattle.ttp_base.specs.Text.{Lines}
use Rattle.ttp_base.proofs.Outputs.{Wrote-none}
use Rattle.fault_runs.specs.declared.put.CampaignFault.{CampaignFault}
use Rattle.fault_runs.specs.Ends.{LeftBy}
use Rattle.pair_runs.proofs.FromBelow.{ok-weaker}
use Rattle.fault_pairs.specs.Sums.{PairTold}
use Rattle.pair_runs.specs.declared.tried.PairResult.{PairResult}
use Rattle.pair_runs.specs.Counted.{PutPairs}
use Rattle.pair_runs.proofs.Told.{line-told, no-line}
use Rattle.pair_runs.proofs.put.put_told.Goals as goal

pub returns-then-has_line-clause-few : goal.returns-then-has_line-clause-few
returns-then-has_line-clause-few g c = λ distances most has.
    let told = c.args.told.now in
    let pair : PairTold = record { apart = c.args.apart; yes = told.yes; class = told.class; line = [] } in
    record {
      sums = (c.count.ensures.sums pair refl refl refl).few distances most has.sums;
      counts = c.count.ensures.few most has.counts;
    }

pub returns-clause-few : goal.returns-clause-few
returns-clause-few g c = λ distances most has.
    let told = c.args.told.now in
    let pair : PairTold = record { apart = c.args.apart; yes = told.yes; class = told.class; line = [] } in
    record {
      sums = (c.count.ensures.sums pair refl refl refl).few distances most has.sums;
      counts = c.count.ensures.few most has.counts;
    }

pub returns-then-has_line-clause-ok : goal.returns-then-has_line-clause-ok
returns-then-has_line-clause-ok g c = λ pair is at.
    let told = c.args.told.now in
    let o = g.K.Sink.output c.args.out.now in
    let p = g.K.Sink.output c.write.new.out in
    let yes : pair.yes ≡ told.yes = sym (ap (λ (t : PairResult). t.yes) is) in
    let class = ap (λ (t : PairResult). t.class) is in
    let same = ap (λ (line : List ℕ). line ∷ []) c.bytes.ensures
    ∙ line-told told pair is (sym c.has_line.ensures ∙ c.if-has_line.true) in
    ok-weaker (WroteLines o p (c.bytes.result.now ∷ []))
    (PutPairs o p c.args.tally.now c.count.new.self (pair ∷ [])) c.write.result
    (λ wrote. record {
      wrote = subst (λ (lines : Lines). WroteLines o p lines) same wrote;
      sums = c.count.ensures.sums pair at yes class;
      few = c.count.ensures.few;
      counts = λ some are. c.count.ensures.counts some pair are class;
    })
    c.write.ensures.ok

pub returns-then-has_line-clause-err : goal.returns-then-has_line-clause-err
returns-then-has_line-clause-err g c = λ pair is.
    let told = c.args.told.now in
    let o = g.K.Sink.output c.args.out.now in
    let p = g.K.Sink.output c.write.new.out in
    let same = ap (λ (line : List ℕ). line ∷ []) c.bytes.ensures
    ∙ line-told told pair is (sym c.has_line.ensures ∙ c.if-has_line.true) in
    subst (λ (lines : Lines). IfErr c.write.result (λ (why : CampaignFault). LeftBy why o p lines))
    same c.write.ensures.left

pub returns-clause-ok : goal.returns-clause-ok
returns-clause-ok g c = λ pair is at.
    let told = c.args.told.now in
    let o = g.K.Sink.output c.args.out.now in
    let yes : pair.yes ≡ told.yes = sym (ap (λ (t : PairResult). t.yes) is) in
    let class = ap (λ (t : PairResult). t.class) is in
    record {
      wrote = subst (λ (lines : Lines). WroteLines o o lines)
          (no-line told pair is (sym c.has_line.ensures ∙ c.if-has_line.false)) (Wrote-none o);
      sums = c.count.ensures.sums pair at yes class;
      few = c.count.ensures.few;
      counts = λ some are. c.count.ensures.counts some pair are class;
    }
