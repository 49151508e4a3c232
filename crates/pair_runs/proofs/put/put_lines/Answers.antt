use Rattle.std.proofs.Common.{[], ℕ, sym, subst}
use Rattle.std.specs.Prelude.{OnOk, IfErr}
use Rattle.ttp_base.specs.Outside.{WroteLines}
use Rattle.ttp_base.specs.Text.{Lines}
use Rattle.ttp_base.proofs.Outputs.{Wrote-join}
use Rattle.fault_runs.specs.declared.put.CampaignFault.{CampaignFault}
use Rattle.fault_runs.specs.Ends.{LeftFewerBy}
use Rattle.pair_runs.proofs.FromBelow.{fewer-after, fewer-more, ok-weaker, err-weaker}
use Rattle.pair_classes.specs.Summed.{AreSumsOf}
use Rattle.pair_runs.specs.Counted.{distances_of}
use Rattle.pair_runs.specs.Written.{all_firsts, text_of_firsts, opening_lines, ending_lines}
use Rattle.pair_runs.proofs.Wholes.{all_tolds, behind_front, all-lines, left-in_firsts}
use Rattle.pair_runs.proofs.put.put_lines.Goals as goal

pub returns-in-Err-clause-err : goal.returns-in-Err-clause-err
returns-in-Err-clause-err g c =
    let common = c.args.common.now in
    subst (λ (ls : Lines). LeftFewerBy c.in-Err.why (g.K.Sink.output c.args.out.now)
    (g.K.Sink.output c.put_front.new.out) ls)
    (all-lines common c.requires.may.own)
    (fewer-more c.in-Err.why (g.K.Sink.output c.args.out.now) (g.K.Sink.output c.put_front.new.out)
    (opening_lines common) _ c.in-Err.ensures.err)

pub returns-in-Err-put_slots-clause-err : goal.returns-in-Err-put_slots-clause-err
returns-in-Err-put_slots-clause-err g c =
    let common = c.args.common.now in
    let o = g.K.Sink.output c.args.out.now in
    let p = g.K.Sink.output c.put_front.new.out in
    let q = g.K.Sink.output c.put_slots.new.out in
    left-in_firsts common c.in-Err-put_slots.why o p q c.requires.may.own
    c.in_default.ensures.ok c.in-Err-put_slots.ensures.err

pub put_sums-requires : goal.put_sums-requires
put_sums-requires g c =
    let common = c.args.common.now in
    let sums = c.in_default-put_slots.ensures.ok.sums.told (distances_of common) [] c.requires.none in (
      all_tolds common,
      subst (λ (n : ℕ). AreSumsOf n (all_tolds common) c.put_slots.new.tally.sums)
          (sym c.distances_of.ensures) sums,
    )

pub returns-clause-ok : goal.returns-clause-ok
returns-clause-ok g c =
    let common = c.args.common.now in
    let o = g.K.Sink.output c.args.out.now in
    let p = g.K.Sink.output c.put_front.new.out in
    let q = g.K.Sink.output c.put_slots.new.out in
    let r = g.K.Sink.output c.put_sums.new.out in
    let tolds = all_tolds common in
    let put = c.in_default-put_slots.ensures.ok in
    let sums = subst (λ (n : ℕ). AreSumsOf n tolds c.put_slots.new.tally.sums) (sym c.distances_of.ensures)
    (put.sums.told (distances_of common) [] c.requires.none) in
    let end = subst (λ (n : ℕ). OnOk c.put_sums.result (WroteLines q r (ending_lines n tolds))) c.distances_of.ensures
    (c.put_sums.ensures.ok tolds sums) in
    ok-weaker (WroteLines q r (ending_lines (distances_of common) tolds)) (WroteLines o r _) c.put_sums.result
    (λ wrote. subst (λ (ls : Lines). WroteLines o r ls) (all-lines common c.requires.may.own)
    (Wrote-join o p r (opening_lines common) (behind_front common) c.in_default.ensures.ok
    (Wrote-join p q r (text_of_firsts common (all_firsts common))
    (ending_lines (distances_of common) tolds) put.wrote wrote)))
    end

pub returns-clause-err : goal.returns-clause-err
returns-clause-err g c =
    let common = c.args.common.now in
    let o = g.K.Sink.output c.args.out.now in
    let p = g.K.Sink.output c.put_front.new.out in
    let q = g.K.Sink.output c.put_slots.new.out in
    let r = g.K.Sink.output c.put_sums.new.out in
    let tolds = all_tolds common in
    let put = c.in_default-put_slots.ensures.ok in
    let sums = subst (λ (n : ℕ). AreSumsOf n tolds c.put_slots.new.tally.sums) (sym c.distances_of.ensures)
    (put.sums.told (distances_of common) [] c.requires.none) in
    let end = subst (λ (n : ℕ).
    IfErr c.put_sums.result (λ (why : CampaignFault). LeftFewerBy why q r (ending_lines n tolds)))
    c.distances_of.ensures (c.put_sums.ensures.err tolds sums) in
    err-weaker (λ (why : CampaignFault). LeftFewerBy why q r (ending_lines (distances_of common) tolds))
    (λ (why : CampaignFault). LeftFewerBy why o r _) c.put_sums.result
    (λ why few. subst (λ (ls : Lines). LeftFewerBy why o r ls) (all-lines common c.requires.may.own)
    (fewer-after why o p r (opening_lines common) (behind_front common) c.in_default.ensures.ok
    (fewer-after why p q r (text_of_firsts common (all_firsts common))
    (ending_lines (distances_of common) tolds) put.wrote few)))
    end
