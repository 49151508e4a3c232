use Rattle.chart_text.proofs.Words.{◌∙◌, ℕ, ◌+◌, Bool, cond, length, ap, FaultTold, look_number, fault_look, does_harm}
use Rattle.chart_text.proofs.Words.{first_doing, harmful_among, worst_with, as_count, sym}
use Rattle.std.specs.Option.{option_or}
use Rattle.std.specs.Prelude.{fold, Option}
use Rattle.std.proofs.lemmas.List.Sums.{sum_by-cons}
use Rattle.whole_campaign.specs.declared.shown.Doing.{Doing}
use Rattle.whole_campaign.specs.declared.shown.FaultShown.{FaultShown}
use Rattle.chart_text.proofs.Counting.{counted-next}
use Rattle.chart_text.proofs.Tallied.{many-next, count-next, first-next}
use Rattle.chart_text.proofs.tally.Tally.note.Goals as goal

pub returns : goal.returns
returns c text left all is =
    let size = c.args.size in
    let fault : FaultTold = record { shown = c.args.fault; text = text } in
    let tally = c.args.self.now in
    record {
      long = c.count_one.auto.counts ∙ is.long;
      counted =
          counted-next (λ f. look_number (fault_look size f.shown)) tally.counts c.count_one.new.counts _ fault left
          all c.count_one.auto.counts (c.from.ensures ∙ c.look_number.ensures.value
          ∙ ap look_number c.fault_look-look.ensures) c.count_one.ensures is.counted;
      many = many-next tally.many (length left) ∙ is.many;
      harmful =
          ap (λ (n : ℕ). n + harmful_among size left)
          (c.one_more-self.ensures ∙ ap (λ (b : Bool). tally.harmful + as_count b) c.does_harm.ensures)
          ∙ count-next tally.harmful (harmful_among size left) (harmful_among size all) (does_harm size c.args.fault)
          (ap (λ (n : ℕ). tally.harmful + n) (sym (sum_by-cons (λ f. cond (does_harm size f.shown) 1 0) fault left))
          ∙ is.harmful);
      first =
          ap (λ (o : Option Doing). option_or o (first_doing left)) c.first_with-self.ensures
          ∙ first-next tally.first c.args.fault.doing (first_doing left) ∙ is.first;
      worst = ap (λ (o : Option FaultShown). fold (worst_with size) o left) (c.worst_with-self.ensures text) ∙ is.worst;
    }
