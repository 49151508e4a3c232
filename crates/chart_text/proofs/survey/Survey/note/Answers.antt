use Rattle.chart_text.proofs.Words.{◌≡◌, ◌∙◌, ℕ, Bool, true, false, ap, refl, arith, length, Option, Some, None}
use Rattle.chart_text.proofs.Words.{told_of, counter_of, longest_text, first_told_slot, does_harm, most_lost}
use Rattle.std.specs.Prelude.{max, if◌then◌else◌}
use Rattle.std.specs.Option.{option_or}
use Rattle.chart_text.proofs.Counting.{counted-next}
use Rattle.chart_text.proofs.survey.Survey.note.Goals as goal

max-next : (a b c : ℕ) → max (max a b) c ≡ max a (max b c)
max-next a b c = omega arith

harm-next : (before : Option ℕ) (is : Bool) (t : ℕ) (more : Option ℕ)
    → option_or (option_or before (if is then Some t else None)) more ≡ option_or before (if is then Some t else more)
harm-next (Some s) is t more = refl
harm-next None true t more = refl
harm-next None false t more = refl

most-next : (a b c : ℕ) (is : Bool) → max (if is then max a b else a) c ≡ max a (if is then max b c else c)
most-next a b c true = max-next a b c
most-next a b c false = refl

pub returns : goal.returns
returns c left all is =
    let size = c.args.size in
    let fault = told_of c.args.fault.now in
    let survey = c.args.self.now in
    let others = first_told_slot (does_harm size) left in
    record {
      long = c.count_one.auto.counts ∙ is.long;
      counted =
          counted-next (λ f. counter_of size f.shown) survey.counts
          c.count_one.new.counts c.counter_of.result fault left
          all c.count_one.auto.counts c.counter_of.ensures c.count_one.ensures is.counted;
      longest =
          ap (λ (n : ℕ). max n (longest_text left)) c.max-self.ensures
          ∙ max-next survey.longest (length fault.text) (longest_text left) ∙ is.longest;
      harm =
          ap (λ (before : Option ℕ). option_or before others) c.harm_behind-self.ensures
          ∙ harm-next survey.harm (does_harm size fault.shown) fault.shown.slot others ∙ is.harm;
      most =
          ap (λ (n : ℕ). max n (most_lost size left)) c.most_behind-self.ensures
          ∙ most-next survey.most fault.shown.hurt (most_lost size left) (does_harm size fault.shown) ∙ is.most;
    }
