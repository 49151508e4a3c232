-- Of the runs whose test says yes, none hurts a node or splits memberships.
use Rattle.std.proofs.Common.{◌≡◌, ℕ, ◌+◌, ◌<◌, Bool, true, false, cond, not}
use Rattle.std.proofs.Common.{List, [], ◌∷◌, length, Option, refl, ap, ◌∙◌}
use Rattle.std.specs.Prelude.{All, filter, map, count_by, is_some, ◌==◌}
use Rattle.std.proofs.lemmas.List.Elements.{All-head, All-tail}
use Rattle.std.proofs.lemmas.List.Sums.{sum_by-cons}
use Rattle.ttp_world.specs.declared.medl.Medl.{Medl}
use Rattle.ttp_world.specs.declared.script.Event.{Event}
use Rattle.ttp_world.specs.declared.script.Script.{Script}
use Rattle.ttp_world.specs.declared.script.TheConstants.{EVENT_LIMIT}
use Rattle.ttp_world.specs.Medl.{IsValid}
use Rattle.ttp_world.specs.Script.{IsValidScript}
use Rattle.campaign.specs.declared.cost.Cost.{Cost}
use Rattle.campaign.specs.declared.cost.Span.{Span}
use Rattle.campaign.specs.Lines.{Summary, costs_of, has_hurt, summary_with}
use Rattle.campaign.specs.Tried.{with_fault}
use Rattle.single_faults.specs.Tried.{MayStand}
use Rattle.campaign_laws.proofs.FromBelow.{with_fault-valid}
use Rattle.campaign_laws.proofs.Yes.{IsUnharmed, yes-line}

pub unharmed-unhurt : (cost : Cost) → IsUnharmed cost → has_hurt cost ≡ false
unharmed-unhurt cost is = ap (λ (hurt : List ℕ). not (length hurt == 0)) is.hurt

pub unharmed-unsplit : (cost : Cost) → IsUnharmed cost → is_some cost.split ≡ false
unharmed-unsplit cost is = ap (λ (split : Option Span). is_some split) is.split

module _ (list : Medl) (script : Script) (valid : IsValid list) (script_valid : IsValidScript list script)
    (room : length script.events < EVENT_LIMIT) where
  one-counted : (p : Cost → Bool) (s : Summary) (rest : List Summary) (b : Bool) → (b ≡ true → p s.cost ≡ false)
      → count_by p (costs_of rest) ≡ 0 → count_by p (costs_of (cond b (s ∷ rest) rest)) ≡ 0
  one-counted p s rest false none others = others
  one-counted p s rest true none others =
      sum_by-cons (λ (cost : Cost). cond (p cost) 1 0) s.cost (costs_of rest)
      ∙ (λ i. cond (none refl i) 1 0 + others i)

  pub none-counted : (p : Cost → Bool) → ((cost : Cost) → IsUnharmed cost → p cost ≡ false) → (faults : List Event)
      → All (MayStand list script) faults
      → count_by p (costs_of (filter (λ s. s.yes) (map (summary_with list script) faults))) ≡ 0
  none-counted p none [] all = refl
  none-counted p none (fault ∷ faults) all =
      one-counted p (summary_with list script fault) (filter (λ s. s.yes) (map (summary_with list script) faults))
      (summary_with list script fault).yes
      (λ says. none (summary_with list script fault).cost
      (yes-line list (with_fault script fault) valid
      (with_fault-valid list script fault script_valid (All-head (MayStand list script) fault faults all) room) says))
      (none-counted p none faults (All-tail (MayStand list script) fault faults all))
