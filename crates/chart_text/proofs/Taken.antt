-- The first of some faults, and those behind it.
use Rattle.chart_text.proofs.Words.{◌≡◌, true, false, List, [], ◌∷◌, drop, refl, sym, Option, Some, None, told_of}
use Rattle.chart_text.proofs.Words.{FaultTold}
use Rattle.std.proofs.Common.{is_some}
use Rattle.std.specs.Prelude.{IfSome, IsNone}
use Rattle.whole_campaign.specs.declared.shown.FaultLine.{FaultLine}
use Rattle.chart_text.specs.Walks.{told_ahead}

-- all of them, where the first was taken
pub ahead-taken : (first : Option FaultLine) (all rest : List FaultTold) → IfSome first (λ f. all ≡ told_of f ∷ rest)
    → (IsNone first → all ≡ [])
    → told_ahead first rest ≡ all
ahead-taken None all rest some none = sym (none refl)
ahead-taken (Some f) all rest some none = sym some

-- none is left behind none
pub ahead-none : (first : Option FaultLine) (rest : List FaultTold) → is_some first ≡ false
    → told_ahead first rest ≡ drop 1 (told_ahead first rest)
ahead-none None rest is = refl
ahead-none (Some f) rest is = cc

-- the next one is taken behind the first
pub ahead-passed : (first next : Option FaultLine) (behind rest : List FaultTold) → is_some first ≡ true
    → IfSome next (λ f. behind ≡ told_of f ∷ rest) → (IsNone next → behind ≡ [])
    → told_ahead next rest ≡ drop 1 (told_ahead first behind)
ahead-passed None next behind rest is some none = cc
ahead-passed (Some f) next behind rest is some none = ahead-taken next behind rest some none
