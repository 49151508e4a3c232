-- What the end tells: that all lines were written, or that the sink failed within them.
use Rattle.picture_text.proofs.Words.{◌≡◌, refl, Bool, true, false, subst, Output, WroteLines, CutShort, Lines, Span}
use Rattle.picture_text.proofs.Words.{Puts}
use Rattle.std.proofs.Common.{Result, Ok, Err, ◌↔◌}
use Rattle.std.specs.Result.{IsOk, OnOk, OnErr}
use Rattle.ttp_base.proofs.Puts.{all_wrote, all_cut}

-- lines of the slots shown, from a sheet on that did not fail
pub from_start : (failed fails : Bool) (a b : Output) (lines : Span → Lines) (span shown : Span)
    → failed ≡ false → span ≡ shown → Puts failed a fails b (lines span) → Puts false a fails b (lines shown)
from_start failed fails a b lines span shown start same p =
    subst (λ (f : Bool). Puts f a fails b (lines shown)) start
    (subst (λ (s : Span). Puts failed a fails b (lines s)) same p)

pub end_ok : {T E : Type 0} (r : Result T E) (failed : Bool) (a b : Output) (x : Lines) → (IsOk r ↔ (failed ≡ false))
    → Puts false a failed b x → OnOk r (WroteLines a b x)
end_ok (Ok v) failed a b x same p = all_wrote a b x (subst (λ (f : Bool). Puts false a f b x) (same.0 refl) p)
end_ok (Err e) failed a b x same p = tt

pub end_failed : {T E : Type 0} (r : Result T E) (failed : Bool) (a b : Output) (x : Lines)
    → (IsOk r ↔ (failed ≡ false))
    → Puts false a failed b x → OnErr r (CutShort a b x)
end_failed (Ok v) failed a b x same p = tt
end_failed (Err e) true a b x same p = all_cut a b x p
end_failed (Err e) false a b x same p = let wrong : false ≡ true = same.1 refl in cc
