-- The largest difference between two of some clocks, by the least and the greatest of those so far.
use Rattle.two_faced.proofs.Words.{◌≡◌, ℕ, ◌≤◌, ◌^◌, ℤ, ◌-ℤ◌, Bool, true, false, not, ◌&&◌, List, ◌∷◌, Option, Some}
use Rattle.two_faced.proofs.Words.{None, w64, FitsSigned, to_z, of_z, refl, sym, arith, unsigned_abs, filter_map, ints}
use Rattle.two_faced.proofs.Words.{to_z-of_z, greatest, least, widest, IsNearSpan}
use Rattle.std.specs.Prelude.{if◌then◌else◌}
use Rattle.std.proofs.lemmas.Int.{fits_signed_from_abs}
use Rattle.two_faced.specs.declared.seen.Span.{Span}
use Rattle.two_faced.specs.Spans.{with_clock, IsNearClock}

-- that of the clocks so far and of those that are left
abbrev pub widest_with : Option Span → List ℤ → ℤ
widest_with None zs = widest zs
widest_with (Some span) zs = greatest span.greatest zs -ℤ least span.least zs

widest_with-more : (span : Option Span) (z : ℤ) (zs : List ℤ)
    → widest_with span (z ∷ zs) ≡ widest_with (Some (with_clock span z)) zs
widest_with-more None z zs = refl
widest_with-more (Some span) z zs = refl

-- a node whose clock counts
pub widest-clock : (f : ℕ → Option ℤ) (k : ℕ) (ks : List ℕ) (z : ℤ) (span : Option Span) → f k ≡ Some z
    → widest_with (Some (with_clock span z)) (filter_map f ks) ≡ widest_with span (filter_map f (k ∷ ks))
widest-clock f k ks z span is = rw is (sym (widest_with-more span z (filter_map f ks)))

-- a node whose clock does not count
pub widest-none : (f : ℕ → Option ℤ) (k : ℕ) (ks : List ℕ) (span : Option Span) → f k ≡ None
    → widest_with span (filter_map f ks) ≡ widest_with span (filter_map f (k ∷ ks))
widest-none f k ks span is = rw is refl

-- The differences of clocks that are near 0 fit their numbers.

near_fits : (z : ℤ) → IsNearClock z → FitsSigned w64 z
near_fits z near = fits_signed_from_abs w64 z (omega (arith, near))

apart_small : (y z : ℤ) → IsNearClock y → IsNearClock z → unsigned_abs (y -ℤ z) ≤ 2 ^ 54
apart_small y z p q = omega (arith, ints, p, q)

pub difference_is : (span : Span) → IsNearSpan span
    → to_z w64 (of_z w64 (to_z w64 (of_z w64 span.greatest) -ℤ to_z w64 (of_z w64 span.least)))
    ≡ (span.greatest -ℤ span.least)
difference_is span near =
    let small = apart_small span.greatest span.least near.1 near.0 in
    rw (
      to_z-of_z w64 span.greatest (near_fits span.greatest near.1),
      to_z-of_z w64 span.least (near_fits span.least near.0),
    ) (to_z-of_z w64 (span.greatest -ℤ span.least) (fits_signed_from_abs w64 (span.greatest -ℤ span.least)
    (omega (arith, small))))

-- A node's clock counts where it is another node and on.

pub clock_counts : (same on : Bool) (z : ℤ) → same ≡ false → on ≡ true
    → (if not same && on then Some z else None) ≡ Some z
clock_counts same on z other is = λ i. if not (other i) && is i then Some z else None

pub clock_off : (same on : Bool) (z : ℤ) → on ≡ false → (if not same && on then Some z else None) ≡ None
clock_off true on z is = refl
clock_off false on z is = λ i. if is i then Some z else None

pub clock_own : (same on : Bool) (z : ℤ) → same ≡ true → (if not same && on then Some z else None) ≡ None
clock_own same on z is = λ i. if not (is i) && on then Some z else None
