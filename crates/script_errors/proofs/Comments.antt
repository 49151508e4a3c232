-- Words up to the first that begins a comment.
use Rattle.std.proofs.Common.{◌≡◌, ℕ, zero, suc, ◌+◌, ◌<◌, true, List, [], ◌∷◌, ◌++◌, length, take, drop, get_or}
use Rattle.std.proofs.Common.{arith, refl, ap, ◌∙◌, sym}
use Rattle.std.specs.Prelude.{slice_get}
use Rattle.script_text.specs.Lines.{is_comment}
use Rattle.script_errors.specs.declared.spots.Spot.{Spot}
use Rattle.script_errors.specs.Spots.{spot_text}
use Rattle.script_errors.specs.Errors.{comment_of, before_comment}

-- none of the first words begins one
pub record AreBefore (line : List ℕ) (words : List Spot) (place : ℕ) : Type 0 where
  pub comment : comment_of line words ≡ comment_of line (drop place words)
  pub front : before_comment line words ≡ take place words ++ before_comment line (drop place words)

comment_here : (line : List ℕ) (words : List Spot) (place : ℕ) (d : Spot) → place < length words
    → is_comment (spot_text line (get_or words place d)) ≡ true
    → (comment_of line (drop place words) ≡ slice_get words place)
    × (take place words ++ before_comment line (drop place words) ≡ take place words)
comment_here line [] place d within on = absurd (omega arith)
comment_here line (w ∷ words) zero d within on = (rw on refl, rw on refl)
comment_here line (w ∷ words) (suc n) d within on =
    let more = comment_here line words n d (omega arith) on in
    (more.0, ap (λ (ws : List Spot). w ∷ ws) more.1)

pub comment_at : (line : List ℕ) (words : List Spot) (place : ℕ) (d : Spot) → AreBefore line words place
    → place < length words → is_comment (spot_text line (get_or words place d)) ≡ true
    → (slice_get words place ≡ comment_of line words) × (take place words ≡ before_comment line words)
comment_at line words place d are within on =
    let here = comment_here line words place d within on in
    (sym (are.comment ∙ here.0), sym (are.front ∙ here.1))
