-- The pass in which entries are kept.
use Rattle.std.proofs.Common.{◌≡◌, ℕ, true, false, List, [], ◌∷◌, ◌++◌, ap, sym, ◌∙◌, append_assoc}
use Rattle.std.proofs.lemmas.List.{append-nil}
use Rattle.std.specs.Prelude.{filter}
use Rattle.causes.specs.Story.{has_spot, kept_of_told, with_entries}
use Rattle.causes.specs.declared.cause.Spot.{Spot}
use Rattle.causes.specs.declared.cause.Told.{Told}
use Rattle.why_story.specs.Keeps.{Keeps}
use Rattle.why_story.specs.Marks.{AreMarked}
use Rattle.why_story.specs.declared.keep.Kept.{Kept}
use Rattle.why_story.proofs.Steps.{kept-no, kept-yes}

-- one that is not marked
pub Keeps-unmarked : (count : ℕ) (leading marked : List Spot) (one : Told) (now : Kept)
    → AreMarked count marked now.marks
    → has_spot marked one.spot ≡ false → Keeps count leading now.told marked (one ∷ []) [] now
Keeps-unmarked count leading marked one now marks none = record {
  marked_now = marked;
  marks = marks;
  kept = λ older. ap (λ (t : List Told). now.told ++ t) (kept-no leading marked one older none);
}

-- one that is kept
kept_here : (leading marked : List Spot) (before : List Told) (one : Told) (named : List Spot) (older : List Told)
    → has_spot marked one.spot ≡ true → named ≡ filter (has_spot leading) one.cause.entries
    → before ++ kept_of_told leading marked (one ∷ older)
    ≡ (before ++ with_entries one named ∷ []) ++ kept_of_told leading (named ++ marked) older
kept_here leading marked before one named older here is =
    let others = kept_of_told leading (filter (has_spot leading) one.cause.entries ++ marked) older in
    ap (λ (t : List Told). before ++ t) (kept-yes leading marked one older here)
    ∙ (sym (append_assoc before (with_entries one (filter (has_spot leading) one.cause.entries) ∷ []) others)
    ∙ ap (λ (n : List Spot). (before ++ with_entries one n ∷ []) ++ kept_of_told leading (n ++ marked) older) (sym is))

pub Keeps-marked : (count : ℕ) (leading marked : List Spot) (one : Told) (named : List Spot) (old new : Kept)
    → has_spot marked one.spot ≡ true → named ≡ filter (has_spot leading) one.cause.entries
    → AreMarked count (named ++ marked) new.marks → new.told ≡ old.told ++ with_entries one named ∷ []
    → Keeps count leading old.told marked (one ∷ []) [] new
Keeps-marked count leading marked one named old new here is marks told = record {
  marked_now = named ++ marked;
  marks = marks;
  kept = λ older.
      kept_here leading marked old.told one named older here is
      ∙ ap (λ (t : List Told). t ++ kept_of_told leading (named ++ marked) older) (sym told);
}

-- one more of those that are left
pub Keeps-more : (count : ℕ) (leading : List Spot) (before : List Told)
    (marked : List Spot) (told left : List Told) (one : Told)
    (more : List Told) (old new : Kept) → Keeps count leading before marked told left old → left ≡ one ∷ more
    → ((m : List Spot) → AreMarked count m old.marks → Keeps count leading old.told m (one ∷ []) [] new)
    → Keeps count leading before marked told more new
Keeps-more count leading before marked told left one more old new first cut goes =
    let second = goes first.marked_now first.marks in record {
      marked_now = second.marked_now;
      marks = second.marks;
      kept = λ older.
          first.kept older
          ∙ (ap (λ (l : List Told). old.told ++ kept_of_told leading first.marked_now (l ++ older)) cut
          ∙ second.kept (more ++ older));
    }

pub kept-end : (count : ℕ) (leading marked : List Spot) (told left : List Told) (now : Kept)
    → Keeps count leading [] marked told left now → left ≡ [] → now.told ≡ kept_of_told leading marked told
kept-end count leading marked told left now all none =
    sym (ap (kept_of_told leading marked) (sym (append-nil told))
    ∙ (all.kept []
    ∙ (ap (λ (l : List Told). now.told ++ kept_of_told leading all.marked_now (l ++ [])) none
    ∙ append-nil now.told)))

pub Keeps-init : (count : ℕ) (leading marked : List Spot) (told left : List Told) (now : Kept)
    → AreMarked count marked now.marks
    → now.told ≡ [] → left ≡ told → Keeps count leading [] marked told left now
Keeps-init count leading marked told left now marks none same = record {
  marked_now = marked;
  marks = marks;
  kept = λ older.
      ap (λ (l : List Told). kept_of_told leading marked (l ++ older)) (sym same)
      ∙ ap (λ (t : List Told). t ++ kept_of_told leading marked (left ++ older)) (sym none);
}
