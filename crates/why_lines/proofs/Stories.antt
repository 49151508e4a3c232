-- The lines of a story, the oldest first.
use Rattle.std.proofs.Common.{◌≡◌, ℕ, zero, suc, ◌+◌, ◌<◌, List, [], ◌∷◌, ◌++◌, length, drop, get_or, map}
use Rattle.std.proofs.Common.{add-one, ap, sym, subst, ◌∙◌, arith, append_assoc}
use Rattle.std.proofs.lemmas.List.{drop_more, get_or-map, length-map, reverse-append}
use Rattle.std.proofs.lemmas.List.Elements.{All-get_or, All-nil}
use Rattle.std.specs.Prelude.{reverse}
use Rattle.ttp_base.specs.Text.{Lines}
use Rattle.ttp_world.specs.declared.medl.Medl.{Medl}
use Rattle.causes.specs.RunSlots.{RunSlots}
use Rattle.causes.specs.WhyText.{told_line, told_lines}
use Rattle.causes.specs.declared.cause.LineNumbers.{LineNumbers}
use Rattle.causes.specs.declared.cause.Spot.{Spot}
use Rattle.causes.specs.declared.cause.Told.{Told}
use Rattle.why_lines.specs.Roots.{root_at}
use Rattle.why_story.specs.RunSource.{AreRunSpots, IsRunSpot, RunSource}

-- one more at the front of a list that is turned round
pub turned : {X : Type 0} (x : X) (xs : List X) → reverse (x ∷ xs) ≡ reverse xs ++ x ∷ []
turned x xs = reverse-append (x ∷ []) xs

-- an entry that is told is one of the run
pub told-within : (source : RunSource) (told : List Told) (i : ℕ) (d : Told) → i < length told → d ≡ get_or told i d
    → AreRunSpots source (map (λ t. t.spot) told) → IsRunSpot source d.spot
told-within source told i d within is all =
    subst (IsRunSpot source)
    (get_or-map (λ (t : Told). t.spot) told i d d.spot within ∙ sym (ap (λ (t : Told). t.spot) is))
    (All-get_or (IsRunSpot source) (map (λ t. t.spot) told) i d.spot
    (omega (arith, within, length-map told (λ (t : Told). t.spot))) all)

-- A root that is told at its own place alone is told of spots of the run.
pub root-within : (source : RunSource) (i : ℕ) (root : List Spot)
    → AreRunSpots source root → AreRunSpots source (root_at i root)
root-within source zero root all = all
root-within source (suc i) root all = All-nil (IsRunSpot source)

pub lines-step : (list : Medl) (numbers : LineNumbers) (run : RunSlots)
    (spots root : List Spot) (told : List Told) (i : ℕ) (d : Told)
    (before : Lines) → i < length told
    → (before ++ reverse (told_lines list numbers run spots [] (drop (i + 1) told)))
    ++ told_line list numbers run spots root (get_or told i d) ∷ []
    ≡ before ++ reverse (told_lines list numbers run spots root (drop i told))
lines-step list numbers run spots root told i d before within =
    let others = told_lines list numbers run spots [] (drop (i + 1) told) in
    let here = told_line list numbers run spots root (get_or told i d) in
    append_assoc before (reverse others) (here ∷ [])
    ∙ ap (λ (lines : Lines). before ++ lines)
    (sym (turned here others)
    ∙ sym (ap (λ (ts : List Told). reverse (told_lines list numbers run spots root ts)) (drop_more told i d within)))

module _ (list : Medl) (numbers : LineNumbers) (run : RunSlots) (spots spots_here root root_here : List Spot) where
  -- one line more, with the root where it is the last
  pub story-step : (told : List Told) (p i : ℕ) (t : Told) (before lines : Lines) (line : List ℕ) → p ≡ i + 1
      → i < length told → t ≡ get_or told i t → spots_here ≡ spots → root_here ≡ root_at i root
      → line ≡ told_line list numbers run spots_here root_here t
      → lines ≡ before ++ reverse (told_lines list numbers run spots (root_at p root) (drop p told))
      → lines ++ line ∷ [] ≡ before ++ reverse (told_lines list numbers run spots (root_at i root) (drop i told))
  story-step told p i t before lines line next within is all here said so_far =
      let behind : root_at p root ≡ [] = ap (λ (n : ℕ). root_at n root) (next ∙ add-one i) in
      let older : lines ≡ before ++ reverse (told_lines list numbers run spots [] (drop (i + 1) told)) =
      so_far
      ∙ (ap (λ (r : List Spot). before ++ reverse (told_lines list numbers run spots r (drop p told))) behind
      ∙ ap (λ (n : ℕ). before ++ reverse (told_lines list numbers run spots [] (drop n told))) next) in
      let this : line ≡ told_line list numbers run spots (root_at i root) (get_or told i t) =
      said
      ∙ (ap (λ (s : List Spot). told_line list numbers run s root_here t) all
      ∙ (ap (λ (r : List Spot). told_line list numbers run spots r t) here
      ∙ ap (told_line list numbers run spots (root_at i root)) is)) in
      ap (λ (ls : Lines). ls ++ line ∷ []) older
      ∙ (ap (λ (l : List ℕ). (before ++ reverse (told_lines list numbers run spots [] (drop (i + 1) told))) ++ l ∷ [])
      this
      ∙ lines-step list numbers run spots (root_at i root) told i t before within)
