-- A line that begins otherwise is not read.
use Rattle.std.proofs.Common.{◌≡◌, ℕ, Bool, true, false, cond, ◌&&◌, ◌||◌, List}
use Rattle.std.proofs.Common.{[], ◌∷◌, ◌++◌, length, get_or, take, drop}
use Rattle.std.proofs.Common.{Option, Some, None, refl, ap, ◌∙◌, arith, bytes_eq}
use Rattle.std.specs.Prelude.{◌==◌, is_some}
use Rattle.std.proofs.lemmas.Bool.{and_parts, eqb-true, false_from_ne_true}
use Rattle.std.proofs.lemmas.Bool.Decides.{nat_tests}
use Rattle.line_form.specs.Kinds.{Kind, number, signed, hexed, hexed_or, one_of}
use Rattle.line_form.specs.Kinds.{payload, or_dash, commas, named, joined, free}
use Rattle.line_form.specs.Kinds.{read, spell, fits_kind, sound, avoids, behind_prefix}
use Rattle.line_form.specs.Forms.{LineForm, Values, spelled, fit, well, goes_on, is_free, past, left_of, left_behind}
use Rattle.line_form.specs.Forms.{labelled, next_word, closed_line, line_values, same_number, labels_part, lines_part}
use Rattle.line_form.specs.Forms.{EachFits}
use Rattle.line_form.proofs.FormLaws.{none_left, taken}
use Rattle.line_form.proofs.NumberWords.{same_text}

differ : (label other rest : List ℕ) → labels_part label other ≡ true → take (length label) (other ++ rest) ≡ label → ⊥
differ [] other rest e is = cc
differ (b ∷ label) [] rest e is = cc
differ (b ∷ label) (c ∷ other) rest e is =
    go (b == c) refl e (ap (λ (l : List ℕ). get_or l 0 0) is)
    (ap (λ (l : List ℕ). drop 1 l) is) (differ label other rest)
  where
    go : (same : Bool) → (b == c) ≡ same → cond same (labels_part label other) true ≡ true → c ≡ b
        → take (length label) (other ++ rest) ≡ label
        → (labels_part label other ≡ true → take (length label) (other ++ rest) ≡ label → ⊥) → ⊥
    go true eq e head tail more = more e tail
    go false eq e head tail more = grind (arith, nat_tests)

label-none : (label other rest : List ℕ) → labels_part label other ≡ true → behind_prefix label (other ++ rest) ≡ None
label-none label other rest e =
    ap (λ (b : Bool). cond b (Some (drop (length label) (other ++ rest))) None)
    (false_from_ne_true (bytes_eq (take (length label) (other ++ rest)) label)
    (λ same. differ label other rest e (same_text (take (length label) (other ++ rest)) label same)))

no_more : (all some : Bool) → left_behind all some None ≡ None
unfolding left_behind
no_more all true = refl
no_more all false = refl

past-none : (label : List ℕ) (k : Kind) (bytes : List ℕ) → behind_prefix label bytes
    ≡ None → past label k (Some bytes) ≡ None
unfolding past labelled
past-none label k bytes none =
    ap (λ (o : Option (List ℕ)). left_behind (is_free k) (is_some (read k (next_word (is_free k) o))) o) none
    ∙ no_more (is_free k) (is_some (read k (next_word (is_free k) None)))

number_is : (k l : Kind) → same_number k l ≡ true → k ≡ l
number_is (number a) (number b) e = ap number (eqb-true a b e)
number_is (number a) (signed b) e = cc
number_is (number a) (hexed b) e = cc
number_is (number a) (hexed_or b c) e = cc
number_is (number a) (one_of b) e = cc
number_is (number a) (payload b) e = cc
number_is (number a) (or_dash b) e = cc
number_is (number a) (commas b c) e = cc
number_is (number a) (named b c d) e = cc
number_is (number a) (joined b c d) e = cc
number_is (number a) (free b) e = cc
number_is (signed a) l e = cc
number_is (hexed a) l e = cc
number_is (hexed_or a b) l e = cc
number_is (one_of a) l e = cc
number_is (payload a) l e = cc
number_is (or_dash a) l e = cc
number_is (commas a b) l e = cc
number_is (named a b c) l e = cc
number_is (joined a b c) l e = cc
number_is (free a) l e = cc

nothing_left : (f g : LineForm) (vs : Values g) → lines_part f g ≡ true → well g ≡ true → fit g vs ≡ true
    → left_of f (Some (spelled g vs)) ≡ None
nothing_left [] g vs e is fits = cc
nothing_left (f ∷ form) [] vs e is fits = cc
nothing_left (f ∷ form) (g ∷ other) (v, vs) e is fits =
    let t = and_parts (sound g.kind) (avoids 10 g.kind && _) is in
    let u = and_parts (avoids 10 g.kind) _ t.1 in
    let w = and_parts _ (goes_on g.kind other && well other) u.1 in
    let x = and_parts (goes_on g.kind other) (well other) w.1 in
    let h = and_parts (fits_kind g.kind v) (fit other vs) fits in
    go (labels_part f.label g.label) refl e t.0 x.0 h.0 (λ more. nothing_left form other vs more x.1 h.1)
  where
    go : (part : Bool) → labels_part f.label g.label ≡ part
        → (part || (bytes_eq f.label g.label && (same_number f.kind g.kind && lines_part form other))) ≡ true
        → sound g.kind ≡ true → goes_on g.kind other ≡ true → fits_kind g.kind v ≡ true
        → (lines_part form other ≡ true → left_of form (Some (spelled other vs)) ≡ None)
        → left_of (f ∷ form) (Some (spelled (g ∷ other) (v, vs))) ≡ None
    go true part e so on fit_v more =
        ap (left_of form)
        (past-none f.label f.kind (spelled (g ∷ other) (v, vs))
        (label-none f.label g.label (spell g.kind v ++ spelled other vs) part))
        ∙ none_left form
    go false part e so on fit_v more =
        let p = and_parts (bytes_eq f.label g.label) (same_number f.kind g.kind && lines_part form other) e in
        let q = and_parts (same_number f.kind g.kind) (lines_part form other) p.1 in
        let label : f.label ≡ g.label = same_text f.label g.label p.0 in
        let kind : f.kind ≡ g.kind = number_is f.kind g.kind q.0 in
        ap (left_of form)
        ((λ i. past (label i) (kind i) (Some (spelled (g ∷ other) (v, vs))))
        ∙ (taken g.label g.kind other v vs so on fit_v).left)
        ∙ more q.1

pub other_line : (f g : LineForm) (vs : Values g) → lines_part f g ≡ true → well g ≡ true → fit g vs ≡ true
    → line_values f (spelled g vs) ≡ None
unfolding closed_line
other_line f g vs e is fits = rw (nothing_left f g vs e is fits) refl

-- Values that fit, one after another.

pub each_fits : (form : LineForm) (vs : Values form) → fit form vs ≡ true → EachFits form vs
each_fits [] vs fits = tt
each_fits (f ∷ form) (v, vs) fits =
    let t = and_parts (fits_kind f.kind v) (fit form vs) fits in (t.0, each_fits form vs t.1)
