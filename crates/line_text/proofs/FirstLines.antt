-- The first line of a text ends at its first line feed, or is the whole text.
use Rattle.std.proofs.Common.{◌≡◌, ℕ, zero, suc, ◌<◌, ◌≤◌, true, false, cond, List, [], ◌∷◌, length, get_or, take, drop}
use Rattle.std.proofs.Common.{Some, None, refl, ap, sym, ◌∙◌, arith}
use Rattle.std.proofs.lemmas.Grind.{common_steps}
use Rattle.std.specs.Prelude.{position}
use Rattle.std.proofs.lemmas.Bool.{eqb-true}
use Rattle.std.proofs.lemmas.List.Quantifiers.{position-Some}
use Rattle.std.proofs.lemmas.List.Sums.{fails_before_first}
use Rattle.std.specs.List.{position_or_len}
use Rattle.ttp_base.specs.Text.{Lines, newline, is_newline, before_lines, lines_of}

-- a text that is cut in two, so that the first part is its first line
pub record IsCut (text line rest : List ℕ) : Type 0 where
  pub first : get_or (lines_of text) 0 [] ≡ line
  pub others : drop 1 (lines_of text) ≡ lines_of rest

cut_here : (b : ℕ) (text : List ℕ) → is_newline b ≡ true → IsCut (b ∷ text) (b ∷ []) text
cut_here b text feed = record {
  first = ap (λ (lines : Lines). get_or lines 0 []) cut ∙ ap (λ c. c ∷ []) (sym (eqb-true b 10 feed));
  others = ap (λ (lines : Lines). drop 1 lines) cut;
}
  where
    cut : lines_of (b ∷ text) ≡ newline ∷ lines_of text
    cut = ap (λ f. cond f (newline ∷ lines_of text) (before_lines b (lines_of text))) feed

-- behind a byte that is no line feed
first_before : (b : ℕ) (lines : Lines) (line : List ℕ) → get_or lines 0 [] ≡ line
    → get_or (before_lines b lines) 0 [] ≡ b ∷ line
first_before b [] line is = ap (λ l. b ∷ l) is
first_before b (l ∷ lines) line is = ap (λ x. b ∷ x) is

others_before : (b : ℕ) (lines : Lines) → drop 1 (before_lines b lines) ≡ drop 1 lines
others_before b [] = refl
others_before b (l ∷ lines) = refl

cut_behind : (b : ℕ) (text line rest : List ℕ) → is_newline b ≡ false → IsCut text line rest
    → IsCut (b ∷ text) (b ∷ line) rest
cut_behind b text line rest none is = record {
  first = ap (λ (lines : Lines). get_or lines 0 []) cut ∙ first_before b (lines_of text) line is.first;
  others = ap (λ (lines : Lines). drop 1 lines) cut ∙ others_before b (lines_of text) ∙ is.others;
}
  where
    cut : lines_of (b ∷ text) ≡ before_lines b (lines_of text)
    cut = ap (λ f. cond f (newline ∷ lines_of text) (before_lines b (lines_of text))) none

cut_at : (text : List ℕ) (end : ℕ) → end < length text → is_newline (get_or text end 0) ≡ true
    → ((k : ℕ) → k < end → is_newline (get_or text k 0) ≡ false)
    → IsCut text (take (suc end) text) (drop (suc end) text)
cut_at [] end within feed before = absurd (omega (arith, within))
cut_at (b ∷ text) zero within feed before = cut_here b text feed
cut_at (b ∷ text) (suc end) within feed before =
    cut_behind b text (take (suc end) text) (drop (suc end) text) (before 0 (omega arith))
    (cut_at text end (omega (arith, within)) feed (λ k less. before (suc k) (omega (arith, less))))

pub cut-Some : (text : List ℕ) (end : ℕ) → position is_newline text ≡ Some end
    → IsCut text (take (suc end) text) (drop (suc end) text)
cut-Some text end is =
    let found = position-Some is_newline text end 0 is in cut_at text end found.0 found.1 found.2

cut_whole : (text : List ℕ) → ((k : ℕ) → k < length text → is_newline (get_or text k 0) ≡ false) → IsCut text text []
cut_whole [] none = record { first = refl; others = refl }
cut_whole (b ∷ text) none =
    cut_behind b text text [] (none 0 (omega arith)) (cut_whole text (λ k less. none (suc k) (omega (arith, less))))

none_before : (text : List ℕ) → position is_newline text ≡ None → length text ≤ position_or_len is_newline text
none_before text is = grind (arith, common_steps)

pub cut-None : (text : List ℕ) → position is_newline text ≡ None → IsCut text text []
cut-None text is = cut_whole text
    (λ k less. fails_before_first is_newline text k 0 (omega (arith, less, none_before text is)))
