-- The lines of a text: behind whole lines come those of the rest, and they make up the text.
use Rattle.std.proofs.Common.{◌≡◌, ℕ, Bool, true, false, cond, List, [], ◌∷◌, ◌++◌, refl, ap, sym, ◌∙◌}
use Rattle.std.proofs.Common.{append_assoc, take, zero, suc}
use Rattle.std.specs.Prelude.{◌==◌}
use Rattle.std.specs.List.{concat, AllByRecursion}
use Rattle.std.proofs.lemmas.Bool.{eqb-true}
use Rattle.ttp_base.specs.Text.{Lines, newline, is_line, before_lines, lines_of}
use Rattle.ttp_base.proofs.Lines.{lines_of-line}

abbrev pub AreLines : Lines → Type 0
AreLines lines = AllByRecursion (λ line. is_line line ≡ true) lines

pub lines_of-behind : (lines : Lines) (more : List ℕ) → AreLines lines
    → lines_of (concat lines ++ more) ≡ lines ++ lines_of more
lines_of-behind [] more are = refl
lines_of-behind (line ∷ lines) more are =
    ap lines_of (append_assoc line (concat lines) more)
    ∙ lines_of-line line (concat lines ++ more) are.0
    ∙ ap (λ (rest : Lines). line ∷ rest) (lines_of-behind lines more are.1)

concat-before_lines : (b : ℕ) (lines : Lines) → concat (before_lines b lines) ≡ b ∷ concat lines
concat-before_lines b [] = refl
concat-before_lines b (line ∷ lines) = refl

concat-first : (b : ℕ) (lines : Lines) (text : List ℕ) (feed : Bool) → (b == 10) ≡ feed → concat lines ≡ text
    → concat (cond feed (newline ∷ lines) (before_lines b lines)) ≡ b ∷ text
concat-first b lines text true feed rest = λ i. sym (eqb-true b 10 feed) i ∷ rest i
concat-first b lines text false feed rest = concat-before_lines b lines ∙ ap (λ (bytes : List ℕ). b ∷ bytes) rest

pub concat-lines_of : (text : List ℕ) → concat (lines_of text) ≡ text
concat-lines_of [] = refl
concat-lines_of (b ∷ text) = concat-first b (lines_of text) text (b == 10) refl (concat-lines_of text)

-- of some first lines
pub AreLines-take : (n : ℕ) (lines : Lines) → AreLines lines → AreLines (take n lines)
AreLines-take zero lines are = tt
AreLines-take (suc n) [] are = tt
AreLines-take (suc n) (line ∷ lines) are = (are.0, AreLines-take n lines are.1)

-- a text that begins with a line begins with the first of its lines
pub first_line : (text : List ℕ) (line : List ℕ) (others : Lines) → lines_of text ≡ line ∷ others
    → text ≡ line ++ concat others
first_line text line others cut = sym (concat-lines_of text) ∙ ap concat cut
