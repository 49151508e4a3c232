-- A line that was put together word by word is the line of its values.
use Rattle.std.proofs.Common.{◌≡◌, ℕ, List, [], ◌∷◌, ◌++◌, append_assoc, ap, map, refl, ◌∙◌}
use Rattle.ttp_base.specs.Text.{newline, hex_bytes}
use Rattle.line_form.specs.Kinds.{Kind, Value, spell, listed_words, number, payload, commas}
use Rattle.line_form.specs.Forms.{LineForm, Values, spelled_line, worded, ◌▸◌}

-- the line of some values was added
pub record Put (form : LineForm) (values : Values form) (before after : List ℕ) : Type 0 where
  pub adds : after ≡ before ++ spelled_line form values

pub put_end : (before after : List ℕ) → after ≡ before ++ newline → Put [] tt before after
put_end before after is = record { adds = is }

pub put_word : (label : List ℕ) (k : Kind) (form : LineForm) (v : Value k)
    (vs : Values form) (before next after : List ℕ)
    → (word : List ℕ) → next ≡ worded before label word → word ≡ spell k v → Put form vs next after
    → Put (label ▸ k ∷ form) (v, vs) before after
unfolding worded
put_word label k form v vs before next after word is same rest = record {
  adds = rest.adds ∙ ap (λ (l : List ℕ). l ++ spelled_line form vs)
      (is ∙ ap (λ (w : List ℕ). before ++ label ++ w) same)
      ∙ append_assoc (before ++ label) (spell k v) (spelled_line form vs)
      ∙ append_assoc before label (spell k v ++ spelled_line form vs);
}

-- words that are written from other bytes or numbers, which are those

numbers_same : (most limit : ℕ) (numbers : List ℕ)
    → map (spell (number most)) numbers ≡ map (spell (number limit)) numbers
numbers_same most limit [] = refl
numbers_same most limit (n ∷ numbers) =
    ap (λ (l : List (List ℕ)). spell (number most) n ∷ l) (numbers_same most limit numbers)

pub put_list : (label : List ℕ) (most limit : ℕ) (form : LineForm) (v numbers : List ℕ) (vs : Values form)
    → (before next after : List ℕ) → next ≡ worded before label (spell (commas 0 (number 0)) numbers) → numbers ≡ v
    → Put form vs next after → Put (label ▸ commas most (number limit) ∷ form) (v, vs) before after
put_list label most limit form v numbers vs before next after is same rest =
    put_word label (commas most (number limit)) form v vs before next after (spell (commas 0 (number 0)) numbers) is
    (ap listed_words (numbers_same 0 limit numbers ∙ ap (map (spell (number limit))) same)) rest

pub put_digits : (label : List ℕ) (most : ℕ) (form : LineForm) (v bytes : List ℕ)
    (vs : Values form) (before next after : List ℕ)
    → next ≡ worded before label (hex_bytes bytes) → bytes ≡ v → Put form vs next after
    → Put (label ▸ payload most ∷ form) (v, vs) before after
put_digits label most form v bytes vs before next after is same rest =
    put_word label (payload most) form v vs before next after (hex_bytes bytes) is (ap hex_bytes same) rest

pub puts : (form : LineForm) (values : Values form) (before after : List ℕ) → Put form values before after
    → after ≡ before ++ spelled_line form values
puts form values before after put = put.adds

pub ruleset putting = (put_word, put_list, put_digits, put_end)
