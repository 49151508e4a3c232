-- Words with commas between them, one more at a time.
use Rattle.std.proofs.Common.{◌≡◌, ℕ, ◌+◌, ◌<◌, List, [], ◌∷◌, ◌++◌, length, map, get_or, take, refl, sym, ap, ◌∙◌}
use Rattle.std.proofs.Common.{append_assoc, arith}
use Rattle.std.proofs.lemmas.List.{take_more, length-map, length-take-le, append-nil}
use Rattle.line_form.specs.Kinds.{Kind, Value, spell, each_behind, joined_by, comma_before, listed_words}

each-push : (words : List (List ℕ)) (word : List ℕ)
    → each_behind 44 (words ++ word ∷ []) ≡ each_behind 44 words ++ 44 ∷ word
each-push [] word = ap (λ (l : List ℕ). 44 ∷ l) (append-nil word)
each-push (w ∷ words) word =
    ap (λ (l : List ℕ). 44 ∷ w ++ l) (each-push words word)
    ∙ ap (λ (l : List ℕ). 44 ∷ l) (sym (append_assoc w (each_behind 44 words) (44 ∷ word)))

push : (words : List (List ℕ)) (word : List ℕ)
    → joined_by 44 (words ++ word ∷ []) ≡ joined_by 44 words ++ (comma_before (length words) ++ word)
push [] word = append-nil word
push (w ∷ words) word =
    ap (λ (l : List ℕ). w ++ l) (each-push words word) ∙ sym (append_assoc w (each_behind 44 words) (44 ∷ word))

map-push : (k : Kind) (values : List (Value k)) (v : Value k)
    → map (spell k) (values ++ v ∷ []) ≡ map (spell k) values ++ spell k v ∷ []
map-push k [] v = refl
map-push k (x ∷ values) v = ap (λ (l : List (List ℕ)). spell k x ∷ l) (map-push k values v)

-- the list of the first so many
abbrev pub joined_front : (k : Kind) → List (Value k) → ℕ → List ℕ
joined_front k values i = joined_by 44 (map (spell k) (take i values))

count : (k : Kind) (values : List (Value k)) (i : ℕ) → i < length values → length (map (spell k) (take i values)) ≡ i
count k values i within =
    length-map (take i values) (spell k) ∙ length-take-le i values (omega arith)

pub one_more : (k : Kind) (values : List (Value k)) (i : ℕ) (d : Value k) (start line middle new : List ℕ)
    → i < length values → line ≡ start ++ joined_front k values i → middle ≡ line ++ comma_before i
    → new ≡ middle ++ spell k (get_or values i d) → new ≡ start ++ joined_front k values (i + 1)
one_more k values i d start line middle new within so_far comma word =
    let v = get_or values i d in
    let words = map (spell k) (take i values) in
    let all : map (spell k) (take (i + 1) values) ≡ words ++ spell k v ∷ [] =
    ap (map (spell k)) (take_more values i d within) ∙ map-push k (take i values) v in
    word ∙ ap (λ (l : List ℕ). l ++ spell k v) (comma ∙ ap (λ (l : List ℕ). l ++ comma_before i) so_far)
    ∙ append_assoc (start ++ joined_by 44 words) (comma_before i) (spell k v)
    ∙ append_assoc start (joined_by 44 words) (comma_before i ++ spell k v)
    ∙ ap (λ (n : ℕ). start ++ (joined_by 44 words ++ (comma_before n ++ spell k v))) (sym (count k values i within))
    ∙ ap (λ (l : List ℕ). start ++ l) (sym (push words (spell k v)))
    ∙ ap (λ (ws : List (List ℕ)). start ++ joined_by 44 ws) (sym all)

pub listed_none : (k : Kind) (values : List (Value k)) → length values ≡ 0
    → listed_words (map (spell k) values) ≡ 45 ∷ []
listed_none k [] none = refl
listed_none k (v ∷ values) none = absurd (omega (arith, none))

pub listed_values : (k : Kind) (values : List (Value k)) → 0 < length values
    → joined_by 44 (map (spell k) values) ≡ listed_words (map (spell k) values)
listed_values k [] some = absurd (omega (arith, some))
listed_values k (v ∷ values) some = refl

pub ruleset lists = (listed_none, listed_values)
