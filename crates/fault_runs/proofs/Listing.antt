-- Words with commas between them, one more at a time.
use Rattle.std.proofs.Common.{◌≡◌, ℕ, ◌+◌, ◌<◌, List, [], ◌∷◌, ◌++◌, length, take, refl, ap, sym, ◌∙◌, append-nil}
use Rattle.std.proofs.Common.{append_assoc, get_or, Bool, true, arith}
use Rattle.std.specs.Prelude.{map, filter, codes}
use Rattle.std.specs.Fmt.{decimal}
use Rattle.std.specs.List.{join_with_byte}
use Rattle.std.proofs.lemmas.List.{map-append, length-map, length-take-le, take_more}
use Rattle.ttp_base.specs.NodeSet.{below}
use Rattle.campaign.specs.CostText.{listed}
use Rattle.fault_runs.specs.Listing.{comma_before, dash_for}
use Rattle.ttp_world.proofs.ListFacts.{one-more}

abbrev pub joined : List (List ℕ) → List ℕ
joined words = join_with_byte 44 words

pub joined-next : (words : List (List ℕ)) (word : List ℕ)
    → joined (words ++ word ∷ []) ≡ joined words ++ comma_before (length words) ++ word
joined-next [] word = refl
joined-next (x ∷ []) word = sym (append_assoc x (codes ",") word)
joined-next (x ∷ y ∷ words) word =
    ap (λ (rest : List ℕ). x ++ (44 ∷ rest)) (joined-next (y ∷ words) word)
    ∙ sym (append_assoc x (44 ∷ (joined (y ∷ words) ++ codes ",")) word)
    ∙ ap (λ (front : List ℕ). front ++ word) (sym (append_assoc x (44 ∷ joined (y ∷ words)) (codes ",")))

pub listed-joined : (words : List (List ℕ)) → listed words ≡ joined words ++ dash_for (length words)
listed-joined [] = refl
listed-joined (word ∷ words) = sym (append-nil (joined (word ∷ words)))

-- behind a text
pub listed-behind : (text : List ℕ) (words : List (List ℕ))
    → (text ++ joined words) ++ dash_for (length words) ≡ text ++ listed words
listed-behind text words =
    append_assoc text (joined words) (dash_for (length words))
    ∙ ap (λ (w : List ℕ). text ++ w) (sym (listed-joined words))

pub joined-behind : (text : List ℕ) (words : List (List ℕ)) (word : List ℕ)
    → ((text ++ joined words) ++ comma_before (length words)) ++ word ≡ text ++ joined (words ++ word ∷ [])
joined-behind text words word =
    ap (λ (w : List ℕ). w ++ word) (append_assoc text (joined words) (comma_before (length words)))
    ∙ append_assoc text (joined words ++ comma_before (length words)) word
    ∙ ap (λ (w : List ℕ). text ++ w) (sym (joined-next words word))

-- the word of one item more
pub listed-step : {X : Type 0} (word : X → List ℕ) (text : List ℕ) (xs : List X) (place : ℕ) (d : X)
    (before comma after : List ℕ) → place < length xs
    → before ≡ text ++ joined (map word (take place xs)) → comma ≡ before ++ comma_before place
    → after ≡ comma ++ word (get_or xs place d)
    → after ≡ text ++ joined (map word (take (place + 1) xs))
listed-step word text xs place d before comma after inside told put_comma put_word =
    let words = map word (take place xs) in
    let count : length words ≡ place =
    length-map (take place xs) word ∙ length-take-le place xs (omega (arith, inside)) in
    put_word
    ∙ ap (λ (w : List ℕ). w ++ word (get_or xs place d))
    (put_comma ∙ (λ i. told i ++ comma_before (sym count i)))
    ∙ joined-behind text words (word (get_or xs place d))
    ∙ ap (λ (ws : List (List ℕ)). text ++ joined ws)
    (sym (ap (map word) (take_more xs place d inside) ∙ map-append word (take place xs) (get_or xs place d ∷ [])))

-- Nodes of a set, in ascending order.

pub node-in : (p : ℕ → Bool) (n : ℕ) (text before comma after : List ℕ) (place : ℕ) → p n ≡ true
    → before ≡ text ++ joined (map decimal (filter p (below n))) → place ≡ length (filter p (below n))
    → comma ≡ before ++ comma_before place → after ≡ comma ++ decimal n
    → after ≡ text ++ joined (map decimal (filter p (below (n + 1))))
node-in p n text before comma after place is told count put_comma put_word =
    let nodes = filter p (below n) in
    let words = map decimal nodes in
    let long : place ≡ length words = count ∙ sym (length-map nodes decimal) in
    put_word
    ∙ ap (λ (w : List ℕ). w ++ decimal n) (put_comma ∙ (λ i. told i ++ comma_before (long i)))
    ∙ joined-behind text words (decimal n)
    ∙ ap (λ (ws : List (List ℕ)). text ++ joined ws)
    (sym (ap (map decimal) (one-more p n is) ∙ map-append decimal nodes (n ∷ [])))
