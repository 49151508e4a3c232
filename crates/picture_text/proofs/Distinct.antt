-- Memberships with one more behind them.
use Rattle.picture_text.proofs.Words.{◌≡◌, ℕ, ◌+◌, ◌<◌, ◌≤◌, Bool, true, false, cond, not, List, [], ◌∷◌, ◌++◌, length}
use Rattle.picture_text.proofs.Words.{take, get_or, refl, sym, ap, ◌∙◌, subst, arith, length-append, ◌==◌, ◌||◌, filter}
use Rattle.picture_text.proofs.Words.{map, list_any, append-nil, filter-append, set_bits, NodeShown, is_holder}
use Rattle.picture_text.proofs.Words.{shown_memberships}
use Rattle.std.proofs.lemmas.Bool.{eqb-true, eqb-false, eq-eqb, ne_eqb}
use Rattle.std.proofs.lemmas.List.{map-append, take_more}
use Rattle.picture_text.specs.Cells.{distinct, noted}

-- another number is still there
has-others : (x y : ℕ) (words : List ℕ) → (x == y) ≡ false
    → list_any (λ word. word == y) (filter (λ z. not (z == x)) words) ≡ list_any (λ word. word == y) words
has-others x y [] other = refl
has-others x y (word ∷ words) other = go (word == x) refl (has-others x y words other)
  where
    go : (b : Bool) → (word == x) ≡ b
        → list_any (λ w. w == y) (filter (λ z. not (z == x)) words) ≡ list_any (λ w. w == y) words
        → list_any (λ w. w == y) (cond (not b) (word ∷ filter (λ z. not (z == x)) words)
        (filter (λ z. not (z == x)) words))
        ≡ ((word == y) || list_any (λ w. w == y) words)
    go true is rest =
        rest
        ∙ ap (λ (c : Bool). c || list_any (λ w. w == y) words)
        (sym (subst (λ (m : ℕ). (m == y) ≡ false) (sym (eqb-true word x is)) other))
    go false is rest = ap (λ (c : Bool). (word == y) || c) rest

distinct-next : (xs : List ℕ) (y : ℕ) → distinct (xs ++ y ∷ []) ≡ noted (distinct xs) y
distinct-next [] y = refl
distinct-next (x ∷ xs) y =
    ap (λ (ds : List ℕ). x ∷ filter (λ z. not (z == x)) ds) (distinct-next xs y)
    ∙ go (x == y) (list_any (λ w. w == y) (distinct xs)) refl refl
  where
    go : (same there : Bool) → (x == y) ≡ same → list_any (λ w. w == y) (distinct xs) ≡ there
        → (x ∷ filter (λ z. not (z == x)) (cond there (distinct xs) (distinct xs ++ y ∷ [])))
        ≡ cond (same || list_any (λ w. w == y) (filter (λ z. not (z == x)) (distinct xs)))
        (x ∷ filter (λ z. not (z == x)) (distinct xs)) ((x ∷ filter (λ z. not (z == x)) (distinct xs)) ++ y ∷ [])
    go true true is has = refl
    go true false is has =
        let same : (y == x) ≡ true = eq-eqb y x (sym (eqb-true x y is)) in
        rw (filter-append (λ z. not (z == x)) (distinct xs) (y ∷ []), same, append-nil) refl
    go false true is has = rw (has-others x y (distinct xs) is, has) refl
    go false false is has =
        let other : (y == x) ≡ false = ne_eqb y x (λ e. eqb-false x y is (sym e)) in
        rw (has-others x y (distinct xs) is, has, filter-append (λ z. not (z == x)) (distinct xs) (y ∷ []), other) refl

pub memberships-next : (nodes : List NodeShown) (node : NodeShown) → shown_memberships (nodes ++ node ∷ [])
    ≡ cond (is_holder node) (noted (shown_memberships nodes) (set_bits node.members)) (shown_memberships nodes)
memberships-next nodes node =
    ap (λ (ns : List NodeShown). distinct (map (λ n. set_bits n.members) ns))
    (filter-append is_holder nodes (node ∷ []))
    ∙ go (is_holder node)
  where
    go : (b : Bool) → distinct (map (λ n. set_bits n.members) (filter is_holder nodes ++ cond b (node ∷ []) []))
        ≡ cond b (noted (shown_memberships nodes) (set_bits node.members)) (shown_memberships nodes)
    go true =
        ap distinct (map-append (λ n. set_bits n.members) (filter is_holder nodes) (node ∷ []))
        ∙ distinct-next (map (λ n. set_bits n.members) (filter is_holder nodes)) (set_bits node.members)
    go false =
        ap (λ (ns : List NodeShown). distinct (map (λ n. set_bits n.members) ns))
        (append-nil (filter is_holder nodes))

-- one node more
pub taken-holder : (nodes : List NodeShown) (i : ℕ) (node : NodeShown) → node ≡ get_or nodes i node → i < length nodes
    → is_holder node ≡ true
    → shown_memberships (take (i + 1) nodes) ≡ noted (shown_memberships (take i nodes)) (set_bits node.members)
taken-holder nodes i node at inside good =
    ap shown_memberships (take_more nodes i node inside ∙ ap (λ (n : NodeShown). take i nodes ++ n ∷ []) (sym at))
    ∙ memberships-next (take i nodes) node
    ∙ ap (λ (b : Bool). cond b (noted (shown_memberships (take i nodes)) (set_bits node.members))
    (shown_memberships (take i nodes))) good

pub taken-other : (nodes : List NodeShown) (i : ℕ) (node : NodeShown) → node ≡ get_or nodes i node → i < length nodes
    → is_holder node ≡ false → shown_memberships (take (i + 1) nodes) ≡ shown_memberships (take i nodes)
taken-other nodes i node at inside bad =
    ap shown_memberships (take_more nodes i node inside ∙ ap (λ (n : NodeShown). take i nodes ++ n ∷ []) (sym at))
    ∙ memberships-next (take i nodes) node
    ∙ ap (λ (b : Bool). cond b (noted (shown_memberships (take i nodes)) (set_bits node.members))
    (shown_memberships (take i nodes))) bad

pub noted-few : (words : List ℕ) (members : ℕ) → length (noted words members) ≤ length words + 1
noted-few words members = go (list_any (λ word. word == members) words)
  where
    go : (b : Bool) → length (cond b words (words ++ members ∷ [])) ≤ length words + 1
    go true = omega arith
    go false = omega (arith, length-append words (members ∷ []))
