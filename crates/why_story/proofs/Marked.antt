-- Marks of entries.
use Rattle.std.proofs.Common.{◌≡◌, ◌≢◌, ℕ, ◌+◌, ◌<◌, ◌==◌, ◌&&◌, ◌||◌, Bool, true, false, List, [], ◌∷◌, ◌++◌, length}
use Rattle.std.proofs.Common.{get_or, set, take, filter, ◌≤◌, cond, ap}
use Rattle.std.proofs.Common.{sym, ◌∙◌, refl, arith, get_or-set_other, subst}
use Rattle.std.proofs.lemmas.Bool.Decides.{nat_tests}
use Rattle.std.proofs.lemmas.Grind.{get_or-set_at}
use Rattle.std.proofs.lemmas.List.{append-nil, get_or_default, take_all, take_more}
use Rattle.std.proofs.lemmas.List.Folds.{list_any-append, list_any_at, list_any_more}
use Rattle.std.proofs.lemmas.List.Elements.{filter_more}
use Rattle.std.specs.List.{list_any}
use Rattle.std.specs.Prelude.{vec_len}
use Rattle.ttp_base.specs.NodeSet.{has_node, most_nodes}
unfoldable use Rattle.ttp_base.specs.NodeSet.{with_node}
use Rattle.ttp_base.proofs.NodeSets.{has_node-with}
use Rattle.causes.specs.Story.{has_spot, is_spot}
use Rattle.causes.specs.declared.cause.Spot.{Spot}
use Rattle.why_story.specs.Marks.{AreMarked}
use Rattle.why_story.specs.RunSource.{spot_at}
use Rattle.why_story.specs.declared.marks.Marks.{Marks}

-- One mark more.

-- the set of a slot in which a node was marked
set_here : (sets : List (List ℕ)) (slot node t k : ℕ) → slot < length sets → k < most_nodes → t ≡ slot
    → has_node (get_or (set sets slot (with_node (get_or sets slot []) node)) t []) k
    ≡ ((k == node) || has_node (get_or sets t []) k)
set_here sets slot node t k within small same =
    ap (λ (s : List ℕ). has_node s k) (get_or-set_at sets slot t (with_node (get_or sets slot []) node) [] same within)
    ∙ (has_node-with (get_or sets slot []) node k small
    ∙ ap (λ (n : ℕ). (k == node) || has_node (get_or sets n []) k) (sym same))

set_other : (sets : List (List ℕ)) (slot node t k : ℕ) → t ≢ slot
    → has_node (get_or (set sets slot (with_node (get_or sets slot []) node)) t []) k ≡ has_node (get_or sets t []) k
set_other sets slot node t k other =
    ap (λ (s : List ℕ). has_node s k) (get_or-set_other sets slot t (with_node (get_or sets slot []) node) [] other)

set_by : (sets : List (List ℕ)) (slot node t k : ℕ) (b : Bool) → (t == slot) ≡ b → slot < length sets → k < most_nodes
    → has_node (get_or (set sets slot (with_node (get_or sets slot []) node)) t []) k
    ≡ ((b && (k == node)) || has_node (get_or sets t []) k)
set_by sets slot node t k true is within small = set_here sets slot node t k within small (grind (arith, nat_tests))
set_by sets slot node t k false is within small = set_other sets slot node t k (grind (arith, nat_tests))

pub AreMarked-more : (count : ℕ) (spots : List Spot) (old new : Marks) (s : Spot) → AreMarked count spots old
    → s.slot < count → vec_len new.sets ≡ vec_len old.sets
    → new.sets.items ≡ set old.sets.items s.slot (with_node (get_or old.sets.items s.slot []) s.node)
    → AreMarked count (s ∷ spots) new
AreMarked-more count spots old new s marked within len sets = record {
  slots = len ∙ marked.slots;
  each = λ t k slot node.
      ap (λ (all : List (List ℕ)). has_node (get_or all t []) k) sets
      ∙ (set_by old.sets.items s.slot s.node t k (t == s.slot) refl
      (omega (arith, within, marked.slots, old.sets.ok)) node
      ∙ ap (λ (b : Bool). ((t == s.slot) && (k == s.node)) || b) (marked.each t k slot node));
}

-- Marks in another order.

or-last : (a b c : Bool) → (a || (b || c)) ≡ ((b || (a || false)) || c)
or-last true true c = refl
or-last true false c = refl
or-last false true c = refl
or-last false false c = refl

-- one of some, and others
swap-spots : (first : List Spot) (s : Spot) (spots : List Spot) (x : Spot)
    → has_spot (s ∷ (first ++ spots)) x ≡ has_spot ((first ++ s ∷ []) ++ spots) x
swap-spots first s spots x =
    ap (λ (b : Bool). is_spot x s || b) (list_any-append (is_spot x) first spots)
    ∙ (or-last (is_spot x s) (list_any (is_spot x) first) (list_any (is_spot x) spots)
    ∙ sym (list_any-append (is_spot x) (first ++ s ∷ []) spots
    ∙ ap (λ (b : Bool). b || list_any (is_spot x) spots) (list_any-append (is_spot x) first (s ∷ []))))

pub AreMarked-step : (count : ℕ) (spots marked : List Spot) (i : ℕ) (d : Spot) (marks : Marks) → i < length spots
    → AreMarked count (get_or spots i d ∷ (take i spots ++ marked)) marks
    → AreMarked count (take (i + 1) spots ++ marked) marks
AreMarked-step count spots marked i d marks within are = record {
  slots = are.slots;
  each = λ t k slot node.
      are.each t k slot node
      ∙ (swap-spots (take i spots) (get_or spots i d) marked (spot_at t k)
      ∙ ap (λ (all : List Spot). has_spot (all ++ marked) (spot_at t k)) (sym (take_more spots i d within)));
}

-- all are marked
pub AreMarked-end : (count : ℕ) (spots marked : List Spot) (i : ℕ) (marks : Marks) → length spots ≤ i
    → AreMarked count (take i spots ++ marked) marks → AreMarked count (spots ++ marked) marks
AreMarked-end count spots marked i marks all are =
    subst (λ (s : List Spot). AreMarked count (s ++ marked) marks) (take_all i spots all) are

-- What the code reads of marks.
pub has-at : (count : ℕ) (spots : List Spot) (marks : Marks) (s : Spot) (here d : List ℕ) → AreMarked count spots marks
    → s.slot < vec_len marks.sets → s.slot < count → s.node < most_nodes → here ≡ get_or marks.sets.items s.slot d
    → has_node here s.node ≡ has_spot spots s
has-at count spots marks s here d are within slot node is =
    ap (λ (x : List ℕ). has_node x s.node)
    (is ∙ get_or_default marks.sets.items s.slot d [] (omega (arith, within, marks.sets.ok)))
    ∙ are.each s.slot s.node slot node

-- Loops that test each of some.

pub any-more : {X : Type 0} (p : X → Bool) (xs : List X) (i : ℕ) (d : X) → i
    < length xs → list_any p (take i xs) ≡ false
    → p (get_or xs i d) ≡ false → list_any p (take (i + 1) xs) ≡ false
any-more p xs i d within none here =
    list_any_more p xs i d within
    ∙ (ap (λ (b : Bool). b || p (get_or xs i d)) none ∙ ap (λ (b : Bool). false || b) here)

pub any-found : {X : Type 0} (p : X → Bool) (xs : List X) (i : ℕ) (d : X) → i < length xs → p (get_or xs i d) ≡ true
    → true ≡ list_any p xs
any-found p xs i d within here = sym (list_any_at p xs i d within here)

pub any-end : {X : Type 0} (p : X → Bool) (xs : List X) (i : ℕ) → length xs ≤ i → list_any p (take i xs) ≡ false
    → false ≡ list_any p xs
any-end p xs i all none = sym (ap (list_any p) (sym (take_all i xs all)) ∙ none)

pub filter-skip : (p : Spot → Bool) (xs found : List Spot) (i : ℕ) (d : Spot)
    → i < length xs → p (get_or xs i d) ≡ false
    → found ≡ filter p (take i xs) → found ≡ filter p (take (i + 1) xs)
filter-skip p xs found i d within none is =
    is
    ∙ (sym (append-nil (filter p (take i xs)))
    ∙ (ap (λ (b : Bool). filter p (take i xs) ++ cond b (get_or xs i d ∷ []) []) (sym none)
    ∙ sym (filter_more p xs i d within)))

pub filter-take : (p : Spot → Bool) (xs found : List Spot) (i : ℕ) (d : Spot) → i < length xs → p (get_or xs i d) ≡ true
    → found ≡ filter p (take i xs) → found ++ get_or xs i d ∷ [] ≡ filter p (take (i + 1) xs)
filter-take p xs found i d within here is =
    ap (λ (f : List Spot). f ++ get_or xs i d ∷ []) is
    ∙ (ap (λ (b : Bool). filter p (take i xs) ++ cond b (get_or xs i d ∷ []) []) (sym here)
    ∙ sym (filter_more p xs i d within))

pub filter-end : (p : Spot → Bool) (xs found : List Spot) (i : ℕ) → length xs ≤ i → found ≡ filter p (take i xs)
    → found ≡ filter p xs
filter-end p xs found i all is = is ∙ ap (filter p) (take_all i xs all)
