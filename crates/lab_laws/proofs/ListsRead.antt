-- Lists with commas are cut into their words again, and what they tell.
use Rattle.lab_laws.proofs.Words.{◌≡◌, ℕ, suc, ◌+◌, ◌<◌, ◌≤◌, Bool, false, ◌||◌, List, [], ◌∷◌, length, fold}
use Rattle.lab_laws.proofs.Words.{All, Option, Some, refl, sym, ap, ◌∙◌, arith, codes, decimal, ◌==◌, nat_le}
use Rattle.lab_laws.proofs.Words.{map, list_any, AllByRecursion, or-false, false_from_ne_true, le-leb, lt-ltb}
use Rattle.lab_laws.proofs.Words.{both_ways, or_parts, All-nil, All-cons, bytes_eq-Decides, has, has-append}
use Rattle.lab_laws.proofs.Words.{◌>>=◌, listed, Kind, SetsSoFar, is_dash, nodes_listed, members_listed}
use Rattle.lab_laws.proofs.Words.{sets_listed}
use Rattle.std.proofs.Common.{bytes_eq}
use Rattle.std.specs.List.{join_with_byte, slice_split}
use Rattle.std.proofs.Math.Bool.{or_assoc}
use Rattle.std.proofs.lemmas.List.Splits.{slice_split_at, slice_split_none}
use Rattle.ttp_world.proofs.NumberWords.{word-no_number}
use Rattle.whole_campaign.specs.declared.listed.NodesSoFar.{NodesSoFar}
use Rattle.whole_campaign.specs.Words.{is_comma, node_in_word, with_node_word}
use Rattle.whole_campaign.specs.Words.{with_set_word}

-- Cut at the commas.

-- no word has a comma
abbrev pub HaveNoCommas : List (List ℕ) → Type 0
HaveNoCommas words = AllByRecursion (λ word. has 44 word ≡ false) words

none-commas : (word : List ℕ) → has 44 word ≡ false → All (λ b. is_comma b ≡ false) word
none-commas [] none = All-nil (λ b. is_comma b ≡ false)
none-commas (b ∷ word) none =
    let parts = or_parts (b == 44) (has 44 word) none in
    All-cons (λ b. is_comma b ≡ false) b word parts.0 (none-commas word parts.1)

split-again : (word : List ℕ) (words : List (List ℕ)) → HaveNoCommas (word ∷ words)
    → slice_split is_comma (join_with_byte 44 (word ∷ words)) ≡ word ∷ words
split-again word [] none = slice_split_none is_comma word (none-commas word none.0)
split-again word (next ∷ words) none =
    slice_split_at is_comma word 44 (join_with_byte 44 (next ∷ words)) (none-commas word none.0) refl
    ∙ ap (λ (ws : List (List ℕ)). word ∷ ws) (split-again next words none.1)

head-of : (word other : List ℕ) (words others : List (List ℕ)) → word ∷ words ≡ other ∷ others → word ≡ other
head-of word other words others same = cc

-- a list is a dash only where it has no words
listed-no_dash : (word : List ℕ) (words : List (List ℕ)) → HaveNoCommas (word ∷ words) → is_dash word ≡ false
    → is_dash (listed (word ∷ words)) ≡ false
listed-no_dash word words none other =
    false_from_ne_true (is_dash (listed (word ∷ words)))
    (λ same. let is : join_with_byte 44 (word ∷ words) ≡ codes "-" = (bytes_eq-Decides _ (codes "-")).0 same in
    let cut : word ∷ words ≡ codes "-" ∷ [] =
    sym (split-again word words none) ∙ ap (slice_split is_comma) is
    ∙ slice_split_none is_comma (codes "-") (none-commas (codes "-") refl) in
    both_ways (is_dash word) other ((bytes_eq-Decides word (codes "-")).1 (head-of word (codes "-") words [] cut)))

-- what no word has, the list does not have
has-joined : (b : ℕ) (word : List ℕ) (words : List (List ℕ)) → (44 == b) ≡ false
    → AllByRecursion (λ w. has b w ≡ false) (word ∷ words) → has b (join_with_byte 44 (word ∷ words)) ≡ false
has-joined b word [] other none = none.0
has-joined b word (next ∷ words) other none =
    let rest = has-joined b next words other none.1 in
    has-append b word (44 ∷ join_with_byte 44 (next ∷ words)) none.0 (rw other rest)

pub has-listed : (b : ℕ) (words : List (List ℕ)) → (44 == b) ≡ false → (45 == b) ≡ false
    → AllByRecursion (λ w. has b w ≡ false) words → has b (listed words) ≡ false
has-listed b [] comma dash none = rw dash refl
has-listed b (word ∷ words) comma dash none = has-joined b word words comma none

-- Numerals are no dash.

pub numeral-no_dash : (n : ℕ) → is_dash (decimal n) ≡ false
numeral-no_dash n =
    false_from_ne_true (is_dash (decimal n))
    (λ same. let is : decimal n ≡ codes "-" = (bytes_eq-Decides (decimal n) (codes "-")).0 same in
    both_ways (bytes_eq (codes "-") (decimal n)) (word-no_number (codes "-") n refl)
    ((bytes_eq-Decides (codes "-") (decimal n)).1 (sym is)))

-- Nodes.

-- a word that tells a node, in a list
pub record IsNodeWord (kind : Kind) (word : List ℕ) (node : ℕ) : Type 0 where
  pub tells : node_in_word kind word ≡ Some node
  pub comma : has 44 word ≡ false
  pub dash : is_dash word ≡ false

-- words of nodes in ascending order from the first of these on
abbrev pub AreNodeWords : {X : Type 0} → Kind → ℕ → (X → List ℕ) → (X → ℕ) → ℕ → List X → Type 0
AreNodeWords kind n word node least [] = Unit {0}
AreNodeWords kind n word node least (x ∷ xs) =
    IsNodeWord kind (word x) (node x) × (least ≤ node x) × (node x < n) × AreNodeWords kind n word node (node x + 1) xs

no-commas : {X : Type 0} (kind : Kind) (n : ℕ) (word : X → List ℕ) (node : X → ℕ) (least : ℕ) (xs : List X)
    → AreNodeWords kind n word node least xs → HaveNoCommas (map word xs)
no-commas kind n word node least [] are = tt
no-commas kind n word node least (x ∷ xs) are =
    (are.0.comma, no-commas kind n word node (node x + 1) xs are.3)

none-before : (n : ℕ) → 0 + n ≡ n
none-before n = omega arith

node-step : (kind : Kind) (n : ℕ) (word : List ℕ) (node least count : ℕ) → IsNodeWord kind word node → least ≤ node
    → node < n
    → with_node_word kind n (Some (record { least = least; count = count })) word
    ≡ Some (record { least = node + 1; count = count + 1 })
unfolding with_node_word
node-step kind n word node least count is above below_n =
    rw (is.tells, le-leb least node above, lt-ltb node n below_n) refl

nodes-fold : {X : Type 0} (kind : Kind) (n : ℕ) (word : X → List ℕ) (node : X → ℕ) (least count : ℕ) (xs : List X)
    → AreNodeWords kind n word node least xs
    → (fold (with_node_word kind n) (Some (record { least = least; count = count })) (map word xs)
    >>= λ nodes. Some nodes.count) ≡ Some (count + length xs)
nodes-fold kind n word node least count [] are = let same : count ≡ count + 0 =
    omega arith in ap (λ (m : ℕ). Some m) same
nodes-fold kind n word node least count (x ∷ xs) are =
    let more : count + 1 + length xs ≡ count + suc (length xs) = omega arith in
    ap (λ (o : Option NodesSoFar). fold (with_node_word kind n) o (map word xs) >>= λ nodes. Some nodes.count)
    (node-step kind n (word x) (node x) least count are.0 are.1 are.2)
    ∙ nodes-fold kind n word node (node x + 1) (count + 1) xs are.3 ∙ ap (λ (m : ℕ). Some m) more

pub nodes-again : {X : Type 0} (kind : Kind) (n : ℕ) (word : X → List ℕ) (node : X → ℕ) (xs : List X)
    → AreNodeWords kind n word node 0 xs → nodes_listed kind n (listed (map word xs)) ≡ Some (length xs)
unfolding nodes_listed
nodes-again kind n word node [] are = refl
nodes-again kind n word node (x ∷ xs) are =
    let none = no-commas kind n word node 0 (x ∷ xs) are in
    rw (
      listed-no_dash (word x) (map word xs) none are.0.dash,
      split-again (word x) (map word xs) none,
    ) (nodes-fold kind n word node 0 0 (x ∷ xs) are ∙ ap (λ (m : ℕ). Some m) (none-before (length (x ∷ xs))))

-- Memberships.

-- a word that tells so many members
pub record IsSetWord (n : ℕ) (word : List ℕ) (members : ℕ) : Type 0 where
  pub tells : members_listed n word ≡ Some members
  pub comma : has 44 word ≡ false
  pub dash : is_dash word ≡ false

set-commas : (n : ℕ) (word : List ℕ → List ℕ) (sets : List (List ℕ))
    → AllByRecursion (λ s. IsSetWord n (word s) (length s)) sets → HaveNoCommas (map word sets)
set-commas n word [] are = tt
set-commas n word (s ∷ sets) are = (are.0.comma, set-commas n word sets are.1)

set-step : (n : ℕ) (word : List ℕ) (members count : ℕ) (company : Bool) → IsSetWord n word members
    → with_set_word n (Some (record { count = count; company = company })) word
    ≡ Some (record { count = count + 1; company = company || nat_le 2 members })
unfolding with_set_word
set-step n word members count company is = rw is.tells refl

sets-fold : (n : ℕ) (word : List ℕ → List ℕ) (count : ℕ) (company : Bool) (sets : List (List ℕ))
    → AllByRecursion (λ s. IsSetWord n (word s) (length s)) sets
    → fold (with_set_word n) (Some (record { count = count; company = company })) (map word sets)
    ≡ Some (record {
      count = count + length sets;
      company = company || list_any (λ members. nat_le 2 (length members)) sets;
    })
sets-fold n word count company [] are = λ i.
    Some (record { count = (let same : count ≡ count + 0 = omega arith in same) i; company = sym (or-false company) i })
sets-fold n word count company (s ∷ sets) are =
    let more : count + 1 + length sets ≡ count + suc (length sets) = omega arith in
    let two = nat_le 2 (length s) in
    let others = list_any (λ members. nat_le 2 (length members)) sets in
    ap (λ (o : Option SetsSoFar). fold (with_set_word n) o (map word sets))
    (set-step n (word s) (length s) count company are.0)
    ∙ sets-fold n word (count + 1) (company || two) sets are.1
    ∙ (λ i. Some (record { count = more i; company = or_assoc company two others i }))

pub sets-again : (n : ℕ) (word : List ℕ → List ℕ) (sets : List (List ℕ))
    → AllByRecursion (λ s. IsSetWord n (word s) (length s)) sets
    → sets_listed n (listed (map word sets))
    ≡ Some (record { count = length sets; company = list_any (λ members. nat_le 2 (length members)) sets })
unfolding sets_listed
sets-again n word [] are = refl
sets-again n word (s ∷ sets) are =
    let none = set-commas n word (s ∷ sets) are in
    rw (
      listed-no_dash (word s) (map word sets) none are.0.dash,
      split-again (word s) (map word sets) none,
    ) (sets-fold n word 0 false (s ∷ sets) are
    ∙ (λ i. Some (record {
      count = none-before (length (s ∷ sets)) i;
      company = list_any (λ members. nat_le 2 (length members)) (s ∷ sets);
    })))
