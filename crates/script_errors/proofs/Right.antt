-- Lines whose words are right by themselves.
use Rattle.std.proofs.Common.{◌≡◌, ℕ, true, false, Bool, ◌+◌, ◌-◌, ◌<◌, ◌≤◌, ◌^◌}
use Rattle.std.proofs.Common.{List, [], ◌∷◌, ◌++◌, length, get_or, Option}
use Rattle.std.proofs.Common.{Some, None, arith, refl, ap, ◌∙◌, sym, nat_le, nat_lt, ◌&&◌}
use Rattle.std.specs.Prelude.{if◌then◌else◌, IfSome}
use Rattle.std.proofs.lemmas.Bool.Decides.{nat_tests}
use Rattle.ttp_base.specs.NodeSet.{most_nodes}
use Rattle.ttp_world.specs.declared.medl.Medl.{Medl}
use Rattle.ttp_world.specs.Medl.{IsValid}
use Rattle.ttp_world.proofs.Lists.{nodes}
use Rattle.script_text.specs.Numbers.{is_number, decimal_value}
use Rattle.script_errors.specs.declared.error.Form.{Form}
use Rattle.script_errors.specs.declared.error.Part.{Part}
use Rattle.script_errors.specs.declared.error.Part.TheVariants as part
use Rattle.script_errors.specs.declared.error.Wrong.{Wrong}
use Rattle.script_errors.specs.declared.spots.Spot.{Spot}
use Rattle.script_errors.specs.Spots.{spot, spot_text}
use Rattle.script_errors.specs.Words.{node_count, parts_of, number_wrong, first_wrong}
use Rattle.script_errors.specs.Words.{word_wrong}
use Rattle.script_errors.specs.Errors.{errors_of_word, word_errors, line_node, own_errors}

pub front_none : {X : Type 0} (xs ys : List X) → xs ++ ys ≡ [] → xs ≡ []
front_none [] ys none = refl
front_none (x ∷ xs) ys none = cc

pub back_none : {X : Type 0} (xs ys : List X) → xs ++ ys ≡ [] → ys ≡ []
back_none [] ys none = none
back_none (x ∷ xs) ys none = cc

errors_none : (number : ℕ) (at : Spot) (w : Option Wrong) → errors_of_word number at w ≡ [] → w ≡ None
errors_none number at None none = refl
errors_none number at (Some w) none = cc

pub both_tests : (a b : Bool) (x y : Wrong) → (if a then (if b then None else Some x) else Some y) ≡ None
    → (a ≡ true) × (b ≡ true)
both_tests true true x y none = (refl, refl)
both_tests true false x y none = cc
both_tests false b x y none = cc

or_none : (v w : Option Wrong) → first_wrong v w ≡ None → v ≡ None
or_none None w none = refl
or_none (Some v) w none = none

-- nothing is wrong with the first word behind the one that names the form, and with the second
pub first_right : (list : Option Medl) (slots number : ℕ) (line : List ℕ) (f : Form) (p : Part) (parts : List Part)
    (words : List Spot) → parts_of f ≡ p ∷ parts → length words ≡ length (parts_of f)
    → own_errors list slots number line f words ≡ []
    → word_wrong list slots (line_node list line (parts_of f) words) p
    (spot_text line (get_or words 0 (spot 0 0))) ≡ None
unfolding own_errors
first_right list slots number line f p parts [] is full none = absurd (omega (arith, full, ap length is))
first_right list slots number line f p parts (w ∷ words) is full none =
    let node = line_node list line (parts_of f) (w ∷ words) in
    let front = front_none _ _ none in
    let told = ap (λ (ps : List Part). word_errors list slots node number line ps (w ∷ words)) (sym is) ∙ front in
    errors_none number w _ (front_none _ _ told)

pub second_right : (list : Option Medl) (slots number : ℕ) (line : List ℕ) (f : Form) (p q : Part) (parts : List Part)
    (words : List Spot) → parts_of f ≡ p ∷ q ∷ parts → length words ≡ length (parts_of f)
    → own_errors list slots number line f words ≡ []
    → word_wrong list slots (line_node list line (parts_of f) words) q
    (spot_text line (get_or words 1 (spot 0 0))) ≡ None
unfolding own_errors
second_right list slots number line f p q parts [] is full none = absurd (omega (arith, full, ap length is))
second_right list slots number line f p q parts (w ∷ []) is full none = absurd (omega (arith, full, ap length is))
second_right list slots number line f p q parts (w ∷ v ∷ words) is full none =
    let node = line_node list line (parts_of f) (w ∷ v ∷ words) in
    let front = front_none _ _ none in
    let told = ap (λ (ps : List Part). word_errors list slots node number line ps (w ∷ v ∷ words)) (sym is) ∙ front in
    errors_none number v _ (front_none _ _ (back_none _ _ told))

pub number_right : (p : Part) (low high : ℕ) (word : List ℕ) → number_wrong p low high word ≡ None
    → (is_number word ≡ true) × ((nat_le low (decimal_value word) && nat_le (decimal_value word) high) ≡ true)
number_right p low high word none = both_tests _ _ _ _ none

pub slots_right : (list : Option Medl) (slots : ℕ) (node : Option ℕ) (word : List ℕ)
    → word_wrong list slots node part.Slots word ≡ None → is_number word ≡ true
unfolding word_wrong
slots_right list slots _ word none = (number_right _ _ _ word none).0

pub node_right : (list : Option Medl) (slots : ℕ) (node : Option ℕ) (word : List ℕ)
    → word_wrong list slots node part.Node word ≡ None
    → (is_number word ≡ true) × (nat_lt (decimal_value word) (node_count list) ≡ true)
unfolding word_wrong
node_right list slots _ word none = both_tests _ _ _ _ none

pub writer_right : (list : Option Medl) (slots : ℕ) (node : Option ℕ) (word : List ℕ)
    → word_wrong list slots node part.Writer word ≡ None
    → (is_number word ≡ true) × (nat_lt (decimal_value word) (node_count list) ≡ true)
unfolding word_wrong
writer_right list slots _ word none = both_tests _ _ _ _ (or_none _ _ none)

pub slot_right : (list : Option Medl) (slots : ℕ) (node : Option ℕ) (word : List ℕ)
    → word_wrong list slots node part.Slot word ≡ None
    → (is_number word ≡ true) × (nat_le (decimal_value word) (slots - 1) ≡ true)
unfolding word_wrong
slot_right list slots _ word none =
    let both = number_right part.Slot 0 (slots - 1) word none in (both.0, grind (arith, nat_tests, both.1))

pub few_nodes : (list : Option Medl) → IfSome list IsValid → node_count list ≤ most_nodes
few_nodes None valid = omega arith
few_nodes (Some list) valid = grind (arith, nodes)

pub node_few : (list : Option Medl) (k : ℕ) → IfSome list IsValid → nat_lt k (node_count list) ≡ true → k < most_nodes
node_few list k valid within =
    let few = few_nodes list valid in let below : k < node_count list =
    grind (arith, nat_tests) in omega (arith, few, below)

pub slot_fits : (slot slots : ℕ) → slots < 2 ^ 32 → nat_le slot (slots - 1) ≡ true → slot + 1 < 2 ^ 32
slot_fits slot slots fits within =
    let small : slot ≤ slots - 1 = grind (arith, nat_tests) in omega (arith, small)
