-- The faults of a line in stages, as the reader of scripts looks for them, and by words.
--
-- The reader asks of all words first whether they are spelled as they are due, then whether numbers stand where they
-- are due, then for nodes, for payload and for ranges. For each word the first of these that fails is told.
use Rattle.std.proofs.Common.{◌≡◌, Bool, true, false, List, [], ◌∷◌, ◌++◌, Option, Some, None, refl}
use Rattle.std.specs.Prelude.{option_to_list, ◌⊎◌, if◌then◌else◌}
use Rattle.std.specs.List.{list_all}
use Rattle.std.proofs.lemmas.Bool.{and_parts}
use Rattle.std.proofs.Common.{inl, inr, ◌&&◌}
use Rattle.script_text.specs.declared.error.LineFault.{LineFault}
use Rattle.script_text.specs.declared.error.LineFault.TheVariants as faults

-- what holds of a word
pub record Flags : Type 0 where
  pub spelled : Bool
  pub number : Bool
  pub node : Bool
  pub sends : Bool
  pub range : Bool

-- the first that does not
abbrev pub told_by : Flags → Option LineFault
told_by f =
    if f.spelled then (if f.number then (if f.node then (if f.sends then (if f.range then None else Some faults.Range)
    else Some faults.NoData) else Some faults.NoNode) else Some faults.Number) else Some faults.Word

-- of all words
abbrev pub all_told : List Flags → List LineFault
all_told [] = []
all_told (f ∷ fs) = option_to_list (told_by f) ++ all_told fs

-- a fault is one of some
abbrev pub Has : LineFault → List LineFault → Type 0
Has fault [] = ⊥
Has fault (x ∷ xs) = (x ≡ fault) ⊎ Has fault xs

pub has_back : (fault : LineFault) (xs ys : List LineFault) → Has fault ys → Has fault (xs ++ ys)
has_back fault [] ys h = h
has_back fault (x ∷ xs) ys h = inr (has_back fault xs ys h)

not_spelled_at : (f : Flags) (fs : List Flags) (b : Bool) → f.spelled ≡ b
    → (list_all (λ g. g.spelled) fs ≡ false → Has faults.Word (all_told fs))
    → (b && list_all (λ g. g.spelled) fs) ≡ false → Has faults.Word (option_to_list (told_by f) ++ all_told fs)
not_spelled_at f fs false is more h = rw is (inl refl)
not_spelled_at f fs true is more h = has_back faults.Word _ _ (more h)

pub not_spelled : (fs : List Flags) → list_all (λ f. f.spelled) fs ≡ false → Has faults.Word (all_told fs)
not_spelled [] h = cc
not_spelled (f ∷ fs) h = not_spelled_at f fs f.spelled refl (not_spelled fs) h

one : (a b : Bool) → (a && b) ≡ false → (a ≡ false) ⊎ (b ≡ false)
one true b h = inr h
one false b h = inl refl

no_number_at : (f : Flags) (fs : List Flags) → f.spelled ≡ true
    → (list_all (λ g. g.number) fs ≡ false → Has faults.Number (all_told fs))
    → (f.number ≡ false) ⊎ (list_all (λ g. g.number) fs ≡ false)
    → Has faults.Number (option_to_list (told_by f) ++ all_told fs)
no_number_at f fs spelled more (inl h) = rw (spelled, h) (inl refl)
no_number_at f fs spelled more (inr h) = has_back faults.Number _ _ (more h)

pub no_number : (fs : List Flags) → list_all (λ f. f.spelled) fs ≡ true → list_all (λ f. f.number) fs ≡ false
    → Has faults.Number (all_told fs)
no_number [] spelled h = cc
no_number (f ∷ fs) spelled h =
    let s = and_parts _ _ spelled in no_number_at f fs s.0 (no_number fs s.1) (one _ _ h)

no_node_at : (f : Flags) (fs : List Flags) → f.spelled ≡ true → f.number ≡ true
    → (list_all (λ g. g.node) fs ≡ false → Has faults.NoNode (all_told fs))
    → (f.node ≡ false) ⊎ (list_all (λ g. g.node) fs ≡ false)
    → Has faults.NoNode (option_to_list (told_by f) ++ all_told fs)
no_node_at f fs spelled number more (inl h) = rw (spelled, number, h) (inl refl)
no_node_at f fs spelled number more (inr h) = has_back faults.NoNode _ _ (more h)

pub no_node : (fs : List Flags) → list_all (λ f. f.spelled) fs ≡ true → list_all (λ f. f.number) fs ≡ true
    → list_all (λ f. f.node) fs ≡ false → Has faults.NoNode (all_told fs)
no_node [] spelled number h = cc
no_node (f ∷ fs) spelled number h =
    let s = and_parts _ _ spelled in let n = and_parts _ _ number in
    no_node_at f fs s.0 n.0 (no_node fs s.1 n.1) (one _ _ h)

no_data_at : (f : Flags) (fs : List Flags) → f.spelled ≡ true → f.number ≡ true → f.node ≡ true
    → (list_all (λ g. g.sends) fs ≡ false → Has faults.NoData (all_told fs))
    → (f.sends ≡ false) ⊎ (list_all (λ g. g.sends) fs ≡ false)
    → Has faults.NoData (option_to_list (told_by f) ++ all_told fs)
no_data_at f fs spelled number node more (inl h) = rw (spelled, number, node, h) (inl refl)
no_data_at f fs spelled number node more (inr h) = has_back faults.NoData _ _ (more h)

pub no_data : (fs : List Flags) → list_all (λ f. f.spelled) fs ≡ true → list_all (λ f. f.number) fs ≡ true
    → list_all (λ f. f.node) fs ≡ true → list_all (λ f. f.sends) fs ≡ false → Has faults.NoData (all_told fs)
no_data [] spelled number node h = cc
no_data (f ∷ fs) spelled number node h =
    let s = and_parts _ _ spelled in let n = and_parts _ _ number in let k = and_parts _ _ node in
    no_data_at f fs s.0 n.0 k.0 (no_data fs s.1 n.1 k.1) (one _ _ h)

out_of_range_at : (f : Flags) (fs : List Flags) → f.spelled ≡ true → f.number ≡ true → f.node ≡ true → f.sends ≡ true
    → (list_all (λ g. g.range) fs ≡ false → Has faults.Range (all_told fs))
    → (f.range ≡ false) ⊎ (list_all (λ g. g.range) fs ≡ false)
    → Has faults.Range (option_to_list (told_by f) ++ all_told fs)
out_of_range_at f fs spelled number node sends more (inl h) = rw (spelled, number, node, sends, h) (inl refl)
out_of_range_at f fs spelled number node sends more (inr h) = has_back faults.Range _ _ (more h)

pub out_of_range : (fs : List Flags) → list_all (λ f. f.spelled) fs ≡ true → list_all (λ f. f.number) fs ≡ true
    → list_all (λ f. f.node) fs ≡ true → list_all (λ f. f.sends) fs ≡ true → list_all (λ f. f.range) fs ≡ false
    → Has faults.Range (all_told fs)
out_of_range [] spelled number node sends h = cc
out_of_range (f ∷ fs) spelled number node sends h =
    let s = and_parts _ _ spelled in let n = and_parts _ _ number in
    let k = and_parts _ _ node in let d = and_parts _ _ sends in
    out_of_range_at f fs s.0 n.0 k.0 d.0 (out_of_range fs s.1 n.1 k.1 d.1) (one _ _ h)

pub all_right : (fs : List Flags) → list_all (λ f. f.spelled) fs ≡ true → list_all (λ f. f.number) fs ≡ true
    → list_all (λ f. f.node) fs ≡ true → list_all (λ f. f.sends) fs ≡ true → list_all (λ f. f.range) fs ≡ true
    → all_told fs ≡ []
all_right [] spelled number node sends range = refl
all_right (f ∷ fs) spelled number node sends range =
    let s : (f.spelled ≡ true) × (list_all (λ g. g.spelled) fs ≡ true) = and_parts _ _ spelled in
    let n : (f.number ≡ true) × (list_all (λ g. g.number) fs ≡ true) = and_parts _ _ number in
    let k : (f.node ≡ true) × (list_all (λ g. g.node) fs ≡ true) = and_parts _ _ node in
    let d : (f.sends ≡ true) × (list_all (λ g. g.sends) fs ≡ true) = and_parts _ _ sends in
    let r : (f.range ≡ true) × (list_all (λ g. g.range) fs ≡ true) = and_parts _ _ range in
    rw (s.0, n.0, k.0, d.0, r.0) (all_right fs s.1 n.1 k.1 d.1 r.1)
