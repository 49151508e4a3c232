-- Faults that come too early, slot by slot.
use Rattle.hypothesis.proofs.Words.{◌≡◌, ℕ, zero, suc, ◌+◌, ◌<◌, ◌≤◌, min, List, [], ◌∷◌, ◌++◌, length, map, reverse}
use Rattle.hypothesis.proofs.Words.{replicate, Option, Some, refl, ap, sym, ◌∙◌, inl, inr, arith, nat_lt, cases_lt}
use Rattle.hypothesis.proofs.Words.{cond_both, lt-ltb, option_or, Script, FaultyNode, first_too_early, Course, all_in}
use Rattle.hypothesis.proofs.Words.{earliest_after, fault_slots_before}
use Rattle.std.proofs.lemmas.List.{map-append, reverse-append, replicate_more, append-nil}
use Rattle.std.proofs.lemmas.Grind.{reverse_onto}
use Rattle.hypothesis.proofs.Firsts.{or-head}

pub first_too_early-append : (gap earliest : ℕ) (xs ys : List ℕ) → first_too_early gap earliest (xs ++ ys)
    ≡ option_or (first_too_early gap earliest xs) (first_too_early gap (earliest_after gap earliest xs) ys)
first_too_early-append gap earliest [] ys = refl
first_too_early-append gap earliest (x ∷ xs) ys =
    or-head (nat_lt x earliest) x (first_too_early gap (x + gap) (xs ++ ys)) (first_too_early gap (x + gap) xs)
    (first_too_early gap (earliest_after gap (x + gap) xs) ys) (first_too_early-append gap (x + gap) xs ys)

pub earliest_after-append : (gap earliest : ℕ) (xs ys : List ℕ)
    → earliest_after gap earliest (xs ++ ys) ≡ earliest_after gap (earliest_after gap earliest xs) ys
earliest_after-append gap earliest [] ys = refl
earliest_after-append gap earliest (x ∷ xs) ys = earliest_after-append gap (x + gap) xs ys

-- Faults of one slot.

earliest-again : (gap slot n : ℕ) → earliest_after gap (slot + gap) (replicate n slot) ≡ slot + gap
earliest-again gap slot zero = refl
earliest-again gap slot (suc n) = earliest-again gap slot n

pub earliest-some : (gap earliest slot n : ℕ) → 0 < n → earliest_after gap earliest (replicate n slot) ≡ slot + gap
earliest-some gap earliest slot zero some = absurd (omega arith)
earliest-some gap earliest slot (suc n) some = earliest-again gap slot n

pub too_early-soon : (gap earliest slot n : ℕ) → 0 < n → slot < earliest
    → first_too_early gap earliest (replicate n slot) ≡ Some slot
too_early-soon gap earliest slot zero some soon = absurd (omega arith)
too_early-soon gap earliest slot (suc n) some soon = rw (lt-ltb slot earliest soon) refl

pub too_early-many : (gap earliest slot n : ℕ) → 0 < gap → 1 < n
    → first_too_early gap earliest (replicate n slot) ≡ Some slot
too_early-many gap earliest slot zero wide many = absurd (omega arith)
too_early-many gap earliest slot (suc n) wide many =
    cond_both (nat_lt slot earliest) (Some slot) _ (λ (found : Option ℕ). found ≡ Some slot) (λ early. refl)
    (λ late. too_early-soon gap (slot + gap) slot n (omega arith) (omega arith))

-- The slots of faults.

abbrev slots_of : List FaultyNode → List ℕ
slots_of faulty = map (λ f. f.slot) faulty

pub slots-all_in : (slot : ℕ) (ks : List ℕ) → slots_of (all_in slot ks) ≡ replicate (length ks) slot
slots-all_in slot [] = refl
slots-all_in slot (k ∷ ks) = ap (λ rest. slot ∷ rest) (slots-all_in slot ks)

reverse-replicate : (n slot : ℕ) → reverse (replicate n slot) ≡ replicate n slot
reverse-replicate zero slot = refl
reverse-replicate (suc n) slot =
    let next : n + 1 ≡ suc n = omega arith in
    reverse_onto (replicate n slot) slot [] ∙ ap (λ rest. rest ++ slot ∷ []) (reverse-replicate n slot)
    ∙ replicate_more n slot ∙ ap (λ m. replicate m slot) next

pub slots-later : (slot : ℕ) (ks : List ℕ) (faulty : List FaultyNode)
    → reverse (slots_of (all_in slot ks ++ faulty)) ≡ reverse (slots_of faulty) ++ replicate (length ks) slot
slots-later slot ks faulty =
    ap reverse (map-append (λ (f : FaultyNode). f.slot) (all_in slot ks) faulty)
    ∙ reverse-append (slots_of (all_in slot ks)) (slots_of faulty)
    ∙ ap (λ slots. reverse (slots_of faulty) ++ reverse slots) (slots-all_in slot ks)
    ∙ ap (λ slots. reverse (slots_of faulty) ++ slots) (reverse-replicate (length ks) slot)

pub fault_slots-none : (script : Script) (course : Course) → fault_slots_before script course 0 ≡ []
fault_slots-none script course =
    let none : min 0 script.slots ≡ 0 = omega arith in
    ap (λ t. reverse (slots_of (course.all t))) none ∙ ap (λ all. reverse (slots_of all)) course.none

-- the faults of a slot of the run come after those of the slots before it
pub fault_slots-next : (script : Script) (course : Course) (slot count : ℕ)
    → (slot < script.slots → count ≡ length (course.joined slot)) → (script.slots ≤ slot → count ≡ 0)
    → fault_slots_before script course (slot + 1) ≡ fault_slots_before script course slot ++ replicate count slot
fault_slots-next script course slot count within past = elim (cases_lt slot script.slots) [
  | inl less ↦
      let next : min (slot + 1) script.slots ≡ suc slot = omega arith in
      let now : slot ≡ min slot script.slots = omega arith in
      ap (λ t. reverse (slots_of (course.all t))) next ∙ ap (λ all. reverse (slots_of all)) (course.next slot)
      ∙ slots-later slot (course.joined slot) (course.all slot)
      ∙ ap (λ n. reverse (slots_of (course.all slot)) ++ replicate n slot) (sym (within less))
      ∙ ap (λ t. reverse (slots_of (course.all t)) ++ replicate count slot) now
  | inr from ↦
      let same : min (slot + 1) script.slots ≡ min slot script.slots = omega arith in
      ap (λ t. reverse (slots_of (course.all t))) same ∙ sym (append-nil (fault_slots_before script course slot))
      ∙ ap (λ n. fault_slots_before script course slot ++ replicate n slot) (sym (past from))
]
