-- What safety says of correct nodes after a slot, in the words of a campaign.
use Rattle.std.proofs.Common.{◌≡◌, ℕ, suc, ◌-◌, ◌<◌, Bool, true, false, cond, not, ◌&&◌, ◌||◌, List, [], ◌∷◌, ◌++◌}
use Rattle.std.proofs.Common.{length, take, Option, Some, None, refl, ap, sym, ◌∙◌, subst, arith}
use Rattle.std.specs.Prelude.{filter, find, reverse}
use Rattle.std.specs.List.{list_all, list_any, AllByRecursion}
use Rattle.std.specs.Str.{bytes_eq}
use Rattle.std.proofs.lemmas.Bool.{false≢true}
use Rattle.std.proofs.lemmas.List.{length-map, reverse-append}
use Rattle.ttp_base.specs.NodeSet.{below}
use Rattle.ttp_base.proofs.Below.{below-lt, each-below}
use Rattle.ttp_world.specs.declared.medl.Medl.{Medl}
use Rattle.ttp_world.specs.declared.node.Entry.{Entry}
use Rattle.ttp_world.specs.declared.script.Script.{Script}
use Rattle.ttp_world.specs.BackSafety.{newest_arm, since_slot, is_left_after, has_left_since_arm, IsBackSafe}
use Rattle.ttp_world.specs.Diary.{Diary, History, entry_of, diary_of}
use Rattle.ttp_world.specs.Hypothesis.{numbers_of, faulty_after}
use Rattle.ttp_world.specs.Returning.{back_faulty_after, is_sound}
use Rattle.ttp_world.specs.Safety.{newest_slot, is_settled, members_of_node, are_same_members, has_left, IsSafe}
use Rattle.ttp_world.specs.Script.{is_armed}
use Rattle.ttp_world.proofs.Starts.{on-by as implied}
use Rattle.campaign_laws.proofs.FromBelow.{not-settled as negated}

-- none of the nodes that are correct where these are faulty has left, and they hold one membership unless in doubt
pub record IsCalm (list : Medl) (script : Script) (history : History) (faulty : List ℕ) : Type 0 where
  pub stay : (k : ℕ) → k < length list.slots → is_sound script faulty (newest_slot history) k ≡ true
      → has_left history k ≡ false
  pub agree : (j k : ℕ) → j < length list.slots → k < length list.slots
      → is_sound script faulty (newest_slot history) j ≡ true → is_sound script faulty (newest_slot history) k ≡ true
      → is_settled history j ≡ true → is_settled history k ≡ true
      → bytes_eq (members_of_node list history j) (members_of_node list history k) ≡ true

-- Tests of all of some nodes.

list_all-filter : (p q : ℕ → Bool) (ks : List ℕ) → list_all q (filter p ks) ≡ list_all (λ k. not (p k) || q k) ks
list_all-filter p q [] = refl
list_all-filter p q (k ∷ ks) =
    by (p k) ∙ ap (λ b. (not (p k) || q k) && b) (list_all-filter p q ks)
  where
    by : (b : Bool) → list_all q (cond b (k ∷ filter p ks) (filter p ks)) ≡ ((not b || q k) && list_all q (filter p ks))
    by true = refl
    by false = refl

-- a test of all that pass another is one of each
pub kept-each : (p q : ℕ → Bool) (n k : ℕ) → list_all q (filter p (below n)) ≡ true → k < n → p k ≡ true → q k ≡ true
kept-each p q n k all node is =
    implied (p k) (q k)
    (each-below (λ j. not (p j) || q j) n k (sym (list_all-filter p q (below n)) ∙ all) node) is

-- of pairs of such nodes that pass a second test
pairs-each : (p s : ℕ → Bool) (q : ℕ → ℕ → Bool) (n j k : ℕ)
    → list_all (λ i. list_all (q i) (filter s (filter p (below n)))) (filter s (filter p (below n))) ≡ true
    → j < n → k < n → p j ≡ true → p k ≡ true → s j ≡ true → s k ≡ true → q j k ≡ true
pairs-each p s q n j k all one other sound_j sound_k firm_j firm_k =
    twice (q j) k (twice (λ i. list_all (q i) (filter s (filter p (below n)))) j all
    one sound_j firm_j) other sound_k firm_k
  where
    twice : (r : ℕ → Bool) (i : ℕ) → list_all r (filter s (filter p (below n))) ≡ true → i < n → p i ≡ true
        → s i ≡ true → r i ≡ true
    twice r i passes node sound firm =
        implied (s i) (r i)
        (kept-each p (λ m. not (s m) || r m) n i (sym (list_all-filter s r (filter p (below n))) ∙ passes) node sound)
        firm

-- By the hypothesis.

pub safe-calm : (list : Medl) (script : Script) (history : History) → IsSafe list script history
    → IsCalm list script history (faulty_after list script (newest_slot history))
safe-calm list script history safe = record {
  stay = λ k node sound.
      negated (has_left history k)
      (kept-each (is_sound script (faulty_after list script (newest_slot history)) (newest_slot history))
      (λ j. not (has_left history j)) (length list.slots) k safe.stay node sound);
  agree = λ j k one other sound_j sound_k firm_j firm_k.
      pairs-each (is_sound script (faulty_after list script (newest_slot history)) (newest_slot history))
      (is_settled history) (are_same_members list history) (length list.slots) j k safe.agree one other sound_j sound_k
      firm_j firm_k;
}

-- By the test on armed nodes: a node that has not left since it was armed did not leave in the newest slot.

append-each : (P : ℕ → Type 0) (xs ys : List ℕ) → AllByRecursion P xs
    → AllByRecursion P ys → AllByRecursion P (xs ++ ys)
append-each P [] ys one other = other
append-each P (x ∷ xs) ys one other = (one.0, append-each P xs ys one.1 other)

reverse-each : (P : ℕ → Type 0) (xs : List ℕ) → AllByRecursion P xs → AllByRecursion P (reverse xs)
reverse-each P [] each = tt
reverse-each P (x ∷ xs) each =
    subst (AllByRecursion P) (sym (reverse-append (x ∷ []) xs))
    (append-each P (reverse xs) (x ∷ []) (reverse-each P xs each.1) (each.0, tt))

found-by : (P : ℕ → Type 0) (b : Bool) (y x : ℕ) (later : Option ℕ) → P y → (later ≡ Some x → P x)
    → cond b (Some y) later ≡ Some x → P x
found-by P true y x later here there is = let same : y ≡ x = cc in subst P same here
found-by P false y x later here there is = there is

find-each : (P : ℕ → Type 0) (p : ℕ → Bool) (xs : List ℕ) (x : ℕ) → AllByRecursion P xs → find p xs ≡ Some x → P x
find-each P p [] x each is = absurd cc
find-each P p (y ∷ ys) x each is = found-by P (p y) y x (find p ys) each.0 (find-each P p ys x each.1) is

newest-left : (o : Option ℕ) (e : Entry) (diary : Diary) → ((slot : ℕ) → o ≡ Some slot → slot < suc (length diary))
    → list_any is_left_after (since_slot o (e ∷ diary)) ≡ false → is_left_after e ≡ false
newest-left o e diary before none = by (is_left_after e) refl
  where
    left : (o : Option ℕ) → ((slot : ℕ) → o ≡ Some slot → slot < suc (length diary)) → is_left_after e ≡ true
        → list_any is_left_after (since_slot o (e ∷ diary)) ≡ true
    left None within is = ap (λ b. b || list_any is_left_after diary) is
    left (Some slot) within is =
        let less = within slot refl in
        let more : suc (length diary) - slot ≡ suc (length diary - slot) = omega (arith, less) in
        ap (λ n. list_any is_left_after (take n (e ∷ diary))) more
        ∙ ap (λ b. b || list_any is_left_after (take (length diary - slot) diary)) is

    by : (b : Bool) → is_left_after e ≡ b → is_left_after e ≡ false
    by true is = absurd (false≢true (sym none ∙ left o before is))
    by false is = is

unleft : (script : Script) (history : History) (k : ℕ) → has_left_since_arm script history k ≡ false
    → has_left history k ≡ false
unleft script [] k none = refl
unleft script (row ∷ history) k none =
    newest-left (newest_arm script k (suc (length history))) (entry_of row k) (diary_of history k)
    (λ slot is.
    let less = find-each (λ j. j < suc (length history)) (is_armed script k)
    (reverse (below (suc (length history)))) slot
    (reverse-each (λ j. j < suc (length history)) (below (suc (length history)))
    (below-lt (suc (length history)))) is in
    let long = length-map history (λ r. entry_of r k) in
    omega (arith, less, long))
    none

pub back-calm : (list : Medl) (script : Script) (history : History) → IsBackSafe list script history
    → IsCalm list script history (numbers_of (back_faulty_after list script (newest_slot history)))
back-calm list script history safe = record {
  stay = λ k node sound.
      unleft script history k
      (negated (has_left_since_arm script history k)
      (kept-each (is_sound script
      (numbers_of (back_faulty_after list script (newest_slot history))) (newest_slot history))
      (λ j. not (has_left_since_arm script history j)) (length list.slots) k safe.stay node sound));
  agree = λ j k one other sound_j sound_k firm_j firm_k.
      pairs-each
      (is_sound script (numbers_of (back_faulty_after list script (newest_slot history))) (newest_slot history))
      (is_settled history) (are_same_members list history) (length list.slots) j k safe.agree one other sound_j sound_k
      firm_j firm_k;
}
