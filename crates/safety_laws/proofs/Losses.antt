-- What the loss of a slot tells of the other nodes.
use Rattle.safety_laws.proofs.PlanWords.{◌≡◌, ℕ, ◌<◌, Bool, true, false, cond, not}
use Rattle.safety_laws.proofs.PlanWords.{◌||◌, List, [], ◌∷◌, length, ◌⊎◌, refl}
use Rattle.safety_laws.proofs.PlanWords.{ap, sym, subst, ◌∙◌, inl, inr, arith, ◌==◌}
use Rattle.safety_laws.proofs.PlanWords.{if◌then◌else◌, AllByRecursion, filter}
use Rattle.safety_laws.proofs.PlanWords.{eqb-true, both_ways, or_parts, and_parts}
use Rattle.safety_laws.proofs.PlanWords.{not-false, eq-eqb, and_from, has_node}
use Rattle.safety_laws.proofs.PlanWords.{has_node-sieve, Medl, Script, Loss, Harmless}
use Rattle.safety_laws.proofs.PlanWords.{Makes, Breaks, is_breaking, loses}
use Rattle.safety_laws.proofs.PlanWords.{is_other, others_in, sender_loss, is_ever_on, each-sieve, sender}
use Rattle.ttp_base.proofs.NodeSets.{has_node-filter}
use Rattle.ttp_world.specs.Hypothesis.{loss_among}
use Rattle.ttp_world.specs.Hypothesis.{receivers_loss}
use Rattle.ttp_world.proofs.ListFacts.{few-left}

-- a node of a list, of which each has a property, has it
member-step : (P : ℕ → Type 0) (x r : ℕ) (rest b : Bool) → (x == r) ≡ b → P x → (rest ≡ true → P r) → (b || rest) ≡ true
    → P r
member-step P x r rest true same holds later has = subst P (eqb-true x r same) holds
member-step P x r rest false other holds later has = later has

pub each-member : (P : ℕ → Type 0) (xs : List ℕ) (r : ℕ) → AllByRecursion P xs → has_node xs r ≡ true → P r
each-member P [] r each has = absurd (both_ways _ refl has)
each-member P (x ∷ xs) r each has =
    member-step P x r (has_node xs r) (x == r) refl each.0 (λ later. each-member P xs r each.1 later) has

pub one-member : (k r : ℕ) → has_node (k ∷ []) r ≡ true → k ≡ r
one-member k r has = each-member (λ j. k ≡ j) (k ∷ []) r (refl, tt) has

-- Where a filter keeps as many as there are, all pass.

all-step : (p : ℕ → Bool) (x : ℕ) (xs : List ℕ) (b : Bool) → p x ≡ b
    → length (x ∷ xs) ≡ length (cond b (x ∷ filter p xs) (filter p xs))
    → (p x ≡ true) × (length xs ≡ length (filter p xs))
all-step p x xs true passes same = (passes, omega arith)
all-step p x xs false fails same = absurd (omega (arith, few-left p xs))

all-pass : (p : ℕ → Bool) (xs : List ℕ) → length xs ≡ length (filter p xs) → AllByRecursion (λ x. p x ≡ true) xs
all-pass p [] same = tt
all-pass p (x ∷ xs) same =
    let parts = all-step p x xs (p x) refl same in
    (parts.0, all-pass p xs parts.1)

-- Whom a loss among some nodes makes faulty.

same-node : (k j : ℕ) → Makes k ≡ Makes j → j ≡ k
same-node k j is = cc

one-lost : (sender k r : ℕ) (others : List ℕ) (b : Bool) → (length others == 1) ≡ b
    → (if b then Makes sender else Makes r) ≡ Makes k → ((k ≡ sender) × (length others ≡ 1)) ⊎ (r ≡ k)
one-lost sender k r others true single is = inl (same-node sender k is, eqb-true _ _ single)
one-lost sender k r others false more is = inr (sym (same-node r k is))

more-lost : (sender k n m : ℕ) (b : Bool) → (n == m) ≡ b → (if b then Makes sender else Breaks) ≡ Makes k
    → (k ≡ sender) × (n ≡ m)
more-lost sender k n m true same is = (same-node sender k is, eqb-true n m same)
more-lost sender k n m false other is = cc

pub makes-tells : (sender k : ℕ) (others lost : List ℕ) → loss_among sender others lost ≡ Makes k
    → ((k ≡ sender) × (length others ≡ length lost)) ⊎ (has_node lost k ≡ true)
makes-tells sender k others [] is = cc
makes-tells sender k others (r ∷ []) is =
    elim (one-lost sender k r others (length others == 1) refl is) [
      | inl all ↦ inl all
      | inr one ↦ inr (ap (λ b. b || false) (eq-eqb r k one))
    ]
makes-tells sender k others (r ∷ q ∷ lost) is =
    inl (more-lost sender k (length others) (length (r ∷ q ∷ lost)) (length others == length (r ∷ q ∷ lost)) refl is)

-- a node that loses a frame is made faulty by it, or its sender is
lost-one : (sender r q : ℕ) (b : Bool) → q ≡ r
    → ((if b then Makes sender else Makes q) ≡ Makes sender) ⊎ ((if b then Makes sender else Makes q) ≡ Makes r)
lost-one sender r q true same = inl refl
lost-one sender r q false same = inr (ap Makes same)

lost-more : (sender : ℕ) (b : Bool) → is_breaking (if b then Makes sender else Breaks) ≡ false
    → (if b then Makes sender else Breaks) ≡ Makes sender
lost-more sender true whole = refl
lost-more sender false whole = absurd (both_ways true whole refl)

pub lost-tells : (sender r : ℕ) (others lost : List ℕ) → has_node lost r ≡ true
    → is_breaking (loss_among sender others lost) ≡ false
    → (loss_among sender others lost ≡ Makes sender) ⊎ (loss_among sender others lost ≡ Makes r)
lost-tells sender r others [] has whole = absurd (both_ways _ refl has)
lost-tells sender r others (q ∷ []) has whole = lost-one sender r q (length others == 1) (one-member q r has)
lost-tells sender r others (q ∷ p ∷ lost) has whole =
    inl (lost-more sender (length others == length (q ∷ p ∷ lost)) whole)

-- The loss of a sender's slot, where some nodes have fallen by then.

asked-by : (silent : Bool) (k : ℕ) (loss : Loss) → (if silent then Harmless else loss) ≡ Makes k
    → (silent ≡ false) × (loss ≡ Makes k)
asked-by true k loss is = cc
asked-by false k loss is = (refl, is)

-- the node that it makes faulty is the sender, whose frame all others lose, or another that loses it
pub record IsMadeBy (list : Medl) (script : Script) (fallen : List ℕ) (slot sender k : ℕ) : Type 0 where
  pub on : is_ever_on script sender ≡ true
  pub sound : has_node fallen sender ≡ false
  pub how : ((k ≡ sender)
      × AllByRecursion (λ r. loses script sender slot r ≡ true) (others_in list script fallen sender slot))
      ⊎ ((k < length list.slots) × (is_other script fallen sender slot k ≡ true) × (loses script sender slot k ≡ true))

pub made-by : (list : Medl) (script : Script) (fallen : List ℕ) (slot sender k : ℕ)
    → sender_loss list script fallen slot sender ≡ Makes k → IsMadeBy list script fallen slot sender k
made-by list script fallen slot sender k is =
    let others = others_in list script fallen sender slot in
    let asked =
    asked-by (not (is_ever_on script sender) || has_node fallen sender) k (receivers_loss script sender slot others)
    is in
    let sound = or_parts _ _ asked.0 in
    record {
      on = not-false _ sound.0;
      sound = sound.1;
      how = elim (makes-tells sender k others (filter (loses script sender slot) others) asked.1) [
        | inl all ↦ inl (all.0, all-pass (loses script sender slot) others all.1)
        | inr one ↦
            let parts = and_parts _ _ (sym (has_node-filter (loses script sender slot) others k) ∙ one) in
            let other =
            each-member (λ r. (r < length list.slots) × (is_other script fallen sender slot r ≡ true)) others k
            (each-sieve (is_other script fallen sender slot) (length list.slots)) parts.1 in
            inr (other.0, other.1, parts.0)
      ];
    }

-- another node that loses the frame is made faulty, or the sender is
pub loser-tells : (list : Medl) (script : Script) (fallen : List ℕ) (slot sender r : ℕ)
    → is_ever_on script sender ≡ true → has_node fallen sender ≡ false → r < length list.slots
    → is_other script fallen sender slot r ≡ true → loses script sender slot r ≡ true
    → is_breaking (sender_loss list script fallen slot sender) ≡ false
    → (sender_loss list script fallen slot sender ≡ Makes sender)
    ⊎ (sender_loss list script fallen slot sender ≡ Makes r)
loser-tells list script fallen slot sender r on sound less other lost whole =
    let others = others_in list script fallen sender slot in
    let asked : (not (is_ever_on script sender) || has_node fallen sender) ≡ false = rw (on, sound) in
    let is : sender_loss list script fallen slot sender ≡ receivers_loss script sender slot others =
    ap (λ b. if b then Harmless else receivers_loss script sender slot others) asked in
    let among : has_node others r ≡ true =
    has_node-sieve (is_other script fallen sender slot) (length list.slots) r less ∙ other in
    let losing : has_node (filter (loses script sender slot) others) r ≡ true =
    has_node-filter (loses script sender slot) others r ∙ and_from _ _ lost among in
    elim (lost-tells sender r others (filter (loses script sender slot) others) losing
    (ap is_breaking (sym is) ∙ whole)) [
      | inl all ↦ inl (is ∙ all)
      | inr one ↦ inr (is ∙ one)
    ]
