-- What is known of a plant that is past a slot, and of the rings as they were before it.
use Rattle.trace_check.proofs.Words.{◌≡◌, ℕ, ◌+◌, ◌<◌, Bool, cond, List, [], ◌∷◌, ◌++◌, length, Option, Some, None, ap}
use Rattle.trace_check.proofs.Words.{sym, ◌∙◌, subst, arith, length-append, is_some, eq-eqb, ne_eqb, Medl, Chosen}
use Rattle.trace_check.proofs.Words.{Delivered, Entry, NodeState, Script, History, IsValid, delivered_of, in_messages}
use Rattle.trace_check.proofs.Words.{new_messages, newest_number, status_words, state_of, node_past, row_in, slot_after}
use Rattle.trace_check.proofs.Words.{delivered_of-row_in, in_messages-some, IsOutcomeOf, ShowsNode, outcome_at}
use Rattle.trace_check.proofs.Words.{PlantView, Incoming, HasEnded, IsPast, row_after}
use Rattle.std.proofs.lemmas.List.{append-nil}
use Rattle.line_text.specs.LineParts.{HasDigits}
use Rattle.trace_check.proofs.FromBelow.{state_of-digits}

-- all histories that a plant stands for have as many slots
pub ended-slot : (plant : PlantView) (incoming other : Incoming) (list : Medl) (slot : ℕ) (script : Script)
    (history : History) (chosen : List Chosen)
    → IsPast plant incoming list slot → HasEnded plant other list script history chosen → slot ≡ length history
ended-slot plant incoming other list slot script history chosen past ended =
    omega (arith, past.few, past.ended.step.stands.slot, ended.step.stands.slot)

module _ (plant : PlantView) (incoming : Incoming) (list : Medl) (script : Script) (history : History)
    (chosen : List Chosen) (ended : HasEnded plant incoming list script history chosen) where
  pub ended-state : (k : ℕ) (state : NodeState) → ShowsNode plant k state
      → state ≡ state_of (node_past list script (row_after list script history chosen ∷ history) k)
  ended-state k state shows =
      shows script (row_in (slot_after plant.list script history) chosen ∷ history) ended.step.stands
      ∙ ap (λ (l : Medl). state_of (node_past l script (row_in (slot_after l script history) chosen ∷ history) k))
      ended.same

  pub ended-digits : (k : ℕ) (state : NodeState) → IsValid list → ShowsNode plant k state → HasDigits list state
  ended-digits k state valid shows =
      subst (HasDigits list) (sym (ended-state k state shows))
      (state_of-digits list script (row_after list script history chosen ∷ history) k valid)

  ended-left : (k : ℕ) → k < length list.slots → IsOutcomeOf list script history chosen k (outcome_at plant k)
  ended-left k node =
      subst (λ (l : Medl). IsOutcomeOf l script history chosen k (outcome_at plant k)) ended.same
      (ended.step.left k (subst (λ (l : Medl). k < length l.slots) (sym ended.same) node))

  pub ended-delivered : (k : ℕ) → k < length list.slots
      → (outcome_at plant k).delivered
      ≡ delivered_of list script history (row_after list script history chosen) k
  ended-delivered k node =
      (ended-left k node).delivered
      ∙ sym (delivered_of-row_in list script history chosen k (record { message = ended.of_hosts }))

  pub ended-status : (k : ℕ) → k < length list.slots
      → (outcome_at plant k).status.words
      ≡ status_words list (length history)
      (node_past list script (row_after list script history chosen ∷ history) k)
      (is_some (delivered_of list script history (row_after list script history chosen) k))
  ended-status k node =
      (ended-left k node).status
      ∙ ap (λ (d : Option Delivered). status_words list (length history)
      (node_past list script (row_after list script history chosen ∷ history) k) (is_some d))
      (sym (ended-left k node).delivered ∙ ended-delivered k node)

-- The messages that a slot adds to a ring.

pub delivered-own : (list : Medl) (script : Script) (row : List Entry) (history : History) (k : ℕ) (d : Delivered)
    (p : ℕ)
    → delivered_of list script history row k ≡ Some d → d.sender ≡ p
    → in_messages list script (row ∷ history) k p ≡ in_messages list script history k p ++ d.payload ∷ []
delivered-own list script row history k d p is own =
    ap (λ (o : Option Delivered). in_messages list script history k p ++ new_messages p o) is
    ∙ ap (λ (b : Bool). in_messages list script history k p ++ cond b (d.payload ∷ []) []) (eq-eqb d.sender p own)

pub delivered-other : (list : Medl) (script : Script) (row : List Entry) (history : History) (k : ℕ) (d : Delivered)
    (p : ℕ)
    → delivered_of list script history row k ≡ Some d → (d.sender ≡ p → ⊥)
    → in_messages list script (row ∷ history) k p ≡ in_messages list script history k p
delivered-other list script row history k d p is other =
    ap (λ (o : Option Delivered). in_messages list script history k p ++ new_messages p o) is
    ∙ ap (λ (b : Bool). in_messages list script history k p ++ cond b (d.payload ∷ []) []) (ne_eqb d.sender p other)
    ∙ append-nil (in_messages list script history k p)

pub delivered-none : (list : Medl) (script : Script) (row : List Entry) (history : History) (k p : ℕ)
    → delivered_of list script history row k ≡ None
    → in_messages list script (row ∷ history) k p ≡ in_messages list script history k p
delivered-none list script row history k p is =
    ap (λ (o : Option Delivered). in_messages list script history k p ++ new_messages p o) is
    ∙ append-nil (in_messages list script history k p)

-- so the newest has the next number
pub delivered-number : (list : Medl) (script : Script) (row : List Entry) (history : History) (k : ℕ) (d : Delivered)
    (p : ℕ)
    → delivered_of list script history row k ≡ Some d → d.sender ≡ p
    → newest_number (in_messages list script (row ∷ history) k p)
    ≡ newest_number (in_messages list script history k p) + 1
delivered-number list script row history k d p is own =
    omega (
      arith,
      ap length (delivered-own list script row history k d p is own),
      length-append (in_messages list script history k p) (d.payload ∷ []),
      in_messages-some list script history k p,
    )
