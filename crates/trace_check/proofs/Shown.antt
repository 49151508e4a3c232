-- The message that a node's line names, by what the node did and what it delivered.
use Rattle.trace_check.proofs.Words.{◌≡◌, ℕ, ◌+◌, ◌*◌, ◌<◌, ◌^◌, List, ◌∷◌, length, Option, Some, None, IfSome, refl}
use Rattle.trace_check.proofs.Words.{ap, sym, ◌∙◌, subst, arith, map, option_map, slice_get, mul-add-lt, below, Lines}
use Rattle.trace_check.proofs.Words.{Medl, Chosen, Delivered, NodeState, Script, History, delivered_of, message_shown}
use Rattle.trace_check.proofs.Words.{node_line_of, number_delivered, ShowsNode, outcome_at, PlantView, after_label}
use Rattle.trace_check.proofs.Words.{Incoming, BeginsWith, Departs, HasEnded, IsPast, node_lines, row_after, HasPlaces}
use Rattle.trace_check.proofs.Words.{in_messages-few}
use Rattle.line_text.specs.LineParts.{listed_line}
use Rattle.trace_check.proofs.Begun.{begins-behind, departs-behind, next-below, split-below}
use Rattle.trace_check.proofs.Ended.{delivered-number, ended-delivered, ended-slot, ended-state}

pub place_within : (incoming : Incoming) (list : Medl) (k p : ℕ) → HasPlaces incoming list → k < length list.slots
    → p < length list.slots → k * incoming.nodes + p < length incoming.payloads.items
place_within incoming list k p places node sender =
    subst (λ (n : ℕ). k * n + p < length incoming.payloads.items) (sym places.nodes)
    (omega (arith, places.payloads, mul-add-lt k (length list.slots) p (length list.slots) node sender))

module _ (plant : PlantView) (incoming : Incoming) (list : Medl) (slot : ℕ) (k : ℕ) (d : Delivered)
    (node : k < length list.slots) (some : Some d ≡ (outcome_at plant k).delivered) where
  pub sender-of : (past : IsPast plant incoming list slot) → d.sender < length list.slots
  sender-of past =
      subst (λ (o : Option Delivered). IfSome o (λ e. e.sender < length list.slots)) (sym some)
      (past.ended.senders k node)

  pub sender-place : (past : IsPast plant incoming list slot)
      → k * incoming.nodes + d.sender < length incoming.payloads.items
  sender-place past =
      place_within incoming list k d.sender past.ended.rings.places node (sender-of past)

  pub number-few : (past : IsPast plant incoming list slot) (p : ℕ) (message : Chosen) → p < length list.slots
      → slice_get incoming.payloads.items (k * incoming.nodes + p) ≡ Some message
      → message.number + 1 < 2 ^ 64
  number-few past p message sender at =
      omega (
        arith,
        (past.ended.rings.payloads k p node sender message at).number,
        in_messages-few list past.script past.history k p,
        past.few,
        past.small,
      )

  pub shown : (script : Script) (history : History) (chosen : List Chosen) (message : Chosen)
      → HasEnded plant incoming list script history chosen → d.sender < length list.slots
      → slice_get incoming.payloads.items (k * incoming.nodes + d.sender) ≡ Some message
      → Some (message.number + 1)
      ≡ option_map (number_delivered list script (row_after list script history chosen ∷ history) k)
      (delivered_of list script history (row_after list script history chosen) k)
  shown script history chosen message ended sender at =
      let row = row_after list script history chosen in
      let there : delivered_of list script history row k ≡ Some d =
      sym (some ∙ ended-delivered plant incoming list script history chosen ended k node) in
      let number = (ended.rings.payloads k d.sender node sender message at).number in
      ap Some
      (ap (λ (n : ℕ). n + 1) number ∙ sym (delivered-number list script row history k d d.sender there refl))
      ∙ ap (option_map (number_delivered list script (row ∷ history) k)) (sym there)

pub shown-none : (plant : PlantView) (incoming : Incoming) (list : Medl) (k : ℕ) (script : Script) (history : History)
    (chosen : List Chosen)
    → k < length list.slots → None ≡ (outcome_at plant k).delivered
    → HasEnded plant incoming list script history chosen
    → None
    ≡ option_map (number_delivered list script (row_after list script history chosen ∷ history) k)
    (delivered_of list script history (row_after list script history chosen) k)
shown-none plant incoming list k script history chosen node none ended =
    ap (option_map (number_delivered list script (row_after list script history chosen ∷ history) k))
    (none ∙ ended-delivered plant incoming list script history chosen ended k node)

-- The lines of the first nodes.

pub record HasNodesSoFar (plant : PlantView) (incoming : Incoming) (list : Medl) (slot lines : ℕ)
    (text rest : List ℕ) (node : ℕ) : Type 0 where
  pub same : lines ≡ slot
  pub begins : (script : Script) (history : History) (chosen : List Chosen)
      → HasEnded plant incoming list script history chosen
      → BeginsWith text (map (node_line_of list script (row_after list script history chosen) history)
      (below node)) rest

module _ (plant : PlantView) (incoming : Incoming) (list : Medl) (slot lines : ℕ) (text rest : List ℕ) (k : ℕ)
    (so_far : HasNodesSoFar plant incoming list slot lines text rest k) (past : IsPast plant incoming list slot)
    (state : NodeState) (shows : ShowsNode plant k state) (message : Option ℕ)
    (told : (script : Script) (history : History) (chosen : List Chosen)
    → HasEnded plant incoming list script history chosen
    → message ≡ message_shown list script (row_after list script history chosen) history k state.entry) where
  -- the line that is looked for is the node's
  line-is : (script : Script) (history : History) (chosen : List Chosen)
      → HasEnded plant incoming list script history chosen
      → listed_line list lines k state message
      ≡ node_line_of list script (row_after list script history chosen) history k
  line-is script history chosen ended =
      let row = row_after list script history chosen in
      let count : lines ≡ length history =
      so_far.same ∙ ended-slot plant incoming incoming list slot script history chosen past ended in
      ap (λ (n : ℕ). listed_line list n k state message) count
      ∙ ap (listed_line list (length history) k state) (told script history chosen ended)
      ∙ ap (λ (s : NodeState). listed_line list (length history) k s (message_shown list script row history k s.entry))
      (ended-state plant incoming list script history chosen ended k state shows)

  pub nodes-next : (more : List ℕ) (new : ℕ) → new ≡ lines
      → after_label (listed_line list lines k state message) rest ≡ Some more
      → HasNodesSoFar plant incoming list slot new text more (k + 1)
  nodes-next more new kept behind = record {
    same = kept ∙ so_far.same;
    begins = λ script history chosen ended.
        let f = node_line_of list script (row_after list script history chosen) history in
        subst (λ (ls : Lines). BeginsWith text ls more) (sym (next-below f k))
        (begins-behind text rest (f k) more (map f (below k)) (so_far.begins script history chosen ended)
        (ap (λ (line : List ℕ). after_label line rest) (sym (line-is script history chosen ended)) ∙ behind));
  }

  pub nodes-departs : (script : Script) (history : History) (chosen : List Chosen) → k < length list.slots
      → HasEnded plant incoming list script history chosen
      → after_label (listed_line list lines k state message) rest ≡ None
      → Departs text (node_lines list script history chosen) rest
  nodes-departs script history chosen node ended none =
      let f = node_line_of list script (row_after list script history chosen) history in
      let split = split-below f k (length list.slots) node in
      departs-behind text rest (f k) (node_lines list script history chosen) (map f (below k)) split.0 split.1
      (so_far.begins script history chosen ended)
      (ap (λ (line : List ℕ). after_label line rest) (sym (line-is script history chosen ended)) ∙ none)
