-- The rings once a slot's messages are there, node by node.
use Rattle.trace_check.proofs.Words.{◌≡◌, ℕ, zero, suc, ◌+◌, ◌*◌, ◌<◌, ◌≤◌, Bool, List, [], ◌∷◌, ◌++◌, length, get_or}
use Rattle.trace_check.proofs.Words.{set, Some, None, if◌then◌else◌, inl, inr, refl, ap, sym, ◌∙◌, subst, arith}
use Rattle.trace_check.proofs.Words.{length-append, is_some, nat_lt, slice_get, get_or-append_seam, cases_eq}
use Rattle.trace_check.proofs.Words.{cases_order, le-ltb, lt-ltb, mul-add-lt, same_from_place, same_Some}
use Rattle.trace_check.proofs.Words.{slice_get-get_or, Medl, Chosen, Delivered, Entry, StatusWords, Script, History}
use Rattle.trace_check.proofs.Words.{delivered_of, in_messages, newest_number, ring_messages, status_messages}
use Rattle.trace_check.proofs.Words.{status_words, nothing_chosen, node_past, Incoming, HasPlaces, IsNewestMessage}
use Rattle.trace_check.proofs.Words.{TellsRings, newest_message}
use Rattle.ttp_world.specs.declared.script.Source.TheVariants as source
use Rattle.trace_check.proofs.Ended.{delivered-none, delivered-number, delivered-other, delivered-own}
use Rattle.ttp_world.proofs.ListFacts.{slice_get-set_same as set_same}

set_other : {X : Type 0} (xs : List X) (i j : ℕ) (x : X) → (j ≡ i → ⊥) → slice_get (set xs i x) j ≡ slice_get xs j
set_other [] i j x other = refl
set_other (y ∷ xs) zero zero x other = absurd (other refl)
set_other (y ∷ xs) zero (suc j) x other = refl
set_other (y ∷ xs) (suc i) zero x other = refl
set_other (y ∷ xs) (suc i) (suc j) x other = set_other xs i j x (λ same. other (ap suc same))

newest-added : (xs : List (List ℕ)) (message : List ℕ) → newest_message (xs ++ message ∷ []) ≡ message
newest-added xs message =
    let last : newest_number (xs ++ message ∷ []) ≡ length xs = omega (arith, length-append xs (message ∷ [])) in
    ap (λ (n : ℕ). get_or (xs ++ message ∷ []) n []) last ∙ get_or-append_seam xs message [] []

module _ (list : Medl) (script : Script) (row : List Entry) (history : History) where
  pub record TellsPayloads (incoming : Incoming) (nodes : ℕ) : Type 0 where
    pub payloads : (k p : ℕ) → k < length list.slots → p < length list.slots → (message : Chosen)
        → slice_get incoming.payloads.items (k * incoming.nodes + p) ≡ Some message
        → IsNewestMessage message list script (if nat_lt k nodes then row ∷ history else history) k p

  pub record TellsStatuses (incoming : Incoming) (nodes : ℕ) : Type 0 where
    pub statuses : (k : ℕ) → k < length list.slots
        → slice_get incoming.statuses.items k
        ≡ Some (record {
          words = newest_message
              (ring_messages list script (if nat_lt k nodes then row ∷ history else history) k source.Status);
        })

  before_it : (nodes k : ℕ) → nodes ≤ k → (if nat_lt k nodes then row ∷ history else history) ≡ history
  before_it nodes k less = ap (λ (b : Bool). if b then row ∷ history else history) (le-ltb k nodes less)

  behind_it : (nodes k : ℕ) → k < nodes → (if nat_lt k nodes then row ∷ history else history) ≡ row ∷ history
  behind_it nodes k less = ap (λ (b : Bool). if b then row ∷ history else history) (lt-ltb k nodes less)

  beside_it : (nodes k : ℕ) → (k ≡ nodes → ⊥)
      → (if nat_lt k nodes then row ∷ history else history)
      ≡ (if nat_lt k (nodes + 1) then row ∷ history else history)
  beside_it nodes k other =
      elim (cases_order k nodes) as (λ _. (if nat_lt k nodes then row ∷ history else history)
      ≡ (if nat_lt k (nodes + 1) then row ∷ history else history)) [
        | inl own ↦ absurd (other own)
        | inr apart ↦
            elim apart as (λ _. (if nat_lt k nodes then row ∷ history else history)
            ≡ (if nat_lt k (nodes + 1) then row ∷ history else history)) [
              | inl less ↦ behind_it nodes k less ∙ sym (behind_it (nodes + 1) k (omega (arith, less)))
              | inr more ↦
                  before_it nodes k (omega (arith, more)) ∙ sym (before_it (nodes + 1) k (omega (arith, more)))
            ]
      ]

  pub none-settled : (incoming : Incoming) → TellsRings incoming list script history
      → TellsPayloads incoming 0 × TellsStatuses incoming 0
  none-settled incoming tells = (
    record {
      payloads = λ k p node sender message at.
          subst (λ (h : History). IsNewestMessage message list script h k p) (sym (before_it 0 k (omega arith)))
          (tells.payloads k p node sender message at);
    },
    record {
      statuses = λ k node.
          tells.statuses k node
          ∙ ap (λ (h : History). Some (record { words = newest_message (ring_messages list script h k source.Status) }))
          (sym (before_it 0 k (omega arith)));
    },
  )

  pub all-settled : (incoming : Incoming) → HasPlaces incoming list → TellsPayloads incoming (length list.slots)
      → TellsStatuses incoming (length list.slots) → TellsRings incoming list script (row ∷ history)
  all-settled incoming places payloads statuses = record {
    places = places;
    payloads = λ k p node sender message at.
        subst (λ (h : History). IsNewestMessage message list script h k p) (behind_it (length list.slots) k node)
        (payloads.payloads k p node sender message at);
    statuses = λ k node.
        statuses.statuses k node
        ∙ ap (λ (h : History). Some (record { words = newest_message (ring_messages list script h k source.Status) }))
        (behind_it (length list.slots) k node);
  }

  same_newest : (one other : History) (k p : ℕ) (message : Chosen)
      → in_messages list script one k p ≡ in_messages list script other k p
      → IsNewestMessage message list script other k p
      → IsNewestMessage message list script one k p
  same_newest one other k p message same is = record {
    number = is.number ∙ ap newest_number (sym same);
    payload = is.payload ∙ ap newest_message (sym same);
  }

  -- the number of a message that is not yet settled
  pub unsettled-number : (incoming : Incoming) (node p : ℕ) (message : Chosen) → TellsPayloads incoming node
      → node < length list.slots → p < length list.slots
      → slice_get incoming.payloads.items (node * incoming.nodes + p) ≡ Some message
      → IsNewestMessage message list script history node p
  unsettled-number incoming node p message tells within sender at =
      subst (λ (h : History). IsNewestMessage message list script h node p) (before_it node node (omega arith))
      (tells.payloads node p within sender message at)

  module _ (incoming : Incoming) (node : ℕ) (places : HasPlaces incoming list) (tells : TellsPayloads incoming node)
      (within : node < length list.slots) where
    -- a node that delivers nothing
    pub settled-none : delivered_of list script history row node ≡ None → TellsPayloads incoming (node + 1)
    settled-none none = record {
      payloads = λ k p there sender message at.
          elim (cases_eq k node) as (λ _. IsNewestMessage message list script
          (if nat_lt k (node + 1) then row ∷ history else history) k p) [
            | inl own ↦
                subst (λ (h : History). IsNewestMessage message list script h k p)
                (sym (behind_it (node + 1) k (omega (arith, own))))
                (same_newest (row ∷ history) history k p message
                (delivered-none list script row history k p
                (ap (delivered_of list script history row) own ∙ none))
                (subst (λ (h : History). IsNewestMessage message list script h k p)
                (before_it node k (omega (arith, own)))
                (tells.payloads k p there sender message at)))
            | inr other ↦
                subst (λ (h : History). IsNewestMessage message list script h k p) (beside_it node k other)
                (tells.payloads k p there sender message at)
          ];
    }

    -- one that delivers a payload
    pub settled-some : (new : Incoming) (d : Delivered) → delivered_of list script history row node ≡ Some d
        → d.sender < length list.slots → new.nodes ≡ incoming.nodes
        → ((message : Chosen) → slice_get incoming.payloads.items (node * incoming.nodes + d.sender) ≡ Some message
        → new.payloads.items
        ≡ set incoming.payloads.items (node * incoming.nodes + d.sender)
        (record { number = message.number + 1; payload = d.payload }))
        → TellsPayloads new (node + 1)
    settled-some new d is from nodes exchanged =
        let n = length list.slots in
        let items = incoming.payloads.items in
        let place = node * incoming.nodes + d.sender in
        let in_place : place < length items =
        subst (λ (w : ℕ). node * w + d.sender < length items) (sym places.nodes)
        (omega (arith, places.payloads, mul-add-lt node n d.sender n within from)) in
        let old = get_or items place nothing_chosen in
        let old_at = slice_get-get_or items place nothing_chosen in_place in
        let added : Chosen = record { number = old.number + 1; payload = d.payload } in
        let newly = exchanged old old_at in
        let at_new = λ (k p : ℕ) (message : Chosen)
        (at : slice_get new.payloads.items (k * new.nodes + p) ≡ Some message).
        ap (λ (xs : List Chosen). slice_get xs (k * incoming.nodes + p)) (sym newly)
        ∙ ap (λ (w : ℕ). slice_get new.payloads.items (k * w + p)) (sym nodes) ∙ at in
        record {
          payloads = λ k p there sender message at.
              let found : slice_get (set items place added) (k * incoming.nodes + p) ≡ Some message =
              at_new k p message at in
              elim (cases_eq (k * incoming.nodes + p) place) as (λ _. IsNewestMessage message list script
              (if nat_lt k (node + 1) then row ∷ history else history) k p) [
                | inl here ↦
                    let both = same_from_place k p node d.sender incoming.nodes (omega (arith, sender, places.nodes))
                    (omega (arith, from, places.nodes)) here in
                    let same : added ≡ message =
                    same_Some added message
                    (sym (set_same items place added in_place)
                    ∙ ap (slice_get (set items place added)) (sym here) ∙ found) in
                    let was = unsettled-number incoming node d.sender old tells within from old_at in
                    let own = delivered-own list script row history node d d.sender is refl in
                    subst (λ (m : Chosen). IsNewestMessage m list script
                    (if nat_lt k (node + 1) then row ∷ history else history) k p) same
                    (subst (λ (h : History). IsNewestMessage added list script h k p)
                    (sym (behind_it (node + 1) k (omega (arith, both.0))))
                    (subst (λ (j : ℕ). IsNewestMessage added list script (row ∷ history) j p) (sym both.0)
                    (subst (λ (q : ℕ). IsNewestMessage added list script (row ∷ history) node q) (sym both.1)
                    (record {
                      number =
                          ap (λ (i : ℕ). i + 1) was.number
                          ∙ sym (delivered-number list script row history node d d.sender is refl);
                      payload =
                          sym (ap newest_message own
                          ∙ newest-added (in_messages list script history node d.sender) d.payload);
                    }))))
                | inr apart ↦
                    let kept : slice_get items (k * incoming.nodes + p) ≡ Some message =
                    sym (set_other items place (k * incoming.nodes + p) added apart) ∙ found in
                    elim (cases_eq k node) as (λ _. IsNewestMessage message list script
                    (if nat_lt k (node + 1) then row ∷ history else history) k p) [
                      | inl own ↦
                          subst (λ (h : History). IsNewestMessage message list script h k p)
                          (sym (behind_it (node + 1) k (omega (arith, own))))
                          (same_newest (row ∷ history) history k p message
                          (delivered-other list script row history k d p
                          (ap (delivered_of list script history row) own ∙ is)
                          (λ same. apart (λ i. own i * incoming.nodes + sym same i)))
                          (subst (λ (h : History). IsNewestMessage message list script h k p)
                          (before_it node k (omega (arith, own)))
                          (tells.payloads k p there sender message kept)))
                      | inr other ↦
                          subst (λ (h : History). IsNewestMessage message list script h k p) (beside_it node k other)
                          (tells.payloads k p there sender message kept)
                    ]
              ];
        }

  -- and what it publishes
  pub settled-status : (incoming new : Incoming) (node : ℕ) (status : StatusWords) → HasPlaces incoming list
      → TellsStatuses incoming node → node < length list.slots
      → status.words
      ≡ status_words list (length history) (node_past list script (row ∷ history) node)
      (is_some (delivered_of list script history row node))
      → new.statuses.items ≡ set incoming.statuses.items node status → TellsStatuses new (node + 1)
  settled-status incoming new node status places tells within is exchanged = record {
    statuses = λ k there.
        ap (λ ss. slice_get ss k) exchanged
        ∙ elim (cases_eq k node) as (λ _. slice_get (set incoming.statuses.items node status) k
        ≡ Some (record {
          words = newest_message
              (ring_messages list script (if nat_lt k (node + 1) then row ∷ history else history) k source.Status);
        })) [
          | inl own ↦
              ap (slice_get (set incoming.statuses.items node status)) own
              ∙ set_same incoming.statuses.items node status (omega (arith, within, places.statuses))
              ∙ (λ i. Some (record {
                words =
                    (is ∙ sym (newest-added (status_messages list script history node) _)
                    ∙ ap (λ (j : ℕ). newest_message (status_messages list script (row ∷ history) j)) (sym own)
                    ∙ ap (λ (h : History). newest_message (ring_messages list script h k source.Status))
                    (sym (behind_it (node + 1) k (omega (arith, own))))) i;
              }))
          | inr other ↦
              set_other incoming.statuses.items node k status other
              ∙ tells.statuses k there
              ∙ ap (λ (h : History). Some
              (record { words = newest_message (ring_messages list script h k source.Status) }))
              (beside_it node k other)
        ];
  }
