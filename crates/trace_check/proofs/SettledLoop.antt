-- What the loop over nodes keeps by which a slot's messages come to the hosts.
use Rattle.trace_check.proofs.Words.{◌≡◌, ℕ, ◌+◌, ◌*◌, ◌<◌, ◌^◌, List, length, get_or, set, Some, None, refl, ap, sym}
use Rattle.trace_check.proofs.Words.{◌∙◌, arith, slice_get, length-set, slice_get-get_or, Medl, Chosen, Delivered}
use Rattle.trace_check.proofs.Words.{StatusWords, Script, History, nothing_chosen, outcome_at, PlantView, Incoming}
use Rattle.trace_check.proofs.Words.{HasEnded, IsPast, row_after, HasPlaces, in_messages-few}
use Rattle.trace_check.proofs.Ended.{ended-delivered, ended-status}
use Rattle.trace_check.proofs.Settled.{TellsPayloads, TellsStatuses, settled-none, settled-some, settled-status}
use Rattle.trace_check.proofs.Settled.{unsettled-number}
use Rattle.trace_check.proofs.Shown.{place_within}

-- whichever history the plant stands for
pub record HasSettled (plant : PlantView) (first incoming : Incoming) (list : Medl) (nodes : ℕ) : Type 0 where
  pub places : HasPlaces incoming list
  pub floors : incoming.floors ≡ first.floors
  pub payloads : (script : Script) (history : History) (chosen : List Chosen)
      → HasEnded plant first list script history chosen
      → TellsPayloads list script (row_after list script history chosen) history incoming nodes
  pub statuses : (script : Script) (history : History) (chosen : List Chosen)
      → HasEnded plant first list script history chosen
      → TellsStatuses list script (row_after list script history chosen) history incoming nodes

-- The payload that a node delivers comes to its ring, and nothing else changes.
pub record HasDelivered (plant : PlantView) (first old new : Incoming) (list : Medl) (node : ℕ) : Type 0 where
  pub nodes : new.nodes ≡ old.nodes
  pub count : length new.payloads.items ≡ length old.payloads.items
  pub statuses : new.statuses ≡ old.statuses
  pub floors : new.floors ≡ old.floors
  pub payloads : (script : Script) (history : History) (chosen : List Chosen)
      → HasEnded plant first list script history chosen
      → TellsPayloads list script (row_after list script history chosen) history new (node + 1)

module _ (plant : PlantView) (first old : Incoming) (list : Medl) (node : ℕ)
    (has : HasSettled plant first old list node) (within : node < length list.slots) where
  pub delivers-none : None ≡ (outcome_at plant node).delivered → HasDelivered plant first old old list node
  delivers-none none = record {
    nodes = refl;
    count = refl;
    statuses = refl;
    floors = refl;
    payloads = λ script history chosen ended.
        settled-none list script (row_after list script history chosen) history old node has.places
        (has.payloads script history chosen ended) within
        (sym (none ∙ ended-delivered plant first list script history chosen ended node within));
  }

  pub delivers-some : (new : Incoming) (d : Delivered) → Some d ≡ (outcome_at plant node).delivered
      → d.sender < length list.slots → new.nodes ≡ old.nodes → new.statuses ≡ old.statuses → new.floors ≡ old.floors
      → ((message : Chosen) → slice_get old.payloads.items (node * old.nodes + d.sender) ≡ Some message
      → new.payloads.items
      ≡ set old.payloads.items (node * old.nodes + d.sender)
      (record { number = message.number + 1; payload = d.payload }))
      → HasDelivered plant first old new list node
  delivers-some new d some from nodes statuses floors exchanged =
      let items = old.payloads.items in
      let place = node * old.nodes + d.sender in
      let there = place_within old list node d.sender has.places within from in
      let message = get_or items place nothing_chosen in
      record {
        nodes = nodes;
        count =
            ap length (exchanged message (slice_get-get_or items place nothing_chosen there))
            ∙ length-set items place (record { number = message.number + 1; payload = d.payload });
        statuses = statuses;
        floors = floors;
        payloads = λ script history chosen ended.
            settled-some list script (row_after list script history chosen) history old node has.places
            (has.payloads script history chosen ended) within new d
            (sym (some ∙ ended-delivered plant first list script history chosen ended node within)) from nodes
            exchanged;
      }

  -- and then the node publishes its status
  pub settled-next : (mid new : Incoming) (status : StatusWords) → HasDelivered plant first old mid list node
      → status ≡ (outcome_at plant node).status → new.nodes ≡ mid.nodes → new.payloads ≡ mid.payloads
      → new.floors ≡ mid.floors → new.statuses.items ≡ set mid.statuses.items node status
      → HasSettled plant first new list (node + 1)
  settled-next mid new status delivered is nodes payloads floors exchanged =
      let all : new.statuses.items ≡ set old.statuses.items node status =
      exchanged ∙ ap (λ v. set v.items node status) delivered.statuses in
      record {
        places = record {
          nodes = nodes ∙ delivered.nodes ∙ has.places.nodes;
          few = has.places.few;
          payloads = ap (λ v. length v.items) payloads ∙ delivered.count ∙ has.places.payloads;
          statuses = ap length all ∙ length-set old.statuses.items node status ∙ has.places.statuses;
          floors = ap (λ v. length v.items) (floors ∙ delivered.floors) ∙ has.places.floors;
        };
        floors = floors ∙ delivered.floors ∙ has.floors;
        payloads = λ script history chosen ended. record {
          payloads = λ k p there sender message at.
              (delivered.payloads script history chosen ended).payloads k p there sender message
              ((λ i. slice_get (sym payloads i).items (k * sym nodes i + p)) ∙ at);
        };
        statuses = λ script history chosen ended.
            settled-status list script (row_after list script history chosen) history old new node status has.places
            (has.statuses script history chosen ended) within
            (ap (λ (s : StatusWords). s.words) is
            ∙ ended-status plant first list script history chosen ended node within) all;
      }

  -- there are not many messages
  pub number-small : (slot p : ℕ) (message : Chosen) → IsPast plant first list slot → p < length list.slots
      → slice_get old.payloads.items (node * old.nodes + p) ≡ Some message → message.number + 1 < 2 ^ 64
  number-small slot p message past sender at =
      let row = row_after list past.script past.history past.chosen in
      let is = unsettled-number list past.script row past.history old node p message
      (has.payloads past.script past.history past.chosen past.ended) within sender at in
      omega (
        arith,
        is.number,
        in_messages-few list past.script past.history node p,
        past.few,
        past.small,
      )
