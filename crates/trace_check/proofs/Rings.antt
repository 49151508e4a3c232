-- What hosts can read of the rings, by what is known of them before a slot and by what the slot brings.
use Rattle.trace_check.proofs.Words.{◌≡◌, ℕ, ◌+◌, ◌*◌, ◌<◌, ◌≤◌, Bool, List, [], ◌∷◌, ◌++◌, length, get_or, Some, None}
use Rattle.trace_check.proofs.Words.{if◌then◌else◌, ap, sym, ◌∙◌, subst, arith, length-append, slice_get, get_or-append}
use Rattle.trace_check.proofs.Words.{get_or-append_seam, le-ltb, lt-ltb, same_Some, HostRead, Medl, Chosen, Delivered}
use Rattle.trace_check.proofs.Words.{Entry, StatusWords, Script, Source, History, delivered_of, in_messages}
use Rattle.trace_check.proofs.Words.{new_messages, newest_number, ring_messages, status_messages, in_messages-some}
use Rattle.trace_check.proofs.Words.{outcome_at, PlantView, Incoming, HasEnded, behind_new_read, behind_read}
use Rattle.trace_check.proofs.Words.{line_of_read, row_after, IsNewestMessage, IsHostAndSource, TellsRings}
use Rattle.trace_check.proofs.Words.{newest_before, newest_message, in_messages-few}
use Rattle.ttp_world.specs.declared.script.Source.TheVariants as source
use Rattle.line_text.specs.HostLines.{message_line}
use Rattle.trace_check.proofs.Ended.{delivered-number, delivered-own, ended-status}
use Rattle.ttp_world.proofs.LegalNumbers.{new_messages-few, status_messages-count}

pub newest-status : (list : Medl) (script : Script) (history : History) (read : HostRead) (slot : ℕ)
    → read.source ≡ source.Status → slot ≡ length history → slot ≡ newest_before list script history read
newest-status list script history read slot is count =
    count ∙ omega (arith, status_messages-count list script history read.host)
    ∙ ap (λ (from : Source). newest_number (ring_messages list script history read.host from)) (sym is)

pub newest-told : (incoming : Incoming) (list : Medl) (script : Script) (history : History) (read : HostRead) (p : ℕ)
    (message : Chosen)
    → read.source ≡ source.Node p → IsHostAndSource list read.host read.source → TellsRings incoming list script history
    → slice_get incoming.payloads.items (read.host * incoming.nodes + p) ≡ Some message
    → IsNewestMessage message list script history read.host p
newest-told incoming list script history read p message is ring tells at =
    let both = subst (IsHostAndSource list read.host) is ring in tells.payloads read.host p both.0 both.1 message at

pub newest-payload : (incoming : Incoming) (list : Medl) (script : Script) (history : History) (read : HostRead)
    (p : ℕ) (message : Chosen)
    → read.source ≡ source.Node p → IsHostAndSource list read.host read.source → TellsRings incoming list script history
    → slice_get incoming.payloads.items (read.host * incoming.nodes + p) ≡ Some message
    → message.number ≡ newest_before list script history read
newest-payload incoming list script history read p message is ring tells at =
    (newest-told incoming list script history read p message is ring tells at).number
    ∙ ap (λ (from : Source). newest_number (ring_messages list script history read.host from)) (sym is)

-- What the lines of reads show.

older_at : (xs ys : List (List ℕ)) → 1 ≤ length xs → get_or (xs ++ ys) (newest_number xs) [] ≡ newest_message xs
older_at xs ys some = get_or-append xs ys [] (newest_number xs) (omega (arith, some))

newer_at : (xs : List (List ℕ)) (message : List ℕ) → 1 ≤ length xs
    → get_or (xs ++ message ∷ []) (newest_number xs + 1) [] ≡ message
newer_at xs message some =
    let last : newest_number xs + 1 ≡ length xs = omega (arith, some) in
    ap (λ (n : ℕ). get_or (xs ++ message ∷ []) n []) last ∙ get_or-append_seam xs message [] []

pub older-message : (list : Medl) (script : Script) (row : List Entry) (history : History) (k : ℕ) (from : Source)
    → get_or (ring_messages list script (row ∷ history) k from)
    (newest_number (ring_messages list script history k from)) []
    ≡ newest_message (ring_messages list script history k from)
older-message list script row history k source.Status =
    older_at (status_messages list script history k) _ (omega (arith, status_messages-count list script history k))
older-message list script row history k (source.Node p) =
    older_at (in_messages list script history k p) _ (in_messages-some list script history k p)

module _ (list : Medl) (script : Script) (history : History) (chosen : List Chosen) (read : HostRead) where
  pub line_read : (slot : ℕ) (from : Source) (number at : ℕ) (message : List ℕ) → slot ≡ length history
      → read.source ≡ from → number ≡ at
      → message
      ≡ get_or (ring_messages list script (row_after list script history chosen ∷ history) read.host from) at []
      → message_line slot read.host from number message
      ≡ line_of_read list script history chosen (record { read = read; number = at })
  line_read slot from number at message count source_is number_is message_is =
      let after = row_after list script history chosen ∷ history in
      ap (λ (n : ℕ). message_line n read.host from number message) count
      ∙ ap (λ (i : ℕ). message_line (length history) read.host from i message) number_is
      ∙ ap (message_line (length history) read.host from at) message_is
      ∙ ap (λ (f : Source). message_line (length history) read.host f at
      (get_or (ring_messages list script after read.host f) at [])) (sym source_is)

  -- the message of a status, and of a sender, from before the slot
  pub older_status : (incoming : Incoming) (words : List ℕ) → IsHostAndSource list read.host read.source
      → read.source ≡ source.Status → TellsRings incoming list script history
      → slice_get incoming.statuses.items read.host ≡ Some (record { words = words })
      → words
      ≡ get_or (ring_messages list script (row_after list script history chosen ∷ history) read.host source.Status)
      (newest_before list script history read) []
  older_status incoming words ring is tells at =
      let node = subst (IsHostAndSource list read.host) is ring in
      let newest = newest_message (ring_messages list script history read.host source.Status) in
      ap (λ (s : StatusWords). s.words)
      (same_Some (record { words = words }) (record { words = newest }) (sym at ∙ tells.statuses read.host node))
      ∙ sym (older-message list script (row_after list script history chosen) history read.host source.Status)
      ∙ ap (λ (f : Source). get_or
      (ring_messages list script (row_after list script history chosen ∷ history) read.host source.Status)
      (newest_number (ring_messages list script history read.host f)) []) (sym is)

  pub older_payload : (incoming : Incoming) (p : ℕ) (message : Chosen) → IsHostAndSource list read.host read.source
      → read.source ≡ source.Node p → TellsRings incoming list script history
      → slice_get incoming.payloads.items (read.host * incoming.nodes + p) ≡ Some message
      → message.payload
      ≡ get_or (ring_messages list script (row_after list script history chosen ∷ history) read.host (source.Node p))
      (newest_before list script history read) []
  older_payload incoming p message ring is tells at =
      (newest-told incoming list script history read p message is ring tells at).payload
      ∙ sym (older-message list script (row_after list script history chosen) history read.host (source.Node p))
      ∙ ap (λ (f : Source). get_or
      (ring_messages list script (row_after list script history chosen ∷ history) read.host (source.Node p))
      (newest_number (ring_messages list script history read.host f)) []) (sym is)

  -- where there is a newer message, and where there is none
  pub new_read-some : (text : List ℕ) → newest_before list script history read
      < newest_before list script (row_after list script history chosen ∷ history) read
      → behind_new_read list script history chosen read text
      ≡ behind_read list script history chosen read (newest_before list script history read + 1) text
  new_read-some text more =
      ap (λ (b : Bool). if b then behind_read list script history chosen read
      (newest_before list script history read + 1) text else None)
      (lt-ltb (newest_before list script history read)
      (newest_before list script (row_after list script history chosen ∷ history) read) more)

  pub new_read-none : (text : List ℕ) → newest_before list script (row_after list script history chosen ∷ history) read
      ≤ newest_before list script history read
      → behind_new_read list script history chosen read text ≡ None
  new_read-none text none =
      ap (λ (b : Bool). if b then behind_read list script history chosen read
      (newest_before list script history read + 1) text else None)
      (le-ltb (newest_before list script history read)
      (newest_before list script (row_after list script history chosen ∷ history) read) none)

  -- the status that is new
  pub after-status : read.source ≡ source.Status
      → newest_before list script (row_after list script history chosen ∷ history) read
      ≡ newest_before list script history read + 1
  after-status is =
      let row = row_after list script history chosen in
      ap (λ (f : Source). newest_number (ring_messages list script (row ∷ history) read.host f)) is
      ∙ omega (
        arith,
        status_messages-count list script history read.host,
        status_messages-count list script (row ∷ history) read.host,
      )
      ∙ ap (λ (f : Source). newest_number (ring_messages list script history read.host f) + 1) (sym is)

  pub newer_status : (plant : PlantView) (incoming : Incoming) → read.source ≡ source.Status
      → IsHostAndSource list read.host read.source → HasEnded plant incoming list script history chosen
      → (outcome_at plant read.host).status.words
      ≡ get_or (ring_messages list script (row_after list script history chosen ∷ history) read.host source.Status)
      (newest_before list script history read + 1) []
  newer_status plant incoming is ring ended =
      let node = subst (IsHostAndSource list read.host) is ring in
      ended-status plant incoming list script history chosen ended read.host node
      ∙ sym (newer_at (status_messages list script history read.host) _
      (omega (arith, status_messages-count list script history read.host)))
      ∙ ap (λ (f : Source). get_or
      (ring_messages list script (row_after list script history chosen ∷ history) read.host source.Status)
      (newest_number (ring_messages list script history read.host f) + 1) []) (sym is)

  -- what is new of a sender
  module _ (p : ℕ) (is : read.source ≡ source.Node p) where
    pub after-own : (d : Delivered)
        → delivered_of list script history (row_after list script history chosen) read.host ≡ Some d → d.sender ≡ p
        → newest_before list script (row_after list script history chosen ∷ history) read
        ≡ newest_before list script history read + 1
    after-own d there own =
        let row = row_after list script history chosen in
        ap (λ (f : Source). newest_number (ring_messages list script (row ∷ history) read.host f)) is
        ∙ delivered-number list script row history read.host d p there own
        ∙ ap (λ (f : Source). newest_number (ring_messages list script history read.host f) + 1) (sym is)

    pub newer_payload : (d : Delivered)
        → delivered_of list script history (row_after list script history chosen) read.host ≡ Some d → d.sender ≡ p
        → d.payload
        ≡ get_or (ring_messages list script (row_after list script history chosen ∷ history) read.host (source.Node p))
        (newest_before list script history read + 1) []
    newer_payload d there own =
        let row = row_after list script history chosen in
        sym (newer_at (in_messages list script history read.host p) d.payload
        (in_messages-some list script history read.host p))
        ∙ ap (λ (ms : List (List ℕ)). get_or ms (newest_number (in_messages list script history read.host p) + 1) [])
        (sym (delivered-own list script row history read.host d p there own))
        ∙ ap (λ (f : Source). get_or (ring_messages list script (row ∷ history) read.host (source.Node p))
        (newest_number (ring_messages list script history read.host f) + 1) []) (sym is)

    -- nothing
    pub after-same : in_messages list script (row_after list script history chosen ∷ history) read.host p
        ≡ in_messages list script history read.host p
        → newest_before list script (row_after list script history chosen ∷ history) read
        ≤ newest_before list script history read
    after-same same =
        let row = row_after list script history chosen in
        omega (
          arith,
          ap (λ (f : Source). newest_number (ring_messages list script (row ∷ history) read.host f)) is,
          ap newest_number same,
          ap (λ (f : Source). newest_number (ring_messages list script history read.host f)) is,
        )

-- A slot brings a ring at most one message, and no more than there were slots.

pub after-few : (list : Medl) (script : Script) (row : List Entry) (history : History) (read : HostRead)
    → newest_before list script (row ∷ history) read ≤ newest_before list script history read + 1
after-few list script row history read = by read.source
  where
    by : (from : Source)
        → newest_number (ring_messages list script (row ∷ history) read.host from)
        ≤ newest_number (ring_messages list script history read.host from) + 1
    by source.Status =
        omega (
          arith,
          status_messages-count list script history read.host,
          status_messages-count list script (row ∷ history) read.host,
        )
    by (source.Node p) =
        omega (
          arith,
          length-append (in_messages list script history read.host p)
              (new_messages p (delivered_of list script history row read.host)),
          new_messages-few p (delivered_of list script history row read.host),
        )

pub newest-few : (list : Medl) (script : Script) (history : History) (read : HostRead)
    → newest_before list script history read ≤ length history
newest-few list script history read = by read.source
  where
    by : (from : Source) → newest_number (ring_messages list script history read.host from) ≤ length history
    by source.Status = omega (arith, status_messages-count list script history read.host)
    by (source.Node p) = omega (arith, in_messages-few list script history read.host p)
