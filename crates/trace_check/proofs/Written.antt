-- What the writes of a slot make of the messages that nodes are to send, write by write, and their lines.
use Rattle.trace_check.proofs.Words.{◌≡◌, ℕ, suc, ◌+◌, ◌-◌, ◌^◌, ◌<◌, ◌≤◌, Bool, true, false, cond, List, [], ◌∷◌, ◌++◌}
use Rattle.trace_check.proofs.Words.{length, get_or, set, Some, None, IsTrue, inl, inr, refl, ap, sym, ◌∙◌, subst}
use Rattle.trace_check.proofs.Words.{arith, length-append, add-one, count_by, ◌==◌, nat_le, cons_option, and_parts}
use Rattle.trace_check.proofs.Words.{cases_eq, eq-eqb, leb-true, ne_eqb, get_or-append-add, get_or-set_other}
use Rattle.trace_check.proofs.Words.{get_or-set_same, length-set, filter_map-append, get_or-append, get_or-append_seam}
use Rattle.trace_check.proofs.Words.{Lines, Medl, Chosen, Script, is_legal_message, IsValid, newest_number}
use Rattle.trace_check.proofs.Words.{messages_before, out_messages, message_chosen, nothing_chosen, HostWrite}
use Rattle.trace_check.proofs.Words.{IsValidScript, messages_written, payload_of_host, writes_in, more_write_lines}
use Rattle.trace_check.proofs.Words.{write_lines, chosen_of, few_messages, some_message, after_label, Outgoing}
use Rattle.trace_check.proofs.Words.{BeginsWith, Departs, Chooses, HasChosen, HoldsNewest, oldest_number}
use Rattle.std.proofs.lemmas.List.{append-nil}
use Rattle.std.proofs.lemmas.List.Sums.{sum_by-cons}
use Rattle.ttp_world.specs.Trace.{write_line}
use Rattle.line_text.specs.HostLines.{written_line}
use Rattle.trace_check.proofs.Begun.{begins-behind, departs-behind}
use Rattle.trace_check.proofs.Writes.{messages_by}

-- The messages, once these writes were made in the slot.

-- node k is to send its host's newest message, or else the one that was chosen for it
pub record IsNext (list : Medl) (script : Script) (slot k number : ℕ) (messages : List (List ℕ))
    (chosen : Chosen) : Type 0 where
  pub none : length messages ≡ 0 → chosen ≡ message_chosen list script slot k (Some number)
  pub some : 1 ≤ length messages
      → chosen
      ≡ record {
        number = oldest_number list script slot k + length messages;
        payload = get_or messages (length messages - 1) [];
      }

pub record HasWritten (o : Outgoing) (list : Medl) (script : Script) (slot : ℕ) (number : ℕ → ℕ)
    (done : List HostWrite) : Type 0 where
  pub hosts : length o.newest.items ≡ length list.slots
  pub nodes : length o.chosen.items ≡ length list.slots
  pub newest : (k : ℕ) → k < length list.slots
      → get_or o.newest.items k 0 ≡ oldest_number list script slot k + length (messages_by k done)
  pub chosen : (k : ℕ) → k < length list.slots
      → IsNext list script slot k (number k) (messages_by k done) (chosen_of o.chosen.items k)

pub written-none : (o : Outgoing) (list : Medl) (script : Script) (slot : ℕ) (number : ℕ → ℕ)
    → Chooses o list script slot number → HasWritten o list script slot number []
written-none o list script slot number chooses = record {
  hosts = chooses.hosts;
  nodes = chooses.nodes;
  newest = λ k node. chooses.newest k node ∙ omega arith;
  chosen = λ k node. record {
    none = λ none. chooses.chosen k node;
    some = λ some. absurd (omega (arith, some));
  };
}

own_message : (k : ℕ) (done : List HostWrite) (w : HostWrite) → w.host ≡ k
    → messages_by k (done ++ w ∷ []) ≡ messages_by k done ++ w.payload ∷ []
own_message k done w own =
    filter_map-append (payload_of_host k) done (w ∷ [])
    ∙ ap (λ (b : Bool). messages_by k done ++ cons_option (cond b (Some w.payload) None) []) (eq-eqb w.host k own)

other_message : (k : ℕ) (done : List HostWrite) (w : HostWrite) → (w.host ≡ k → ⊥)
    → messages_by k (done ++ w ∷ []) ≡ messages_by k done
other_message k done w other =
    filter_map-append (payload_of_host k) done (w ∷ [])
    ∙ ap (λ (b : Bool). messages_by k done ++ cons_option (cond b (Some w.payload) None) []) (ne_eqb w.host k other)
    ∙ append-nil (messages_by k done)

next_along : (list : Medl) (script : Script) (slot k number : ℕ) {messages others : List (List ℕ)}
    {chosen other : Chosen}
    → others ≡ messages → other ≡ chosen → IsNext list script slot k number messages chosen
    → IsNext list script slot k number others other
next_along list script slot k number {messages} {others} {chosen} {other} same same_too next =
    subst (λ (ms : List (List ℕ)). IsNext list script slot k number ms other) (sym same)
    (subst (IsNext list script slot k number messages) (sym same_too) next)

next_own : (list : Medl) (script : Script) (slot k number : ℕ) (messages : List (List ℕ)) (payload : List ℕ)
    → IsNext list script slot k number (messages ++ payload ∷ [])
    (record { number = oldest_number list script slot k + length messages + 1; payload = payload })
next_own list script slot k number messages payload =
    let many : length (messages ++ payload ∷ []) ≡ length messages + 1 = length-append messages (payload ∷ []) in
    record {
      none = λ none. absurd (omega (arith, none, many));
      some = λ some.
          let last : length (messages ++ payload ∷ []) - 1 ≡ length messages = omega (arith, many) in
          let count : oldest_number list script slot k + length messages + 1
          ≡ oldest_number list script slot k + length (messages ++ payload ∷ []) = omega (arith, many) in
          let at : payload ≡ get_or (messages ++ payload ∷ []) (length (messages ++ payload ∷ []) - 1) [] =
          sym (ap (λ (n : ℕ). get_or (messages ++ payload ∷ []) n []) last
          ∙ get_or-append_seam messages payload [] []) in
          λ i. record { number = count i; payload = at i };
    }

pub written-more : (o new : Outgoing) (list : Medl) (script : Script) (slot : ℕ) (number : ℕ → ℕ)
    (done : List HostWrite) (w : HostWrite) (told : ℕ)
    → HasWritten o list script slot number done → w.host < length list.slots
    → told ≡ get_or o.newest.items w.host 0 + 1 → new.newest.items ≡ set o.newest.items w.host told
    → new.chosen.items ≡ set o.chosen.items w.host (record { number = told; payload = w.payload })
    → HasWritten new list script slot number (done ++ w ∷ [])
written-more o new list script slot number done w told has node is newest chosen =
    let h = w.host in
    let message : Chosen = record { number = told; payload = w.payload } in
    record {
      hosts = ap length newest ∙ length-set o.newest.items h told ∙ has.hosts;
      nodes = ap length chosen ∙ length-set o.chosen.items h message ∙ has.nodes;
      newest = λ k there.
          ap (λ (ns : List ℕ). get_or ns k 0) newest
          ∙ elim (cases_eq h k) as (λ _. get_or (set o.newest.items h told) k 0
          ≡ oldest_number list script slot k + length (messages_by k (done ++ w ∷ []))) [
            | inl own ↦
                ap (λ (j : ℕ). get_or (set o.newest.items h told) j 0) (sym own)
                ∙ get_or-set_same o.newest.items h told 0 (omega (arith, node, has.hosts))
                ∙ is ∙ ap (λ (j : ℕ). get_or o.newest.items j 0 + 1) own
                ∙ omega (
                  arith,
                  has.newest k there,
                  ap length (own_message k done w own),
                  length-append (messages_by k done) (w.payload ∷ []),
                )
            | inr other ↦
                get_or-set_other o.newest.items h k told 0 (λ same. other (sym same))
                ∙ has.newest k there
                ∙ ap (λ (ms : List (List ℕ)). oldest_number list script slot k + length ms)
                (sym (other_message k done w other))
          ];
      chosen = λ k there.
          elim (cases_eq h k) as (λ _. IsNext list script slot k (number k) (messages_by k (done ++ w ∷ []))
          (chosen_of new.chosen.items k)) [
            | inl own ↦
                let count : told ≡ oldest_number list script slot k + length (messages_by k done) + 1 =
                is ∙ ap (λ (j : ℕ). get_or o.newest.items j 0 + 1) own ∙ ap (λ (n : ℕ). n + 1) (has.newest k there) in
                next_along list script slot k (number k) (own_message k done w own)
                (ap (λ (cs : List Chosen). chosen_of cs k) chosen
                ∙ ap (λ (j : ℕ). chosen_of (set o.chosen.items h message) j) (sym own)
                ∙ get_or-set_same o.chosen.items h message nothing_chosen (omega (arith, node, has.nodes))
                ∙ (λ i. record { number = count i; payload = w.payload }))
                (next_own list script slot k (number k) (messages_by k done) w.payload)
            | inr other ↦
                next_along list script slot k (number k) (other_message k done w other)
                (ap (λ (cs : List Chosen). chosen_of cs k) chosen
                ∙ get_or-set_other o.chosen.items h k message nothing_chosen (λ same. other (sym same)))
                (has.chosen k there)
          ];
    }

-- Once all were made, each node is to send its host's newest.

module _ (list : Medl) (script : Script) (slot k : ℕ) where
  after_is : messages_before list script k (slot + 1)
      ≡ messages_before list script k slot ++ messages_written script k slot
  after_is = ap (messages_before list script k) (add-one slot)

  oldest-next : oldest_number list script (slot + 1) k
      ≡ oldest_number list script slot k + length (messages_written script k slot)
  oldest-next =
      omega (
        arith,
        ap length after_is,
        some_message list script k slot,
        length-append (messages_before list script k slot) (messages_written script k slot),
      )

  -- a message of the slot has the same number in the next one
  kept_message : (i : ℕ) → i ≤ oldest_number list script (slot + 1) k
      → get_or (out_messages list script k (slot + 1)) i []
      ≡ get_or (messages_before list script k slot ++ messages_written script k slot) i []
  kept_message i up =
      get_or-append (messages_before list script k (slot + 1)) (messages_written script k (slot + 1)) [] i
      (omega (arith, up, some_message list script k (slot + 1)))
      ∙ ap (λ (ms : List (List ℕ)). get_or ms i []) after_is

  newest_next : (number : ℕ) (chosen : Chosen) → IsTrue (is_legal_message list script slot k (Some number))
      → IsNext list script slot k number (messages_written script k slot) chosen
      → chosen ≡ message_chosen list script (slot + 1) k (Some (oldest_number list script (slot + 1) k))
  newest_next number chosen legal next =
      let written = messages_written script k slot in
      let front = messages_before list script k slot in
      let oldest = oldest_number list script slot k in
      let some = some_message list script k slot in
      let whole = length-append front written in
      let parts = and_parts (nat_le oldest number) (nat_le number (newest_number (front ++ written))) legal in
      let low = leb-true oldest number parts.0 in
      let high = leb-true number (newest_number (front ++ written)) parts.1 in
      elim (cases_eq (length written) 0) as (λ _. chosen
      ≡ message_chosen list script (slot + 1) k (Some (oldest_number list script (slot + 1) k))) [
        | inl none ↦
            let same : number ≡ oldest_number list script (slot + 1) k =
            omega (arith, low, high, whole, some, none, oldest-next) in
            next.none none
            ∙ (λ i. record {
              number = same i;
              payload =
                  (ap (λ (n : ℕ). get_or (front ++ written) n []) same
                  ∙ sym (kept_message (oldest_number list script (slot + 1) k) (omega arith))) i;
            })
        | inr more ↦
            let count : oldest + length written ≡ oldest_number list script (slot + 1) k = sym oldest-next in
            let place : length front + (length written - 1) ≡ oldest_number list script (slot + 1) k =
            omega (arith, some, more, oldest-next) in
            next.some (omega (arith, more))
            ∙ (λ i. record {
              number = count i;
              payload =
                  (sym (get_or-append-add front written (length written - 1) [])
                  ∙ ap (λ (n : ℕ). get_or (front ++ written) n []) place
                  ∙ sym (kept_message (oldest_number list script (slot + 1) k) (omega arith))) i;
            })
      ]

pub written-all : (o : Outgoing) (list : Medl) (script : Script) (slot : ℕ) (number : ℕ → ℕ)
    → HasWritten o list script slot number (writes_in script slot)
    → ((k : ℕ) → k < length list.slots → IsTrue (is_legal_message list script slot k (Some (number k))))
    → HoldsNewest o list script (slot + 1)
written-all o list script slot number has legal = record {
  hosts = has.hosts;
  nodes = has.nodes;
  newest = λ k node. has.newest k node ∙ sym (oldest-next list script slot k);
  chosen = λ k node.
      newest_next list script slot k (number k) (chosen_of o.chosen.items k) (legal k node) (has.chosen k node);
}

-- Their lines.

pub onto : List HostWrite → List HostWrite → List HostWrite
onto [] earlier = earlier
onto (w ∷ writes) earlier = onto writes (w ∷ earlier)

write_lines-append : (list : Medl) (script : Script) (slot : ℕ) (earlier writes more : List HostWrite)
    → more_write_lines list script slot earlier (writes ++ more)
    ≡ more_write_lines list script slot earlier writes ++ more_write_lines list script slot (onto writes earlier) more
unfolding onto
write_lines-append list script slot earlier [] more = refl
write_lines-append list script slot earlier (w ∷ writes) more =
    ap (λ (lines : Lines). write_line list script slot w.host (count_by (λ e. e.host == w.host) earlier) ∷ lines)
    (write_lines-append list script slot (w ∷ earlier) writes more)

counted-onto : (k : ℕ) (writes earlier : List HostWrite)
    → count_by (λ e. e.host == k) (onto writes earlier)
    ≡ length (messages_by k writes) + count_by (λ e. e.host == k) earlier
unfolding onto
counted-onto k [] earlier = omega arith
counted-onto k (w ∷ writes) earlier =
    counted-onto k writes (w ∷ earlier)
    ∙ ap (λ (n : ℕ). length (messages_by k writes) + n)
    (sum_by-cons (λ (x : HostWrite). cond (x.host == k) 1 0) w earlier)
    ∙ moved (w.host == k) w.payload (messages_by k writes) (count_by (λ e. e.host == k) earlier)
  where
    moved : (own : Bool) (payload : List ℕ) (messages : List (List ℕ)) (m : ℕ)
        → length messages + (cond own 1 0 + m) ≡ length (cons_option (cond own (Some payload) None) messages) + m
    moved true payload messages m = omega arith
    moved false payload messages m = omega arith

-- the lines of the first writes, the next one, and those behind
pub write_lines-next : (list : Medl) (script : Script) (slot : ℕ) (done : List HostWrite) (w : HostWrite)
    (more : List HostWrite)
    → more_write_lines list script slot [] (done ++ w ∷ more)
    ≡ more_write_lines list script slot [] done
    ++ write_line list script slot w.host (length (messages_by w.host done))
    ∷ more_write_lines list script slot (w ∷ onto done []) more
write_lines-next list script slot done w more =
    write_lines-append list script slot [] done (w ∷ more)
    ∙ ap (λ (n : ℕ). more_write_lines list script slot [] done
    ++ write_line list script slot w.host n ∷ more_write_lines list script slot (w ∷ onto done []) more)
    (counted-onto w.host done [] ∙ omega arith)

-- A text that begins with the lines of the first writes.

-- these writes were made, each after its line
pub record HasWrittenLines (o : Outgoing) (list : Medl) (script : Script) (slot : ℕ) (text rest : List ℕ)
    (done : List HostWrite) : Type 0 where
  pub number : ℕ → ℕ
  pub legal : (k : ℕ) → k < length list.slots → IsTrue (is_legal_message list script slot k (Some (number k)))
  pub written : HasWritten o list script slot number done
  pub begins : BeginsWith text (more_write_lines list script slot [] done) rest

pub lines_along : (list : Medl) (script : Script) (slot : ℕ) (text : List ℕ) {o new : Outgoing} {rest more : List ℕ}
    {done others : List HostWrite}
    → others ≡ done → new ≡ o → more ≡ rest → HasWrittenLines o list script slot text rest done
    → HasWrittenLines new list script slot text more others
lines_along list script slot text {o} {new} {rest} {more} {done} {others} same same_too same_rest has =
    subst (λ (d : List HostWrite). HasWrittenLines new list script slot text more d) (sym same)
    (subst (λ (p : Outgoing). HasWrittenLines p list script slot text more done) (sym same_too)
    (subst (λ (r : List ℕ). HasWrittenLines o list script slot text r done) (sym same_rest) has))

pub lines-none : (o : Outgoing) (list : Medl) (script : Script) (slot : ℕ) (text : List ℕ)
    → HasChosen o list script slot → HasWrittenLines o list script slot text text []
lines-none o list script slot text has = record {
  number = has.number;
  legal = has.legal;
  written = written-none o list script slot has.number has.chooses;
  begins = refl;
}

module _ (o : Outgoing) (list : Medl) (script : Script) (slot : ℕ) (text rest : List ℕ) (done later : List HostWrite)
    (w : HostWrite) (has : HasWrittenLines o list script slot text rest done) (node : w.host < length list.slots)
    (whole : writes_in script slot ≡ done ++ w ∷ later) where
  -- the number that the host's ring gives the message
  number-is : get_or o.newest.items w.host 0 + 1
      ≡ length (messages_before list script w.host slot) + length (messages_by w.host done)
  number-is =
      omega (arith, has.written.newest w.host node, some_message list script w.host slot)

  pub number-small : IsValid list → IsValidScript list script → slot < 2 ^ 32
      → get_or o.newest.items w.host 0 + 1 < 2 ^ 64
  number-small valid valid_script small =
      let all : messages_written script w.host slot
      ≡ messages_by w.host done ++ messages_by w.host (w ∷ later) =
      ap (messages_by w.host) whole ∙ filter_map-append (payload_of_host w.host) done (w ∷ later) in
      omega (
        arith,
        number-is,
        few_messages list script w.host (suc slot) valid valid_script,
        length-append (messages_before list script w.host slot) (messages_written script w.host slot),
        ap length all,
        length-append (messages_by w.host done) (messages_by w.host (w ∷ later)),
        small,
      )

  line-is : (told : ℕ) → told ≡ get_or o.newest.items w.host 0 + 1
      → written_line slot w.host told ≡ write_line list script slot w.host (length (messages_by w.host done))
  line-is told is = ap (written_line slot w.host) (is ∙ number-is)

  pub lines-next : (new : Outgoing) (told : ℕ) (more : List ℕ) → told ≡ get_or o.newest.items w.host 0 + 1
      → new.newest.items ≡ set o.newest.items w.host told
      → new.chosen.items ≡ set o.chosen.items w.host (record { number = told; payload = w.payload })
      → after_label (written_line slot w.host told) rest ≡ Some more
      → HasWrittenLines new list script slot text more (done ++ w ∷ [])
  lines-next new told more is newest chosen behind =
      let line = write_line list script slot w.host (length (messages_by w.host done)) in
      record {
        number = has.number;
        legal = has.legal;
        written = written-more o new list script slot has.number done w told has.written node is newest chosen;
        begins =
            subst (λ (lines : Lines). BeginsWith text lines more) (sym (write_lines-next list script slot done w []))
            (begins-behind text rest line more (more_write_lines list script slot [] done) has.begins
            (ap (λ (l : List ℕ). after_label l rest) (sym (line-is told is)) ∙ behind));
      }

  pub lines-depart : (told : ℕ) → told ≡ get_or o.newest.items w.host 0 + 1
      → after_label (written_line slot w.host told) rest ≡ None
      → Departs text (write_lines list script slot) rest
  lines-depart told is none =
      let line = write_line list script slot w.host (length (messages_by w.host done)) in
      departs-behind text rest line (write_lines list script slot) (more_write_lines list script slot [] done)
      (more_write_lines list script slot (w ∷ onto done []) later)
      (ap (more_write_lines list script slot []) whole ∙ write_lines-next list script slot done w later)
      has.begins
      (ap (λ (l : List ℕ). after_label l rest) (sym (line-is told is)) ∙ none)
