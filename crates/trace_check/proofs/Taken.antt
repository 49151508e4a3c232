-- The message that a node is to send: the one that its line names, if its host may have it sent.
use Rattle.trace_check.proofs.Words.{◌≡◌, ℕ, zero, suc, ◌+◌, ◌-◌, ◌<◌, ◌≤◌, Bool, true, false, ◌&&◌, List, [], ◌∷◌}
use Rattle.trace_check.proofs.Words.{length, get_or, set, drop, Option, Some, None, inl, inr, refl, ap, sym, ◌∙◌, arith}
use Rattle.trace_check.proofs.Words.{length-append, if◌then◌else◌, ◌==◌, is_some, nat_le, nat_lt, option_map, slice_get}
use Rattle.trace_check.proofs.Words.{and_parts, cond_both, cases_eq, cases_order, eq-eqb, ne_eqb, le-leb, leb-true}
use Rattle.trace_check.proofs.Words.{le-ltb, lt-ltb, get_or-set_other, get_or-set_same, length-set, none-some}
use Rattle.trace_check.proofs.Words.{get_or_from_slice_get, slice_get_within, Lines, lines_of, Medl, Chosen, Script}
use Rattle.trace_check.proofs.Words.{newest_number, messages_before, out_messages, message_chosen, nothing_chosen}
use Rattle.trace_check.proofs.Words.{messages_written, chosen_of, some_message, Outgoing, Chooses}
use Rattle.trace_check.proofs.Words.{oldest_number, number_taken, number_by_text}
use Rattle.std.proofs.lemmas.Bool.{true≢false}
use Rattle.std.proofs.lemmas.List.{drop-drop, get_or-append_right, get_or-drop, get_or_read}
use Rattle.ttp_world.specs.Legal.{is_between}
use Rattle.trace_check.specs.Outgoing.{number_by_line}

pub past_end : {X : Type 0} (xs : List X) (n : ℕ) → slice_get xs n ≡ None → length xs ≤ n
past_end [] n is = omega arith
past_end (x ∷ xs) zero is = absurd (none-some x (sym is))
past_end (x ∷ xs) (suc n) is = omega (arith, past_end xs n is)

pub none_at_first : {X Y : Type 0} (f : X → Y) (found : Option X) (ys : List Y) → is_some found ≡ false
    → option_map f found ≡ slice_get ys 0 → length ys ≡ 0
none_at_first f None ys none is = omega (arith, past_end ys 0 (sym is))
none_at_first f (Some x) ys none is = absurd (true≢false none)

-- Which number is taken.

newest_is : (list : Medl) (script : Script) (slot k : ℕ)
    → newest_number (out_messages list script k slot)
    ≡ oldest_number list script slot k + length (messages_written script k slot)
newest_is list script slot k =
    omega (
      arith,
      some_message list script k slot,
      length-append (messages_before list script k slot) (messages_written script k slot),
    )

module _ (list : Medl) (script : Script) (slot k : ℕ) where
  abbrev oldest : ℕ
  oldest = oldest_number list script slot k

  abbrev newest : ℕ
  newest = newest_number (out_messages list script k slot)

  -- none but the oldest is legal where it is the newest too
  only_oldest : (i : ℕ) → (oldest ≤ i → i ≤ newest → i ≡ oldest)
      → number_taken list script slot k (Some i) ≡ oldest
  only_oldest i only =
      cond_both (is_between oldest newest i) i oldest (λ (n : ℕ). n ≡ oldest)
      (λ legal.
      let parts = and_parts (nat_le oldest i) (nat_le i newest) legal in
      only (leb-true oldest i parts.0) (leb-true i newest parts.1))
      (λ other. refl)

  -- a number behind what the host writes
  pub taken-none : (i : ℕ) → oldest < i → slice_get (messages_written script k slot) (i - oldest - 1) ≡ None
      → number_taken list script slot k (Some i) ≡ oldest
  taken-none i new none =
      let past = past_end (messages_written script k slot) (i - oldest - 1) none in
      only_oldest i (λ low high. absurd (omega (arith, high, past, new, newest_is list script slot k)))

  -- the host writes nothing
  pub taken-bare : (named : Option ℕ) → length (messages_written script k slot) ≡ 0
      → number_taken list script slot k named ≡ oldest
  taken-bare None bare = refl
  taken-bare (Some i) bare = only_oldest i (λ low high. omega (arith, low, high, bare, newest_is list script slot k))

  -- a message that the host writes
  pub taken-found : (i : ℕ) (payload : List ℕ) → oldest < i
      → slice_get (messages_written script k slot) (i - oldest - 1) ≡ Some payload
      → (number_taken list script slot k (Some i) ≡ i)
      × (message_chosen list script slot k (Some i) ≡ record { number = i; payload = payload })
  taken-found i payload new found =
      let before = messages_before list script k slot in
      let written = messages_written script k slot in
      let within = slice_get_within written (i - oldest - 1) payload found in
      let low : nat_le oldest i ≡ true = le-leb oldest i (omega arith) in
      let high : nat_le i newest ≡ true = le-leb i newest (omega (arith, within, newest_is list script slot k)) in
      let legal : is_between oldest newest i ≡ true = λ j. low j && high j in
      let many : length before ≡ oldest + 1 = omega (arith, some_message list script k slot) in
      let place : i - (oldest + 1) ≡ i - oldest - 1 = omega arith in
      let at : get_or (out_messages list script k slot) i [] ≡ payload =
      get_or-append_right before written (oldest + 1) i [] many (omega arith)
      ∙ ap (λ (n : ℕ). get_or written n []) place
      ∙ get_or_from_slice_get written (i - oldest - 1) payload [] found in (
        ap (λ (b : Bool). if b then i else oldest) legal,
        λ j. record { number = i; payload = at j },
      )

-- What is chosen.

pub Chooses-same : (o : Outgoing) (list : Medl) (script : Script) (slot : ℕ) (f g : ℕ → ℕ)
    → ((k : ℕ) → k < length list.slots → f k ≡ g k) → Chooses o list script slot f → Chooses o list script slot g
Chooses-same o list script slot f g same chooses = record {
  hosts = chooses.hosts;
  nodes = chooses.nodes;
  newest = chooses.newest;
  chosen = λ k node.
      chooses.chosen k node ∙ ap (λ (n : ℕ). message_chosen list script slot k (Some n)) (same k node);
}

-- one node's is exchanged
pub Chooses-set : (o new : Outgoing) (list : Medl) (script : Script) (slot : ℕ) (f : ℕ → ℕ) (node i : ℕ)
    (message : Chosen)
    → Chooses o list script slot f → node < length list.slots → new.newest.items ≡ o.newest.items
    → new.chosen.items ≡ set o.chosen.items node message
    → message ≡ message_chosen list script slot node (Some i)
    → Chooses new list script slot (λ k. if k == node then i else f k)
Chooses-set o new list script slot f node i message chooses within same_newest exchanged is =
    let named = λ (n : ℕ) (k : ℕ). message_chosen list script slot k (Some n) in
    record {
      hosts = ap length same_newest ∙ chooses.hosts;
      nodes = ap length exchanged ∙ length-set o.chosen.items node message ∙ chooses.nodes;
      newest = λ k there. ap (λ (ns : List ℕ). get_or ns k 0) same_newest ∙ chooses.newest k there;
      chosen = λ k there.
          ap (λ (cs : List Chosen). chosen_of cs k) exchanged
          ∙ elim (cases_eq k node) as (λ _. chosen_of (set o.chosen.items node message) k
          ≡ named (if k == node then i else f k) k) [
            | inl own ↦
                ap (λ (j : ℕ). chosen_of (set o.chosen.items node message) j) own
                ∙ get_or-set_same o.chosen.items node message nothing_chosen (omega (arith, within, chooses.nodes))
                ∙ is
                ∙ ap (named i) (sym own)
                ∙ ap (λ (b : Bool). named (if b then i else f k) k) (sym (eq-eqb k node own))
            | inr other ↦
                get_or-set_other o.chosen.items node k message nothing_chosen other
                ∙ chooses.chosen k there
                ∙ ap (λ (b : Bool). named (if b then i else f k) k) (sym (ne_eqb k node other))
          ];
    }

module _ (o new : Outgoing) where
  -- A node whose line names a message that its host writes is to send that.
  pub chooses-found :
      (list : Medl) (script : Script) (slot : ℕ) (f : ℕ → ℕ) (node i : ℕ) (payload : List ℕ) (message : Chosen)
      → Chooses o list script slot f → node < length list.slots → oldest_number list script slot node < i
      → slice_get (messages_written script node slot) (i - oldest_number list script slot node - 1) ≡ Some payload
      → new.newest.items ≡ o.newest.items → new.chosen.items ≡ set o.chosen.items node message
      → message ≡ record { number = i; payload = payload }
      → Chooses new list script slot (λ k. if k == node then number_taken list script slot node (Some i) else f k)
  chooses-found list script slot f node i payload message chooses within later found same exchanged is =
      let taken = taken-found list script slot node i payload later found in
      Chooses-same new list script slot (λ k. if k == node then i else f k)
      (λ k. if k == node then number_taken list script slot node (Some i) else f k)
      (λ k there. ap (λ (n : ℕ). if k == node then n else f k) (sym taken.0))
      (Chooses-set o new list script slot f node i message chooses within same exchanged (is ∙ sym taken.1))

-- and one that names none of these, its host's newest message before the slot
pub chooses-oldest : (o : Outgoing) (list : Medl) (script : Script) (slot : ℕ) (f : ℕ → ℕ) (node number : ℕ)
    → Chooses o list script slot f → f node ≡ oldest_number list script slot node
    → number ≡ oldest_number list script slot node
    → Chooses o list script slot (λ k. if k == node then number else f k)
chooses-oldest o list script slot f node number chooses old is =
    Chooses-same o list script slot f (λ k. if k == node then number else f k)
    (λ k there. elim (cases_eq k node) as (λ _. f k ≡ (if k == node then number else f k)) [
      | inl own ↦
          ap f own ∙ old ∙ sym is
          ∙ ap (λ (b : Bool). if b then number else f k) (sym (eq-eqb k node own))
      | inr other ↦ ap (λ (b : Bool). if b then number else f k) (sym (ne_eqb k node other))
    ])
    chooses

-- the number of a host's newest message, as it is read
pub oldest-read : (o : Outgoing) (list : Medl) (script : Script) (slot : ℕ) (f : ℕ → ℕ) (node place read : ℕ)
    → Chooses o list script slot f → node < length list.slots → place ≡ node
    → read ≡ get_or o.newest.items place read → read ≡ oldest_number list script slot node
oldest-read o list script slot f node place read chooses within at is =
    get_or_read o.newest.items place read (omega (arith, within, chooses.hosts, at)) is 0
    ∙ ap (λ (j : ℕ). get_or o.newest.items j 0) at ∙ chooses.newest node within

-- Node by node.

-- the number for each node once the lines of the first nodes, so many, were looked at
abbrev pub number_so_far : Medl → Script → ℕ → List ℕ → ℕ → ℕ → ℕ
number_so_far list script slot text nodes k =
    if nat_lt k nodes then number_by_text list script slot text k else oldest_number list script slot k

pub record HasLookedAt (o : Outgoing) (list : Medl) (script : Script) (slot : ℕ) (text rest : List ℕ)
    (nodes : ℕ) : Type 0 where
  pub chooses : Chooses o list script slot (number_so_far list script slot text nodes)
  pub lines : lines_of rest ≡ drop nodes (lines_of text)

module _ (list : Medl) (script : Script) (slot : ℕ) (text : List ℕ) where
  pub so_far-behind : (nodes k : ℕ) → nodes ≤ k
      → number_so_far list script slot text nodes k ≡ oldest_number list script slot k
  so_far-behind nodes k behind =
      ap (λ (b : Bool). if b then number_by_text list script slot text k else oldest_number list script slot k)
      (le-ltb k nodes behind)

  pub so_far-before : (nodes k : ℕ) → k < nodes
      → number_so_far list script slot text nodes k ≡ number_by_text list script slot text k
  so_far-before nodes k before =
      ap (λ (b : Bool). if b then number_by_text list script slot text k else oldest_number list script slot k)
      (lt-ltb k nodes before)

  unchanged : (nodes k : ℕ) → (k ≡ nodes → ⊥)
      → number_so_far list script slot text nodes k ≡ number_so_far list script slot text (nodes + 1) k
  unchanged nodes k other =
      elim (cases_order k nodes) as (λ _. number_so_far list script slot text nodes k
      ≡ number_so_far list script slot text (nodes + 1) k) [
        | inl own ↦ absurd (other own)
        | inr apart ↦
            elim apart as (λ _. number_so_far list script slot text nodes k
            ≡ number_so_far list script slot text (nodes + 1) k) [
              | inl before ↦
                  so_far-before nodes k before ∙ sym (so_far-before (nodes + 1) k (omega (arith, before)))
              | inr behind ↦
                  so_far-behind nodes k (omega (arith, behind))
                  ∙ sym (so_far-behind (nodes + 1) k (omega (arith, behind)))
            ]
      ]

  -- one node more
  one_more : (node k number : ℕ) → (k ≡ node → number ≡ number_by_text list script slot text k)
      → ((k ≡ node → ⊥) → number ≡ number_so_far list script slot text node k)
      → number ≡ number_so_far list script slot text (node + 1) k
  one_more node k number here there =
      elim (cases_eq k node) as (λ _. number ≡ number_so_far list script slot text (node + 1) k) [
        | inl own ↦ here own ∙ sym (so_far-before (node + 1) k (omega (arith, own)))
        | inr other ↦ there other ∙ unchanged node k other
      ]

  lines_next : (rest behind : List ℕ) (node : ℕ) → lines_of rest ≡ drop node (lines_of text)
      → drop 1 (lines_of rest) ≡ lines_of behind → lines_of behind ≡ drop (node + 1) (lines_of text)
  lines_next rest behind node lines others =
      sym others ∙ ap (λ (ls : Lines). drop 1 ls) lines ∙ drop-drop 1 node (lines_of text)

  -- a node that is to send the newest message before the slot
  pub looked-past : (o : Outgoing) (rest behind : List ℕ) (node : ℕ) → HasLookedAt o list script slot text rest node
      → drop 1 (lines_of rest) ≡ lines_of behind
      → number_by_text list script slot text node ≡ oldest_number list script slot node
      → HasLookedAt o list script slot text behind (node + 1)
  looked-past o rest behind node has others is = record {
    chooses = Chooses-same o list script slot (number_so_far list script slot text node)
        (number_so_far list script slot text (node + 1))
        (λ k there. one_more node k (number_so_far list script slot text node k)
        (λ own.
        ap (λ (j : ℕ). number_so_far list script slot text node j) own
        ∙ so_far-behind node node (omega arith) ∙ sym is
        ∙ ap (λ (j : ℕ). number_by_text list script slot text j) (sym own))
        (λ other. refl))
        has.chooses;
    lines = lines_next rest behind node has.lines others;
  }

  -- a node whose line names this number
  pub looked-taken : (o new : Outgoing) (rest behind : List ℕ) (node number : ℕ)
      → HasLookedAt o list script slot text rest node → drop 1 (lines_of rest) ≡ lines_of behind
      → number_taken list script slot node (Some number) ≡ number_by_text list script slot text node
      → Chooses new list script slot
      (λ k. if k == node then number_taken list script slot node (Some number)
      else number_so_far list script slot text node k)
      → HasLookedAt new list script slot text behind (node + 1)
  looked-taken o new rest behind node number has others is chooses =
      let now = number_taken list script slot node (Some number) in
      let f = λ (k : ℕ). if k == node then now else number_so_far list script slot text node k in
      record {
        chooses = Chooses-same new list script slot f (number_so_far list script slot text (node + 1))
            (λ k there. one_more node k (f k)
            (λ own.
            ap (λ (b : Bool). if b then now else number_so_far list script slot text node k) (eq-eqb k node own)
            ∙ is ∙ ap (λ (j : ℕ). number_by_text list script slot text j) (sym own))
            (λ other.
            ap (λ (b : Bool). if b then now else number_so_far list script slot text node k) (ne_eqb k node other)))
            chooses;
        lines = lines_next rest behind node has.lines others;
      }

  -- the line of a node
  pub line_at : (rest line : List ℕ) (node : ℕ) → lines_of rest ≡ drop node (lines_of text)
      → get_or (lines_of rest) 0 [] ≡ line → get_or (lines_of text) node [] ≡ line
  line_at rest line node lines first =
      ap (λ (j : ℕ). get_or (lines_of text) j []) (omega arith)
      ∙ sym (get_or-drop node (lines_of text) 0 []) ∙ ap (λ (ls : Lines). get_or ls 0 []) (sym lines) ∙ first

  pub named-in : (node : ℕ) (line : List ℕ) (named : Option ℕ) → get_or (lines_of text) node [] ≡ line
      → named ≡ number_by_line line
      → number_taken list script slot node named ≡ number_by_text list script slot text node
  named-in node line named at is =
      ap (number_taken list script slot node) (is ∙ ap number_by_line (sym at))
