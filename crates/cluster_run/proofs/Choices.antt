-- What a node's fetcher got is a message of its host: the fetch was one attempt, which no write of the slot overtook.
use Rattle.cluster_run.proofs.Words.{◌≡◌, ℕ, zero, suc, ◌+◌, ◌/◌, ◌<◌, ◌≤◌, Bool, true, false, List, [], ◌∷◌, ◌++◌}
use Rattle.cluster_run.proofs.Words.{length, map, get_or, Option, Some, None, IsSomeAnd, All, refl, sym, ap, subst, ◌∙◌}
use Rattle.cluster_run.proofs.Words.{arith, cond, slice_get, ◌&&◌, nat_le, le-leb, map-append, length-map, All-head}
use Rattle.cluster_run.proofs.Words.{none-some, same_Some, Message, Shape, WriterState, ReaderState, new_reader}
use Rattle.cluster_run.proofs.Words.{with_joined, Medl, Chosen, Script, is_legal_message, plan_at, messages_before}
use Rattle.cluster_run.proofs.Words.{message_chosen, IsValidScript, messages_written, writes_in, word_count}
use Rattle.cluster_run.proofs.Words.{words_of_payload, AreBytes, bytes_in, words_tell, HasSeen, Attempts, is_intact}
use Rattle.cluster_run.proofs.Words.{HostState, message_shape, shape_of, IsRing, IsRingOf, pair_of, words_written}
use Rattle.cluster_run.proofs.Words.{Fetches, FetchesOne, SettlesFetch, after_writes, fetcher_lent, with_messages}
use Rattle.cluster_run.proofs.Words.{message_sizes, some_message, steps, IsWhole, pair_sent, choice_by, and_parts}
use Rattle.cluster_run.proofs.Words.{Numbers, chosen_of, AreChosen, HaveChosen, next_slot, leb-true, out_messages}
use Rattle.cluster_run.proofs.Words.{newest_number}
use Rattle.cluster_run.proofs.Rings.{ring_more, settled_ring}
use Rattle.nbw_ring.specs.Numbers.{IsMessageOf}
use Rattle.ttp_world.specs.declared.script.Source.TheVariants as source

-- The ring of a node that sends payload is there.

shape_there : (list : Medl) (k : ℕ) → 1 ≤ (plan_at list k).payload
    → message_shape list k ≡ Some (shape_of list (word_count (plan_at list k).payload))
shape_there list k some = grind steps

pub record HasRing (list : Medl) (k : ℕ) (messages : List (List ℕ)) (pairs : List Message) (end : HostState) : Type 0
  where
    pub shape_is : message_shape list k ≡ Some (shape_of list (word_count (plan_at list k).payload))
    pub there : IsSomeAnd end (IsRing (shape_of list (word_count (plan_at list k).payload)) messages pairs)

pub has_ring : (list : Medl) (k : ℕ) (messages : List (List ℕ)) (pairs : List Message) (end : HostState)
    → 1 ≤ (plan_at list k).payload → IsRingOf (message_shape list k) messages pairs end
    → HasRing list k messages pairs end
has_ring list k messages pairs end some ring =
    record { shape_is = shape_there list k some; there = rw (shape_there list k some) at ring }

-- A message by its words.

pub record Found {X Y : Type 0} (f : X → Y) (xs : List X) (d : X) (k : ℕ) (y : Y) : Type 0 where
  pub within : k < length xs
  pub is : f (get_or xs k d) ≡ y

pub found : {X Y : Type 0} (f : X → Y) (xs : List X) (d : X) (k : ℕ) (y : Y) → slice_get (map f xs) k ≡ Some y
    → Found f xs d k y
found f [] d k y here = absurd (none-some y here)
found f (x ∷ xs) d zero y here = record { within = omega arith; is = same_Some (f x) y here }
found f (x ∷ xs) d (suc k) y here =
    let rest = found f xs d k y here in record { within = omega (arith, rest.within); is = rest.is }

-- A fetch: one attempt of a reader that was lent before these writes, and is settled after them.

-- it got one message, which is the writer's
pub record GotOne (before new : List (List ℕ)) (got : List Message) : Type 0 where
  pub number : ℕ
  pub one : got ≡ record { number = number; words = words_of_payload (get_or (before ++ new) number []) } ∷ []
  pub low : length before ≤ number + 1
  pub high : number < length (before ++ new)

module _ (before new : List (List ℕ)) (w : WriterState) (f : ReaderState)
    (is : w.messages ≡ map words_of_payload before) (some : 1 ≤ length before)
    (few : length new < w.ring.shape.buffers) (attempt : Attempts (new_reader w 1) f)
    (whole : IsWhole (with_messages w new) f) (seen : HasSeen (with_messages w new) f) where
  count_before : length w.messages ≡ length before
  count_before = ap length is ∙ length-map before words_of_payload

  -- no write of the slot overtook it
  intact : is_intact f ≡ true
  intact = grind steps

  messages_after : w.messages ++ map words_of_payload new ≡ map words_of_payload (before ++ new)
  messages_after = ap (λ ms. ms ++ map words_of_payload new) is ∙ sym (map-append words_of_payload before new)

  pub got_one : GotOne before new f.got
  got_one =
      let gets = attempt.got intact in
      let pair : Message = record { number = f.first / 2; words = gets.words } in
      let all = subst (All (IsMessageOf (w.messages ++ map words_of_payload new))) gets.got whole in
      let head = All-head (IsMessageOf (w.messages ++ map words_of_payload new)) pair [] all in
      let there = found words_of_payload (before ++ new) [] pair.number pair.words
      (ap (λ ms. slice_get ms pair.number) (sym messages_after) ∙ head) in
      record {
        number = f.first / 2;
        one = gets.got ∙ (λ i. record { number = f.first / 2; words = sym there.is i } ∷ []);
        low = omega (arith, attempt.floor, count_before, some);
        high = there.within;
      }

-- What is chosen for a node, and its ring after the slot's writes and its fetch.

pub record IsNodeChoice (list : Medl) (script : Script) (slot k : ℕ) (loaded : Bool) (pairs : List Message)
    (end : HostState) (choice : Chosen) : Type 0 where
  pub message : loaded ≡ true → choice ≡ message_chosen list script slot k (Some choice.number)
  pub legal : is_legal_message list script slot k (cond loaded (Some choice.number) None) ≡ true
  pub ring : IsRingOf (message_shape list k) (words_written list script k (suc slot))
      (pairs ++ pair_sent list script slot k (cond loaded (Some choice.number) None)) end

between : (low high i : ℕ) → low ≤ i → i ≤ high → nat_le low i && nat_le i high ≡ true
between low high i up down = λ t. le-leb low i up t && le-leb i high down t

module _ (list : Medl) (script : Script) (slot k : ℕ) (valid : IsValidScript list script)
    (bytes : All AreBytes (messages_before list script k (suc slot))) where
  abbrev len : ℕ
  len = (plan_at list k).payload

  fetched : (old : HostState) {pairs : List Message} {f : Option ReaderState} {new : HostState} {c0 c1 : Chosen}
      → HasRing list k (words_written list script k slot) pairs old → Fetches (fetcher_lent true old) f
      → SettlesFetch len f (after_writes (writes_in script slot) k old) new c0 c1
      → IsNodeChoice list script slot k true pairs new c1
  fetched None there attempt settles = absurd there.there
  fetched (Some w) {f = None} there none settles = absurd none
  fetched (Some w) {pairs = pairs} {f = Some f} {new = new} {c0 = c0} {c1 = c1} there attempt settles =
      let ring = there.there in
      let before = messages_before list script k slot in
      let more = messages_written script k slot in
      let shape = shape_of list (word_count len) in
      let few : length more < w.ring.shape.buffers =
      omega (arith, valid.writes k slot, ap (λ (s : Shape). s.buffers) ring.shape_is) in
      let got = got_one before more w f ring.messages_are (some_message list script k slot) few attempt
      settles.whole.0 settles.whole.1 in
      let i = got.number in
      let m = get_or (before ++ more) i [] in
      let size : length m ≡ len = message_sizes list script k (suc slot) valid i [] got.high in
      let told : bytes_in len (words_of_payload m) ≡ m =
      ap (λ n. bytes_in n (words_of_payload m)) (sym size) ∙ words_tell m (bytes i [] got.high) in
      let choice : c1 ≡ record { number = i; payload = m } =
      settles.choice_is ∙ ap (λ ms. choice_by len (slice_get ms 0) c0) got.one
      ∙ (λ t. record { number = i; payload = told t }) in
      let number : c1.number ≡ i = ap (λ (c : Chosen). c.number) choice in
      let whole : IsRing shape (words_written list script k (suc slot)) pairs (with_messages w more) =
      rw map-append (ring_more (map words_of_payload more) _ ring) in
      let end : IsRing shape (words_written list script k (suc slot))
      (pairs ++ pair_of (source.Node k) (before ++ more) i ∷ []) (with_joined (with_messages w more) f) =
      subst (λ ms. IsRing shape (words_written list script k (suc slot))
      (pairs ++ ms) (with_joined (with_messages w more) f))
      got.one (settled_ring f whole (λ several. omega (arith, attempt.tries, ap length got.one)) settles.whole.1) in
      record {
        message = λ _. choice ∙ ap (λ n. message_chosen list script slot k (Some n)) (sym number);
        legal = ap (λ n. is_legal_message list script slot k (Some n)) number
            ∙ between (newest_number before) (newest_number (before ++ more)) i (omega (arith, got.low))
            (omega (arith, got.high));
        ring = rw (there.shape_is, settles.settled_is, number) end;
      }

  unfetched : (old : HostState) {pairs : List Message} {f : Option ReaderState} {new : HostState} {c0 c1 : Chosen}
      → IsRingOf (message_shape list k) (words_written list script k slot) pairs old → Fetches None f
      → SettlesFetch len f (after_writes (writes_in script slot) k old) new c0 c1
      → IsNodeChoice list script slot k false pairs new c1
  unfetched old {f = Some f} ring some settles = absurd some
  unfetched old {f = None} ring none settles = grind steps

  pub node_choice : {loaded : Bool} {pairs : List Message} {old new : HostState} {c0 c1 : Chosen}
      → (loaded ≡ true → 1 ≤ len) → IsRingOf (message_shape list k) (words_written list script k slot) pairs old
      → FetchesOne len loaded old (after_writes (writes_in script slot) k old) new c0 c1
      → IsNodeChoice list script slot k loaded pairs new c1
  node_choice {loaded = true} {pairs = pairs} {old = old} some ring by =
      fetched old {f = by.tried} (has_ring list k _ pairs old (some refl) ring) by.fetches by.settles
  node_choice {loaded = false} {old = old} some ring by =
      unfetched old {f = by.tried} ring by.fetches by.settles

pub chosen_sizes : {list : Medl} {script : Script} {numbers : Numbers} {chosen : List Chosen} {ends : List HostState}
    → IsValidScript list script → HaveChosen list script numbers chosen ends
    → AreChosen (next_slot list script numbers) chosen
chosen_sizes {list} {script} {numbers} {chosen} {ends} valid are k node loaded =
    let slot = length numbers in
    let i = (chosen_of chosen k).number in
    let out = out_messages list script k slot in
    let legal : is_legal_message list script slot k (Some i) ≡ true =
    ap (λ b. is_legal_message list script slot k (cond b (Some i) None)) (sym loaded) ∙ are.legal k node in
    let low = nat_le (newest_number (messages_before list script k slot)) i in
    let within : i ≤ newest_number out =
    leb-true i (newest_number out) (and_parts low (nat_le i (newest_number out)) legal).1 in
    ap (λ (c : Chosen). length c.payload) (are.messages k node loaded)
    ∙ message_sizes list script k (suc slot) valid i [] (omega (arith, within, some_message list script k (suc slot)))
