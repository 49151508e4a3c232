-- The reads of a slot, one after another.
use Rattle.trace_check.proofs.Words.{◌≡◌, ℕ, zero, suc, ◌+◌, ◌*◌, List, [], ◌∷◌, ◌++◌, length, Some, refl, ap, sym, ◌∙◌}
use Rattle.trace_check.proofs.Words.{subst, arith, append_assoc, length-append, map, reverse, slice_get, AllByRecursion}
use Rattle.trace_check.proofs.Words.{reverse_onto, map-append, none-some, same_Some, slice_get_within, Lines, HostRead}
use Rattle.trace_check.proofs.Words.{Medl, Chosen, Script, Source, History, ReadMessage, read_messages, IsValidScript}
use Rattle.trace_check.proofs.Words.{reads_in, newest_read, PlantView, Incoming, BeginsWith, HasEnded, IsPast}
use Rattle.trace_check.proofs.Words.{KnowsReads, MayRead, MayReadAll, ReadsAmiss, ReadsNone, ReadsOn, ReadsOne}
use Rattle.trace_check.proofs.Words.{line_of_read, row_after, AreFloorsWithin, HasPlaces, IsHostAndSource, TellsRings}
use Rattle.std.proofs.Common.{append-nil}
use Rattle.ttp_world.specs.declared.script.Source.TheVariants as source
use Rattle.ttp_world.proofs.HostPayloads.{IsReadOf, reads_of_valid}
use Rattle.trace_check.specs.Incoming.{HaveSameMessages}
use Rattle.trace_check.proofs.Begun.{begins-more}

-- Each read of a valid script is of a ring.

ring_of_read : (list : Medl) (host : ℕ) (from : Source) → IsReadOf list host from → IsHostAndSource list host from
ring_of_read list host source.Status is = is.0
ring_of_read list host (source.Node p) is = (is.0, is.1.0)

ring_in : (list : Medl) (reads : List HostRead) (i : ℕ) (read : HostRead)
    → AllByRecursion (λ (r : HostRead). IsReadOf list r.host r.source) reads → slice_get reads i ≡ Some read
    → IsHostAndSource list read.host read.source
ring_in list [] i read all is = absurd (none-some read is)
ring_in list (r ∷ reads) zero read all is =
    subst (λ (s : HostRead). IsHostAndSource list s.host s.source) (same_Some r read is)
    (ring_of_read list r.host r.source all.0)
ring_in list (r ∷ reads) (suc i) read all is = ring_in list reads i read all.1 is

pub ring_of_script : (list : Medl) (script : Script) (slot i : ℕ) (read : HostRead) → IsValidScript list script
    → slice_get (reads_in script slot) i ≡ Some read → IsHostAndSource list read.host read.source
ring_of_script list script slot i read valid is =
    ring_in list (reads_in script slot) i read (reads_of_valid list script slot valid) is

-- What is kept where only floors change.

places-same : (old new : Incoming) (list : Medl) → HaveSameMessages old new → HasPlaces old list → HasPlaces new list
places-same old new list same places = record {
  nodes = same.nodes ∙ places.nodes;
  few = places.few;
  payloads = ap (λ v. length v.items) same.payloads ∙ places.payloads;
  statuses = ap (λ v. length v.items) same.statuses ∙ places.statuses;
  floors = same.floor_count ∙ places.floors;
}

pub tells-same : (old new : Incoming) (list : Medl) (script : Script) (history : History) → HaveSameMessages old new
    → TellsRings old list script history → TellsRings new list script history
tells-same old new list script history same tells = record {
  places = places-same old new list same tells.places;
  payloads = λ k p node sender message at.
      tells.payloads k p node sender message
      ((λ i. slice_get (sym same.payloads i).items (k * sym same.nodes i + p)) ∙ at);
  statuses = λ k node. ap (λ v. slice_get v.items k) same.statuses ∙ tells.statuses k node;
}

pub ended-same : (plant : PlantView) (old new : Incoming) (list : Medl) (script : Script) (history : History)
    (chosen : List Chosen)
    → HaveSameMessages old new → HasEnded plant old list script history chosen
    → HasEnded plant new list script history chosen
ended-same plant old new list script history chosen same ended = record {
  same = ended.same;
  step = ended.step;
  of_hosts = ended.of_hosts;
  senders = ended.senders;
  rings = tells-same old new list script history same ended.rings;
}

pub past-same : (plant : PlantView) (old new : Incoming) (list : Medl) (slot : ℕ) → HaveSameMessages old new
    → IsPast plant old list slot → IsPast plant new list slot
past-same plant old new list slot same past = record {
  script = past.script;
  history = past.history;
  chosen = past.chosen;
  few = past.few;
  small = past.small;
  ended = ended-same plant old new list past.script past.history past.chosen same past.ended;
}

pub same-twice : (a b c : Incoming) → HaveSameMessages a b → HaveSameMessages b c → HaveSameMessages a c
same-twice a b c one two = record {
  nodes = two.nodes ∙ one.nodes;
  payloads = two.payloads ∙ one.payloads;
  statuses = two.statuses ∙ one.statuses;
  floor_count = two.floor_count ∙ one.floor_count;
}

-- Numbers of the first reads.

read_messages-none : (reads : List HostRead) → read_messages reads [] ≡ []
read_messages-none [] = refl
read_messages-none (r ∷ reads) = refl

messages-more : (reads : List HostRead) (numbers : List ℕ) (number : ℕ) (read : HostRead)
    → slice_get reads (length numbers) ≡ Some read
    → read_messages reads (numbers ++ number ∷ [])
    ≡ read_messages reads numbers ++ (record { read = read; number = number }) ∷ []
messages-more [] numbers number read is = absurd (none-some read is)
messages-more (r ∷ reads) [] number read is =
    ap (λ (rs : List ReadMessage). (record { read = r; number = number }) ∷ rs) (read_messages-none reads)
    ∙ (λ i. (record { read = same_Some r read is i; number = number }) ∷ [])
messages-more (r ∷ reads) (m ∷ numbers) number read is =
    ap (λ (rs : List ReadMessage). (record { read = r; number = m }) ∷ rs)
    (messages-more reads numbers number read is)

reverse-more : (rs : List ReadMessage) (r : ReadMessage) → reverse (rs ++ r ∷ []) ≡ r ∷ reverse rs
reverse-more [] r = refl
reverse-more (s ∷ rs) r =
    reverse_onto (rs ++ r ∷ []) s []
    ∙ ap (λ (back : List ReadMessage). back ++ s ∷ []) (reverse-more rs r)
    ∙ ap (λ (back : List ReadMessage). r ∷ back) (sym (reverse_onto rs s []))

module _ (list : Medl) (script : Script) (history : History) (chosen : List Chosen) where
  may_read-more : (earlier rs : List ReadMessage) (r : ReadMessage)
      → MayReadAll list script history chosen earlier rs
      → MayRead list script history chosen (reverse rs ++ earlier) r
      → MayReadAll list script history chosen earlier (rs ++ r ∷ [])
  may_read-more earlier [] r all may = (may, tt)
  may_read-more earlier (s ∷ rs) r all may = (
    all.0,
    may_read-more (s ∷ earlier) rs r all.1
        (subst (λ (before : List ReadMessage). MayRead list script history chosen before r)
        (ap (λ (back : List ReadMessage). back ++ earlier) (reverse_onto rs s [])
        ∙ append_assoc (reverse rs) (s ∷ []) earlier) may),
  )

  -- a text begins with the lines of the first reads, by legal numbers, and the floors are known
  pub record HasReadSoFar (incoming : Incoming) (reads : List HostRead) (text rest : List ℕ) (count : ℕ) : Type 0 where
    pub numbers : List ℕ
    pub many : length numbers ≡ count
    pub legal : MayReadAll list script history chosen [] (read_messages reads numbers)
    pub knows : KnowsReads incoming list script history chosen (reverse (read_messages reads numbers))
    pub begins : BeginsWith text (map (line_of_read list script history chosen) (read_messages reads numbers)) rest

  pub read-none : (incoming : Incoming) (reads : List HostRead) (text : List ℕ)
      → AreFloorsWithin incoming list script history → HasReadSoFar incoming reads text text 0
  read-none incoming reads text within =
      let none = sym (read_messages-none reads) in
      record {
        numbers = [];
        many = refl;
        legal = subst (MayReadAll list script history chosen []) none tt;
        knows =
            subst (λ (rs : List ReadMessage). KnowsReads incoming list script history chosen (reverse rs)) none
            (record {
              newer = λ read ring. (λ low. tt, λ all. within read.host read.source ring);
              up_to = tt;
              within = λ host from ring.
                  omega (
                    arith,
                    within host from ring,
                    newest_read list script (row_after list script history chosen) history host from,
                  );
            });
        begins =
            subst (λ (rs : List ReadMessage). BeginsWith text
            (map (line_of_read list script history chosen) rs) text) none
            refl;
      }

  module _ (incoming : Incoming) (reads : List HostRead) (text rest : List ℕ) (i : ℕ) (read : HostRead)
      (so_far : HasReadSoFar incoming reads text rest i) (at : slice_get reads i ≡ Some read) where
    at-next : slice_get reads (length so_far.numbers) ≡ Some read
    at-next = ap (slice_get reads) so_far.many ∙ at

    pub read-next : (new : Incoming) (more : List ℕ)
        → ReadsOne list script history chosen (reverse (read_messages reads so_far.numbers)) read new rest more
        → HasReadSoFar new reads text more (i + 1)
    read-next new more one =
        let rs = read_messages reads so_far.numbers in
        let r : ReadMessage = record { read = read; number = one.number } in
        let next = sym (messages-more reads so_far.numbers one.number read at-next) in
        record {
          numbers = so_far.numbers ++ one.number ∷ [];
          many = omega (arith, length-append so_far.numbers (one.number ∷ []), so_far.many);
          legal =
              subst (MayReadAll list script history chosen []) next
              (may_read-more [] rs r so_far.legal
              (subst (λ (before : List ReadMessage). MayRead list script history chosen before r)
              (sym (append-nil (reverse rs))) one.legal));
          knows =
              subst (KnowsReads new list script history chosen) (sym (reverse-more rs r) ∙ ap reverse next) one.knows;
          begins =
              subst (λ (lines : Lines). BeginsWith text lines more)
              (sym (map-append (line_of_read list script history chosen) rs (r ∷ []))
              ∙ ap (map (line_of_read list script history chosen)) next)
              (begins-more text rest (line_of_read list script history chosen r) more
              (map (line_of_read list script history chosen) rs) so_far.begins one.begins);
        }

    pub read-amiss : (wrong : List ℕ)
        → ReadsNone list script history chosen (reverse (read_messages reads so_far.numbers)) read rest wrong
        → ReadsAmiss list script history chosen reads text wrong
    read-amiss wrong none = record {
      numbers = so_far.numbers;
      within = omega (arith, slice_get_within reads i read at, so_far.many);
      legal = so_far.legal;
      begins =
          subst (BeginsWith text (map (line_of_read list script history chosen) (read_messages reads so_far.numbers)))
          (sym none.same) so_far.begins;
      wrong = λ other number more there may is.
          let same : read ≡ other = same_Some read other (sym at-next ∙ there) in
          none.wrong number more
          (subst (λ (s : HostRead). MayRead list script history chosen
          (reverse (read_messages reads so_far.numbers)) (record { read = s; number = number })) (sym same) may)
          (sym none.same ∙ is
          ∙ ap (λ (s : HostRead). line_of_read list script history chosen
          (record { read = s; number = number }) ++ more)
          (sym same));
    }

  pub read-all : (incoming : Incoming) (reads : List HostRead) (text rest : List ℕ)
      → HasReadSoFar incoming reads text rest (length reads) → ReadsOn list script history chosen reads text rest
  read-all incoming reads text rest so_far = record {
    numbers = so_far.numbers;
    count = so_far.many;
    legal = so_far.legal;
    begins = so_far.begins;
  }

-- What a loop over reads keeps, whichever history the plant stands for.
pub record HaveRead (plant : PlantView) (first incoming : Incoming) (list : Medl) (script : Script)
    (reads : List HostRead) (text rest : List ℕ) (count : ℕ) : Type 0 where
  pub same : HaveSameMessages first incoming
  pub so_far : (history : History) (chosen : List Chosen) → HasEnded plant first list script history chosen
      → AreFloorsWithin first list script history
      → HasReadSoFar list script history chosen incoming reads text rest count
