-- One read of a slot after others: which number is legal, and what the floors then tell.
use Rattle.trace_check.proofs.Words.{◌≡◌, ℕ, ◌+◌, ◌*◌, ◌<◌, ◌≤◌, Bool, true, false, ◌&&◌, List, [], ◌∷◌, ◌++◌, length}
use Rattle.trace_check.proofs.Words.{get_or, set, Some, None, inl, inr, refl, ap, sym, ◌∙◌, subst, arith, nat_le}
use Rattle.trace_check.proofs.Words.{AllByRecursion, list_all, mul_comm, and_parts, cases_eq, eq-eqb, false≢true}
use Rattle.trace_check.proofs.Words.{le-leb, leb-true, get_or-set_other, get_or-set_same, mul-add-lt, same_from_place}
use Rattle.trace_check.proofs.Words.{none-some, HostRead, Medl, Chosen, Script, Source, History, ReadMessage}
use Rattle.trace_check.proofs.Words.{is_not_older, newest_read, Incoming, KnowsReads, MayRead, ReadsNone, ReadsOne}
use Rattle.trace_check.proofs.Words.{behind_new_read, behind_read, line_of_read, row_after, HasPlaces, IsHostAndSource}
use Rattle.trace_check.proofs.Words.{floor_of, floor_place, newest_before}
use Rattle.std.proofs.Common.{◌↔◌, ◌||◌, not}
use Rattle.ttp_world.specs.declared.script.Source.TheVariants as source
use Rattle.ttp_world.specs.Legal.{is_same_ring, is_same_source}
use Rattle.trace_check.proofs.Labels.{no_line}
use Rattle.trace_check.proofs.Rings.{after-few, new_read-none, new_read-some}
use Rattle.trace_check.proofs.FromBelow.{label-takes as behind-line}
use Rattle.ttp_world.proofs.LegalReads.{same_read, not_older_if}

-- Where floors are.

offset : Source → ℕ
offset source.Status = 0
offset (source.Node p) = 1 + p

place_is : (nodes host : ℕ) (from : Source) → floor_place nodes host from ≡ host * (nodes + 1) + offset from
unfolding offset
place_is nodes host source.Status = omega arith
place_is nodes host (source.Node p) = omega arith

offset_within : (list : Medl) (host : ℕ) (from : Source) → IsHostAndSource list host from
    → offset from < length list.slots + 1
unfolding offset
offset_within list host source.Status ring = omega arith
offset_within list host (source.Node p) ring = omega (arith, ring.1)

host_within : (list : Medl) (host : ℕ) (from : Source) → IsHostAndSource list host from → host < length list.slots
host_within list host source.Status ring = ring
host_within list host (source.Node p) ring = ring.0

same_offset : (a b : Source) → offset a ≡ offset b → a ≡ b
unfolding offset
same_offset source.Status source.Status same = refl
same_offset source.Status (source.Node p) same = absurd (omega (arith, same))
same_offset (source.Node p) source.Status same = absurd (omega (arith, same))
same_offset (source.Node p) (source.Node q) same = ap source.Node (omega (arith, same))

pub floor_within : (incoming : Incoming) (list : Medl) (host : ℕ) (from : Source) → HasPlaces incoming list
    → IsHostAndSource list host from → floor_place incoming.nodes host from < length incoming.floors.items
floor_within incoming list host from places ring =
    let n = length list.slots in
    subst (λ (m : ℕ). floor_place m host from < length incoming.floors.items) (sym places.nodes)
    (omega (
      arith,
      place_is n host from,
      mul-add-lt host (n + 1) (offset from) n (host_within list host from ring) (offset_within list host from ring),
      mul_comm n (n + 1),
      places.floors,
    ))

floor_same : (list : Medl) (nodes : ℕ) (a b : HostRead) → nodes ≡ length list.slots
    → IsHostAndSource list a.host a.source
    → IsHostAndSource list b.host b.source → floor_place nodes a.host a.source ≡ floor_place nodes b.host b.source
    → a ≡ b
floor_same list nodes a b is ring ring_too same =
    let within : offset a.source < nodes + 1 = omega (arith, offset_within list a.host a.source ring, is) in
    let within_too : offset b.source < nodes + 1 = omega (arith, offset_within list b.host b.source ring_too, is) in
    let both = same_from_place a.host (offset a.source) b.host (offset b.source) (nodes + 1) within within_too
    (sym (place_is nodes a.host a.source) ∙ same ∙ place_is nodes b.host b.source) in
    λ i. record { host = both.0 i; source = same_offset a.source b.source both.1 i }

-- Reads that are not older.

source_refl : (s : Source) → is_same_source s s ≡ true
source_refl source.Status = refl
source_refl (source.Node p) = eq-eqb p p refl

ring_refl : (r : HostRead) → is_same_ring r r ≡ true
ring_refl r = λ i. eq-eqb r.host r.host refl i && source_refl r.source i

older_if : (same : Bool) (old new : ℕ) → same ≡ true → (not same || nat_le old new) ≡ true → old ≤ new
older_if true old new is up = leb-true old new up
older_if false old new is up = absurd (false≢true is)

pub not_older : (r : ReadMessage) (earlier : List ReadMessage)
    → AllByRecursion (λ e. e.read ≡ r.read → e.number ≤ r.number) earlier
    → list_all (is_not_older r) earlier ≡ true
not_older r [] all = refl
not_older r (e ∷ earlier) all =
    let here : is_not_older r e ≡ true =
    not_older_if (is_same_ring r.read e.read) e.number r.number
    (λ same. all.0 (sym (same_read r.read e.read same))) in
    λ i. here i && not_older r earlier all.1 i

told_not_older : (r : ReadMessage) (earlier : List ReadMessage) → list_all (is_not_older r) earlier ≡ true
    → AllByRecursion (λ e. e.read ≡ r.read → e.number ≤ r.number) earlier
told_not_older r [] all = tt
told_not_older r (e ∷ earlier) all =
    let parts = and_parts (is_not_older r e) (list_all (is_not_older r) earlier) all in (
      λ same. older_if (is_same_ring r.read e.read) e.number r.number
          (ap (is_same_ring r.read) same ∙ ring_refl r.read) parts.0,
      told_not_older r earlier parts.1,
    )

-- all reads are up to what there is after the slot
pub up_to_newest : (most : HostRead → ℕ) (read : HostRead) (number : ℕ)
    (earlier : List ReadMessage) → most read ≤ number
    → AllByRecursion (λ r. r.number ≤ most r.read) earlier
    → AllByRecursion (λ e. e.read ≡ read → e.number ≤ number) earlier
up_to_newest most read number [] up all = tt
up_to_newest most read number (e ∷ earlier) up all = (
  λ same. omega (arith, up, all.0, ap most same),
  up_to_newest most read number earlier up all.1,
)

module _ (list : Medl) (script : Script) (history : History) (chosen : List Chosen) (earlier : List ReadMessage)
    (read : HostRead) (old : Incoming) (knows : KnowsReads old list script history chosen earlier)
    (ring : IsHostAndSource list read.host read.source) where
  abbrev older : ℕ
  older = newest_before list script history read

  abbrev newer : ℕ
  newer = newest_before list script (row_after list script history chosen ∷ history) read

  up : newest_before list script history read
      ≤ newest_before list script (row_after list script history chosen ∷ history) read
  up = newest_read list script (row_after list script history chosen) history read.host read.source

  may_read : (number : ℕ) → newest_before list script history read ≤ number
      → number ≤ newest_before list script (row_after list script history chosen ∷ history) read
      → AllByRecursion (λ e. e.read ≡ read → e.number ≤ number) earlier
      → MayRead list script history chosen earlier (record { read = read; number = number })
  may_read number low high all = record {
    between = λ i. le-leb older number low i && le-leb number newer high i;
    not_older = not_older (record { read = read; number = number }) earlier all;
  }

  -- the message from before the slot
  pub reads-older : (text rest : List ℕ) → floor_of old read.host read.source ≤ newest_before list script history read
      → behind_read list script history chosen read (newest_before list script history read) text ≡ Some rest
      → ReadsOne list script history chosen earlier read old text rest
  reads-older text rest low behind =
      let r : ReadMessage = record { read = read; number = newest_before list script history read } in
      record {
        number = newest_before list script history read;
        legal = may_read older (omega arith) up ((knows.newer read ring).0 low);
        begins = behind-line (line_of_read list script history chosen r) text rest behind;
        knows = record {
          newer = λ other ring_too. (
            λ less. (
              λ same. omega (arith, ap (newest_before list script history) same),
              (knows.newer other ring_too).0 less,
            ),
            λ all. (knows.newer other ring_too).1 all.1,
          );
          up_to = (up, knows.up_to);
          within = knows.within;
        };
      }

  -- no legal number gives a line with which the text begins
  pub reads-none : (text : List ℕ)
      → (floor_of old read.host read.source ≤ newest_before list script history read
      → behind_read list script history chosen read (newest_before list script history read) text ≡ None)
      → behind_new_read list script history chosen read text ≡ None
      → ReadsNone list script history chosen earlier read text text
  reads-none text no_older no_newer = record {
    same = refl;
    wrong = λ number more legal.
        let parts = and_parts (nat_le older number) (nat_le number newer) legal.between in
        let low = leb-true older number parts.0 in
        let high = leb-true number newer parts.1 in
        let line = λ (n : ℕ). line_of_read list script history chosen (record { read = read; number = n }) in
        let all = told_not_older (record { read = read; number = number }) earlier legal.not_older in
        elim (cases_eq number older) as (λ _. ¬ (text ≡ line number ++ more)) [
          | inl is ↦
              let up_to_older = subst (λ (n : ℕ). AllByRecursion (λ e. e.read ≡ read → e.number ≤ n) earlier) is all in
              subst (λ (n : ℕ). ¬ (text ≡ line n ++ more)) (sym is)
              (no_line (line older) text (no_older ((knows.newer read ring).1 up_to_older)) more)
          | inr is ↦
              let next : number ≡ older + 1 =
              omega (
                arith,
                low,
                high,
                is,
                after-few list script (row_after list script history chosen) history read,
              ) in
              let there : older < newer = omega (arith, next, high) in
              subst (λ (n : ℕ). ¬ (text ≡ line n ++ more)) (sym next)
              (no_line (line (older + 1)) text
              (sym (new_read-some list script history chosen read text there) ∙ no_newer) more)
        ];
  }

  -- a message is new where a line of it is found
  pub found-newer : (text rest : List ℕ) → behind_new_read list script history chosen read text ≡ Some rest
      → newest_before list script history read
      < newest_before list script (row_after list script history chosen ∷ history) read
  found-newer text rest found =
      elim (cases_eq older newer) as (λ _. older < newer) [
        | inl same ↦
            absurd (none-some rest
            (sym (new_read-none list script history chosen read text (omega (arith, same))) ∙ found))
        | inr other ↦ omega (arith, up, other)
      ]

  module _ (new : Incoming) (places : HasPlaces old list) (nodes : new.nodes ≡ old.nodes)
      (floors : new.floors.items
      ≡ set old.floors.items (floor_place old.nodes read.host read.source) (newest_before list script history read + 1))
    where
      abbrev place : HostRead → ℕ
      place r = floor_place old.nodes r.host r.source

      floor_here : (other : HostRead)
          → floor_place old.nodes other.host other.source ≡ floor_place old.nodes read.host read.source
          → floor_of new other.host other.source ≡ newest_before list script history read + 1
      floor_here other same =
          ap (λ (m : ℕ). get_or new.floors.items (floor_place m other.host other.source) 0) nodes
          ∙ (λ i. get_or (floors i) (same i) 0)
          ∙ get_or-set_same old.floors.items (place read) (older + 1) 0
          (floor_within old list read.host read.source places ring)

      floor_there : (other : HostRead)
          → (floor_place old.nodes other.host other.source ≡ floor_place old.nodes read.host read.source → ⊥)
          → floor_of new other.host other.source ≡ floor_of old other.host other.source
      floor_there other apart =
          ap (λ (m : ℕ). get_or new.floors.items (floor_place m other.host other.source) 0) nodes
          ∙ ap (λ (fs : List ℕ). get_or fs (place other) 0) floors
          ∙ get_or-set_other old.floors.items (place read) (place other) (older + 1) 0 apart

      same_floor : (other : HostRead) → IsHostAndSource list other.host other.source
          → floor_place old.nodes other.host other.source ≡ floor_place old.nodes read.host read.source → other ≡ read
      same_floor other ring_too same = floor_same list old.nodes other read places.nodes ring_too ring same

      newer_than : (other : HostRead) → IsHostAndSource list other.host other.source
          → (floor_of new other.host other.source ≤ newest_before list script history other)
          ↔ AllByRecursion (λ r. r.read ≡ other → r.number ≤ newest_before list script history other)
          (record { read = read; number = newest_before list script history read + 1 } ∷ earlier)
      newer_than other ring_too =
          elim (cases_eq (place other) (place read)) as (λ _.
          (floor_of new other.host other.source ≤ newest_before list script history other)
          ↔ AllByRecursion (λ r. r.read ≡ other → r.number ≤ newest_before list script history other)
          (record { read = read; number = newest_before list script history read + 1 } ∷ earlier)) [
            | inl same ↦
                let is = same_floor other ring_too same in
                let equal : newest_before list script history other ≡ older =
                ap (newest_before list script history) is in (
                  λ less. absurd (omega (arith, less, floor_here other same, equal)),
                  λ all. absurd (omega (arith, all.0 (sym is), equal)),
                )
            | inr apart ↦
                let same = floor_there other apart in (
                  λ less. (
                    λ is. absurd (apart (ap (λ (r : HostRead). floor_place old.nodes r.host r.source) (sym is))),
                    (knows.newer other ring_too).0 (omega (arith, less, same)),
                  ),
                  λ all. let low = (knows.newer other ring_too).1 all.1 in omega (arith, low, same),
                )
          ]

      -- the message that is new in the slot
      pub reads-newer : (text rest : List ℕ) → behind_new_read list script history chosen read text ≡ Some rest
          → ReadsOne list script history chosen earlier read new text rest
      reads-newer text rest found =
          let there = found-newer text rest found in
          let few = after-few list script (row_after list script history chosen) history read in
          let most = newest_before list script (row_after list script history chosen ∷ history) in
          let r : ReadMessage = record { read = read; number = newest_before list script history read + 1 } in
          record {
            number = newest_before list script history read + 1;
            legal = may_read (older + 1) (omega arith) (omega (arith, there))
                (up_to_newest most read (older + 1) earlier few knows.up_to);
            begins = behind-line (line_of_read list script history chosen r) text rest
                (sym (new_read-some list script history chosen read text there) ∙ found);
            knows = record {
              newer = newer_than;
              up_to = (omega (arith, there), knows.up_to);
              within = λ host from ring_too.
                  let other : HostRead = record { host = host; source = from } in
                  elim (cases_eq (place other) (place read)) as (λ _. floor_of new host from ≤ most other) [
                    | inl same ↦
                        omega (
                          arith,
                          floor_here other same,
                          there,
                          ap most (same_floor other ring_too same),
                        )
                    | inr apart ↦ omega (arith, floor_there other apart, knows.within host from ring_too)
                  ];
            };
          }
