-- The reads of legal numbers: none got a message past its ring's newest, and none of the same ring falls.
use Rattle.ttp_world.proofs.Words.{◌≡◌, ℕ, ◌≤◌, Bool, true, false, ◌||◌, not, List, [], ◌∷◌, length, refl, ap, sym}
use Rattle.ttp_world.proofs.Words.{subst, arith, ◌==◌, nat_le, reverse, AllByRecursion, list_all, and_parts, eqb-true}
use Rattle.ttp_world.proofs.Words.{false≢true, le-leb, leb-true, Medl, Entry, Script, Source, History, ReadMessage}
use Rattle.ttp_world.proofs.Words.{read_messages, is_legal_read, are_legal_slots, is_same_ring, all_reads}
use Rattle.ttp_world.proofs.Words.{ring_messages, newest_number, reads_in, Numbers, world}
use Rattle.std.proofs.lemmas.Grind.{reverse_onto}
use Rattle.ttp_world.specs.declared.script.Source.TheVariants as source
use Rattle.ttp_world.specs.Legal.{is_same_source}
use Rattle.ttp_world.specs.declared.host_lines.HostRead.{HostRead}
use Rattle.ttp_world.proofs.LegalShapes.{are_legal_slots-parts}
use Rattle.ttp_world.proofs.LineLists.{each-append}
use Rattle.ttp_world.proofs.Rings.{newest_read}
use Rattle.ttp_world.proofs.Worlds.{row_of_world, length-world}

-- the number of the newest message of a ring in a history
abbrev pub newest_of : Medl → Script → History → HostRead → ℕ
newest_of list script history read = newest_number (ring_messages list script history read.host read.source)

-- Reads that got no message past a limit, and no message below one.

abbrev pub AreUpTo : (HostRead → ℕ) → List ReadMessage → Type 0
AreUpTo most rs = AllByRecursion (λ r. r.number ≤ most r.read) rs

abbrev pub AreFrom : (HostRead → ℕ) → List ReadMessage → Type 0
AreFrom least rs = AllByRecursion (λ r. least r.read ≤ r.number) rs

pub reverse-all : {X : Type 0} (P : X → Type 0) (xs : List X) → AllByRecursion P xs → AllByRecursion P (reverse xs)
reverse-all P [] p = tt
reverse-all P (x ∷ xs) p =
    subst (AllByRecursion P) (sym (reverse_onto xs x []))
    (each-append P (reverse xs) (x ∷ []) (reverse-all P xs p.1) (p.0, tt))

-- Legal reads lie between the ring's newest messages before the slot and after it.

pub record AreBetween (list : Medl) (script : Script) (before after : History) (rs : List ReadMessage) : Type 0 where
  pub from : AreFrom (newest_of list script before) rs
  pub up_to : AreUpTo (newest_of list script after) rs

pub between : (list : Medl) (script : Script) (before after : History) (rs : List ReadMessage)
    → list_all (is_legal_read list script before after) rs ≡ true → AreBetween list script before after rs
between list script before after [] legal = record { from = tt; up_to = tt }
between list script before after (r ∷ rs) legal =
    let parts = and_parts (is_legal_read list script before after r) _ legal in
    let sides = and_parts (nat_le (newest_of list script before r.read) r.number)
    (nat_le r.number (newest_of list script after r.read)) parts.0 in
    let rest = between list script before after rs parts.1 in
    record {
      from = (leb-true (newest_of list script before r.read) r.number sides.0, rest.from);
      up_to = (leb-true r.number (newest_of list script after r.read) sides.1, rest.up_to);
    }

-- No read of legal numbers got a message past its ring's newest.

pub up_to-next : (list : Medl) (script : Script) (row : List Entry) (history : History) (rs : List ReadMessage)
    → AreUpTo (newest_of list script history) rs → AreUpTo (newest_of list script (row ∷ history)) rs
up_to-next list script row history [] up = tt
up_to-next list script row history (r ∷ rs) up = (
  omega (arith, up.0, newest_read list script row history r.read.host r.read.source),
  up_to-next list script row history rs up.1,
)

pub reads-up_to : (list : Medl) (script : Script) (numbers : Numbers)
    → are_legal_slots list script (world list script numbers) numbers ≡ true
    → AreUpTo (newest_of list script (world list script numbers)) (all_reads script numbers)
reads-up_to list script [] legal = tt
reads-up_to list script (new ∷ numbers) legal =
    let before = world list script numbers in
    let after = world list script (new ∷ numbers) in
    let parts = are_legal_slots-parts list script new numbers legal in
    let rs = λ (slot : ℕ). read_messages (reads_in script slot) new.read in
    let here = (between list script before after (rs (length before))
    (and_parts (length (reads_in script (length before)) == length new.read)
    (list_all (is_legal_read list script before after) (rs (length before))) parts.reads).1).up_to in
    each-append (λ r. r.number ≤ newest_of list script after r.read) (reverse (rs (length numbers)))
    (all_reads script numbers)
    (reverse-all (λ r. r.number ≤ newest_of list script after r.read) (rs (length numbers))
    (subst (λ slot. AreUpTo (newest_of list script after) (rs slot)) (length-world list script numbers) here))
    (up_to-next list script (row_of_world list script new numbers) before (all_reads script numbers)
    (reads-up_to list script numbers parts.older))

-- Reads of one ring.

pub same_source : (a b : Source) → is_same_source a b ≡ true → a ≡ b
same_source source.Status source.Status is = refl
same_source source.Status (source.Node k) is = absurd (false≢true is)
same_source (source.Node j) source.Status is = absurd (false≢true is)
same_source (source.Node j) (source.Node k) is = ap source.Node (eqb-true j k is)

pub same_read : (a b : HostRead) → is_same_ring a b ≡ true → a ≡ b
same_read a b is =
    let parts = and_parts (a.host == b.host) (is_same_source a.source b.source) is in
    λ i. record { host = eqb-true a.host b.host parts.0 i; source = same_source a.source b.source parts.1 i }

pub not_older_if : (same : Bool) (old new : ℕ) → (same ≡ true → old ≤ new) → (not same || nat_le old new) ≡ true
not_older_if true old new up = le-leb old new (up refl)
not_older_if false old new up = refl
