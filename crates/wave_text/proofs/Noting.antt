-- Loops over lines of hosts, which take them into a table.
use Rattle.wave_text.proofs.Words.{◌≡◌, ℕ, ◌+◌, ◌<◌, List, [], ◌∷◌, ◌++◌, Option, None, length, get_or, set, sym, ap}
use Rattle.wave_text.proofs.Words.{subst, ◌∙◌, arith, inl, inr, append_assoc, length-set, slice_get, All, flat_map}
use Rattle.wave_text.proofs.Words.{eqb_tells, append-nil, HostLine, SlotLines, Message, Port, What, HasMost, HasNewest}
use Rattle.wave_text.proofs.Words.{HasPlace, table_place, HasLetters}
use Rattle.std.proofs.lemmas.List.Concat.{flat_map-append}
use Rattle.wave_text.proofs.Tables.{place-lt, set_elsewhere}
use Rattle.wave_text.specs.declared.place.TheConstants.{PLACES}
use Rattle.ttp_world.proofs.ListFacts.{slice_get-set_same as set_there, at_any as same_item}

-- Messages.

-- of the lines of hosts these are left, and those before them are in the table
pub record AreNoted (ports : List Port) (messages : List (Option Message)) (all left : List HostLine) : Type 0 where
  pub done : List HostLine
  pub whole : done ++ left ≡ all
  pub size : length messages ≡ PLACES
  pub newest : All (λ port. HasNewest messages done port.host port.what) ports

-- in the table stands no message of so many ports
pub record AreCleared (ports : List Port) (messages : List (Option Message)) (count : ℕ) : Type 0 where
  pub size : length messages ≡ PLACES
  pub none : (i : ℕ) (d : Port) → i < count → i < length ports
      → HasNewest messages [] (get_or ports i d).host (get_or ports i d).what

pub noted-more : (ports : List Port) (before after : List (Option Message))
    (all left : List HostLine) (shown : HostLine)
    → AreNoted ports before all (shown ∷ left) → All HasLetters ports → length after ≡ PLACES
    → ((k : ℕ) (does : What) (lines : List HostLine) → HasPlace k does → HasNewest before lines k does
    → HasNewest after (lines ++ shown ∷ []) k does)
    → AreNoted ports after all left
noted-more ports before after all left shown known letters size step = record {
  done = known.done ++ shown ∷ [];
  whole = append_assoc known.done (shown ∷ []) left ∙ known.whole;
  size = size;
  newest = λ i d less.
      step (get_or ports i d).host (get_or ports i d).what known.done (letters i d less) (known.newest i d less);
}

pub cleared-more : (ports : List Port) (messages : List (Option Message)) (i : ℕ) (e : Port) → i < length ports
    → HasLetters (get_or ports i e) → AreCleared ports messages i
    → AreCleared ports (set messages (table_place (get_or ports i e).host (get_or ports i e).what) None) (i + 1)
cleared-more ports messages i e less has known =
    let port = get_or ports i e in
    let at = table_place port.host port.what in record {
      size = omega (arith, length-set messages at None, known.size);
      none = λ j d below within.
          (let there = get_or ports j d in
          elim (eqb_tells (table_place there.host there.what) at) [
            | inl same ↦
                (ap (λ (k : ℕ). slice_get (set messages at None) k) same.1
                ∙ set_there messages at None (omega (arith, known.size, place-lt port.host port.what has)))
            | inr other ↦
                (elim (eqb_tells j i) [
                  | inl last ↦
                      (let same : there ≡ port =
                      ap (λ (k : ℕ). get_or ports k d) last.1 ∙ same_item ports i d e less in
                      absurd (other.1 (ap (λ (p : Port). table_place p.host p.what) same)))
                  | inr earlier ↦
                      set_elsewhere messages at (table_place there.host there.what) None None other.1
                      (known.none j d (omega (arith, earlier.1, below)) within)
                ])
          ]);
    }

-- Sizes.

-- of the lines of hosts these are left, and those before them are in the table beside what was there
pub record AreTaken (before sizes : List (Option ℕ)) (all left : List HostLine) : Type 0 where
  pub done : List HostLine
  pub whole : done ++ left ≡ all
  pub size : length sizes ≡ PLACES
  pub most : (k : ℕ) (does : What) (lines : List HostLine) → HasPlace k does → HasMost before lines k does
      → HasMost sizes (lines ++ done) k does

-- of the slots of a trace these are left, and what hosts did in those before them is in the table
pub record AreSlotsTaken (sizes : List (Option ℕ)) (all left : List SlotLines) : Type 0 where
  pub done : List SlotLines
  pub whole : done ++ left ≡ all
  pub size : length sizes ≡ PLACES
  pub most : (k : ℕ) (does : What) → HasPlace k does → HasMost sizes (flat_map (λ slot. slot.hosts) done) k does

pub taken-more : (before sizes after : List (Option ℕ)) (all left : List HostLine) (shown : HostLine)
    → AreTaken before sizes all (shown ∷ left) → length after ≡ PLACES
    → ((k : ℕ) (does : What) (lines : List HostLine) → HasPlace k does → HasMost sizes lines k does
    → HasMost after (lines ++ shown ∷ []) k does)
    → AreTaken before after all left
taken-more before sizes after all left shown known size step = record {
  done = known.done ++ shown ∷ [];
  whole = append_assoc known.done (shown ∷ []) left ∙ known.whole;
  size = size;
  most = λ k does lines has is.
      subst (λ (ls : List HostLine). HasMost after ls k does) (append_assoc lines known.done (shown ∷ []))
      (step k does (lines ++ known.done) has (known.most k does lines has is));
}

pub slots-taken-more : (sizes after : List (Option ℕ)) (all left : List SlotLines) (slot : SlotLines)
    → AreSlotsTaken sizes all (slot ∷ left) → length after ≡ PLACES
    → ((k : ℕ) (does : What) (lines : List HostLine) → HasPlace k does → HasMost sizes lines k does
    → HasMost after (lines ++ slot.hosts) k does)
    → AreSlotsTaken after all left
slots-taken-more sizes after all left slot known size step =
    let hosts : SlotLines → List HostLine = (λ (s : SlotLines). s.hosts) in record {
      done = known.done ++ slot ∷ [];
      whole = append_assoc known.done (slot ∷ []) left ∙ known.whole;
      size = size;
      most = λ k does has.
          subst (λ (ls : List HostLine). HasMost after ls k does)
          (ap (λ (ls : List HostLine). flat_map hosts known.done ++ ls) (sym (append-nil slot.hosts))
          ∙ sym (flat_map-append hosts known.done (slot ∷ [])))
          (step k does (flat_map hosts known.done) has (known.most k does has));
    }
