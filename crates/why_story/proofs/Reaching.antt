-- The pass back in which entries are told.
use Rattle.std.proofs.Common.{◌≡◌, ℕ, ◌+◌, ◌<◌, ◌==◌, Bool, true, false, List, [], ◌∷◌, ◌++◌, length}
use Rattle.std.proofs.Common.{ap, sym, ◌∙◌, refl, append_assoc, add-one, subst}
use Rattle.std.proofs.lemmas.List.{append-nil}
use Rattle.std.specs.Prelude.{if◌then◌else◌}
use Rattle.causes.specs.Causes.{cause_at}
use Rattle.causes.specs.Members.{entry_at_spot}
use Rattle.causes.specs.RunSlots.{RunSlots}
use Rattle.causes.specs.Story.{has_spot, rank_of_entry, reached, spots_back, told_spot}
use Rattle.causes.specs.declared.cause.Spot.{Spot}
use Rattle.causes.specs.declared.cause.Told.{Told}
use Rattle.why_story.specs.Marks.{AreMarked}
use Rattle.why_story.specs.Passes.{Reaches, of_rank, rank_back, slot_back}
use Rattle.why_story.specs.RunSource.{RunSource, source_slots, slots_up_to, spot_at}
use Rattle.why_story.specs.declared.reach.Reach.{Reach}
use Rattle.why_story.proofs.Steps.{reached-no, reached-yes}
use Rattle.why_story.proofs.Slots.{slots_up_to-none, spots_back-next}

-- Passes in pieces.

pub Reaches-none : (run : RunSlots) (count : ℕ) (marked spots : List Spot) (now : Reach)
    → AreMarked count marked now.marks
    → Reaches run count now.told marked spots spots now
Reaches-none run count marked spots now marks = record { marked_now = marked; marks = marks; told = λ older. refl }

-- what is left begins with a piece, which is gone over
pub Reaches-piece : (run : RunSlots) (count : ℕ) (before : List Told)
    (marked spots left piece more : List Spot) (old new : Reach)
    → Reaches run count before marked spots left old → left ≡ piece ++ more
    → ((m : List Spot) → AreMarked count m old.marks → Reaches run count old.told m piece [] new)
    → Reaches run count before marked spots more new
Reaches-piece run count before marked spots left piece more old new first cut goes =
    let second = goes first.marked_now first.marks in record {
      marked_now = second.marked_now;
      marks = second.marks;
      told = λ older.
          first.told older
          ∙ (ap (λ (l : List Spot). old.told ++ reached run first.marked_now (l ++ older)) cut
          ∙ (ap (λ (l : List Spot). old.told ++ reached run first.marked_now l) (append_assoc piece more older)
          ∙ second.told (more ++ older)));
    }

-- One entry.

-- one that is not marked, or of another rank
unmarked : (run : RunSlots) (marked : List Spot) (s : Spot) (older : List Spot) (b : Bool) → has_spot marked s ≡ false
    → reached run marked ((if b then s ∷ [] else []) ++ older) ≡ reached run marked older
unmarked run marked s older true none = reached-no run marked s older none
unmarked run marked s older false none = refl

pub Reaches-unmarked : (run : RunSlots) (count rank : ℕ) (marked : List Spot) (s : Spot) (now : Reach)
    → AreMarked count marked now.marks → has_spot marked s ≡ false
    → Reaches run count now.told marked (of_rank run rank s) [] now
Reaches-unmarked run count rank marked s now marks none = record {
  marked_now = marked;
  marks = marks;
  told = λ older.
      ap (λ (told : List Told). now.told ++ told)
      (unmarked run marked s older (rank_of_entry (entry_at_spot run s) == rank) none);
}

other_rank : (run : RunSlots) (marked : List Spot) (s : Spot) (older : List Spot) (b : Bool) → b ≡ false
    → reached run marked ((if b then s ∷ [] else []) ++ older) ≡ reached run marked older
other_rank run marked s older b is = ap (λ (x : Bool). reached run marked ((if x then s ∷ [] else []) ++ older)) is

pub Reaches-other : (run : RunSlots) (count rank : ℕ) (marked : List Spot) (s : Spot) (now : Reach)
    → AreMarked count marked now.marks → (rank_of_entry (entry_at_spot run s) == rank) ≡ false
    → Reaches run count now.told marked (of_rank run rank s) [] now
Reaches-other run count rank marked s now marks other = record {
  marked_now = marked;
  marks = marks;
  told = λ older.
      ap (λ (told : List Told). now.told ++ told)
      (other_rank run marked s older (rank_of_entry (entry_at_spot run s) == rank) other);
}

-- What is told from spot s on, where s is marked and is told itself.
told_here : (run : RunSlots) (before : List Told) (marked : List Spot) (s : Spot)
    (older : List Spot) (b : Bool) → b ≡ true
    → has_spot marked s ≡ true
    → before ++ reached run marked ((if b then s ∷ [] else []) ++ older)
    ≡ (before ++ told_spot run s ∷ []) ++ reached run ((cause_at run s).entries ++ marked) older
told_here run before marked s older b is here =
    let others = reached run ((cause_at run s).entries ++ marked) older in
    ap (λ (x : Bool). before ++ reached run marked ((if x then s ∷ [] else []) ++ older)) is
    ∙ (ap (λ (t : List Told). before ++ t) (reached-yes run marked s older here)
    ∙ sym (append_assoc before (told_spot run s ∷ []) others))

pub Reaches-told : (run : RunSlots) (count rank : ℕ) (marked : List Spot) (s : Spot) (old new : Reach)
    → has_spot marked s ≡ true → (rank_of_entry (entry_at_spot run s) == rank) ≡ true
    → AreMarked count ((cause_at run s).entries ++ marked) new.marks
    → new.told ≡ old.told ++ told_spot run s ∷ []
    → Reaches run count old.told marked (of_rank run rank s) [] new
Reaches-told run count rank marked s old new here same marks told = record {
  marked_now = (cause_at run s).entries ++ marked;
  marks = marks;
  told = λ older.
      told_here run old.told marked s older (rank_of_entry (entry_at_spot run s) == rank) same here
      ∙ ap (λ (t : List Told). t ++ reached run ((cause_at run s).entries ++ marked) older) (sym told);
}

-- The nodes of a slot.

pub rank_back-next : (run : RunSlots) (slot rank n k : ℕ) → n ≡ k + 1
    → rank_back run slot rank n ≡ of_rank run rank (spot_at slot k) ++ rank_back run slot rank k
rank_back-next run slot rank n k is = ap (rank_back run slot rank) (is ∙ add-one k)

-- All slots.

pub Reaches-slot : (source : RunSource) (count : ℕ) (before : List Told)
    (marked spots : List Spot) (slot t nodes : ℕ) (old new : Reach)
    → Reaches (source_slots source) count before marked spots (spots_back (slots_up_to (source_slots source) slot)) old
    → slot ≡ t + 1 → t < length source.history → nodes ≡ length source.list.slots
    → ((m : List Spot) → AreMarked count m old.marks
    → Reaches (source_slots source) count old.told m (slot_back (source_slots source) nodes t) [] new)
    → Reaches (source_slots source) count before marked spots (spots_back (slots_up_to (source_slots source) t)) new
Reaches-slot source count before marked spots slot t nodes old new first is within same goes =
    let run = source_slots source in
    Reaches-piece run count before marked spots (spots_back (slots_up_to run slot)) (slot_back run nodes t)
    (spots_back (slots_up_to run t)) old new first
    (ap (λ (n : ℕ). spots_back (slots_up_to run n)) (is ∙ add-one t)
    ∙ spots_back-next source.list source.script source.history t nodes within same)
    goes

pub reached-end : (run : RunSlots) (count slot : ℕ) (marked spots : List Spot) (now : Reach) → slot ≡ 0
    → Reaches run count [] marked spots (spots_back (slots_up_to run slot)) now → now.told ≡ reached run marked spots
reached-end run count slot marked spots now none all =
    let left : spots_back (slots_up_to run slot) ≡ [] =
    ap (λ (n : ℕ). spots_back (slots_up_to run n)) none ∙ ap spots_back (slots_up_to-none run) in
    sym (ap (reached run marked) (sym (append-nil spots))
    ∙ (all.told []
    ∙ (ap (λ (l : List Spot). now.told ++ reached run all.marked_now (l ++ [])) left
    ∙ append-nil now.told)))

-- The beginning and the end of a pass.

pub Reaches-init : (run : RunSlots) (count : ℕ) (marked spots : List Spot) (now : Reach)
    → AreMarked count (marked ++ []) now.marks
    → now.told ≡ [] → Reaches run count [] marked spots spots now
Reaches-init run count marked spots now marks none = record {
  marked_now = marked;
  marks = subst (λ (m : List Spot). AreMarked count m now.marks) (append-nil marked) marks;
  told = λ older. ap (λ (t : List Told). t ++ reached run marked (spots ++ older)) (sym none);
}

pub Reaches-left : (run : RunSlots) (count : ℕ) (before : List Told) (marked spots left : List Spot) (now : Reach)
    → Reaches run count before marked spots left now → left ≡ [] → Reaches run count before marked spots [] now
Reaches-left run count before marked spots left now all none =
    subst (λ (l : List Spot). Reaches run count before marked spots l now) none all

-- the last piece
pub Reaches-last : (run : RunSlots) (count : ℕ) (before : List Told) (marked spots left : List Spot) (old new : Reach)
    (first : Reaches run count before marked spots left old) → Reaches run count old.told first.marked_now left [] new
    → Reaches run count before marked spots [] new
Reaches-last run count before marked spots left old new first second = record {
  marked_now = second.marked_now;
  marks = second.marks;
  told = λ older. first.told older ∙ second.told older;
}

pub rank_back-none : (run : RunSlots) (slot rank n : ℕ) → n ≡ 0 → rank_back run slot rank n ≡ []
rank_back-none run slot rank n is = ap (rank_back run slot rank) is
