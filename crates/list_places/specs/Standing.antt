-- How the marks of the code stand to those of the definitions.
use Rattle.std.specs.Prelude.{◌≡◌, ℕ, suc, List, [], ◌∷◌, ◌++◌, ⊤, Option, Some, None, String}
use Rattle.std.specs.Borrow.{Bor}
use Rattle.std.specs.declared.alloc.Global.{Global}
use Rattle.std.specs.BTreeMap.{BTreeMap, get_by_text}
use Rattle.list_places.specs.declared.marks.Marks as code
use Rattle.list_places.specs.declared.marks.SlotMarks.{SlotMarks}
use Rattle.list_places.specs.Marks.{KeyPlace, SlotPlace, Marked, first_left, member_places, element_places, marks_from}

-- a map has where each key is first written
abbrev pub AreKeys : BTreeMap (String Global) ℕ → List KeyPlace → Type 0
AreKeys keys places = (q : List ℕ) → get_by_text keys q ≡ first_left q places

-- a slot stands there, and its keys
pub record SlotIs (slot : SlotMarks) (place : SlotPlace) : Type 0 where
  pub left : slot.left ≡ place.left
  pub keys : AreKeys slot.keys place.keys

-- slot by slot
abbrev pub SlotsAre : List SlotMarks → List SlotPlace → Type 0
SlotsAre [] [] = ⊤
SlotsAre [] (place ∷ places) = ⊥
SlotsAre (slot ∷ slots) [] = ⊥
SlotsAre (slot ∷ slots) (place ∷ places) = SlotIs slot place × SlotsAre slots places

-- marks have what the definitions mark
pub record MarksAre (marks : code.Marks) (marked : Marked) : Type 0 where
  pub top : AreKeys marks.top marked.top
  pub slots : SlotsAre marks.slots.items marked.slots
  pub has_headers : marks.has_headers ≡ marked.has_headers
  pub is_in_slot : marks.is_in_slot ≡ marked.is_in_slot

-- what is behind a turn, unless the reading ended there
abbrev pub members_on : ℕ → Option (Bor (List ℕ)) → List KeyPlace
members_on n None = []
members_on n (Some rest) = member_places n rest.now

abbrev pub elements_on : ℕ → Option (Bor (List ℕ)) → List SlotPlace
elements_on n None = []
elements_on n (Some rest) = element_places n rest.now

abbrev pub marks_on : ℕ → Marked → Option (Bor (List ℕ)) → Marked
marks_on n m None = m
marks_on n m (Some rest) = marks_from n m rest.now

-- a turn through an inline table
abbrev pub MembersTurn : List ℕ → Option (Bor (List ℕ))
    → BTreeMap (String Global) ℕ → BTreeMap (String Global) ℕ → Type 0
MembersTurn text turn old new =
    (n : ℕ) (places : List KeyPlace) → AreKeys old places
    → (more : List KeyPlace) × AreKeys new (places ++ more) × (member_places (suc n) text ≡ more ++ members_on n turn)

-- a turn through an array
abbrev pub ElementsTurn : List ℕ → Option (Bor (List ℕ)) → List SlotMarks → List SlotMarks → Type 0
ElementsTurn text turn old new =
    (n : ℕ) (places : List SlotPlace) → SlotsAre old places
    → (more : List SlotPlace) × SlotsAre new (places ++ more)
    × (element_places (suc n) text ≡ more ++ elements_on n turn)

-- a turn through the statements of a text
abbrev pub MarksTurn : List ℕ → Option (Bor (List ℕ)) → code.Marks → code.Marks → Type 0
MarksTurn text turn old new =
    (n : ℕ) (marked : Marked) → MarksAre old marked
    → (more : Marked) × MarksAre new more × (marks_from (suc n) marked text ≡ marks_on n more turn)
