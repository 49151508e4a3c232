-- Keys where they are first written, and slots one by one.
use Rattle.std.proofs.Common.{◌≡◌, ℕ, zero, suc, ◌+◌, ◌<◌, ◌≤◌, Bool, true, false, cond, List}
use Rattle.std.proofs.Common.{[], ◌∷◌, ◌++◌, length, set, get_or, Option, Some, None}
use Rattle.std.proofs.Common.{is_some, Result, Ok, Err, IfOk, refl, sym, ap, ◌∙◌, arith}
use Rattle.std.proofs.lemmas.Slice.Eq.{bytes_eq-Decides}
use Rattle.std.specs.BTreeMap.{BTreeMap, get_by_text}
use Rattle.std.specs.List.{slice_get}
use Rattle.std.specs.Str.{bytes_eq}
use Rattle.std.specs.declared.alloc.Global.{Global}
use Rattle.std.specs.Prelude.{String}
use Rattle.list_places.specs.declared.marks.SlotMarks.{SlotMarks}
use Rattle.list_places.specs.Marks.{KeyPlace, SlotPlace, key_place, first_left, in_last}
use Rattle.list_places.specs.Standing.{AreKeys, SlotIs, SlotsAre}

-- a key that stands already is not moved
still_first : (b : Bool) (q : List ℕ) (p : KeyPlace) (places more : List KeyPlace) → bytes_eq p.key q ≡ b
    → is_some (first_left q (p ∷ places)) ≡ true
    → (is_some (first_left q places) ≡ true → first_left q (places ++ more) ≡ first_left q places)
    → first_left q (p ∷ (places ++ more)) ≡ first_left q (p ∷ places)
still_first true q p places more is some next = rw is
still_first false q p places more is some next = rw is (next (rw is at some))

first_stays : (q : List ℕ) (places more : List KeyPlace) → is_some (first_left q places) ≡ true
    → first_left q (places ++ more) ≡ first_left q places
first_stays q [] more some = absurd (grind arith)
first_stays q (p ∷ places) more some =
    still_first (bytes_eq p.key q) q p places more refl some (first_stays q places more)

-- nor does a place of one key move another
other_step : (b : Bool) (p : KeyPlace) (now then : Option ℕ) → now
    ≡ then → cond b (Some p.left) now ≡ cond b (Some p.left) then
other_step b p now then same = ap (cond b (Some p.left)) same

other_stays : (q key : List ℕ) (at : ℕ) (places : List KeyPlace) → bytes_eq key q ≡ false
    → first_left q (places ++ key_place key at ∷ []) ≡ first_left q places
other_stays q key at [] other = rw other
other_stays q key at (p ∷ places) other = other_step (bytes_eq p.key q) p _ _ (other_stays q key at places other)

none_head : (b : Bool) (q : List ℕ) (p : KeyPlace) (places : List KeyPlace) → bytes_eq p.key q ≡ b
    → first_left q (p ∷ places) ≡ None → (bytes_eq p.key q ≡ false) × (first_left q places ≡ None)
none_head true q p places is none = absurd (let bad = rw is at none in grind arith)
none_head false q p places is none = (is, rw is at none)

new_found : (key : List ℕ) (at : ℕ) (places : List KeyPlace) → first_left key places ≡ None
    → first_left key (places ++ key_place key at ∷ []) ≡ Some at
new_found key at [] none = rw ((bytes_eq-Decides key key).1 refl)
new_found key at (p ∷ places) none =
    let (other, rest) = none_head (bytes_eq p.key key) key p places refl none in
    rw other (new_found key at places rest)

-- a key that stood nowhere is noted
noted_at : (b : Bool) (m n : BTreeMap (String Global) ℕ) (key : List ℕ) (at : ℕ) (places : List KeyPlace) (q : List ℕ)
    → bytes_eq key q ≡ b → AreKeys m places → get_by_text m key ≡ None
    → get_by_text n q ≡ cond b (Some at) (get_by_text m q)
    → get_by_text n q ≡ first_left q (places ++ key_place key at ∷ [])
noted_at true m n key at places q is are none new =
    let same : key ≡ q = (bytes_eq-Decides key q).0 is in
    let nowhere : first_left key places ≡ None = sym (are key) ∙ none in
    new ∙ sym (rw (← same) (new_found key at places nowhere))
noted_at false m n key at places q is are none new = new ∙ are q ∙ sym (other_stays q key at places is)

pub keys_noted : (m n : BTreeMap (String Global) ℕ) (key : List ℕ) (at : ℕ) (places : List KeyPlace)
    → AreKeys m places → get_by_text m key ≡ None
    → ((q : List ℕ) → get_by_text n q ≡ cond (bytes_eq key q) (Some at) (get_by_text m q))
    → AreKeys n (places ++ key_place key at ∷ [])
keys_noted m n key at places are none new = λ q. noted_at (bytes_eq key q) m n key at places q refl are none (new q)

kept_at : (b : Bool) (key : List ℕ) (at : ℕ) (places : List KeyPlace) (q : List ℕ) → bytes_eq key q ≡ b
    → is_some (first_left key places) ≡ true → first_left q places ≡ first_left q (places ++ key_place key at ∷ [])
kept_at true key at places q is some =
    let same : key ≡ q = (bytes_eq-Decides key q).0 is in
    sym (first_stays q places (key_place key at ∷ []) (rw same at some))
kept_at false key at places q is some = sym (other_stays q key at places is)

-- a key that stands somewhere stays there
pub keys_kept : (m : BTreeMap (String Global) ℕ) (key : List ℕ) (at : ℕ) (places : List KeyPlace)
    → AreKeys m places → is_some (get_by_text m key) ≡ true → AreKeys m (places ++ key_place key at ∷ [])
keys_kept m key at places are some =
    λ q. are q ∙ kept_at (bytes_eq key q) key at places q refl (rw (are key) at some)

pub no_value : {A : Type 0} (o : Option A) (b : Bool) → b ≡ is_some o → b ≡ false → o ≡ None
no_value None b is off = refl
no_value (Some x) b is off = absurd (grind arith)

-- what an answer says, of another answer that it gives
pub if_ok : {A E : Type 0} (P Q : A → Type 0) (r : Result A E) → IfOk r P → ((x : A) → P x → Q x) → IfOk r Q
if_ok P Q (Ok x) h f = f x h
if_ok P Q (Err e) h f = tt

-- a slot more
pub slots_push : (slots : List SlotMarks) (places : List SlotPlace) (slot : SlotMarks) (place : SlotPlace)
    → SlotsAre slots places → SlotIs slot place → SlotsAre (slots ++ slot ∷ []) (places ++ place ∷ [])
slots_push [] [] slot place are is = (is, tt)
slots_push [] (p ∷ places) slot place are is = absurd are
slots_push (s ∷ slots) [] slot place are is = absurd are
slots_push (s ∷ slots) (p ∷ places) slot place are is = (are.0, slots_push slots places slot place are.1 is)

pub empty_stays : (slots : List SlotMarks) (places : List SlotPlace) (key : List ℕ) (at : ℕ) → length slots ≡ 0
    → SlotsAre slots places → SlotsAre slots (in_last places key at)
empty_stays [] [] key at none are = tt
empty_stays [] (p ∷ places) key at none are = absurd are
empty_stays (s ∷ slots) places key at none are = absurd (omega arith)

-- a key of the last slot
pub last_noted : (slots : List SlotMarks) (places : List SlotPlace) (n : ℕ)
    (old new : SlotMarks) (key : List ℕ) (at : ℕ)
    → SlotsAre slots places → length slots ≡ n + 1 → slice_get slots n ≡ Some old → new.left ≡ old.left
    → ((keys : List KeyPlace) → AreKeys old.keys keys → AreKeys new.keys (keys ++ key_place key at ∷ []))
    → SlotsAre (set slots n new) (in_last places key at)
last_noted [] places n old new key at are count is left more = absurd (omega arith)
last_noted (s ∷ slots) [] n old new key at are count is left more = absurd are
last_noted (s ∷ []) (p ∷ []) zero old new key at are count is left more =
    let same : s ≡ old = grind arith in
    let there : SlotIs old p = rw same at are.0 in
    (record { left = left ∙ there.left; keys = more p.keys there.keys }, tt)
last_noted (s ∷ []) (p ∷ q ∷ places) n old new key at are count is left more = absurd are.1
last_noted (s ∷ []) (p ∷ []) (suc n) old new key at are count is left more = absurd (omega arith)
last_noted (s ∷ t ∷ slots) (p ∷ []) n old new key at are count is left more = absurd are.1
last_noted (s ∷ t ∷ slots) (p ∷ q ∷ places) zero old new key at are count is left more = absurd (omega arith)
last_noted (s ∷ t ∷ slots) (p ∷ q ∷ places) (suc n) old new key at are count is left more =
    (are.0, last_noted (t ∷ slots) (q ∷ places) n old new key at are.1 (omega arith) is left more)

-- a map without entries has no key
pub empty_keys : (m : BTreeMap (String Global) ℕ) → m.entries ≡ [] → AreKeys m []
empty_keys m none q = rw none

-- a slot that is there, and one that is not
pub slot_found : (slots : List SlotMarks) (places : List SlotPlace) (k : ℕ) (s : SlotMarks) → SlotsAre slots places
    → k < length slots → s ≡ get_or slots k s → (p : SlotPlace) × (slice_get places k ≡ Some p) × SlotIs s p
slot_found [] places k s are low is = absurd (omega arith)
slot_found (t ∷ slots) [] k s are low is = absurd are
slot_found (t ∷ slots) (p ∷ places) zero s are low is = (p, refl, rw is are.0)
slot_found (t ∷ slots) (p ∷ places) (suc k) s are low is = slot_found slots places k s are.1 (omega arith) is

pub slot_missing : (slots : List SlotMarks) (places : List SlotPlace) (k : ℕ) → SlotsAre slots places
    → length slots ≤ k → slice_get places k ≡ None
slot_missing [] [] k are past = refl
slot_missing [] (p ∷ places) k are past = absurd are
slot_missing (t ∷ slots) [] k are past = absurd are
slot_missing (t ∷ slots) (p ∷ places) zero are past = absurd (omega arith)
slot_missing (t ∷ slots) (p ∷ places) (suc k) are past = slot_missing slots places k are.1 (omega arith)
