-- The steps as the calls of a ring make them.
use Rattle.std.proofs.Common.{◌≡◌, ℕ, ◌+◌, ◌*◌, ◌/◌, ◌%◌, ◌<◌, ◌≤◌, Bool, true, false, cond, List, [], ◌∷◌, ◌++◌}
use Rattle.std.proofs.Common.{length, get_or, take, All, refl, sym, ap, ◌∙◌, subst, arith, length-append}
use Rattle.std.proofs.Common.{length-take-le}
use mathlib.Core.Option.{none}
use Rattle.std.proofs.lemmas.Bool.{lt-ltb}
use Rattle.std.proofs.lemmas.List.{get_or_push}
use Rattle.atomic_table.specs.Table.{step, Allows}
use Rattle.atomic_table.specs.Seated.{TableId}
use Rattle.nbw_ring.specs.declared.view.Shape.{Shape}
use Rattle.nbw_ring.specs.declared.view.Writing.{Writing}
use Rattle.nbw_ring.specs.declared.view.Reading.{Reading}
use Rattle.nbw_ring.specs.declared.view.View.{View}
use Rattle.nbw_ring.specs.declared.view.View.TheVariants.{Writer, Reader}
use Rattle.nbw_ring.specs.Numbers.{newest_number, limit, place, IsMessageOf, odd_part}
use Rattle.nbw_ring.specs.Rule.{IsSettled, Kept}
use Rattle.nbw_ring.specs.Seats.{writing_of, reading_of, IsTableOf, ring_of}
use Rattle.nbw_ring.specs.States.{RingState}
use Rattle.nbw_ring.specs.Steps.{Sat, with_open, as_writer, as_reader, with_first, attempt_of, with_last}
use Rattle.nbw_ring.specs.Steps.{reading_settlement, with_settled, joined_view, Confirms, tells_put, tells_word_load}
use Rattle.nbw_ring.proofs.Places.{place_inside}
use Rattle.nbw_ring.proofs.Keeps.{puts, word_loads}

-- a step's view after, where the view before is known
pub writer_next : (f : Writing → Writing) (m m' : Sat) (w : Writing) → m ≡ (Writer w, []) → m' ≡ (as_writer f m.0, m.1)
    → m' ≡ (Writer (f w), [])
writer_next f m m' w is after = after ∙ ap (λ (z : Sat). (as_writer f z.0, z.1)) is

pub reader_next : (f : Reading → Reading) (m m' : Sat) (y : Reading) → m ≡ (Reader y, []) → m' ≡ (as_reader f m.0, m.1)
    → m' ≡ (Reader (f y), [])
reader_next f m m' y is after = after ∙ ap (λ (z : Sat). (as_reader f z.0, z.1)) is

pub view_is : (m : Sat) (v : View) → m ≡ (v, []) → m.0 ≡ v
view_is m v is = ap (λ (z : Sat). z.0) is

-- word k of a message whose first word is known lies in the table
pub word_inside : (shape key : Shape) (id : TableId) (number start k : ℕ) → IsTableOf shape key id
    → start ≡ place shape number 0 → k < shape.width → start + k < id.words
word_inside shape key id number start k of_ring begins inside =
    let some_buffer : 0 < shape.buffers = of_ring.0.1.0 in
    let words : id.words ≡ 1 + shape.buffers * shape.width = of_ring.2 in
    let there : 1 + ((number % shape.buffers) * shape.width + k) < 1 + shape.buffers * shape.width =
    place_inside shape number k some_buffer inside in
    omega arith

place_from_start : (shape key : Shape) (number start k n j : ℕ) → key ≡ shape → start ≡ place shape number 0
    → n ≡ number → j ≡ k → start + k ≡ place key n j
place_from_start shape key number start k n j same begins count long =
    let moved : place key n j ≡ place shape number k = λ i. place (same i) (count i) (long i) in
    let here : start + k ≡ place shape number k = omega arith in
    here ∙ sym moved

module _ (shape key : Shape) (slots id : ℕ) where
  pub put_next : (me : Sat) (w : Writing) (words : List ℕ) (number start k x : ℕ) → key ≡ shape
      → me ≡ (Writer (record w { put = take k words; steps = w.steps + k }), []) → w.is_open ≡ true
      → length w.messages ≡ number → length words ≡ shape.width → k < length words → start ≡ place shape number 0
      → Allows (Kept key) slots id me (start + k) (λ _. x) (λ _. tells_put (step slots (start + k) x 0 none) me x)
  put_next me w words number start k x same is opened count wide inside begins =
      let long : length (take k words) ≡ k = length-take-le k words (omega arith) in
      let width : key.width ≡ shape.width = ap (λ (z : Shape). z.width) same in
      puts key slots id me (record w { put = take k words; steps = w.steps + k }) (start + k)
      x (view_is me _ is) opened (omega arith)
      (place_from_start shape key number start k (length w.messages) (length (take k words)) same begins count long)

pub load_next : (shape key : Shape) (slots id : ℕ) (me : Sat) (y : Reading) (number start k : ℕ) → key ≡ shape
    → me ≡ (Reader y, []) → y.first / 2 ≡ number → length y.words ≡ k → k < shape.width
    → start ≡ place shape number 0
    → Allows (Kept key) slots id me (start + k) (λ n. n) (tells_word_load (step slots (start + k) 0 0 none) me)
load_next shape key slots id me y number start k same is half long inside begins =
    let width : key.width ≡ shape.width = ap (λ (z : Shape). z.width) same in
    word_loads key slots id me y (start + k) (view_is me _ is) (omega arith)
    (place_from_start shape key number start k (y.first / 2) (length y.words) same begins half long)

-- who sits at a ring sits at its table, and knows its shape
pub at_ring : (id mine : TableId) (shape known : Shape) (r held : RingState) → ring_of mine known ≡ r
    → ring_of id shape ≡ held → held ≡ r → (mine ≡ id) × (known ≡ shape)
at_ring id mine shape known r held own ring is =
    let e : ring_of mine known ≡ ring_of id shape = own ∙ sym (ring ∙ is) in
    (ap (λ (z : RingState). z.id) e, ap (λ (z : RingState). z.shape) e)

-- below the limit the last load gets the attempt's message
pub got_last : (counter : ℕ) (y : Reading) → counter < limit y.shape (y.first / 2)
    → with_last counter y
    ≡ record y { seen = counter; floor = y.first / 2; got = y.got ++ attempt_of y ∷ []; steps = y.steps + 1 }
got_last counter y below =
    ap (λ (b : Bool). cond b
    (record y { seen = counter; floor = y.first / 2; got = y.got ++ attempt_of y ∷ []; steps = y.steps + 1 })
    (record y { seen = counter; steps = y.steps + 1 })) (lt-ltb counter (limit y.shape (y.first / 2)) below)

-- a write whose words were put
pub filled_next : (m m' m'' : Sat) (w : Writing) (words : List ℕ) → m ≡ (Writer w, [])
    → m' ≡ (as_writer with_open m.0, m.1)
    → m'' ≡ (Writer (record (writing_of m'.0) { put = words; steps = (writing_of m'.0).steps + length words }), [])
    → m'' ≡ (Writer (record (with_open w) { put = words; steps = w.steps + 1 + length words }), [])
filled_next m m' m'' w words is begun filled =
    let opened : m' ≡ (Writer (with_open w), []) = writer_next with_open m m' w is begun in
    filled
    ∙ ap (λ (z : Writing). (Writer (record z { put = words; steps = z.steps + length words }), []))
    (ap (λ (z : Sat). writing_of z.0) opened)

-- an attempt whose words were loaded
pub loaded_next : (begin : ℕ) (m m' m'' : Sat) (y : Reading) (words : List ℕ) (n : ℕ) → m ≡ (Reader y, [])
    → m' ≡ (as_reader (with_first begin) m.0, m.1)
    → m'' ≡ (Reader (record (reading_of m'.0) { words = words; steps = (reading_of m'.0).steps + n }), [])
    → m'' ≡ (Reader (record (with_first begin y) { words = words; steps = y.steps + 1 + n }), [])
loaded_next begin m m' m'' y words n is begun loaded =
    let first : m' ≡ (Reader (with_first begin y), []) = reader_next (with_first begin) m m' y is begun in
    loaded ∙ ap (λ (v : Reading). (Reader (record v { words = words; steps = v.steps + n }), []))
    (ap (λ (z : Sat). reading_of z.0) first)

-- the writer's view once a reader was joined
pub joined_next : (m n m' : Sat) (w : Writing) (y : Reading) → m ≡ (Writer w, []) → n ≡ (Reader y, [])
    → m' ≡ (joined_view m.0 n.0, m.1) → m' ≡ (Writer (with_settled y w), [])
joined_next m n m' w y is it after = after ∙ (λ i. (joined_view (is i).0 (it i).0, (is i).1))

-- what the load after a join tells of the reader that was joined
pub told : (found : ℕ) (w : Writing) (y : Reading) → w.is_open ≡ false → Confirms found (Writer (with_settled y w))
    → All (IsMessageOf w.messages) y.got × (y.seen ≤ 2 * newest_number w.messages)
told found w y closed confirmed =
    let n : ℕ = length w.joined in
    let longer : n < length (w.joined ++ reading_settlement y ∷ []) =
    omega (arith, length-append w.joined (reading_settlement y ∷ [])) in
    let last : get_or (w.joined ++ reading_settlement y ∷ []) n (reading_settlement y) ≡ reading_settlement y =
    get_or_push w.joined (reading_settlement y) (reading_settlement y) n refl in
    let its : IsSettled w.messages found (reading_settlement y) =
    subst (IsSettled w.messages found) last (confirmed.1 n (reading_settlement y) longer) in
    let counted : found + 2 ≡ 2 * length w.messages + odd_part w.is_open = confirmed.0 in
    let shut : odd_part w.is_open ≡ 0 = ap odd_part closed in
    let low : y.seen ≤ found = its.1 in
    (its.0, omega arith)
