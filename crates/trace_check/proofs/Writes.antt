-- What one node's host writes in a slot, found among all that hosts write there.
use Rattle.trace_check.proofs.Words.{◌≡◌, ℕ, ◌+◌, ◌<◌, List, [], ◌∷◌, ◌++◌, length, take, drop, get_or, Option, Some}
use Rattle.trace_check.proofs.Words.{None, Bool, cond, refl, ap, sym, ◌∙◌, subst, append_assoc, slice_get, filter_map}
use Rattle.trace_check.proofs.Words.{cons_option, eq-eqb, ne_eqb, take-append-drop, filter_map-append, HostWrite}
use Rattle.trace_check.proofs.Words.{payload_of_host}
use Rattle.std.proofs.lemmas.List.{append-nil, take_more}

-- what is made of the first elements and of one more

pub taken : {X Y : Type 0} (h : X → Option Y) (xs : List X) (i : ℕ) (d : X) (o : Option Y) → i < length xs
    → h (get_or xs i d) ≡ o → filter_map h (take (i + 1) xs) ≡ filter_map h (take i xs) ++ cons_option o []
taken h xs i d o within is =
    ap (filter_map h) (take_more xs i d within)
    ∙ filter_map-append h (take i xs) (get_or xs i d ∷ [])
    ∙ ap (λ (made : Option _). filter_map h (take i xs) ++ cons_option made []) is

front_and : {X Y : Type 0} (h : X → Option Y) (xs : List X) (n : ℕ)
    → filter_map h xs ≡ filter_map h (take n xs) ++ filter_map h (drop n xs)
front_and h xs n = ap (filter_map h) (sym (take-append-drop n xs)) ∙ filter_map-append h (take n xs) (drop n xs)

-- one of them, with those before it and behind it
pub split_at : {X Y : Type 0} (h : X → Option Y) (xs : List X) (i : ℕ) (d : X) (y : Y) → i < length xs
    → h (get_or xs i d) ≡ Some y
    → filter_map h xs ≡ filter_map h (take i xs) ++ y ∷ filter_map h (drop (i + 1) xs)
split_at h xs i d y within is =
    front_and h xs (i + 1)
    ∙ ap (λ (front : List _). front ++ filter_map h (drop (i + 1) xs)) (taken h xs i d (Some y) within is)
    ∙ append_assoc (filter_map h (take i xs)) (y ∷ []) (filter_map h (drop (i + 1) xs))

-- One host's messages.

abbrev pub messages_by : ℕ → List HostWrite → List (List ℕ)
messages_by host writes = filter_map (payload_of_host host) writes

pub found_after : (xs : List (List ℕ)) (y : List ℕ) (ys : List (List ℕ))
    → slice_get ((xs ++ y ∷ []) ++ ys) (length xs) ≡ Some y
found_after [] y ys = refl
found_after (x ∷ xs) y ys = found_after xs y ys

module _ (at : ℕ → Option HostWrite) (host : ℕ) (places : List ℕ) where
  -- of the writes at the first places
  abbrev pub messages_at : ℕ → List (List ℕ)
  messages_at i = messages_by host (filter_map at (take i places))

  pub messages_at-next : (i : ℕ) (w : HostWrite) → i < length places → at (get_or places i 0) ≡ Some w
      → messages_at (i + 1) ≡ messages_at i ++ cons_option (payload_of_host host w) []
  messages_at-next i w within is =
      ap (messages_by host) (taken at places i 0 (Some w) within is)
      ∙ filter_map-append (payload_of_host host) (filter_map at (take i places)) (w ∷ [])

  -- one of the host's
  pub messages_at-own : (i : ℕ) (w : HostWrite) → i < length places → at (get_or places i 0) ≡ Some w
      → w.host ≡ host → messages_at (i + 1) ≡ messages_at i ++ w.payload ∷ []
  messages_at-own i w within is own =
      messages_at-next i w within is
      ∙ ap (λ (b : Bool). messages_at i ++ cons_option (cond b (Some w.payload) None) []) (eq-eqb w.host host own)

  pub messages_at-other : (i : ℕ) (w : HostWrite) → i < length places → at (get_or places i 0) ≡ Some w
      → (w.host ≡ host → ⊥) → messages_at (i + 1) ≡ messages_at i
  messages_at-other i w within is other =
      messages_at-next i w within is
      ∙ ap (λ (b : Bool). messages_at i ++ cons_option (cond b (Some w.payload) None) []) (ne_eqb w.host host other)
      ∙ append-nil (messages_at i)

  pub messages_at-none : (i : ℕ) → i < length places → at (get_or places i 0) ≡ None
      → messages_at (i + 1) ≡ messages_at i
  messages_at-none i within is =
      ap (messages_by host) (taken at places i 0 None within is ∙ append-nil (filter_map at (take i places)))

  -- the message after so many is the one that is found next
  pub found : (i : ℕ) (w : HostWrite) (n : ℕ) → i < length places → at (get_or places i 0) ≡ Some w
      → w.host ≡ host → length (messages_at i) ≡ n
      → slice_get (messages_by host (filter_map at places)) n ≡ Some w.payload
  found i w n within is own count =
      let y = w.payload in
      let whole : messages_by host (filter_map at places)
      ≡ (messages_at i ++ y ∷ []) ++ messages_by host (filter_map at (drop (i + 1) places)) =
      ap (messages_by host) (front_and at places (i + 1))
      ∙ filter_map-append (payload_of_host host)
      (filter_map at (take (i + 1) places)) (filter_map at (drop (i + 1) places))
      ∙ ap (λ (front : List (List ℕ)). front ++ messages_by host (filter_map at (drop (i + 1) places)))
      (messages_at-own i w within is own) in
      subst (λ (m : ℕ). slice_get (messages_by host (filter_map at places)) m ≡ Some y) count
      (ap (λ (ms : List (List ℕ)). slice_get ms (length (messages_at i))) whole
      ∙ found_after (messages_at i) y (messages_by host (filter_map at (drop (i + 1) places))))
