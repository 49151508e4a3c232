-- The messages of rings: they only become more, and the first is the zeros.
use Rattle.ttp_world.proofs.Words.{◌≡◌, ℕ, zero, suc, ◌≤◌, List, [], ◌∷◌, ◌++◌, length, get_or, refl, ap, arith}
use Rattle.ttp_world.proofs.Words.{length-append, is_some, Medl, Entry, Script, Source, History, delivered_of}
use Rattle.ttp_world.proofs.Words.{new_messages, in_messages, status_words, status_messages, ring_messages}
use Rattle.ttp_world.proofs.Words.{newest_number, zeros_of, messages_before, out_messages, messages_written, node_past}
use Rattle.ttp_world.specs.declared.script.Source.TheVariants as source

newest_number-append : (xs ys : List (List ℕ)) → newest_number xs ≤ newest_number (xs ++ ys)
newest_number-append xs ys = omega (arith, length-append xs ys)

-- What a host writes: a slot's newest message is not before the newest one before the slot.

pub newest_written : (list : Medl) (script : Script) (k slot : ℕ)
    → newest_number (messages_before list script k slot) ≤ newest_number (out_messages list script k slot)
newest_written list script k slot =
    newest_number-append (messages_before list script k slot) (messages_written script k slot)

-- message 0 is the zeros, whatever the host writes
messages_before-first : (list : Medl) (script : Script) (k slot : ℕ)
    → (others : List (List ℕ)) × (messages_before list script k slot ≡ zeros_of list k ∷ others)
messages_before-first list script k zero = ([], refl)
messages_before-first list script k (suc slot) =
    let before = messages_before-first list script k slot in
    let new = messages_written script k slot in
    (before.0 ++ new, ap (λ ms. ms ++ new) before.1)

pub out_messages-first : (list : Medl) (script : Script) (k slot : ℕ)
    → get_or (out_messages list script k slot) 0 [] ≡ zeros_of list k
out_messages-first list script k slot = ap (λ ms. get_or ms 0 []) (messages_before-first list script k (suc slot)).1

-- What a host reads: a slot's newest message of a ring is not before the newest one before the slot.

pub newest_read : (list : Medl) (script : Script) (row : List Entry) (history : History) (k : ℕ) (from : Source)
    → newest_number (ring_messages list script history k from)
    ≤ newest_number (ring_messages list script (row ∷ history) k from)
newest_read list script row history k source.Status =
    newest_number-append (status_messages list script history k)
    (status_words list (length history) (node_past list script (row ∷ history) k)
    (is_some (delivered_of list script history row k)) ∷ [])
newest_read list script row history k (source.Node p) =
    newest_number-append (in_messages list script history k p) (new_messages p (delivered_of list script history row k))
