-- How long the messages are that hosts read, as bytes and as hexadecimal digits.
use Rattle.std.proofs.Common.{ℕ, zero, suc, ◌+◌, ◌≤◌, List, [], ◌∷◌, ◌++◌}
use Rattle.std.proofs.Common.{length, get_or, Option, Some, None, IfSome, arith, is_some, drop}
use Rattle.std.specs.Prelude.{◌==◌, replicate}
use Rattle.std.proofs.lemmas.Bool.{cond_both}
use Rattle.std.proofs.lemmas.List.{length-replicate, length-take}
use Rattle.ttp_world.specs.declared.medl.Medl.{Medl}
use Rattle.ttp_world.specs.declared.node.Delivered.{Delivered}
use Rattle.ttp_world.specs.declared.node.Entry.{Entry}
use Rattle.ttp_world.specs.declared.node.Entry.TheVariants as entry
use Rattle.ttp_world.specs.declared.script.Script.{Script}
use Rattle.ttp_world.specs.declared.script.Source.{Source}
use Rattle.ttp_world.specs.declared.script.Source.TheVariants as source
use Rattle.ttp_world.specs.Conduct.{delivery, payload_taken}
use Rattle.ttp_world.specs.Diary.{History, Place, entry_of}
use Rattle.ttp_world.specs.Fitting.{carried_length}
use Rattle.ttp_world.specs.Medium.{Signal, Silence, Noise, Bits}
use Rattle.ttp_world.specs.Medl.{IsValid, is_bare, kind_at, member_width, payload_length, plan_at}
use Rattle.ttp_world.specs.Messages.{delivered_of, in_messages, new_messages, ring_messages, status_messages}
use Rattle.ttp_world.specs.Messages.{messages_of, status_words}
use Rattle.ttp_world.specs.Outgoing.{zeros_of}
use Rattle.ttp_world.specs.Past.{NodePast}
use Rattle.ttp_world.specs.Reception.{Expected, Hearing, expected_header, expected_of, is_first_view, payload_heard}
use Rattle.ttp_world.specs.Reception.{view_of}
use Rattle.ttp_world.specs.Trace.{message_hex}
use Rattle.ttp_world.specs.World.{frames_in, hearing_in, node_of, node_past, slot_after}
use Rattle.ttp_base.proofs.Hex.{length-hex_bytes as length-bytes}
use Rattle.ttp_world.proofs.ListFacts.{length-word_hexes as length-words}
use Rattle.ttp_world.proofs.WorldFacts.{plan-short}

-- A payload is no longer than a list gives one.

expected-short : (list : Medl) (place : Place) → IsValid list → payload_length list place.round place.slot ≤ 240
expected-short list place valid =
    cond_both (is_bare (kind_at list place.round place.slot)) 0 _ (λ (n : ℕ). n ≤ 240) (λ is. omega arith)
    (λ other. plan-short list place.slot valid)

heard-short : (list : Medl) (place : Place) (signal : Signal) → IsValid list
    → length (payload_heard list place signal) ≤ 240
heard-short list place Silence valid = omega arith
heard-short list place Noise valid = omega arith
heard-short list place (Bits sender bytes) valid =
    let after = drop (1 + carried_length (member_width list) (expected_header list place)) bytes in
    omega (arith, expected-short list place valid, length-take (payload_length list place.round place.slot) after)

taken-short : (list : Medl) (expected : Expected) (h : Hearing) → IsValid list
    → length (payload_taken list expected h) ≤ 240
taken-short list expected h valid =
    cond_both (is_first_view (view_of list expected h.deviation h.a)) (payload_heard list expected.place h.a)
    (payload_heard list expected.place h.b) (λ (p : List ℕ). length p ≤ 240)
    (λ is. heard-short list expected.place h.a valid) (λ other. heard-short list expected.place h.b valid)

abbrev BringsShort : Delivered → Type 0
BringsShort d = length d.payload ≤ 240

delivery-short : (list : Medl) (k : ℕ) (past : NodePast) (h : Hearing) (e : Entry) → IsValid list
    → IfSome (delivery list k past h e) BringsShort
delivery-short list k past h (entry.Judged sender v deviation) valid =
    cond_both _ (Some _) None (λ (o : Option Delivered). IfSome o BringsShort)
    (λ is. taken-short list (expected_of list k past) h valid) (λ other. tt)
delivery-short list k past h _ valid = tt

-- What has come to a host.

abbrev IsShort : ℕ → List ℕ → Type 0
IsShort n message = length message ≤ n

-- each message, and what is read where there is none
abbrev AreShort : ℕ → List (List ℕ) → Type 0
AreShort n messages = (i : ℕ) → IsShort n (get_or messages i [])

short-append : (n : ℕ) (xs ys : List (List ℕ)) → AreShort n xs → AreShort n ys → AreShort n (xs ++ ys)
short-append n [] ys first second i = second i
short-append n (x ∷ xs) ys first second zero = first zero
short-append n (x ∷ xs) ys first second (suc i) = short-append n xs ys (λ j. first (suc j)) second i

short-none : (n : ℕ) → AreShort n []
short-none n i = omega arith

short-one : (n : ℕ) (message : List ℕ) → IsShort n message → AreShort n (message ∷ [])
short-one n message short zero = short
short-one n message short (suc i) = omega arith

new-short : (p : ℕ) (delivered : Option Delivered) → IfSome delivered BringsShort
    → AreShort 240 (new_messages p delivered)
new-short p None short = short-none 240
new-short p (Some d) short =
    cond_both (d.sender == p) (d.payload ∷ []) [] (AreShort 240) (λ is. short-one 240 d.payload short)
    (λ other. short-none 240)

in_messages-short : (list : Medl) (script : Script) (history : History) (k p : ℕ) → IsValid list
    → AreShort 240 (in_messages list script history k p)
in_messages-short list script [] k p valid =
    let size = (plan_at list p).payload in
    short-one 240 (zeros_of list p) (omega (arith, plan-short list p valid, length-replicate {A = ℕ} size 0))
in_messages-short list script (row ∷ history) k p valid =
    let s = slot_after list script history in
    let frames = frames_in s (messages_of list script (length history) row) in
    short-append 240 (in_messages list script history k p) (new_messages p (delivered_of list script history row k))
    (in_messages-short list script history k p valid)
    (new-short p (delivered_of list script history row k)
    (delivery-short list k (node_of s k).past (hearing_in s frames k) (entry_of row k) valid))

status_messages-short : (list : Medl) (script : Script) (history : History) (k : ℕ)
    → AreShort 4 (status_messages list script history k)
status_messages-short list script [] k = short-one 4 (replicate 4 0) (omega arith)
status_messages-short list script (row ∷ history) k =
    short-append 4 (status_messages list script history k)
    (status_words list (length history) (node_past list script (row ∷ history) k)
    (is_some (delivered_of list script history row k)) ∷ []) (status_messages-short list script history k)
    (short-one 4 _ (omega arith))

-- A message is short as digits too: 480 of them at most.

pub message-short : (list : Medl) (script : Script) (history : History) (k : ℕ) (from : Source) (i : ℕ) → IsValid list
    → length (message_hex from (get_or (ring_messages list script history k from) i [])) ≤ 480
message-short list script history k source.Status i valid =
    let message = get_or (status_messages list script history k) i [] in
    omega (arith, length-words message, status_messages-short list script history k i)
message-short list script history k (source.Node p) i valid =
    let message = get_or (in_messages list script history k p) i [] in
    omega (arith, length-bytes message, in_messages-short list script history k p valid i)
