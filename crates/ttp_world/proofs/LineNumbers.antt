-- Which numbers a line names: those of its own slot, in the line of a node that sends and in that of a read.
use Rattle.ttp_world.proofs.Words.{◌≡◌, ◌≢◌, ℕ, ◌<◌, ◌^◌, Bool, true, false, cond, ◌&&◌, List, Option, Some, None}
use Rattle.ttp_world.proofs.Words.{IfSome, refl, ap, ◌∙◌, codes, decimal, bytes_eq, Entry, Reason, Verdict}
use Rattle.ttp_world.proofs.Words.{verdict_word, reason_word, entry_word, number_or_dash, word_in, number_named}
use Rattle.ttp_world.proofs.Words.{is_sending_line, number_read}
use Rattle.std.proofs.lemmas.Bool.{and_right}
use Rattle.ttp_world.specs.declared.node.Entry.TheVariants as entry
use Rattle.ttp_world.specs.declared.node.Reason.TheVariants as reason
use Rattle.ttp_world.specs.declared.node.Verdict.TheVariants as verdict
use Rattle.ttp_world.specs.TraceNumbers.{is_reading_line}
use Rattle.ttp_world.proofs.LineWords.{IsNodeLine, IsHostLine}
use Rattle.ttp_world.proofs.NumberWords.{number_named-decimal, bytes_eq-same, decimal-other}

-- Lines of other slots: none is asked for there.

-- the second word is not that of this slot's number
abbrev pub IsOther : ℕ → List (List ℕ) → Type 0
IsOther t words = bytes_eq (word_in words 1) (decimal t) ≡ false

three_fail : (a b c : Bool) → c ≡ false → (a && (b && c)) ≡ false
three_fail a b c fails = and_right a (b && c) (and_right b c fails)

pub sending-other : (t k : ℕ) (words : List (List ℕ)) → IsOther t words → is_sending_line t k words ≡ false
sending-other t k words other =
    three_fail (bytes_eq (word_in words 2) (codes "node")) (bytes_eq (word_in words 4) (codes "send")) _
    (ap (λ (b : Bool). b && bytes_eq (word_in words 3) (decimal k)) other)

reading-other : (t : ℕ) (words : List (List ℕ)) → IsOther t words → is_reading_line t words ≡ false
reading-other t words other =
    three_fail (bytes_eq (word_in words 2) (codes "host")) (bytes_eq (word_in words 4) (codes "read")) _ other

pub read-other : (t : ℕ) (words : List (List ℕ)) → IsOther t words → number_read t words ≡ None
read-other t words other =
    ap (λ (b : Bool). cond b (number_named (word_in words 6)) None) (reading-other t words other)

-- a line of another slot has another number as its second word
pub other_by_slot : (s t : ℕ) (words : List (List ℕ)) → s < 2 ^ 64 → t < 2 ^ 64 → s ≢ t → word_in words 1 ≡ decimal s
    → IsOther t words
other_by_slot s t words low high other slot =
    ap (λ (w : List ℕ). bytes_eq w (decimal t)) slot ∙ decimal-other s t low high other

-- Host lines name no number that was sent, and node lines none that was read.

pub sending-host : (s t k : ℕ) (does : List ℕ) (words : List (List ℕ)) → IsHostLine s does words
    → is_sending_line t k words ≡ false
sending-host s t k does words line =
    ap (λ (w : List ℕ). bytes_eq w (codes "node") && (bytes_eq (word_in words 4) (codes "send")
    && (bytes_eq (word_in words 1) (decimal t) && bytes_eq (word_in words 3) (decimal k)))) line.kind

pub read-node : (s t k : ℕ) (does : List ℕ) (message : Option ℕ) (words : List (List ℕ))
    → IsNodeLine s k does message words → number_read t words ≡ None
read-node s t k does message words line =
    ap (λ (w : List ℕ). cond (bytes_eq w (codes "host") && (bytes_eq (word_in words 4) (codes "read")
    && bytes_eq (word_in words 1) (decimal t))) (number_named (word_in words 6)) None) line.kind

-- A host's write names none, and its read the number that it got.

read-host : (s t : ℕ) (does : List ℕ) (words : List (List ℕ)) → IsHostLine s does words
    → number_read t words
    ≡ cond (bytes_eq does (codes "read") && bytes_eq (decimal s) (decimal t)) (number_named (word_in words 6)) None
read-host s t does words line = rw (line.kind, line.act, line.slot) refl

pub read-write : (s t : ℕ) (words : List (List ℕ)) → IsHostLine s (codes "write") words → number_read t words ≡ None
read-write s t words line = read-host s t (codes "write") words line

pub read-read : (s : ℕ) (words : List (List ℕ)) (number : ℕ) → number < 2 ^ 64 → IsHostLine s (codes "read") words
    → word_in words 6 ≡ decimal number → number_read s words ≡ Some number
read-read s words number small line read =
    read-host s s (codes "read") words line
    ∙ ap (λ (b : Bool). cond b (number_named (word_in words 6)) None) (bytes_eq-same (decimal s))
    ∙ ap number_named read ∙ number_named-decimal number small

-- A node's line names the number of its own frame.

sending-node : (s t j k : ℕ) (does : List ℕ) (message : Option ℕ) (words : List (List ℕ))
    → IsNodeLine s j does message words
    → is_sending_line t k words
    ≡ (bytes_eq does (codes "send") && (bytes_eq (decimal s) (decimal t) && bytes_eq (decimal j) (decimal k)))
sending-node s t j k does message words line = rw (line.kind, line.entry, line.slot, line.node) refl

pub sending-other_node : (s t j k : ℕ) (does : List ℕ) (message : Option ℕ) (words : List (List ℕ))
    → j < 2 ^ 64 → k < 2 ^ 64 → j ≢ k → IsNodeLine s j does message words → is_sending_line t k words ≡ false
sending-other_node s t j k does message words low high other line =
    sending-node s t j k does message words line
    ∙ three_fail (bytes_eq does (codes "send")) (bytes_eq (decimal s) (decimal t)) _ (decimal-other j k low high other)

-- whether an entry is of the node's own frame
abbrev pub is_own_frame : Entry → Bool
is_own_frame (entry.Sent message) = true
is_own_frame _ = false

verdict-no_send : (v : Verdict) → bytes_eq (verdict_word v) (codes "send") ≡ false
verdict-no_send verdict.Null = refl
verdict-no_send v = refl

reason-no_send : (why : Reason) → bytes_eq (reason_word why) (codes "send") ≡ false
reason-no_send reason.Denied = refl
reason-no_send why = refl

send_word : (e : Entry) → bytes_eq (entry_word e) (codes "send") ≡ is_own_frame e
send_word (entry.Judged sender v deviation) = verdict-no_send v
send_word (entry.Left why peer) = reason-no_send why
send_word e = refl

all_equal : (a b c d : Bool) → a ≡ d → b ≡ true → c ≡ true → (a && (b && c)) ≡ d
all_equal a b c d p q r = rw (p, q, r) (by_cases d)
  where
    by_cases : (d : Bool) → (d && true) ≡ d
    by_cases true = refl
    by_cases false = refl

pub sending-own : (s k : ℕ) (e : Entry) (message : Option ℕ) (words : List (List ℕ))
    → IsNodeLine s k (entry_word e) message words → is_sending_line s k words ≡ is_own_frame e
sending-own s k e message words line =
    sending-node s s k k (entry_word e) message words line
    ∙ all_equal _ _ _ (is_own_frame e) (send_word e) (bytes_eq-same (decimal s)) (bytes_eq-same (decimal k))

number_or_dash-named : (message : Option ℕ) → IfSome message (λ i. i < 2 ^ 64)
    → number_named (number_or_dash message) ≡ message
number_or_dash-named None small = refl
number_or_dash-named (Some i) small = number_named-decimal i small

pub named-node : (s k : ℕ) (does : List ℕ) (message : Option ℕ) (words : List (List ℕ))
    → IfSome message (λ i. i < 2 ^ 64)
    → IsNodeLine s k does message words → number_named (word_in words 8) ≡ message
named-node s k does message words small line =
    ap number_named line.number ∙ number_or_dash-named message small
