-- The numbers that the lines of a slot name.
use Rattle.ttp_world.proofs.Words.{◌≡◌, ◌≢◌, ℕ, ◌<◌, ◌^◌, Bool, false, cond, List, [], ◌∷◌, ◌++◌, length, Option, Some}
use Rattle.ttp_world.proofs.Words.{None, IfSome, refl, sym, ap, ◌∙◌, arith, map, option_and_then, count_by, codes}
use Rattle.ttp_world.proofs.Words.{append_assoc, ◌==◌, AllByRecursion, cons_option, map-append, length-map}
use Rattle.ttp_world.proofs.Words.{filter_map-append, below, map_agree-below, map_each-below, Medl, Entry, Script}
use Rattle.ttp_world.proofs.Words.{History, entry_of, ReadMessage, read_messages, message_of, state_of, HostWrite}
use Rattle.ttp_world.proofs.Words.{writes_in, reads_in, member_digits, message_shown, entry_word, node_line_of}
use Rattle.ttp_world.proofs.Words.{more_write_lines, write_lines, read_line, read_lines, slot_lines, words_of, word_in}
use Rattle.ttp_world.proofs.Words.{number_named, is_sending_line, number_read, slot_numbers, SlotNumbers, node_past}
use Rattle.std.proofs.Common.{find, filter_map}
use Rattle.std.proofs.Math.ListN.{get_or-map}
use Rattle.std.proofs.lemmas.List.FromFn.{fill_by_all}
use Rattle.ttp_world.specs.declared.node.Entry.TheVariants as entry
use Rattle.ttp_world.specs.Script.{HostRead}
use Rattle.ttp_world.specs.TraceNumbers.{number_sent}
use Rattle.ttp_world.proofs.LineLists.{each-append, map_of_map, find-between, find-below, filter_map-none}
use Rattle.ttp_world.proofs.LineLists.{filter_map-between}
use Rattle.ttp_world.proofs.LineNumbers.{IsOther, sending-other, read-other, other_by_slot, sending-host, read-node}
use Rattle.ttp_world.proofs.LineNumbers.{read-write, read-read, sending-other_node, is_own_frame, sending-own}
use Rattle.ttp_world.proofs.LineNumbers.{named-node}
use Rattle.ttp_world.proofs.RunNumbers.{AreNumbersOf}
use Rattle.ttp_world.proofs.LineWords.{IsNodeLine, node_line-words, IsHostLine, write_line-words, read_line-words}

-- The lines of the nodes.

abbrev node_words : Medl → Script → List Entry → History → ℕ → List (List ℕ)
node_words list script row before k = words_of (node_line_of list script row before k)

node-IsNodeLine : (list : Medl) (script : Script) (row : List Entry) (before : History) (k : ℕ)
    → IsNodeLine (length before) k (entry_word (entry_of row k))
    (message_shown list script row before k (entry_of row k))
    (node_words list script row before k)
node-IsNodeLine list script row before k =
    node_line-words (member_digits list) (length before) k (state_of (node_past list script (row ∷ before) k))
    (message_shown list script row before k (entry_of row k))

nodes-IsOther : (list : Medl) (script : Script) (row : List Entry) (before : History) (t : ℕ) → length before < 2 ^ 64
    → t < 2 ^ 64 → length before ≢ t → (n : ℕ)
    → AllByRecursion (IsOther t) (map (node_words list script row before) (below n))
nodes-IsOther list script row before t low high other n =
    map_each-below (IsOther t) (node_words list script row before) n
    (λ k less. other_by_slot (length before) t (node_words list script row before k) low high other
    (node-IsNodeLine list script row before k).slot)

nodes-none_read : (list : Medl) (script : Script) (row : List Entry) (before : History) (n : ℕ)
    → AllByRecursion (λ words. number_read (length before) words ≡ None)
    (map (node_words list script row before) (below n))
nodes-none_read list script row before n =
    map_each-below (λ words. number_read (length before) words ≡ None) (node_words list script row before) n
    (λ k less. read-node (length before) (length before) k _ _ (node_words list script row before k)
    (node-IsNodeLine list script row before k))

abbrev number_of : Option (List (List ℕ)) → Option ℕ
number_of found = option_and_then (λ words. number_named (word_in words 8)) found

-- an entry's number is found on its line
number_of-entry : (list : Medl) (script : Script) (row : List Entry) (before : History) (k : ℕ) (e : Entry)
    (words : List (List ℕ)) → IfSome (message_of e) (λ i. i < 2 ^ 64)
    → IsNodeLine (length before) k (entry_word e) (message_shown list script row before k e) words
    → number_of (cond (is_own_frame e) (Some words) None) ≡ message_of e
number_of-entry list script row before k (entry.Sent message) words small line =
    named-node (length before) k _ message words small line
number_of-entry list script row before k entry.Off words small line = refl
number_of-entry list script row before k e words small line = refl

nodes-sent : (list : Medl) (script : Script) (row : List Entry) (before : History) (n k : ℕ) → n < 2 ^ 64 → k < n
    → IfSome (message_of (entry_of row k)) (λ i. i < 2 ^ 64)
    → number_sent (map (node_words list script row before) (below n)) (length before) k ≡ message_of (entry_of row k)
nodes-sent list script row before n k few within small =
    let words = node_words list script row before in
    let line = node-IsNodeLine list script row before k in
    ap number_of (find-below (is_sending_line (length before) k) words n k within
    (λ j less other.
    sending-other_node (length before) (length before) j k _ _ (words j) (omega arith) (omega arith) other
    (node-IsNodeLine list script row before j)))
    ∙ ap (λ (b : Bool). number_of (cond b (Some (words k)) None))
    (sending-own (length before) k (entry_of row k) _ (words k) line)
    ∙ number_of-entry list script row before k (entry_of row k) (words k) small line

-- The lines of the hosts.

writes-each : (P : List (List ℕ) → Type 0) (list : Medl) (script : Script) (slot : ℕ)
    → ((words : List (List ℕ)) → IsHostLine slot (codes "write") words → P words) → (earlier writes : List HostWrite)
    → AllByRecursion P (map words_of (more_write_lines list script slot earlier writes))
writes-each P list script slot each earlier [] = tt
writes-each P list script slot each earlier (w ∷ writes) = (
  each _ (write_line-words list script slot w.host (count_by (λ e. e.host == w.host) earlier)),
  writes-each P list script slot each (w ∷ earlier) writes,
)

reads-each : (P : List (List ℕ) → Type 0) (list : Medl) (script : Script) (slot : ℕ) (after : History)
    → ((words : List (List ℕ)) → IsHostLine slot (codes "read") words → P words) → (reads : List ReadMessage)
    → AllByRecursion P (map words_of (map (read_line list script slot after) reads))
reads-each P list script slot after each [] = tt
reads-each P list script slot after each (r ∷ reads) =
    (each _ (read_line-words list script slot after r).0, reads-each P list script slot after each reads)

reads-read : (list : Medl) (script : Script) (slot : ℕ) (after : History) (reads : List HostRead) (numbers : List ℕ)
    → length reads ≡ length numbers → AllByRecursion (λ i. i < 2 ^ 64) numbers
    → filter_map (number_read slot)
    (map words_of (map (read_line list script slot after) (read_messages reads numbers)))
    ≡ numbers
reads-read list script slot after [] [] same small = refl
reads-read list script slot after [] (i ∷ numbers) same small = absurd (omega (arith, same))
reads-read list script slot after (r ∷ reads) [] same small = absurd (omega (arith, same))
reads-read list script slot after (r ∷ reads) (i ∷ numbers) same small =
    let message : ReadMessage = record { read = r; number = i } in
    let line = read_line-words list script slot after message in
    let words = words_of (read_line list script slot after message) in
    let later = map (read_line list script slot after) (read_messages reads numbers) in
    let rest = filter_map (number_read slot) (map words_of later) in
    ap (λ o. cons_option o rest) (read-read slot words i small.0 line.0 line.1)
    ∙ ap (λ is. i ∷ is) (reads-read list script slot after reads numbers (omega (arith, same)) small.1)

-- The lines of a slot.

abbrev hosts_words : Medl → Script → List Entry → History → SlotNumbers → List (List (List ℕ))
hosts_words list script row before new =
    map words_of (write_lines list script (length before))
    ++ map words_of (read_lines list script (length before) (row ∷ before) new.read)

slot-words : (list : Medl) (script : Script) (row : List Entry) (before : History) (new : SlotNumbers)
    → map words_of (slot_lines list script row before new)
    ≡ map (node_words list script row before) (below (length list.slots)) ++ hosts_words list script row before new
slot-words list script row before new =
    let nodes = map (node_line_of list script row before) (below (length list.slots)) in
    let writes = write_lines list script (length before) in
    let reads = read_lines list script (length before) (row ∷ before) new.read in
    map-append words_of (nodes ++ writes) reads
    ∙ ap (λ ws. ws ++ map words_of reads) (map-append words_of nodes writes)
    ∙ append_assoc (map words_of nodes) (map words_of writes) (map words_of reads)
    ∙ ap (λ ws. ws ++ (map words_of writes ++ map words_of reads))
    (map_of_map words_of (node_line_of list script row before) (below (length list.slots)))

hosts-each : (P : List (List ℕ) → Type 0) (list : Medl) (script : Script) (row : List Entry) (before : History)
    (new : SlotNumbers)
    → ((does : List ℕ) (words : List (List ℕ)) → IsHostLine (length before) does words → P words)
    → AllByRecursion P (hosts_words list script row before new)
hosts-each P list script row before new each =
    each-append P _ _ (writes-each P list script (length before) (each (codes "write")) []
    (writes_in script (length before)))
    (reads-each P list script (length before) (row ∷ before) (each (codes "read"))
    (read_messages (reads_in script (length before)) new.read))

-- they name no number of another slot
pub slot-IsOther : (list : Medl) (script : Script) (row : List Entry) (before : History) (new : SlotNumbers) (t : ℕ)
    → length before < 2 ^ 64 → t < 2 ^ 64 → length before ≢ t
    → AllByRecursion (IsOther t) (map words_of (slot_lines list script row before new))
slot-IsOther list script row before new t low high other =
    rw (slot-words list script row before new) (each-append (IsOther t) _ _
    (nodes-IsOther list script row before t low high other (length list.slots))
    (hosts-each (IsOther t) list script row before new
    (λ does words line. other_by_slot (length before) t words low high other line.slot)))

-- Between lines of other slots, the numbers of a slot's own lines.

others-none_sent : (t k : ℕ) (lines : List (List (List ℕ))) → AllByRecursion (IsOther t) lines
    → AllByRecursion (λ words. is_sending_line t k words ≡ false) lines
others-none_sent t k [] others = tt
others-none_sent t k (words ∷ lines) others = (sending-other t k words others.0, others-none_sent t k lines others.1)

others-none_read : (t : ℕ) (lines : List (List (List ℕ))) → AllByRecursion (IsOther t) lines
    → AllByRecursion (λ words. number_read t words ≡ None) lines
others-none_read t [] others = tt
others-none_read t (words ∷ lines) others = (read-other t words others.0, others-none_read t lines others.1)

slot-sent : (list : Medl) (script : Script) (row : List Entry) (before : History) (new : SlotNumbers) (k : ℕ)
    → length list.slots < 2 ^ 64 → k < length list.slots → IfSome (message_of (entry_of row k)) (λ i. i < 2 ^ 64)
    → number_sent (map words_of (slot_lines list script row before new)) (length before) k ≡ message_of (entry_of row k)
slot-sent list script row before new k few within small =
    let is = is_sending_line (length before) k in
    let nodes = map (node_words list script row before) (below (length list.slots)) in
    let hosts = hosts_words list script row before new in
    ap (λ ws. number_of (find is ws)) (slot-words list script row before new)
    ∙ ap number_of (find-between is [] nodes hosts tt (hosts-each (λ words. is words ≡ false) list script row before new
    (λ does words line. sending-host (length before) (length before) k does words line)))
    ∙ nodes-sent list script row before (length list.slots) k few within small

slot-read : (list : Medl) (script : Script) (row : List Entry) (before : History) (new : SlotNumbers)
    → AreNumbersOf list script row (length before) new
    → filter_map (number_read (length before)) (map words_of (slot_lines list script row before new)) ≡ new.read
slot-read list script row before new are =
    let h = number_read (length before) in
    let nodes = map (node_words list script row before) (below (length list.slots)) in
    let writes = map words_of (write_lines list script (length before)) in
    let reads = map words_of (read_lines list script (length before) (row ∷ before) new.read) in
    ap (filter_map h) (slot-words list script row before new)
    ∙ filter_map-append h nodes (writes ++ reads)
    ∙ ap (λ is. is ++ filter_map h (writes ++ reads))
    (filter_map-none h nodes (nodes-none_read list script row before (length list.slots)))
    ∙ filter_map-append h writes reads
    ∙ ap (λ is. is ++ filter_map h reads) (filter_map-none h writes
    (writes-each (λ words. h words ≡ None) list script (length before)
    (λ words line. read-write (length before) (length before) words line)
    [] (writes_in script (length before))))
    ∙ reads-read list script (length before) (row ∷ before) (reads_in script (length before)) new.read
    (sym are.shape.reads) are.small_read

-- a row has the numbers of its nodes
row-messages : (row : List Entry) (n : ℕ) → length row ≡ n
    → map message_of row ≡ map (λ k. message_of (entry_of row k)) (below n)
row-messages row n same =
    fill_by_all (λ k. message_of (entry_of row k)) (map message_of row) n None (length-map row message_of ∙ same)
    (λ k less. get_or-map message_of row k entry.Off)

pub slot_numbers-between : (list : Medl) (script : Script) (row : List Entry) (before : History) (new : SlotNumbers)
    (first last : List (List (List ℕ))) → length list.slots < 2 ^ 64 → AreNumbersOf list script row (length before) new
    → AllByRecursion (IsOther (length before)) first → AllByRecursion (IsOther (length before)) last
    → slot_numbers list (first ++ (map words_of (slot_lines list script row before new) ++ last)) (length before) ≡ new
slot_numbers-between list script row before new first last few are others others_last =
    λ i. record { sent = sent i; read = read i }
  where
    s : ℕ
    s = length before

    lines : List (List (List ℕ))
    lines = map words_of (slot_lines list script row before new)

    each : (k : ℕ) → k < length list.slots → number_sent (first ++ (lines ++ last)) s k ≡ message_of (entry_of row k)
    each k within =
        ap number_of (find-between (is_sending_line s k) first lines last (others-none_sent s k first others)
        (others-none_sent s k last others_last))
        ∙ slot-sent list script row before new k few within (are.small_sent k within)

    nodes : length row ≡ length list.slots
    nodes = sym (length-map row message_of) ∙ ap length (sym are.shape.sent) ∙ are.shape.nodes

    sent : map (number_sent (first ++ (lines ++ last)) s) (below (length list.slots)) ≡ new.sent
    sent = map_agree-below _ (λ k. message_of (entry_of row k)) (length list.slots) each
        ∙ sym (row-messages row (length list.slots) nodes) ∙ sym are.shape.sent

    read : filter_map (number_read s) (first ++ (lines ++ last)) ≡ new.read
    read =
        filter_map-between (number_read s) first lines last (others-none_read s first others)
        (others-none_read s last others_last)
        ∙ slot-read list script row before new are
