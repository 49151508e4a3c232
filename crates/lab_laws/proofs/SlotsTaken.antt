-- The lines of a run's slots are due one behind the other, and are read as those slots.
use Rattle.std.proofs.Common.{◌≡◌, ℕ, zero, suc, ◌+◌, ◌<◌, ◌≤◌, ℤ, Bool, true}
use Rattle.std.proofs.Common.{false, cond, ◌&&◌, not, List, [], ◌∷◌, ◌++◌}
use Rattle.std.proofs.Common.{All, length, Option, Some, None, refl, sym, ap, subst, ◌∙◌, arith, append_assoc}
use Rattle.std.specs.Prelude.{◌==◌, count_by, map, nat_lt}
use Rattle.std.specs.List.{AllByRecursion, range_with_len}
use Rattle.std.proofs.lemmas.Bool.{eq-eqb, le-ltb, lt-ltb, ne_eqb}
use Rattle.ttp_base.specs.NodeSet.{below}
use Rattle.ttp_base.specs.Text.{Lines}
use Rattle.ttp_world.specs.declared.medl.Medl.{Medl}
use Rattle.ttp_world.specs.declared.node.Ack.{Ack}
use Rattle.ttp_world.specs.declared.node.Entry.{Entry}
use Rattle.ttp_world.specs.declared.script.Script.{Script}
use Rattle.ttp_world.specs.declared.script.TheConstants.{HOST_EVENT_LIMIT, SLOT_LIMIT}
use Rattle.ttp_world.specs.Diary.{History}
use Rattle.ttp_world.specs.Legal.{IsLegal, ReadMessage, read_messages}
use Rattle.ttp_world.specs.Medl.{IsValid}
use Rattle.ttp_world.specs.Script.{HostWrite, IsValidScript, reads_in, writes_in}
use Rattle.ttp_world.specs.Trace.{history_lines, more_write_lines, node_line_of, read_line, read_lines, slot_lines}
use Rattle.ttp_world.specs.Trace.{write_line, write_lines}
use Rattle.ttp_world.specs.World.{Numbers, SlotNumbers, world}
use Rattle.ttp_world.proofs.LegalShapes.{legal-older}
use Rattle.ttp_world.proofs.Worlds.{length-world, row_of_world}
use Rattle.line_reader.specs.declared.trace_line.TraceLine.{TraceLine}
use Rattle.line_reader.specs.declared.trace_line.TraceLine.TheVariants as line
use Rattle.line_reader.specs.declared.trace_line.Word.{Word}
use Rattle.whole_trace.specs.declared.due.Due.{Due}
use Rattle.whole_trace.specs.declared.due.Due.TheVariants as due
use Rattle.whole_trace.specs.declared.due.Outline.{Outline}
use Rattle.whole_trace.specs.declared.shown.Head.{Head}
use Rattle.whole_trace.specs.declared.shown.HostLine.{HostLine}
use Rattle.whole_trace.specs.Due.{after_node, due_after, is_node_line, next_node}
use Rattle.whole_trace.specs.Whole.{SlotLines, SlotsFrom, no_lines, with_shown_node}
use Rattle.lab_laws.specs.TakenTrace.{IsOfBytes, head_of_run, node_listed, read_listed, slot_listed, slots_listed}
use Rattle.lab_laws.specs.TakenTrace.{writes_listed}
use Rattle.lab_laws.proofs.HostLines.{IsReadRead, IsWriteRead, host_writes-few, reads-read, writes-few, writes-read}
use Rattle.lab_laws.proofs.NodeLines.{IsNodeRead, node-read}
use Rattle.lab_laws.proofs.Reading.{EndsWith, one_line}

-- lines of hosts before the first line of a slot, and the slots from there on
abbrev pub fronted : List HostLine → List SlotLines → SlotsFrom
fronted hosts slots = record { front = record { nodes = []; hosts = hosts }; slots = slots }

-- One slot, of this row, behind which some slots follow.
module _ (list : Medl) (script : Script) (row : List Entry) (before : History) (o : Outline)
    (slots : List SlotLines) where
  abbrev head : Head
  head = head_of_run list script

  abbrev slot : ℕ
  slot = length before

  -- What hosts read.

  reads-end : (rs : List ReadMessage) (rest : Lines)
      → AllByRecursion (IsReadRead list script slot (row ∷ before)) rs
      → ((b : Bool) → EndsWith (due.Host head slot b) rest o (fronted [] slots))
      → (b : Bool) → EndsWith (due.Host head slot b) (map (read_line list script slot (row ∷ before)) rs ++ rest) o
      (fronted (map (read_listed list script (row ∷ before)) rs) slots)
  reads-end [] rest are ends b = ends b
  reads-end (r ∷ rs) rest are ends b =
      let first = are.0 in
      one_line (due.Host head slot b) (due.Host head slot true) _ (read_line list script slot (row ∷ before) r)
      (map (read_line list script slot (row ∷ before)) rs ++ rest) o
      (fronted (map (read_listed list script (row ∷ before)) rs) slots) first.value
      (λ i. cond (eq-eqb slot slot refl i && lt-ltb r.read.host (length list.slots) first.host i && first.from i)
      (Some (due.Host head slot true)) None)
      (reads-end rs rest are.1 ends true)

  -- What they wrote.

  writes-end : (earlier ws : List HostWrite) (rest : Lines) (hosts : List HostLine)
      → length earlier + length ws ≤ HOST_EVENT_LIMIT
      → AllByRecursion (IsWriteRead list script slot HOST_EVENT_LIMIT) ws
      → EndsWith (due.Host head slot false) rest o (fronted hosts slots)
      → EndsWith (due.Host head slot false) (more_write_lines list script slot earlier ws ++ rest) o
      (fronted (writes_listed list script slot earlier ws ++ hosts) slots)
  writes-end earlier [] rest hosts few are ends = ends
  writes-end earlier (w ∷ ws) rest hosts few are ends =
      let first = are.0 in
      let number = count_by (λ e. e.host == w.host) earlier in
      one_line (due.Host head slot false) (due.Host head slot false) _ (write_line list script slot w.host number)
      (more_write_lines list script slot (w ∷ earlier) ws ++ rest) o
      (fronted (writes_listed list script slot (w ∷ earlier) ws ++ hosts) slots)
      (first.value number (omega (arith, few, host_writes-few w.host earlier)))
      (λ i. cond (eq-eqb slot slot refl i && lt-ltb w.host (length list.slots) first.host i && not false)
      (Some (due.Host head slot false)) None)
      (writes-end (w ∷ earlier) ws rest hosts (omega (arith, few)) are.1 ends)

  -- The lines of the nodes.

  abbrev seat : ℕ → Due
  seat k = cond (nat_lt k (length list.slots)) (due.Node head slot k) (due.Host head slot false)

  abbrev with_nodes : List ℕ → List HostLine → SlotLines
  with_nodes ks hosts = record { nodes = map (node_listed list script row before) ks; hosts = hosts }

  abbrev AreRead : Type 0
  AreRead = (k : ℕ) → k < length list.slots → IsNodeRead list script row before k

  -- those of more nodes than the first
  nodes-end : (many k : ℕ) (rest : Lines) (hosts : List HostLine) → AreRead → k + many ≡ length list.slots → 1 ≤ k
      → EndsWith (due.Host head slot false) rest o (fronted hosts slots)
      → EndsWith (seat k) (map (node_line_of list script row before) (range_with_len k many) ++ rest) o
      (record { front = with_nodes (range_with_len k many) hosts; slots = slots })
  nodes-end zero k rest hosts are all some ends =
      let last : nat_lt k (length list.slots) ≡ false = le-ltb k (length list.slots) (omega (arith, all)) in
      subst (λ (b : Bool). EndsWith (cond b (due.Node head slot k) (due.Host head slot false)) rest o
      (fronted hosts slots)) (sym last) ends
  nodes-end (suc many) k rest hosts are all some ends =
      let node : k < length list.slots = omega (arith, all) in
      let first = are k node in
      let inside : nat_lt k (length list.slots) ≡ true = lt-ltb k (length list.slots) node in
      let later : (k == 0) ≡ false = ne_eqb k 0 (λ none. omega (arith, none, some)) in
      let lines = map (node_line_of list script row before) (range_with_len k (suc many)) ++ rest in
      let front = with_nodes (range_with_len (k + 1) many) hosts in
      let more : SlotsFrom = record { front = front; slots = slots } in
      let others : EndsWith (seat (k + 1))
      (map (node_line_of list script row before) (range_with_len (k + 1) many) ++ rest) o more =
      nodes-end many (k + 1) rest hosts are (omega (arith, all)) (omega arith) ends in
      let shown = node_listed list script row before k in
      let here = one_line (due.Node head slot k) (seat (k + 1)) _ (node_line_of list script row before k)
      (map (node_line_of list script row before) (range_with_len (k + 1) many) ++ rest) o more first.value
      (ap (λ (b : Bool). cond b (Some (next_node head slot k)) None) first.due) others in
      let begun : SlotsFrom = record { front = no_lines; slots = with_shown_node shown front ∷ slots } in
      let going : SlotsFrom = record { front = with_shown_node shown front; slots = slots } in
      subst (λ (b : Bool). EndsWith (cond b (due.Node head slot k) (due.Host head slot false)) lines o going)
      (sym inside)
      (subst (λ (b : Bool). EndsWith (due.Node head slot k) lines o (cond b begun going)) later here)

  -- the line of node 0 is due as the first one of the slot
  abbrev Opens : Due → Type 0
  Opens at =
      (t j : ℕ) (w : Word) (peer message : Option ℕ) (wide : Bool) (members : List ℕ) (accepted rejected : ℕ)
      (a : Ack) (offset : ℤ)
      → is_node_line head slot 0 (line.Node t j w peer message wide members accepted rejected a offset) ≡ true
      → due_after at (line.Node t j w peer message wide members accepted rejected a offset)
      ≡ Some (next_node head slot 0)

  -- those of all nodes
  first-end : (at : Due) (n : ℕ) (rest : Lines) (hosts : List HostLine) → Opens at → AreRead
      → n ≡ length list.slots → 1 ≤ n
      → EndsWith (due.Host head slot false) rest o (fronted hosts slots)
      → EndsWith at (map (node_line_of list script row before) (below n) ++ rest) o
      (fronted [] (with_nodes (below n) hosts ∷ slots))
  first-end at zero rest hosts opens are all some ends = absurd (omega (arith, some))
  first-end at (suc many) rest hosts opens are all some ends =
      let first = are 0 (omega (arith, all)) in
      one_line at (seat (0 + 1)) _ (node_line_of list script row before 0)
      (map (node_line_of list script row before) (range_with_len (0 + 1) many) ++ rest) o
      (record { front = with_nodes (range_with_len (0 + 1) many) hosts; slots = slots }) first.value
      (opens _ _ _ _ _ _ _ _ _ _ _ first.due)
      (nodes-end many (0 + 1) rest hosts are (omega (arith, all)) (omega arith) ends)

  -- all lines of the slot
  slot-end : (at : Due) (new : SlotNumbers) (rest : Lines) → 1 ≤ length list.slots → Opens at → AreRead
      → length (writes_in script slot) ≤ HOST_EVENT_LIMIT
      → AllByRecursion (IsWriteRead list script slot HOST_EVENT_LIMIT) (writes_in script slot)
      → AllByRecursion (IsReadRead list script slot (row ∷ before)) (read_messages (reads_in script slot) new.read)
      → ((b : Bool) → EndsWith (due.Host head slot b) rest o (fronted [] slots))
      → EndsWith at (slot_lines list script row before new ++ rest) o
      (fronted [] (slot_listed list script row before new ∷ slots))
  slot-end at new rest some opens are few writes reads ends =
      let nodes = map (node_line_of list script row before) (below (length list.slots)) in
      let written = write_lines list script slot in
      let read = read_lines list script slot (row ∷ before) new.read in
      let rs = read_messages (reads_in script slot) new.read in
      let listed = map (read_listed list script (row ∷ before)) rs in
      let behind_nodes : EndsWith (due.Host head slot false) (written ++ (read ++ rest)) o
      (fronted (writes_listed list script slot [] (writes_in script slot) ++ listed) slots) =
      writes-end [] (writes_in script slot) (read ++ rest) listed (omega (arith, few)) writes
      (reads-end rs rest reads ends false) in
      let all = first-end at (length list.slots) (written ++ (read ++ rest))
      (writes_listed list script slot [] (writes_in script slot) ++ listed) opens are refl some behind_nodes in
      let parts : ((nodes ++ written) ++ read) ++ rest ≡ nodes ++ (written ++ (read ++ rest)) =
      append_assoc (nodes ++ written) read rest ∙ append_assoc nodes written (read ++ rest) in
      subst (λ (ls : Lines). EndsWith at ls o (fronted [] (slot_listed list script row before new ∷ slots)))
      (sym parts) all

-- Where a slot opens.

-- behind the slots of a history
abbrev pub behind : Head → History → Bool → Due
behind head [] has_read = due.Node head 0 0
behind head (row ∷ before) has_read = due.Host head (length before) has_read

later-opens : (head : Head) (last next : ℕ) (has_read : Bool) (v : TraceLine) → last + 1 ≡ next → next < head.slots
    → is_node_line head next 0 v ≡ true
    → cond (nat_lt (last + 1) head.slots) (after_node head (last + 1) 0 v) None ≡ Some (next_node head next 0)
later-opens head last next has_read v is within node =
    ap (λ (m : ℕ). cond (nat_lt m head.slots) (after_node head m 0 v) None) is
    ∙ ap (λ (b : Bool). cond b (after_node head next 0 v) None) (lt-ltb next head.slots within)
    ∙ ap (λ (b : Bool). cond b (Some (next_node head next 0)) None) node

opens-behind : (list : Medl) (script : Script) (row : List Entry) (before : History) (o : Outline)
    (slots : List SlotLines) (has_read : Bool) → length before < script.slots
    → Opens list script row before o slots (behind (head_of_run list script) before has_read)
opens-behind list script row [] o slots has_read within =
    λ t j w peer message wide members accepted rejected a offset is.
    ap (λ (b : Bool). cond b (Some (next_node (head_of_run list script) 0 0)) None) is
opens-behind list script row (last ∷ before) o slots has_read within =
    λ t j w peer message wide members accepted rejected a offset is.
    later-opens (head_of_run list script) (length before) (suc (length before)) has_read
    (line.Node t j w peer message wide members accepted rejected a offset) (omega arith) within is

-- All slots.
module _ (list : Medl) (script : Script) (valid : IsValid list) (valid_script : IsValidScript list script)
    (bytes : All IsOfBytes script.events) (o : Outline) where
  pub history-end : (numbers : Numbers) (rest : Lines) (slots : List SlotLines) → length numbers ≤ script.slots
      → IsLegal list script numbers
      → ((b : Bool) → EndsWith (behind (head_of_run list script) (world list script numbers) b) rest o
      (fronted [] slots))
      → EndsWith (due.Node (head_of_run list script) 0 0)
      (history_lines list script (world list script numbers) numbers ++ rest) o
      (fronted [] (slots_listed list script (world list script numbers) numbers ++ slots))
  history-end [] rest slots few legal ends = ends false
  history-end (new ∷ numbers) rest slots few legal ends =
      let before = world list script numbers in
      let row = row_of_world list script new numbers in
      let lines = slot_lines list script row before new in
      let listed = slot_listed list script row before new in
      let older = history_lines list script before numbers in
      let older_listed = slots_listed list script before numbers in
      let within : length numbers < script.slots = omega (arith, few) in
      let count = length-world list script numbers in
      let early : length before < SLOT_LIMIT = omega (arith, count, within, valid_script.slots) in
      let newest : (b : Bool) → EndsWith (behind (head_of_run list script) before b) (lines ++ rest) o
      (fronted [] (listed ∷ slots)) = λ b.
      slot-end list script row before o slots (behind (head_of_run list script) before b) new rest
      (omega (arith, valid.count))
      (opens-behind list script row before o slots b (omega (arith, count, within)))
      (λ k node. node-read list script new numbers k valid valid_script within legal node)
      (writes-few list script (length before) valid_script)
      (writes-read list script (length before) valid valid_script early)
      (reads-read list script new numbers valid valid_script within bytes legal)
      ends in
      let all = history-end numbers (lines ++ rest) (listed ∷ slots) (omega (arith, few))
      (legal-older list script new numbers legal) newest in
      subst (λ (ls : Lines). EndsWith (due.Node (head_of_run list script) 0 0) ls o
      (fronted [] ((older_listed ++ listed ∷ []) ++ slots))) (sym (append_assoc older lines rest))
      (subst (λ (ss : List SlotLines). EndsWith (due.Node (head_of_run list script) 0 0) (older ++ (lines ++ rest)) o
      (fronted [] ss)) (sym (append_assoc older_listed (listed ∷ []) slots)) all)
