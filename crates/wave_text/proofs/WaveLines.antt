-- Each line of a waveform is one line: its one line feed is its last byte.
use Rattle.wave_text.proofs.Words.{ℕ, ◌+◌, Bool, true, false, List, [], ◌∷◌, ◌++◌, length, refl, Option, Some}
use Rattle.wave_text.proofs.Words.{None, arith, codes, decimal, nat_lt, option_map, if◌then◌else◌, AllByRecursion}
use Rattle.wave_text.proofs.Words.{flat_map, below, Lines, newline, lines_below, is_line-append, each-append, IsLine}
use Rattle.wave_text.proofs.Words.{NodeShown, SlotLines, Message, Port, What, node_at, ClusterVariable, NodeVariable}
use Rattle.wave_text.proofs.Words.{PortVariable, cluster_value, node_value, port_value, cluster_variables}
use Rattle.wave_text.proofs.Words.{node_variables, port_variables, cluster_letter, node_code, port_code, ports_at}
use Rattle.wave_text.proofs.Words.{change_line, change_lines, changes_by, cluster_changes, node_changes, port_changes}
use Rattle.wave_text.proofs.Words.{port_message, scope_changes, slot_changes, time_line, first_slot_lines}
use Rattle.wave_text.proofs.Words.{slot_change_lines, later_lines, all_slots_lines}
use Rattle.std.specs.Str.{bytes_eq}
use Rattle.ttp_world.specs.declared.script.Source.TheVariants as source
use Rattle.shown_slot.specs.declared.host.What.TheVariants as what
use Rattle.wave_text.specs.declared.variable.ClusterVariable.TheVariants as of_cluster
use Rattle.wave_text.specs.declared.variable.NodeVariable.TheVariants as of_node
use Rattle.wave_text.specs.declared.variable.PortVariable.TheVariants as of_port
use Rattle.wave_text.specs.Variables.{node_letter}
use Rattle.wave_text.specs.Variables.{port_letter, letter_of_node, source_letter}
use Rattle.wave_text.proofs.Feeds.{HasNone, none-append, none-byte, none-decimal, none-cluster_value, none-node_value}
use Rattle.wave_text.proofs.Feeds.{none-port_value, feed-append}

abbrev pub AreLines : Lines → Type 0
AreLines lines = AllByRecursion IsLine lines

-- a text without a line feed, and then one
ends : (text : List ℕ) → HasNone text → IsLine (text ++ newline)
ends text none = is_line-append text newline none refl

pub each-flat_map : {X : Type 0} (f : X → Lines) (xs : List X) → ((x : X) → AreLines (f x)) → AreLines (flat_map f xs)
each-flat_map f [] are = tt
each-flat_map f (x ∷ xs) are = each-append IsLine (f x) (flat_map f xs) (are x) (each-flat_map f xs are)

-- Codes.

none-letter_of : (k : ℕ) → HasNone (letter_of_node k)
none-letter_of k = none-byte (65 + k) (omega arith)

pub none-cluster_letter : (v : ClusterVariable) → HasNone (cluster_letter v)
none-cluster_letter of_cluster.Agree = refl
none-cluster_letter v = refl

none-node_letter : (v : NodeVariable) → HasNone (node_letter v)
none-node_letter of_node.Sends = refl
none-node_letter v = refl

pub none-node_code : (v : NodeVariable) (k : ℕ) → HasNone (node_code v k)
none-node_code v k = none-append (node_letter v) (letter_of_node k) (none-node_letter v) (none-letter_of k)

none-port_letter : (does : What) (v : PortVariable) → HasNone (port_letter does v)
none-port_letter what.Write v = refl
none-port_letter (what.Read from) of_port.Number = refl
none-port_letter (what.Read from) of_port.Data = refl

none-source_letter : (does : What) → HasNone (source_letter does)
none-source_letter what.Write = refl
none-source_letter (what.Read source.Status) = refl
none-source_letter (what.Read (source.Node p)) = none-letter_of p

pub none-port_code : (port : Port) (v : PortVariable) → HasNone (port_code port v)
none-port_code port v =
    simp (feed-append, none-port_letter port.what v, none-letter_of port.host, none-source_letter port.what)

-- Changes.

spaced : (long : Bool) → HasNone (if long then codes " " else [])
spaced true = refl
spaced false = refl

change-IsLine : (value code : List ℕ) → HasNone value → HasNone code → IsLine (change_line value code)
change-IsLine value code p q =
    ends ((value ++ (if nat_lt 1 (length value) then codes " " else [])) ++ code)
    (simp (feed-append, p, q, spaced (nat_lt 1 (length value))))

unless_same : (same : Bool) (line : List ℕ) → IsLine line → AreLines (if same then [] else line ∷ [])
unless_same true line is = tt
unless_same false line is = (is, tt)

change-each : (code : List ℕ) (before : Option (List ℕ)) (value : List ℕ) → HasNone value → HasNone code
    → AreLines (change_lines code before value)
change-each code None value p q = (change-IsLine value code p q, tt)
change-each code (Some before) value p q =
    unless_same (bytes_eq before value) (change_line value code) (change-IsLine value code p q)

changes-each : {X : Type 0} (value : X → List ℕ) (code : List ℕ) (before : Option X) (now : X)
    → ((x : X) → HasNone (value x)) → HasNone code → AreLines (changes_by value code before now)
changes-each value code before now p q = change-each code (option_map value before) (value now) (p now) q

cluster-each : (width : ℕ) (before : Option (List NodeShown)) (now : List NodeShown)
    → AreLines (cluster_changes width before now)
cluster-each width before now =
    each-flat_map _ cluster_variables (λ v. changes-each (cluster_value width v) (cluster_letter v) before now
    (none-cluster_value width v) (none-cluster_letter v))

node-each : (width k : ℕ) (before : Option NodeShown) (now : NodeShown) → AreLines (node_changes width k before now)
node-each width k before now =
    each-flat_map _ node_variables (λ v. changes-each (node_value width v) (node_code v k) before now
    (none-node_value width v) (none-node_code v k))

port-each : (port : Port) (before : Option (Option Message)) (now : Option Message)
    → AreLines (port_changes port before now)
port-each port before now =
    each-flat_map _ (port_variables port.what)
    (λ v. changes-each (port_value v) (port_code port v) before now (none-port_value v) (none-port_code port v))

scope-each : (width : ℕ) (ports : List Port) (before : Option SlotLines) (now : SlotLines) (k : ℕ)
    → AreLines (scope_changes width ports before now k)
scope-each width ports before now k =
    let earlier = option_map (λ (slot : SlotLines). node_at slot k) before in
    each-append IsLine (node_changes width k earlier (node_at now k))
    (flat_map (λ port. port_changes port (option_map (port_message port) before) (port_message port now))
    (ports_at ports k))
    (node-each width k earlier (node_at now k))
    (each-flat_map (λ port. port_changes port (option_map (port_message port) before) (port_message port now))
    (ports_at ports k)
    (λ port. port-each port (option_map (port_message port) before) (port_message port now)))

pub slot-each : (width n : ℕ) (ports : List Port) (before : Option SlotLines) (now : SlotLines)
    → AreLines (slot_changes width n ports before now)
slot-each width n ports before now =
    let earlier = option_map (λ (slot : SlotLines). slot.nodes) before in
    each-append IsLine (cluster_changes width earlier now.nodes) (lines_below (scope_changes width ports before now) n)
    (cluster-each width earlier now.nodes)
    (each-flat_map (scope_changes width ports before now) (below n) (scope-each width ports before now))

-- Slots.

time-IsLine : (t : ℕ) → IsLine (time_line t)
time-IsLine t = ends (codes "#" ++ decimal t) (none-decimal t)

later-each : (width n : ℕ) (ports : List Port) (t : ℕ) (before : SlotLines) (slots : List SlotLines)
    → AreLines (later_lines width n ports t before slots)
later-each width n ports t before [] = (time-IsLine t, tt)
later-each width n ports t before (now ∷ slots) =
    each-append IsLine (slot_change_lines width n ports t before now) (later_lines width n ports (t + 1) now slots)
    (time-IsLine t, slot-each width n ports (Some before) now)
    (later-each width n ports (t + 1) now slots)

pub all_slots-each : (width n : ℕ) (ports : List Port) (slots : List SlotLines)
    → AreLines (all_slots_lines width n ports slots)
all_slots-each width n ports [] = (time-IsLine 0, tt)
all_slots-each width n ports (now ∷ slots) =
    each-append IsLine (first_slot_lines width n ports now) (later_lines width n ports 1 now slots)
    (each-append IsLine (time_line 0 ∷ (codes "$dumpvars" ++ newline) ∷ slot_changes width n ports None now)
    ((codes "$end" ++ newline) ∷ []) (time-IsLine 0, (refl, slot-each width n ports None now)) (refl, tt))
    (later-each width n ports 1 now slots)
