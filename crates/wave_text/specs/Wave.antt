-- The waveform of a trace, line by line.
use Rattle.std.specs.Prelude.{ℕ, ◌+◌, nat_lt, List, [], ◌∷◌, ◌++◌, length, flat_map}
use Rattle.std.specs.Prelude.{Option, Some, None, option_map, codes, decimal, if◌then◌else◌}
use Rattle.std.specs.Str.{bytes_eq}
use Rattle.ttp_base.specs.Text.{Lines, newline, lines_below}
use Rattle.shown_slot.specs.declared.host.Message.{Message}
use Rattle.shown_slot.specs.declared.host.Port.{Port}
use Rattle.whole_trace.specs.declared.shown.NodeShown.{NodeShown}
use Rattle.shown_slot.specs.Ports.{newest_host_message}
use Rattle.whole_trace.specs.Whole.{SlotLines, WholeTrace}
use Rattle.shown_slot.specs.Trace.{trace_ports, node_at}
use Rattle.shown_slot.specs.Trace.{first_text, keeps_text, returns_text, member_room}
use Rattle.wave_text.specs.Values.{cluster_value, node_value, port_value}
use Rattle.wave_text.specs.Variables.{cluster_variables, node_variables}
use Rattle.wave_text.specs.Variables.{port_variables, cluster_letter, node_code}
use Rattle.wave_text.specs.Variables.{port_code, ports_at, declarations}

-- Changes.

-- between the value and the code stands a space, where the value has two characters or more
abbrev pub change_line : List ℕ → List ℕ → List ℕ
change_line value code = value ++ (if nat_lt 1 (length value) then codes " " else []) ++ code ++ newline

-- the line of a value, unless it was the same in the slot before
abbrev pub change_lines : List ℕ → Option (List ℕ) → List ℕ → Lines
change_lines code None value = change_line value code ∷ []
change_lines code (Some before) value = if bytes_eq before value then [] else change_line value code ∷ []

-- the changes of a variable by what it is read from
abbrev pub changes_by : {X : Type 0} → (X → List ℕ) → List ℕ → Option X → X → Lines
changes_by value code before now = change_lines code (option_map value before) (value now)

abbrev pub cluster_changes : ℕ → Option (List NodeShown) → List NodeShown → Lines
cluster_changes width before now =
    flat_map (λ v. changes_by (cluster_value width v) (cluster_letter v) before now) cluster_variables

abbrev pub node_changes : ℕ → ℕ → Option NodeShown → NodeShown → Lines
node_changes width k before now =
    flat_map (λ v. changes_by (node_value width v) (node_code v k) before now) node_variables

abbrev pub port_changes : Port → Option (Option Message) → Option Message → Lines
port_changes port before now =
    flat_map (λ v. changes_by (port_value v) (port_code port v) before now) (port_variables port.what)

-- the message of a port in a slot
abbrev pub port_message : Port → SlotLines → Option Message
port_message port slot = newest_host_message port.host port.what slot.hosts

-- what changed in a slot since the one before, if there was one: of node k and its host, and of all
abbrev pub scope_changes : ℕ → List Port → Option SlotLines → SlotLines → ℕ → Lines
scope_changes width ports before now k =
    node_changes width k (option_map (λ slot. node_at slot k) before) (node_at now k)
    ++ flat_map (λ port. port_changes port (option_map (port_message port) before) (port_message port now))
    (ports_at ports k)

abbrev pub slot_changes : ℕ → ℕ → List Port → Option SlotLines → SlotLines → Lines
slot_changes width n ports before now =
    cluster_changes width (option_map (λ slot. slot.nodes) before) now.nodes
    ++ lines_below (scope_changes width ports before now) n

-- Slots.

abbrev pub time_line : ℕ → List ℕ
time_line t = codes "#" ++ decimal t ++ newline

-- the first slot, in which each variable has a change
abbrev pub first_slot_lines : ℕ → ℕ → List Port → SlotLines → Lines
first_slot_lines width n ports now =
    time_line 0 ∷ (codes "$dumpvars" ++ newline) ∷ slot_changes width n ports None now ++ (codes "$end" ++ newline) ∷ []

abbrev pub slot_change_lines : ℕ → ℕ → List Port → ℕ → SlotLines → SlotLines → Lines
slot_change_lines width n ports t before now = time_line t ∷ slot_changes width n ports (Some before) now

-- the slots from slot t on, after one before them, and the end of the last one
abbrev pub later_lines : ℕ → ℕ → List Port → ℕ → SlotLines → List SlotLines → Lines
later_lines width n ports t before [] = time_line t ∷ []
later_lines width n ports t before (now ∷ slots) =
    slot_change_lines width n ports t before now ++ later_lines width n ports (t + 1) now slots

abbrev pub all_slots_lines : ℕ → ℕ → List Port → List SlotLines → Lines
all_slots_lines width n ports [] = time_line 0 ∷ []
all_slots_lines width n ports (now ∷ slots) = first_slot_lines width n ports now
    ++ later_lines width n ports 1 now slots

-- The whole.

abbrev pub comment_line : List ℕ → List ℕ
comment_line text = codes "$comment " ++ text ++ codes " $end" ++ newline

abbrev pub comment_lines : Option (List ℕ) → Lines
comment_lines None = []
comment_lines (Some text) = comment_line text ∷ []

-- with the first line of the trace, that of the hypothesis test, and that on armed nodes, without their line feeds
abbrev pub wave_head_lines : List ℕ → List ℕ → Option (List ℕ) → Lines
wave_head_lines first keeps returns =
    (codes "$version ttplab wave $end" ++ newline) ∷ comment_line first ∷ comment_line keeps ∷ comment_lines returns
    ++ (codes "$timescale 1 s $end" ++ newline) ∷ []

abbrev pub wave_lines : WholeTrace → Lines
wave_lines trace =
    let width = member_room trace in
    let n = trace.head.nodes in
    let ports = trace_ports trace in
    wave_head_lines (first_text trace) (keeps_text trace) (returns_text trace)
    ++ declarations width n ports ++ (codes "$enddefinitions $end" ++ newline)
    ∷ all_slots_lines width n ports trace.slots
