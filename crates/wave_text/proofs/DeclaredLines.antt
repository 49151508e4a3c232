-- Each line of a waveform is one line: those before its slots, and those of the whole.
use Rattle.wave_text.proofs.Words.{ℕ, ◌-◌, ◌*◌, List, [], ◌∷◌, ◌++◌, map, refl, Option, Some, None, arith, codes}
use Rattle.wave_text.proofs.Words.{decimal, flat_map, below, newline, hex, lines_below, is_line-append, source_word}
use Rattle.wave_text.proofs.Words.{each-append, IsLine, Head, WholeTrace, Port, What, trace_ports, header_text}
use Rattle.wave_text.proofs.Words.{first_text, keeps_text, returns_text, member_room, ClusterVariable, NodeVariable}
use Rattle.wave_text.proofs.Words.{PortVariable, cluster_variables, node_variables, port_variables, cluster_letter}
use Rattle.wave_text.proofs.Words.{node_code, port_code, cluster_declaration, node_declaration, port_declaration}
use Rattle.wave_text.proofs.Words.{port_declarations, scope_line, upscope_line, ports_at, host_scope, node_scope}
use Rattle.wave_text.proofs.Words.{declarations, comment_line, comment_lines, wave_head_lines, all_slots_lines}
use Rattle.wave_text.proofs.Words.{wave_lines}
use Rattle.ttp_base.proofs.Numerals.{has-hex}
use Rattle.ttp_world.specs.declared.keep.Back.{Back}
use Rattle.ttp_world.specs.declared.keep.Back.TheVariants as back
use Rattle.ttp_world.specs.declared.keep.Keep.{Keep}
use Rattle.ttp_world.specs.declared.keep.Keep.TheVariants as keep
use Rattle.line_reader.specs.TraceLines.{keep_text, back_text}
use Rattle.shown_slot.specs.declared.host.What.TheVariants as what
use Rattle.wave_text.specs.declared.variable.ClusterVariable.TheVariants as of_cluster
use Rattle.wave_text.specs.declared.variable.NodeVariable.TheVariants as of_node
use Rattle.wave_text.specs.declared.variable.PortVariable.TheVariants as of_port
use Rattle.wave_text.specs.Variables.{cluster_name, node_name, port_name, wire, cluster_type, node_type, port_type}
use Rattle.wave_text.specs.Variables.{range_text, cluster_range, node_range, port_range, declaration}
use Rattle.wave_text.proofs.Feeds.{HasNone, none-append, none-decimal, none-source, feed-append, feeds}
use Rattle.wave_text.proofs.WaveLines.{AreLines, each-flat_map, none-cluster_letter, none-node_code, none-port_code}
use Rattle.wave_text.proofs.WaveLines.{all_slots-each}

-- Names and types.

none-cluster_name : (v : ClusterVariable) → HasNone (cluster_name v)
none-cluster_name of_cluster.Agree = refl
none-cluster_name v = refl

none-node_name : (v : NodeVariable) → HasNone (node_name v)
none-node_name of_node.Sends = refl
none-node_name v = refl

none-port_name : (does : What) (v : PortVariable) → HasNone (port_name does v)
none-port_name what.Write v = refl
none-port_name (what.Read from) of_port.Number = none-source from
none-port_name (what.Read from) of_port.Data = none-source from

none-wire : (size : ℕ) → HasNone (wire size)
none-wire size = none-decimal size

none-cluster_type : (width : ℕ) (v : ClusterVariable) → HasNone (cluster_type width v)
none-cluster_type width of_cluster.Agree = none-wire 1
none-cluster_type width of_cluster.Sender = refl
none-cluster_type width of_cluster.Active = none-wire width
none-cluster_type width of_cluster.Leaving = none-wire width
none-cluster_type width of_cluster.Spread = refl

none-node_type : (width : ℕ) (v : NodeVariable) → HasNone (node_type width v)
none-node_type width of_node.Sends = none-wire 1
none-node_type width of_node.Members = none-wire width
none-node_type width v = refl

none-port_type : (port : Port) (v : PortVariable) → HasNone (port_type port v)
none-port_type port of_port.Number = refl
none-port_type port of_port.Data = none-wire (8 * port.size)

none-range : (size : ℕ) → HasNone (range_text size)
none-range size = simp feeds

none-cluster_range : (width : ℕ) (v : ClusterVariable) → HasNone (cluster_range width v)
none-cluster_range width of_cluster.Active = none-range width
none-cluster_range width of_cluster.Leaving = none-range width
none-cluster_range width v = refl

none-node_range : (width : ℕ) (v : NodeVariable) → HasNone (node_range width v)
none-node_range width of_node.Members = none-range width
none-node_range width v = refl

none-port_range : (port : Port) (v : PortVariable) → HasNone (port_range port v)
none-port_range port of_port.Number = refl
none-port_range port of_port.Data = none-range (8 * port.size)

-- Declarations.

ends_so : (text : List ℕ) → HasNone text → IsLine (text ++ (codes " $end" ++ newline))
ends_so text none = is_line-append text (codes " $end" ++ newline) none refl

declaration-IsLine : (type code name range : List ℕ) → HasNone type → HasNone code → HasNone name → HasNone range
    → IsLine (declaration type code name range)
declaration-IsLine type code name range p q r s =
    ends_so (codes "$var " ++ type ++ codes " " ++ code ++ codes " " ++ name ++ range) (simp (feed-append, p, q, r, s))

scope-IsLine : (name : List ℕ) → HasNone name → IsLine (scope_line name)
scope-IsLine name none = ends_so (codes "$scope module " ++ name) none

each-map : {X : Type 0} (f : X → List ℕ) (xs : List X) → ((x : X) → IsLine (f x)) → AreLines (map f xs)
each-map f [] are = tt
each-map f (x ∷ xs) are = (are x, each-map f xs are)

cluster-declared : (width : ℕ) (v : ClusterVariable) → IsLine (cluster_declaration width v)
cluster-declared width v =
    declaration-IsLine (cluster_type width v) (cluster_letter v) (cluster_name v) (cluster_range width v)
    (none-cluster_type width v) (none-cluster_letter v) (none-cluster_name v) (none-cluster_range width v)

node-declared : (width k : ℕ) (v : NodeVariable) → IsLine (node_declaration width k v)
node-declared width k v =
    declaration-IsLine (node_type width v) (node_code v k) (node_name v) (node_range width v)
    (none-node_type width v) (none-node_code v k) (none-node_name v) (none-node_range width v)

port-declared : (port : Port) (v : PortVariable) → IsLine (port_declaration port v)
port-declared port v =
    declaration-IsLine (port_type port v) (port_code port v) (port_name port.what v) (port_range port v)
    (none-port_type port v) (none-port_code port v) (none-port_name port.what v) (none-port_range port v)

host-each : (ports : List Port) → AreLines (host_scope ports)
host-each [] = tt
host-each (port ∷ ports) =
    each-append IsLine (scope_line (codes "host") ∷ flat_map port_declarations (port ∷ ports)) (upscope_line ∷ []) (
      refl,
      each-flat_map port_declarations (port ∷ ports)
          (λ p. each-map (port_declaration p) (port_variables p.what) (port-declared p)),
    ) (refl, tt)

node_scope-each : (width : ℕ) (ports : List Port) (k : ℕ) → AreLines (node_scope width ports k)
node_scope-each width ports k =
    let name = codes "node" ++ decimal k in
    let own = scope_line name ∷ map (node_declaration width k) node_variables in
    each-append IsLine (own ++ host_scope (ports_at ports k)) (upscope_line ∷ [])
    (each-append IsLine own (host_scope (ports_at ports k)) (
      scope-IsLine name (none-decimal k),
      each-map (node_declaration width k) node_variables (node-declared width k),
    ) (host-each (ports_at ports k)))
    (refl, tt)

declarations-each : (width n : ℕ) (ports : List Port) → AreLines (declarations width n ports)
declarations-each width n ports =
    let own = scope_line (codes "cluster") ∷ map (cluster_declaration width) cluster_variables in
    each-append IsLine (own ++ lines_below (node_scope width ports) n) (upscope_line ∷ [])
    (each-append IsLine own (lines_below (node_scope width ports) n)
    (refl, each-map (cluster_declaration width) cluster_variables (cluster-declared width))
    (each-flat_map (node_scope width ports) (below n) (node_scope-each width ports)))
    (refl, tt)

-- The head.

none-head : (head : Head) → HasNone (header_text head)
none-head head =
    none-append (codes "ttpbench trace " ++ decimal head.version ++ codes " nodes " ++ decimal head.nodes
    ++ codes " rounds " ++ decimal head.rounds ++ codes " slots " ++ decimal head.slots ++ codes " schedule ")
    (hex 6 head.schedule) (simp feeds) (has-hex 10 6 head.schedule (omega arith))

none-keep : (k : Keep) → HasNone (keep_text k)
none-keep (keep.Yes start) = none-decimal start
none-keep (keep.No rule slot) = simp feeds

none-back : (b : Back) → HasNone (back_text b)
none-back (back.Yes start) = none-decimal start
none-back (back.No rule slot) = simp feeds

comment-IsLine : (text : List ℕ) → HasNone text → IsLine (comment_line text)
comment-IsLine text none =
    is_line-append (codes "$comment " ++ text ++ codes " $end") newline (simp (feed-append, none)) refl

returns-each : (trace : WholeTrace) → AreLines (comment_lines (returns_text trace))
returns-each trace = go trace.back
  where
    go : (b : Option Back) → AreLines (comment_lines (elim b [ None ↦ None | Some said ↦ Some (back_text said) ]))
    go None = tt
    go (Some said) = (comment-IsLine (back_text said) (none-back said), tt)

head-each : (trace : WholeTrace) → AreLines (wave_head_lines (first_text trace) (keeps_text trace) (returns_text trace))
head-each trace =
    each-append IsLine ((codes "$version ttplab wave $end" ++ newline) ∷ comment_line (first_text trace)
    ∷ comment_line (keeps_text trace) ∷ comment_lines (returns_text trace))
    ((codes "$timescale 1 s $end" ++ newline) ∷ []) (
      refl,
      (
        comment-IsLine (first_text trace) (none-head trace.head),
        (comment-IsLine (keeps_text trace) (none-keep trace.keep), returns-each trace),
      ),
    ) (refl, tt)

-- The whole.

pub wave_lines-each : (trace : WholeTrace) → AreLines (wave_lines trace)
wave_lines-each trace =
    let width = member_room trace in
    let n = trace.head.nodes in
    let ports = trace_ports trace in
    let head = wave_head_lines (first_text trace) (keeps_text trace) (returns_text trace) in
    each-append IsLine (head ++ declarations width n ports)
    ((codes "$enddefinitions $end" ++ newline) ∷ all_slots_lines width n ports trace.slots)
    (each-append IsLine head (declarations width n ports) (head-each trace) (declarations-each width n ports))
    (refl, all_slots-each width n ports trace.slots)
