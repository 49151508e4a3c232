-- What the line of a host begins with, and the line of node 0 where no line of a host comes before it.
use Rattle.std.proofs.Common.{◌≡◌, ℕ, ◌+◌, Bool, true, false, cond, ◌&&◌, not, List, [], ◌∷◌, ◌++◌}
use Rattle.std.proofs.Common.{Option, Some, None, IsTrue, refl, sym, ap, ◌∙◌, codes}
use Rattle.std.specs.Prelude.{◌==◌, nat_lt, is_some, option_and_then}
use Rattle.std.specs.Fmt.{decimal}
use Rattle.std.specs.List.{concat}
use Rattle.std.proofs.lemmas.Bool.{and_parts, eqb-true}
use Rattle.ttp_base.specs.Text.{Lines, newline, hex_bytes, lines_of}
use Rattle.ttp_base.proofs.Gathered.{gather-behind}
use Rattle.ttp_world.specs.Trace.{source_word}
use Rattle.line_text.specs.Labels.{after_label}
use Rattle.whole_trace.proofs.FromBelow.{first_line, label-again}
use Rattle.line_reader.specs.declared.trace_line.TraceLine.{TraceLine}
use Rattle.line_reader.specs.declared.trace_line.TraceLine.TheVariants as line
use Rattle.whole_trace.specs.declared.due.Due.{Due}
use Rattle.whole_trace.specs.declared.due.Due.TheVariants as due
use Rattle.whole_trace.specs.declared.shown.Head.{Head}
use Rattle.whole_trace.specs.declared.shown.NodeShown.{NodeShown}
use Rattle.whole_trace.specs.Due.{is_below, source_node, due_after, after_node}
use Rattle.whole_trace.specs.Steps.{IsLineStep, is_taken, GoesOn, IsNodeStep, host_front}
use Rattle.whole_trace.specs.Whole.{judged, judged_behind, value_of, slots_from, with_line, with_value}
use Rattle.whole_trace.proofs.Pieces.{value-text}
use Rattle.whole_trace.proofs.NodeSteps.{goes-on, is_next}

-- Lines of hosts.

begins : (slot t : ℕ) (behind text : List ℕ) → (t == slot) ≡ true → text ≡ host_front t ++ behind
    → is_some (after_label (host_front slot) text) ≡ true
begins slot t behind text same is =
    let whole : text ≡ host_front slot ++ behind = is ∙ ap (λ (n : ℕ). host_front n ++ behind) (eqb-true t slot same) in
    ap (λ (x : List ℕ). is_some (after_label (host_front slot) x)) whole
    ∙ ap is_some (label-again (host_front slot) behind)

-- where a text does not begin as the line of a host in a slot, none comes next
pub no_hosts : (head : Head) (slot : ℕ) (has_read : Bool) (text : List ℕ)
    → GoesOn (due.Host head slot has_read) (lines_of text) → is_some (after_label (host_front slot) text) ≡ false
    → (slots_from (lines_of text)).front.hosts ≡ []
no_hosts head slot has_read text on other = by_lines (lines_of text) refl on
  where
    at : Due
    at = due.Host head slot has_read

    never : (P : Type 0) (t : ℕ) (behind : List ℕ) → (t == slot) ≡ true → text ≡ host_front t ++ behind → P
    never P t behind same is = let no : true ≡ false = sym (begins slot t behind text same is) ∙ other in cc

    by_lines : (lines : Lines) → lines_of text ≡ lines → GoesOn at lines → (slots_from lines).front.hosts ≡ []
    by_lines [] cut on = refl
    by_lines (first ∷ lines) cut on = by_value (value_of first) refl on
      where
        Goes : Option Due → Type 0
        Goes o = IsTrue (is_taken (judged_behind (λ d. judged d lines) o))

        due_here : (b : Bool) (d : Due) → Goes (cond b (Some d) None) → b ≡ true
        due_here true d on = refl
        due_here false d on = cc

        by_value : (o : Option TraceLine) → value_of first ≡ o → Goes (option_and_then (due_after at) o)
            → (with_value o (slots_from lines)).front.hosts ≡ []
        by_value None is on = refl
        by_value (Some (line.Header version nodes rounds slots schedule)) is on = refl
        by_value (Some (line.Keep k)) is on = refl
        by_value (Some (line.Back b)) is on = refl
        by_value (Some (line.Write t h n)) is on =
            let tests = due_here ((t == slot) && nat_lt h head.nodes && not has_read) _ on in
            never _ t _
            (and_parts (t == slot) (nat_lt h head.nodes)
            (and_parts ((t == slot) && nat_lt h head.nodes) (not has_read) tests).0).0
            (first_line text first lines cut
            ∙ ap (λ (x : List ℕ). x ++ concat lines) (value-text first (line.Write t h n) is)
            ∙ sym (gather-behind (host_front t) (decimal h ∷ codes " write " ∷ decimal n ∷ newline
            ∷ concat lines ∷ [])))
        by_value (Some (line.Read t h source n payload)) is on =
            let tests = due_here ((t == slot) && nat_lt h head.nodes
            && is_below head.nodes (source_node source)) _ on in
            never _ t _
            (and_parts (t == slot) (nat_lt h head.nodes)
            (and_parts ((t == slot) && nat_lt h head.nodes) (is_below head.nodes (source_node source)) tests).0).0
            (first_line text first lines cut
            ∙ ap (λ (x : List ℕ). x ++ concat lines) (value-text first (line.Read t h source n payload) is)
            ∙ sym (gather-behind (host_front t) (decimal h ∷ codes " read " ∷ source_word source ∷ codes " "
            ∷ decimal n ∷ codes " " ∷ hex_bytes payload ∷ newline ∷ concat lines ∷ [])))
        by_value (Some (line.Node t j w peer message wide members accepted rejected a z)) is on =
            by_due (due_after at (line.Node t j w peer message wide members accepted rejected a z)) refl on
          where
            by_due : (o : Option Due)
                → due_after at (line.Node t j w peer message wide members accepted rejected a z) ≡ o → Goes o
                → (with_line (line.Node t j w peer message wide members accepted rejected a z)
                (slots_from lines)).front.hosts ≡ []
            by_due None e on = cc
            by_due (Some then) e on =
                let n = is_next at then t j w peer message wide members accepted rejected a z e in rw n.node refl

-- The first line of the next slot.

next-later : (head : Head) (slot : ℕ) (has_read : Bool) (v : TraceLine) (then : Due)
    → nat_lt (slot + 1) head.slots ≡ true → after_node head (slot + 1) 0 v ≡ Some then
    → due_after (due.Host head slot has_read) v ≡ Some then
next-later head slot has_read (line.Node t j w peer message wide members accepted rejected a z) then less e = rw less e
next-later head slot has_read v then less e = cc

pub step-later : (head : Head) (slot : ℕ) (has_read : Bool) (text rest : List ℕ) (v : TraceLine) (then : Due)
    → nat_lt (slot + 1) head.slots ≡ true → IsLineStep (due.Node head (slot + 1) 0) text v then rest
    → IsLineStep (due.Host head slot has_read) text v then rest
step-later head slot has_read text rest v then less s = record {
  line = s.line;
  cut = s.cut;
  value = s.value;
  next = next-later head slot has_read v then less s.next;
  shorter = s.shorter;
}

pub node-later : (head : Head) (slot : ℕ) (has_read : Bool) (text rest : List ℕ)
    (v : TraceLine) (node : NodeShown) (then : Due)
    → nat_lt (slot + 1) head.slots ≡ true → IsLineStep (due.Node head (slot + 1) 0) text v then rest
    → IsNodeStep (due.Node head (slot + 1) 0) text node then rest
    → IsNodeStep (due.Host head slot has_read) text node then rest
node-later head slot has_read text rest v node then less s n = record {
  slots = n.slots;
  goes_on =
      goes-on (due.Host head slot has_read) text v then rest (step-later head slot has_read text rest v then less s);
  next = n.next;
  shorter = n.shorter;
}
