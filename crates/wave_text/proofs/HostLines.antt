-- Lines of hosts, and what one line more adds to what they say of a port.
use Rattle.wave_text.proofs.Words.{◌≡◌, ℕ, Bool, true, cond, List, [], ◌∷◌, ◌++◌, Option, Some, None, refl, sym}
use Rattle.wave_text.proofs.Words.{ap, ◌∙◌, arith, ◌==◌, Source, HostLine, Message, What, larger, later}
use Rattle.wave_text.proofs.Words.{message_in_line, most_bytes, newest_host_message, size_of, host_in, message_said}
use Rattle.wave_text.proofs.Words.{what_in}
use Rattle.std.proofs.Common.{◌&&◌}
use Rattle.std.proofs.Common.{eq-eqb}
use Rattle.std.proofs.lemmas.Bool.{and_parts, eqb-true}
use Rattle.wave_text.proofs.FromBelow.{guarded}
use Rattle.ttp_world.specs.declared.script.Source.TheVariants as source
use Rattle.whole_trace.specs.declared.shown.HostLine.TheVariants as line
use Rattle.shown_slot.specs.declared.host.What.TheVariants as what
use Rattle.shown_slot.specs.Ports.{same_source}

-- Whose message a line has.

one_source : (s t : Source) → same_source s t ≡ true → s ≡ t
one_source source.Status source.Status is = refl
one_source source.Status (source.Node q) is = cc
one_source (source.Node p) source.Status is = cc
one_source (source.Node p) (source.Node q) is = ap (λ (k : ℕ). source.Node k) (eqb-true p q is)

its_source : (s : Source) → same_source s s ≡ true
its_source source.Status = refl
its_source (source.Node p) = eq-eqb p p refl

-- a line has a message of one port alone
pub its_port : (k : ℕ) (does : What) (shown : HostLine) (m : Message) → message_in_line k does shown ≡ Some m
    → (k ≡ host_in shown) × (does ≡ what_in shown)
its_port k what.Write (line.Write host number) m is =
    (sym (eqb-true host k (guarded (host == k) (Some (record { number = number; payload = [] })) m is).0), refl)
its_port k what.Write (line.Read host from number payload) m is = cc
its_port k (what.Read wanted) (line.Write host number) m is = cc
its_port k (what.Read wanted) (line.Read host from number payload) m is =
    let g =
    guarded ((host == k) && same_source wanted from) (Some (record { number = number; payload = payload })) m is in
    let both = and_parts (host == k) (same_source wanted from) g.0 in
    (sym (eqb-true host k both.0), ap (λ (s : Source). what.Read s) (one_source wanted from both.1))

-- a line of a host has one message, of what it writes or reads
pub its_message : (shown : HostLine) → message_in_line (host_in shown) (what_in shown) shown ≡ Some (message_said shown)
its_message (line.Write host number) =
    ap (λ (b : Bool). cond b (Some (record { number = number; payload = [] })) None) (eq-eqb host host refl)
its_message (line.Read host from number payload) =
    let same : ((host == host) && same_source from from) ≡ true =
    ap (λ (b : Bool). b && same_source from from) (eq-eqb host host refl) ∙ its_source from in
    ap (λ (b : Bool). cond b (Some (record { number = number; payload = payload })) None) same

-- One line more.

later_again : (a b c : Option Message) → later (later a b) c ≡ later a (later b c)
later_again a b None = refl
later_again a b (Some c) = refl

none_later : (m : Option Message) → later None m ≡ m
none_later None = refl
none_later (Some m) = refl

pub newest-append : (k : ℕ) (does : What) (lines : List HostLine) (shown : HostLine)
    → newest_host_message k does (lines ++ shown ∷ []) ≡ later (newest_host_message k does lines)
    (message_in_line k does shown)
newest-append k does [] shown = sym (none_later (message_in_line k does shown))
newest-append k does (first ∷ lines) shown =
    ap (later (message_in_line k does first)) (newest-append k does lines shown)
    ∙ sym (later_again (message_in_line k does first) (newest_host_message k does lines) (message_in_line k does shown))

larger_again : (a b c : Option ℕ) → larger (larger a b) c ≡ larger a (larger b c)
larger_again None b c = refl
larger_again (Some a) None c = refl
larger_again (Some a) (Some b) None = refl
larger_again (Some a) (Some b) (Some c) = ap (λ (n : ℕ). Some n) (grind arith)

larger_none : (a : Option ℕ) → larger a None ≡ a
larger_none None = refl
larger_none (Some a) = refl

pub most-append : (k : ℕ) (does : What) (lines : List HostLine) (shown : HostLine)
    → most_bytes k does (lines ++ shown ∷ []) ≡ larger (most_bytes k does lines)
    (size_of (message_in_line k does shown))
most-append k does [] shown = larger_none (size_of (message_in_line k does shown))
most-append k does (first ∷ lines) shown =
    ap (larger (size_of (message_in_line k does first))) (most-append k does lines shown)
    ∙ sym (larger_again (size_of (message_in_line k does first)) (most_bytes k does lines)
    (size_of (message_in_line k does shown)))

-- a line of another port changes nothing
pub newest-other : (k : ℕ) (does : What) (lines : List HostLine) (shown : HostLine)
    → message_in_line k does shown ≡ None
    → newest_host_message k does (lines ++ shown ∷ []) ≡ newest_host_message k does lines
newest-other k does lines shown none =
    newest-append k does lines shown ∙ ap (later (newest_host_message k does lines)) none

pub most-other : (k : ℕ) (does : What) (lines : List HostLine) (shown : HostLine) → message_in_line k does shown ≡ None
    → most_bytes k does (lines ++ shown ∷ []) ≡ most_bytes k does lines
most-other k does lines shown none =
    most-append k does lines shown ∙ ap (λ (m : Option Message). larger (most_bytes k does lines) (size_of m)) none
    ∙ larger_none (most_bytes k does lines)
