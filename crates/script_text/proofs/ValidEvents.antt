-- An event that a line without a fault says is valid.
use Rattle.script_text.proofs.Terms.{◌≡◌, ℕ, ◌*◌, ◌==◌, ℤ, true, List, length, nat_le, arith, leb-true, nat_tests}
use Rattle.script_text.proofs.Terms.{common_steps, Medl, Event, Script, IsValidEvent, IsWithinSpan, Keyword, word_at}
use Rattle.script_text.proofs.Terms.{digit_bytes_in, says_event, statement_of, statement_has_payload, event_has_nodes}
use Rattle.script_text.proofs.Terms.{event_is_in_range}
use Rattle.std.proofs.Common.{not, nat_abs}
use Rattle.std.proofs.lemmas.Bool.{and_parts}
use Rattle.std.proofs.lemmas.Int.{ints}
use Rattle.ttp_world.specs.declared.script.Event.TheVariants as event
use Rattle.ttp_world.specs.declared.script.TheConstants.{ERROR_LIMIT, JUMP_LIMIT}
use Rattle.ttp_world.specs.declared.script.Source.{Source}
use Rattle.ttp_world.specs.declared.script.Source.TheVariants as source
use Rattle.ttp_world.specs.declared.script.TheConstants.{FIRST_FLIPPED_BIT, LAST_FLIPPED_BIT}
use Rattle.ttp_world.specs.Script.{IsSpan}
use Rattle.ttp_world.specs.Script.{IsSource}
use Rattle.script_text.specs.declared.keyword.Keyword.TheVariants as keyword
use Rattle.script_text.specs.Faults.{is_node, is_read_node, payload_size, node_sends_payload}
use Rattle.script_text.specs.Faults.{is_slot, is_span, is_within_limit}
use Rattle.script_text.specs.Faults.{is_flipped_bit}
use Rattle.script_text.proofs.HexDigits.{length-hex_bytes_in}

-- a number of microticks within plus or minus a bound
pub within_span : (bound : ℕ) (value : ℤ) → is_within_limit bound value ≡ true → IsWithinSpan bound value
within_span bound value within = omega (arith, ints, leb-true (nat_abs value) bound within)

span_valid : (script : Script) (slots from to : ℕ) → script.slots ≡ slots → is_span slots from to ≡ true
    → IsSpan script from to
span_valid script slots from to same span =
    (grind (arith, common_steps, nat_tests), grind (arith, common_steps, nat_tests))

source_valid : (list : Medl) (host : ℕ) (from : Source) → is_read_node (is_node list) from ≡ true
    → is_read_node (node_sends_payload list) from ≡ true → is_read_node (λ k. not (k == host)) from ≡ true
    → IsSource list host from
source_valid list host source.Status node sends other = tt
source_valid list host (source.Node k) node sends other =
    (leb-true _ _ node, leb-true _ _ sends, grind (arith, nat_tests))

bytes_stated : (form : Keyword) (words : List (List ℕ)) (node slot : ℕ) (bytes : List ℕ)
    → statement_of form words ≡ says_event (event.Write node slot bytes) → bytes ≡ digit_bytes_in (word_at words 3)
bytes_stated keyword.Slots words node slot bytes says = cc
bytes_stated form words node slot bytes says = cc

-- an event that a line says with its nodes, payload and numbers right is valid
pub stated_valid : (list : Medl) (script : Script) (slots : ℕ) (words : List (List ℕ)) (form : Keyword) (e : Event)
    → statement_of form words ≡ says_event e → script.slots ≡ slots
    → event_has_nodes list e ≡ true → event_is_in_range list slots words e ≡ true
    → statement_has_payload list (says_event e) ≡ true → IsValidEvent list script e
stated_valid list script slots words form (event.Send node channels kind from to) says same nodes range payload =
    (leb-true _ _ nodes, span_valid script slots from to same range)
stated_valid list script slots words form (event.Receive node channels kind from to) says same nodes range payload =
    (leb-true _ _ nodes, span_valid script slots from to same range)
stated_valid list script slots words form (event.Flip node channels bit slot) says same nodes range payload =
    let both = and_parts (is_flipped_bit bit) (is_slot slots slot) range in
    let bits = and_parts (nat_le FIRST_FLIPPED_BIT bit) (nat_le bit LAST_FLIPPED_BIT) both.0 in
    (leb-true _ _ nodes, leb-true _ _ bits.0, leb-true _ _ bits.1, rw same (leb-true _ _ both.1))
stated_valid list script slots words form (event.Error node value from to) says same nodes range payload =
    let both = and_parts (is_within_limit ERROR_LIMIT value) (is_span slots from to) range in
    (leb-true _ _ nodes, within_span ERROR_LIMIT value both.0, span_valid script slots from to same both.1)
stated_valid list script slots words form (event.Jump node value slot) says same nodes range payload =
    let both = and_parts (is_within_limit JUMP_LIMIT value) (is_slot slots slot) range in
    (leb-true _ _ nodes, within_span JUMP_LIMIT value both.0, rw same (leb-true _ _ both.1))
stated_valid list script slots words form (event.Arm node slot) says same nodes range payload =
    (leb-true _ _ nodes, rw same (leb-true _ _ range))
stated_valid list script slots words form (event.Write node slot bytes) says same nodes range payload =
    let both = and_parts (is_slot slots slot) (length (word_at words 3) == 2 * payload_size list node) range in (
      leb-true _ _ nodes,
      rw same (leb-true _ _ both.0),
      leb-true _ _ payload,
      rw (bytes_stated form words node slot bytes says)
          (length-hex_bytes_in (payload_size list node) (word_at words 3) (grind (arith, nat_tests))),
    )
stated_valid list script slots words form (event.Read node slot from) says same nodes range payload =
    let named = and_parts (is_node list node) (is_read_node (is_node list) from) nodes in
    let both = and_parts (is_slot slots slot) (is_read_node (λ k. not (k == node)) from) range in
    (leb-true _ _ named.0, rw same (leb-true _ _ both.0), source_valid list node from named.1 payload both.1)
