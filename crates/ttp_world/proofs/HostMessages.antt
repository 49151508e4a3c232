-- What hosts write: each message is as long as the list gives its node, and there are not many.
use Rattle.ttp_world.proofs.Words.{◌≡◌, ℕ, zero, suc, ◌+◌, ◌*◌, ◌<◌, ◌≤◌, true, List, [], ◌∷◌, length, get_or, Option}
use Rattle.ttp_world.proofs.Words.{Some, None, IfSome, refl, ap, subst, ◌∙◌, arith, length-append, ◌==◌, nat_le}
use Rattle.ttp_world.proofs.Words.{option_and_then, cons_option, and_parts, cond_both, eqb-true, leb-true}
use Rattle.ttp_world.proofs.Words.{length-replicate, All-nil, All-cons, All-append, All-head, All-tail, none-some}
use Rattle.ttp_world.proofs.Words.{same_Some, Medl, Event, Script, is_legal_message, plan_at, IsValid, newest_number}
use Rattle.ttp_world.proofs.Words.{messages_before, out_messages, zeros_of, HostWrite, IsValidEvent, IsValidScript}
use Rattle.ttp_world.proofs.Words.{messages_written, write_at, write_in, write_of, writes_in}
use Rattle.std.proofs.Common.{All}
use Rattle.std.specs.Prelude.{slice_get}
use Rattle.std.specs.List.{filter_map}
use Rattle.ttp_world.specs.declared.script.Event.TheVariants as event
use Rattle.ttp_world.specs.Script.{payload_of_host}

-- A valid write of a script.

pub record IsValidWrite (list : Medl) (w : HostWrite) : Type 0 where
  pub node : w.host < length list.slots
  pub some : 1 ≤ (plan_at list w.host).payload
  pub size : length w.payload ≡ (plan_at list w.host).payload

valid_write_of : (list : Medl) (script : Script) (e : Event) → IsValidEvent list script e
    → IfSome (write_of e) (IsValidWrite list)
valid_write_of list script (event.Write node at payload) valid =
    record { node = valid.0; some = valid.2; size = valid.3 }
valid_write_of list script (event.Send node channels f from to) valid = tt
valid_write_of list script e valid = tt

valid_write_found : (list : Medl) (script : Script) (found : Option Event) (w : HostWrite)
    → ((e : Event) → found ≡ Some e → IsValidEvent list script e) → option_and_then write_of found ≡ Some w
    → IsValidWrite list w
valid_write_found list script None w valid is = absurd (none-some w is)
valid_write_found list script (Some e) w valid is =
    subst (λ o. IfSome o (IsValidWrite list)) is (valid_write_of list script e (valid e refl))

event_at : (P : Event → Type 0) (events : List Event) (place : ℕ) (e : Event) → All P events
    → slice_get events place ≡ Some e → P e
event_at P [] place e all is = absurd (none-some e is)
event_at P (x ∷ xs) zero e all is = subst P (same_Some x e is) (All-head P x xs all)
event_at P (x ∷ xs) (suc place) e all is = event_at P xs place e (All-tail P x xs all) is

-- the one at a place
pub valid_write_at : (list : Medl) (script : Script) (place : ℕ) (w : HostWrite) → IsValidScript list script
    → write_at script place ≡ Some w → IsValidWrite list w
valid_write_at list script place w valid is =
    valid_write_found list script (slice_get script.events place) w
    (λ e here. event_at (IsValidEvent list script) script.events place e valid.events here) is

valid_write_in : (list : Medl) (script : Script) (slot : ℕ) (e : Event) → IsValidEvent list script e
    → IfSome (write_in slot e) (IsValidWrite list)
valid_write_in list script slot (event.Write node at payload) valid =
    cond_both (at == slot) (Some (record { host = node; payload = payload })) None (λ o. IfSome o (IsValidWrite list))
    (λ now. record { node = valid.0; some = valid.2; size = valid.3 }) (λ other. tt)
valid_write_in list script slot (event.Send node channels f from to) valid = tt
valid_write_in list script slot e valid = tt

-- What each of some makes has what follows of it.

pub filter_map-each : {X Y : Type 0} (h : X → Option Y) (P : X → Type 0) (Q : Y → Type 0) (xs : List X)
    → ((x : X) → P x → IfSome (h x) Q) → All P xs → All Q (filter_map h xs)
filter_map-each h P Q [] gives all = All-nil Q
filter_map-each h P Q (x ∷ xs) gives all =
    one (h x) (gives x (All-head P x xs all)) (filter_map-each h P Q xs gives (All-tail P x xs all))
  where
    one : (o : Option _) → IfSome o Q → All Q (filter_map h xs) → All Q (cons_option o (filter_map h xs))
    one None first rest = rest
    one (Some y) first rest = All-cons Q y (filter_map h xs) first rest

-- all that are made in a slot
pub valid_writes : (list : Medl) (script : Script) (slot : ℕ) → IsValidScript list script
    → All (IsValidWrite list) (writes_in script slot)
valid_writes list script slot valid =
    filter_map-each (write_in slot) (IsValidEvent list script) (IsValidWrite list) script.events
    (valid_write_in list script slot) valid.events

-- The messages of a node.

abbrev pub HasSize : Medl → ℕ → List ℕ → Type 0
HasSize list k message = length message ≡ (plan_at list k).payload

own_size : (list : Medl) (k : ℕ) (w : HostWrite) → IsValidWrite list w → IfSome (payload_of_host k w) (HasSize list k)
own_size list k w valid =
    cond_both (w.host == k) (Some w.payload) None (λ o. IfSome o (HasSize list k))
    (λ own. valid.size ∙ ap (λ j. (plan_at list j).payload) (eqb-true w.host k own)) (λ other. tt)

written_sizes : (list : Medl) (script : Script) (k slot : ℕ) → IsValidScript list script
    → All (HasSize list k) (messages_written script k slot)
written_sizes list script k slot valid =
    filter_map-each (payload_of_host k) (IsValidWrite list) (HasSize list k) (writes_in script slot) (own_size list k)
    (valid_writes list script slot valid)

pub message_sizes : (list : Medl) (script : Script) (k slot : ℕ) → IsValidScript list script
    → All (HasSize list k) (messages_before list script k slot)
message_sizes list script k zero valid =
    All-cons (HasSize list k) (zeros_of list k) [] (length-replicate (plan_at list k).payload 0)
    (All-nil (HasSize list k))
message_sizes list script k (suc slot) valid =
    All-append (HasSize list k) (messages_before list script k slot) (messages_written script k slot)
    (message_sizes list script k slot valid) (written_sizes list script k slot valid)

pub some_message : (list : Medl) (script : Script) (k slot : ℕ) → 1 ≤ length (messages_before list script k slot)
some_message list script k zero = omega arith
some_message list script k (suc slot) =
    omega (
      arith,
      some_message list script k slot,
      length-append (messages_before list script k slot) (messages_written script k slot),
    )

pub few_messages : (list : Medl) (script : Script) (k slot : ℕ) → IsValid list → IsValidScript list script
    → length (messages_before list script k slot) ≤ 1 + 16 * slot
few_messages list script k zero valid valid_script = omega arith
few_messages list script k (suc slot) valid valid_script =
    omega (
      arith,
      few_messages list script k slot valid valid_script,
      valid_script.writes k slot,
      valid.buffers,
      length-append (messages_before list script k slot) (messages_written script k slot),
    )

-- a legal message of node k is as long as the list gives it
pub legal-size : (list : Medl) (script : Script) (slot k i : ℕ) → IsValidScript list script
    → is_legal_message list script slot k (Some i) ≡ true
    → HasSize list k (get_or (out_messages list script k slot) i [])
legal-size list script slot k i valid legal =
    let newest = newest_number (out_messages list script k slot) in
    let within : i ≤ newest =
    leb-true i newest (and_parts (nat_le (newest_number (messages_before list script k slot)) i) _ legal).1 in
    message_sizes list script k (suc slot) valid i []
    (omega (arith, within, some_message list script k (suc slot)))
