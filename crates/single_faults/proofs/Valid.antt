-- A script with one fault more is valid.
use Rattle.std.proofs.Common.{◌≡◌, ℕ, ◌+◌, ◌-◌, ◌<◌, Bool, false, List, [], ◌∷◌, ◌++◌, length, Option}
use Rattle.std.proofs.Common.{ap, ◌∙◌, cond, arith, length-append, append-nil}
use Rattle.std.specs.Prelude.{All, count_by, sum_by}
use Rattle.std.specs.List.{filter_map, cons_option}
use Rattle.std.proofs.lemmas.List.Elements.{All-nil, All-cons, All-head, All-tail, All-push, filter_map-append}
use Rattle.std.proofs.lemmas.List.Sums.{sum_by-append, sum_by-cons}
use Rattle.ttp_world.specs.declared.medl.Medl.{Medl}
use Rattle.ttp_world.specs.declared.script.Event.{Event}
use Rattle.ttp_world.specs.declared.script.Event.TheVariants as event
use Rattle.ttp_world.specs.declared.script.Script.{Script}
use Rattle.ttp_world.specs.declared.script.TheConstants.{EVENT_LIMIT}
use Rattle.ttp_world.specs.Script.{HostWrite, write_in, messages_written, payload_of_host, IsValidEvent, is_host_event}
use Rattle.ttp_world.specs.Script.{IsValidScript, IsBounded}
use Rattle.campaign.specs.Tried.{with_fault}
use Rattle.single_faults.specs.Tried.{MayStand}
use Rattle.ttp_world.proofs.Unhosted.{write_in-none as unwritten}
use Rattle.ttp_world.proofs.WorldFacts.{event-bounded as bounded}

-- whatever events stand beside it
same-valid : (list : Medl) (script : Script) (fault e : Event) → IsValidEvent list script e
    → IsValidEvent list (with_fault script fault) e
same-valid list script fault (event.Send node channels f from to) valid = valid
same-valid list script fault e valid = valid

all-valid : (list : Medl) (script : Script) (fault : Event) (events : List Event)
    → All (IsValidEvent list script) events
    → All (IsValidEvent list (with_fault script fault)) events
all-valid list script fault [] all = All-nil (IsValidEvent list (with_fault script fault))
all-valid list script fault (e ∷ events) all =
    All-cons (IsValidEvent list (with_fault script fault)) e events
    (same-valid list script fault e (All-head (IsValidEvent list script) e events all))
    (all-valid list script fault events (All-tail (IsValidEvent list script) e events all))

same-messages : (script : Script) (fault : Event) (k slot : ℕ) → is_host_event fault ≡ false
    → messages_written (with_fault script fault) k slot ≡ messages_written script k slot
same-messages script fault k slot none =
    ap (filter_map (payload_of_host k))
    (filter_map-append (write_in slot) script.events (fault ∷ [])
    ∙ ap (λ (o : Option HostWrite). filter_map (write_in slot) script.events ++ cons_option o [])
    (unwritten slot fault none)
    ∙ append-nil (filter_map (write_in slot) script.events))

-- it is none of a host's
same-count : (fault : Event) (events : List Event) → is_host_event fault ≡ false
    → count_by is_host_event (events ++ fault ∷ []) ≡ count_by is_host_event events
same-count fault events none =
    let here : Event → ℕ = λ e. cond (is_host_event e) 1 0 in
    let behind : sum_by here (fault ∷ []) ≡ 0 = sum_by-cons here fault [] ∙ ap (λ (b : Bool). cond b 1 0 + 0) none in
    let all = sum_by-append here events (fault ∷ []) in
    omega (arith, all, behind)

pub with_fault-valid : (list : Medl) (script : Script) (fault : Event) → IsValidScript list script
    → MayStand list script fault → length script.events < EVENT_LIMIT → IsValidScript list (with_fault script fault)
with_fault-valid list script fault valid may room = record {
  slots = valid.slots;
  on_count = valid.on_count;
  on = valid.on;
  drift_count = valid.drift_count;
  drift = valid.drift;
  events =
      All-push (IsValidEvent list (with_fault script fault)) script.events fault
      (all-valid list script fault script.events valid.events) (same-valid list script fault fault may.valid);
  writes = λ k slot.
      let same = ap length (same-messages script fault k slot may.unhosted) in
      let few = valid.writes k slot in
      omega (arith, same, few);
  event_count = let long = length-append script.events (fault ∷ []) in omega (arith, long, room);
  host_event_count =
      let same = same-count fault script.events may.unhosted in
      let few = valid.host_event_count in
      omega (arith, same, few);
}

-- A valid event is within its bounds.

pub all-bounded : (list : Medl) (script : Script) (events : List Event) → All (IsValidEvent list script) events
    → All IsBounded events
all-bounded list script [] all = All-nil IsBounded
all-bounded list script (e ∷ events) all =
    All-cons IsBounded e events (bounded list script e (All-head (IsValidEvent list script) e events all))
    (all-bounded list script events (All-tail (IsValidEvent list script) e events all))

pub may-bounded : (list : Medl) (script : Script) (fault : Event) → MayStand list script fault → IsBounded fault
may-bounded list script fault may = bounded list script fault may.valid
