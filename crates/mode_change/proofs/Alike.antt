-- A group whose nodes began together, and since then stood at one place and accepted the same frames, runs one mode.
use Rattle.std.proofs.Common.{◌≡◌, ℕ, ◌<◌, ◌≤◌, Bool, true, false, cond, List, [], ◌∷◌, length, Option, Some}
use Rattle.std.proofs.Common.{None, is_some, IsSome, refl, ap, sym, ◌∙◌, inl, inr, arith}
use Rattle.std.specs.Option.{option_or}
use Rattle.std.proofs.lemmas.Bool.{cases_eq, cases_lt, false≢true}
use Rattle.ttp_world.specs.declared.medl.Medl.{Medl}
use Rattle.ttp_world.specs.declared.node.Entry.{Entry}
use Rattle.ttp_world.specs.declared.node.Entry.TheVariants as entry
use Rattle.ttp_world.specs.declared.script.Script.{Script}
use Rattle.ttp_world.specs.Diary.{History, entry_of, diary_of, continues_stint, place_of}
use Rattle.precision.specs.Together.{IsIn}
use Rattle.safety_laws.specs.SameFrames.{AcceptsAlike, AcceptsAlikeSince, begins_at_zero, StandsAlike, StandsAlikeSince}
use Rattle.mode_change.specs.declared.node.Modes.{Modes}
use Rattle.mode_change.specs.Modes.{mode_requested, modes_with, with_request, ends_cycle, switched_at, modes_of}
use Rattle.mode_change.specs.OneMode.{RunsOneMode}
use Rattle.mode_change.proofs.Requests.{same-requests, begins-unasked}

-- One node's entry.

-- with it a stint begins in mode 0
begins-zero : (e : Entry) (modes : Modes) → begins_at_zero e ≡ true
    → modes_with e modes ≡ record { mode = Some 0; next = None }
begins-zero entry.Started modes begins = refl
begins-zero (entry.Joined sender cstate deviation) modes begins =
    ap (λ b. record { mode = cond b (Some 0) None; next = None }) begins
begins-zero _ modes begins = absurd (false≢true begins)

goes-on : (e : Entry) (modes : Modes) → continues_stint e ≡ true → modes_with e modes ≡ modes
goes-on (entry.Sent message) modes on = refl
goes-on (entry.Judged sender v deviation) modes on = refl
goes-on _ modes on = absurd (false≢true on)

-- A node that knows its mode knows it after the next slot.
knows-on : (ends : Bool) (request : Option ℕ) (modes : Modes) → IsSome modes.mode
    → IsSome (switched_at ends (with_request request modes)).mode
knows-on false request modes knows = knows
knows-on true None modes knows = by modes.next
  where
    by : (next : Option ℕ) → IsSome (option_or next modes.mode)
    by None = knows
    by (Some m) = refl
knows-on true (Some m) modes knows = refl

-- The group.

record RunsAlike (list : Medl) (script : Script) (group : ℕ → Bool) (history : History) : Type 0 where
  knows : (k : ℕ) → IsIn list group k → IsSome (modes_of list script history k).mode
  same : (j k : ℕ) → IsIn list group j → IsIn list group k
      → modes_of list script history j ≡ modes_of list script history k

module _ (list : Medl) (script : Script) (group : ℕ → Bool) (s : ℕ) (row : List Entry) (history : History)
    (stands : StandsAlike list group s row history) where
  -- what a node knows before the slot's request and end
  entered : ℕ → Modes
  entered k = modes_with (entry_of row k) (modes_of list script history k)

  -- the slot's end
  ended : ((k : ℕ) → IsIn list group k → IsSome (entered k).mode)
      → ((j k : ℕ) → IsIn list group j → IsIn list group k → entered j ≡ entered k)
      → ((j k : ℕ) → IsIn list group j → IsIn list group k
      → mode_requested list script row history j ≡ mode_requested list script row history k)
      → RunsAlike list script group (row ∷ history)
  unfolding entered
  ended knows same requests = record {
    knows = λ k of_k. knows-on (ends_cycle list (place_of list k (diary_of (row ∷ history) k)))
        (mode_requested list script row history k) (modes_with (entry_of row k) (modes_of list script history k))
        (knows k of_k);
    same = λ j k of_j of_k. λ i.
        switched_at (ends_cycle list (stands.places j k of_j of_k i))
        (with_request (requests j k of_j of_k i) (same j k of_j of_k i));
  }

  begun : length history ≡ s → RunsAlike list script group (row ∷ history)
  unfolding entered
  begun now =
      let entered_as = λ (k : ℕ) (of_k : IsIn list group k).
      begins-zero (entry_of row k) (modes_of list script history k) (stands.begins k of_k now) in
      let unasked = λ (k : ℕ) (of_k : IsIn list group k).
      begins-unasked list script row history k (stands.begins k of_k now) in
      ended (λ k of_k. ap (λ (m : Modes). is_some m.mode) (entered_as k of_k))
      (λ j k of_j of_k. entered_as j of_j ∙ sym (entered_as k of_k))
      (λ j k of_j of_k. unasked j of_j ∙ sym (unasked k of_k))

  gone-on : s < length history → AcceptsAlike list script group row history → RunsAlike list script group history
      → RunsAlike list script group (row ∷ history)
  unfolding entered
  gone-on later alike before =
      let entered_as = λ (k : ℕ) (of_k : IsIn list group k).
      goes-on (entry_of row k) (modes_of list script history k) (stands.goes_on k of_k later) in
      ended (λ k of_k. ap (λ (m : Modes). is_some m.mode) (entered_as k of_k) ∙ before.knows k of_k)
      (λ j k of_j of_k. entered_as j of_j ∙ before.same j k of_j of_k ∙ sym (entered_as k of_k))
      (λ j k of_j of_k. elim (cases_eq j k) [
        | inl same ↦ ap (mode_requested list script row history) same
        | inr apart ↦
            same-requests list script group row history alike j k of_j of_k apart (stands.goes_on j of_j later)
            (stands.goes_on k of_k later)
      ])

runs-alike : (list : Medl) (script : Script) (group : ℕ → Bool) (s : ℕ) (history : History) → s < length history
    → AcceptsAlikeSince list script group s history → StandsAlikeSince list group s history
    → RunsAlike list script group history
runs-alike list script group s [] after accepts stands = absurd (omega (arith, after))
runs-alike list script group s (row ∷ history) after accepts stands =
    let from : s ≤ length history = omega (arith, after) in
    elim (cases_lt s (length history)) [
      | inl later ↦
          gone-on list script group s row history (stands.0 from) later (accepts.0 from)
          (runs-alike list script group s history later accepts.1 stands.1)
      | inr early ↦ begun list script group s row history (stands.0 from) (omega (arith, early, from))
    ]

pub one-mode : (list : Medl) (script : Script) (group : ℕ → Bool) (s : ℕ) (history : History) → s < length history
    → AcceptsAlikeSince list script group s history → StandsAlikeSince list group s history
    → RunsOneMode list script group history
one-mode list script group s history after accepts stands =
    let runs = runs-alike list script group s history after accepts stands in
    record {
      knows = runs.knows;
      mode = λ j k of_j of_k. ap (λ (m : Modes). m.mode) (runs.same j k of_j of_k);
      next = λ j k of_j of_k. ap (λ (m : Modes). m.next) (runs.same j k of_j of_k);
    }
