-- Why a node listens, by its newest entry that is no wait.
use Rattle.std.proofs.Common.{◌≡◌, ℕ, ◌-◌, ◌<◌, true, false, ◌||◌, [], ◌∷◌, take, refl, ap, sym, ◌∙◌}
use Rattle.std.proofs.lemmas.Bool.{false≢true}
use Rattle.causes.specs.LinesOf.{lines_where}
use Rattle.causes.specs.Listening.{back_to_listening, left_and_armed, listening_by, listening_since, listening_sources}
use Rattle.causes.specs.RunSlots.{RunSlot, RunSlots, entry_in_slot, is_gone_entry}
use Rattle.causes.specs.RunSlots.{is_left, is_retried, newest_departure}
use Rattle.causes.specs.RunSlots.{node_spot}
use Rattle.causes.specs.Sources.{no_sources, only_entries}
use Rattle.causes.specs.declared.cause.Spot.{Spot}
use Rattle.entry_causes.proofs.Past.{spot-in}
use Rattle.entry_causes.proofs.FromBelow.{length-past_slots_in, past_slots_in-down, past_slots_in-zero, slot_in-script}
use Rattle.run_rows.specs.Rows.{past_slots_in, slot_in}
use Rattle.ttp_world.specs.Events.{arms}
use Rattle.ttp_world.specs.declared.medl.Medl.{Medl}
use Rattle.ttp_world.specs.declared.node.Entry.{Entry}
use Rattle.ttp_world.specs.declared.node.Entry.TheVariants as entry
use Rattle.ttp_world.specs.declared.script.Script.{Script}

-- Entries.

by-retried : (k : ℕ) (run : RunSlots) (s : RunSlot) (e : Entry) → is_retried e ≡ true
    → listening_by k run s e ≡ only_entries (node_spot k s ∷ [])
by-retried k run s entry.Retried is = refl
by-retried k run s e is = absurd (false≢true is)

by-out : (k : ℕ) (run : RunSlots) (s : RunSlot) (e : Entry) → (is_left e || is_gone_entry e) ≡ true
    → listening_by k run s e ≡ left_and_armed k run s
by-out k run s entry.Gone is = refl
by-out k run s (entry.Left why peer) is = refl
by-out k run s e is = absurd (false≢true is)

by-other : (k : ℕ) (run : RunSlots) (s : RunSlot) (e : Entry) → is_retried e ≡ false
    → (is_left e || is_gone_entry e) ≡ false
    → listening_by k run s e ≡ no_sources
by-other k run s entry.Retried is out = absurd (false≢true (sym is))
by-other k run s entry.Gone is out = absurd (false≢true (sym out))
by-other k run s (entry.Left why peer) is out = absurd (false≢true (sym out))
by-other k run s _ is out = refl

-- The slots.

module _ (list : Medl) (script : Script) (k before from : ℕ)
    (is : back_to_listening k (past_slots_in list script before) ≡ past_slots_in list script from) where
  pub listens-none : from ≡ 0 → listening_sources k (past_slots_in list script before) ≡ no_sources
  listens-none none =
      ap (listening_since k) (is ∙ ap (past_slots_in list script) none ∙ past_slots_in-zero list script)

  listens-by : 0 < from → listening_sources k (past_slots_in list script before)
      ≡ listening_by k (past_slots_in list script from) (slot_in list script (from - 1))
      (entry_in_slot k (slot_in list script (from - 1)))
  listens-by some =
      let down = past_slots_in-down list script from some in
      let s = slot_in list script (from - 1) in
      ap (listening_since k) (is ∙ down) ∙ (λ i. listening_by k (sym down i) s (entry_in_slot k s))

  pub listens-retried : 0 < from → is_retried (entry_in_slot k (slot_in list script (from - 1))) ≡ true
      → listening_sources k (past_slots_in list script before)
      ≡ only_entries (record { slot = from - 1; node = k } ∷ [])
  listens-retried some retried =
      listens-by some
      ∙ by-retried k (past_slots_in list script from) (slot_in list script (from - 1)) _ retried
      ∙ ap (λ (spot : Spot). only_entries (spot ∷ [])) (spot-in list script (from - 1) k)

  pub listens-out : 0 < from
      → (is_left (entry_in_slot k (slot_in list script (from - 1)))
      || is_gone_entry (entry_in_slot k (slot_in list script (from - 1)))) ≡ true
      → listening_sources k (past_slots_in list script before) ≡ record {
        lines = take 1 (lines_where (arms k from) script);
        entries = newest_departure k (past_slots_in list script from) ∷ [];
      }
  listens-out some out =
      listens-by some
      ∙ by-out k (past_slots_in list script from) (slot_in list script (from - 1)) _ out
      ∙ (λ i. record {
        lines = take 1 (lines_where (arms k (length-past_slots_in list script from i))
            (slot_in-script list script (from - 1) i));
        entries = newest_departure k (past_slots_in list script from) ∷ [];
      })

  pub listens-other : 0 < from → is_retried (entry_in_slot k (slot_in list script (from - 1))) ≡ false
      → (is_left (entry_in_slot k (slot_in list script (from - 1)))
      || is_gone_entry (entry_in_slot k (slot_in list script (from - 1)))) ≡ false
      → listening_sources k (past_slots_in list script before) ≡ no_sources
  listens-other some retried out =
      listens-by some ∙ by-other k (past_slots_in list script from) (slot_in list script (from - 1)) _ retried out
