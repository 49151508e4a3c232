-- What is kept of a node from slot to slot beside what is shown of it: its place, how many deviations were noted in the
-- round, and how many silent slots it waits for.
use Rattle.std.specs.Prelude.{◌≡◌, ℕ, ◌<◌, ◌+◌, List, get_or, if◌then◌else◌, is_some, length, min}
use Rattle.std.specs.Prelude.{◌&&◌, []}
use Rattle.run_rows.specs.declared.row.Kept.{Kept}
use Rattle.ttp_world.specs.ZerosWorld.{zeros_world}
use Rattle.ttp_world.specs.After.{is_active_entry, limit_after, place_after}
use Rattle.ttp_world.specs.Clock.{begins_round, deviation_noted}
use Rattle.ttp_world.specs.Diary.{Place, cstate_at, joined_place, no_place}
use Rattle.ttp_world.specs.Medl.{plan_at}
use Rattle.ttp_world.specs.Past.{NodePast}
use Rattle.ttp_world.specs.World.{node_past}
use Rattle.ttp_world.specs.declared.medl.Medl.{Medl}
use Rattle.ttp_world.specs.declared.node.Entry.{Entry}
use Rattle.ttp_world.specs.declared.script.Script.{Script}

-- with a place, so many notes and such a limit
abbrev pub kept_with : Place → ℕ → ℕ → Kept
kept_with place notes limit = record {
  place = cstate_at place [];
  notes = min notes 4;
  limit = limit;
}

-- of a past
abbrev pub kept_of : NodePast → Kept
kept_of past = kept_with past.place (length past.notes) past.limit

-- how many notes an entry adds in a slot of this place
abbrev pub notes_added : Medl → Place → Entry → ℕ
notes_added list place e = if (plan_at list place.slot).sync && is_some (deviation_noted e) then 1 else 0

-- how many notes there are after it, if there were `count` before
abbrev pub notes_counted : Medl → ℕ → Place → Entry → ℕ
notes_counted list count place e =
    if is_active_entry e then notes_added list place e + (if begins_round place e then 0 else count) else 0

-- what is kept after one more entry
abbrev pub kept_next : Medl → ℕ → Kept → Entry → Kept
kept_next list k kept e =
    let place = place_after list k (joined_place kept.place) e in
    kept_with place (notes_counted list kept.notes place e) (limit_after list k kept.limit e)

-- what is kept of nobody
abbrev pub nothing_kept : Kept
nothing_kept = kept_with no_place 0 0

-- this is kept of the first nodes, so many, after so many slots
pub record AreKeptOf (list : Medl) (script : Script) (slots n : ℕ) (kept : List Kept) : Type 0 where
  pub room : length kept ≡ 24
  pub nodes : (k : ℕ) → k < n
      → get_or kept k nothing_kept ≡ kept_of (node_past list script (zeros_world list script slots) k)
