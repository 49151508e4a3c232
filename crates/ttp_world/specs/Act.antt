-- What a node does in a slot, by its past.
use Rattle.std.specs.Prelude.{ℕ, nat_le, Bool, ◌&&◌, ◌==◌, if◌then◌else◌}
use Rattle.ttp_world.specs.declared.medl.Medl.{Medl}
use Rattle.ttp_world.specs.declared.node.Act.{Act}
use Rattle.ttp_world.specs.declared.node.Act.TheVariants.{Off, Gone, Listen, Start, Retry, Leave, Send, Judge}
use Rattle.ttp_world.specs.declared.node.Phase.{Phase}
use Rattle.ttp_world.specs.declared.node.Phase.TheVariants as phase
use Rattle.ttp_world.specs.declared.node.Reason.TheVariants as reason
use Rattle.ttp_world.specs.Acknowledgement.{is_open}
use Rattle.ttp_world.specs.Diary.{Place, next_place}
use Rattle.ttp_world.specs.Medl.{may_start}
use Rattle.ttp_world.specs.Past.{NodePast}

-- the place of the coming slot, by an active node's own C-state
abbrev pub coming_place : Medl → NodePast → Place
coming_place list past = next_place list past.place

-- Listening: a node that may start does so once as many slots were silent as it waits for.

-- node k may start, and as many slots were silent as it waits for
abbrev pub is_start_due : Medl → ℕ → NodePast → Bool
is_start_due list k past = may_start list k && nat_le past.limit past.silent_slots

-- what a listening node does: it starts where that is due, and else listens
abbrev pub listening_act : Medl → ℕ → NodePast → Act
listening_act list k past = if is_start_due list k past then Start else Listen

-- Its own slot: an open acknowledgement of its cold start makes a node retry and one of another frame makes it leave,
-- and it leaves where it accepted no more than it rejected.

-- what a node does in its own slot whose newest frame nobody has answered: it withdraws a cold start, or leaves
abbrev pub unacknowledged_act : NodePast → Act
unacknowledged_act past = if past.cold_start then Retry else Leave reason.Unacknowledged

-- what a node does in its own slot: it leaves also where it accepted no more frames than it rejected, and else sends
abbrev pub own_act : NodePast → Act
own_act past =
    if is_open past.ack then unacknowledged_act past
    else (if nat_le past.accepted past.rejected then Leave reason.Clique else Send)

-- what an active node does: in its own slot as above, and in another it judges that slot's frame
abbrev pub active_act : Medl → ℕ → NodePast → Act
active_act list k past = if (coming_place list past).slot == k then own_act past else Judge

-- What node k does in the coming slot, where it is switched on by then or not, and armed in it or not. A node that has
-- left listens again from a slot on in which it is armed.

-- what node k does in the coming slot, by its phase, where it is on by then or not, and armed in it or not
abbrev pub phase_act : Phase → Medl → ℕ → Bool → Bool → NodePast → Act
phase_act phase.Off list k on armed past = if on then Listen else Off
phase_act phase.Left list k on armed past = if armed then Listen else Gone
phase_act phase.Listening list k on armed past = listening_act list k past
phase_act phase.Active list k on armed past = active_act list k past

-- what node k does in the coming slot, by its past: a node that has left listens again from a slot on in which it is
-- armed
abbrev pub act : Medl → ℕ → Bool → Bool → NodePast → Act
act list k on armed past = phase_act past.phase list k on armed past
