-- What hosts write for their nodes to send, and which of it a frame carries.
use Rattle.std.specs.Prelude.{ℕ, zero, suc, List, [], ◌∷◌, ◌++◌, get_or, replicate, Option, Some, None}
use Rattle.ttp_world.specs.declared.medl.Medl.{Medl}
use Rattle.ttp_world.specs.declared.node.Chosen.{Chosen}
use Rattle.ttp_world.specs.declared.script.Script.{Script}
use Rattle.ttp_world.specs.Medl.{plan_at}
use Rattle.ttp_world.specs.Script.{messages_written}

-- Each ring's messages begin with the zeros as number 0.
abbrev pub zeros_of : Medl → ℕ → List ℕ
zeros_of list k = replicate (plan_at list k).payload 0

-- what node k's host has written in the first slots, so many
abbrev pub messages_before : Medl → Script → ℕ → ℕ → List (List ℕ)
messages_before list script k zero = zeros_of list k ∷ []
messages_before list script k (suc slot) = messages_before list script k slot ++ messages_written script k slot

-- and up to a slot
abbrev pub out_messages : Medl → Script → ℕ → ℕ → List (List ℕ)
out_messages list script k slot = messages_before list script k (suc slot)

-- The message that a node is to send in a slot, by its number, if one is told.

-- what is chosen for a node that sends no message
abbrev pub nothing_chosen : Chosen
nothing_chosen = record { number = 0; payload = [] }

-- the message of node k that has this number by the end of a slot, if one is told
abbrev pub message_chosen : Medl → Script → ℕ → ℕ → Option ℕ → Chosen
message_chosen list script slot k None = nothing_chosen
message_chosen list script slot k (Some i) =
    record { number = i; payload = get_or (out_messages list script k slot) i [] }
