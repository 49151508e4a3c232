-- Differences between sender and receiver, as the definitions have them.
use Rattle.std.specs.Prelude.{ℕ, List, None, Option, Some, [], ◌∷◌, ⊤}
use Rattle.causes.specs.Members as members
use Rattle.causes.specs.Members.{earliest}
use Rattle.entry_causes.specs.declared.members.Difference.{Difference}
use Rattle.ttp_world.specs.declared.node.Ack.{Ack}
use Rattle.ttp_world.specs.declared.node.Ack.TheVariants as ack

-- what a node's membership lacks or has too much, as a row of causes says it
abbrev pub difference_shown : Difference → members.Difference
difference_shown d = record { member = d.member; holds = d.holds; lacks = d.lacks; said = d.said }

-- of some the one that was said first, if there is one
abbrev pub said_first : List members.Difference → Option members.Difference
said_first [] = None
said_first (d ∷ others) = Some (earliest d others)

-- of the node that a node doubts, if there is one
abbrev pub IfDoubted : Ack → (ℕ → Type 0) → Type 0
IfDoubted (ack.Doubt x) holds = holds x
IfDoubted _ holds = ⊤
