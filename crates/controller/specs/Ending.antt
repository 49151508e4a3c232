-- How a slot ends for a node.
use Rattle.std.specs.Prelude.{◌≡◌, ℕ, ℤ, Option}
use Rattle.ttp_world.specs.declared.medl.Medl.{Medl}
use Rattle.ttp_world.specs.declared.node.Act.{Act}
use Rattle.ttp_world.specs.declared.node.Chosen.{Chosen}
use Rattle.ttp_world.specs.declared.node.Delivered.{Delivered}
use Rattle.ttp_world.specs.declared.node.Entry.{Entry}
use Rattle.ttp_world.specs.Conduct.{new_entry, delivery}
use Rattle.ttp_world.specs.Past.{NodePast}
use Rattle.ttp_world.specs.Reception.{Hearing}
use Rattle.medium.specs.declared.arrival.Arrival.{Arrival}
use Rattle.controller.specs.Hearing.{ForHearings}
use Rattle.controller.specs.StandsFor.{message_planned}

-- with the entry of node k, whose past is this and which does this and hears this, and with what it delivers
pub record IsEndingOf (made : Entry) (handed : Option Delivered) (list : Medl) (k : ℕ) (past : NodePast)
    (chosen : Chosen) (does : Act) (h : Hearing) : Type 0 where
  pub entry : made ≡ new_entry list k past chosen h does
  pub delivered : handed ≡ delivery list k past h (new_entry list k past chosen h does)

-- whatever was chosen for it to send, if its frame carries this message, and whatever the arrivals show
abbrev pub EndsAs : Entry → Option Delivered → Medl → ℕ → NodePast → Act → Option ℕ → Arrival → Arrival → ℤ → ℤ
    → Type 0
EndsAs made handed list k past does message a b own error =
    (chosen : Chosen) → message ≡ message_planned list past chosen does
    → ForHearings a b own error (λ h. IsEndingOf made handed list k past chosen does h)
