use Rattle.hypothesis.proofs.Words.{◌≡◌, ◌≢◌, ℕ, refl, ◌∙◌, Medl, Event, Script, outside_slot, disturbed_slot}
use Rattle.ttp_world.specs.declared.script.Event.TheVariants as event
use Rattle.hypothesis.proofs.outside.outside_slot.Goals as goal

-- an event that is no arm line is outside where it disturbs
no_arm : (list : Medl) (script : Script) (e : Event) → ((node at : ℕ) → e ≢ event.Arm node at)
    → disturbed_slot list script e ≡ outside_slot list script e
no_arm list script (event.Arm node at) other = absurd (other node at refl)
no_arm list script _ other = refl

pub returns-in_default : goal.returns-in_default
returns-in_default c =
    c.disturbed_slot.ensures ∙ no_arm c.args.list.now c.args.script.now c.args.event.now c.in_default.not-Arm
