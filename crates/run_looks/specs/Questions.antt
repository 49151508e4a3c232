-- What is asked of a script's events.
use Rattle.std.specs.Prelude.{ℕ, Bool, List, None, Option, Some, [], ◌∷◌}
use Rattle.causes.specs.Clocks.{errs, jumps_clock}
use Rattle.causes.specs.LinesOf.{flips_bit, strikes}
use Rattle.causes.specs.Missed.{deafens}
use Rattle.run_looks.specs.declared.questions.Question.{Question}
use Rattle.run_looks.specs.declared.questions.Question.TheVariants as question
use Rattle.ttp_world.specs.Events.{arms, is_send_fault}
use Rattle.ttp_world.specs.declared.script.Event.{Event}

-- a node that sends alone, as a list
abbrev pub senders_by : Option ℕ → List ℕ
senders_by None = []
senders_by (Some p) = p ∷ []

-- an event is what is asked for
abbrev pub is_meant : Question → Event → Bool
is_meant (question.Strikes kind receiver sender channel slot) e =
    strikes kind receiver channel slot (senders_by sender) e
is_meant (question.StrikesSender kind sender channel slot) e = is_send_fault kind sender channel slot e
is_meant (question.Deafens receiver slot) e = deafens receiver slot e
is_meant (question.Flips sender channel slot bit) e = flips_bit sender channel slot bit e
is_meant (question.Arms node slot) e = arms node slot e
is_meant (question.Jumps node slot) e = jumps_clock node slot e
is_meant (question.Errs node slot) e = errs node slot e
