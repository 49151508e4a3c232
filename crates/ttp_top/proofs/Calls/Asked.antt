-- A question's plan, once its files are told apart from it.
use Rattle.ttp_top.proofs.Terms.{◌≡◌, ℕ, List, Some, refl, both_plan, plan_of}
use Rattle.ttp_top.specs.declared.words.Question.{Question}
use Rattle.ttp_top.specs.declared.words.Question.TheVariants as question
use Rattle.ttp_top.specs.Calls.Forms.{plan_told}
use Rattle.ttp_top.specs.Calls.Words.{form_told}

pub plan_of-told : (list script : List ℕ) (asked : Question)
    → plan_of (Some (form_told list script asked)) ≡ both_plan list script (plan_told asked)
plan_of-told list script question.Keeps = refl
plan_of-told list script asked = refl
