-- A call over files that are told, with no count risen of a name that its plan may ask for: it comes to one ending.
use Rattle.std.proofs.Common.{◌≡◌, ◌⊎◌, ℕ, List, [], Some, subst, inl, inr}
use Rattle.ttp_base.specs.Outside.{HasRisen, Wrote}
use Rattle.commands.specs.Outcome.{Showed}
use Rattle.commands.specs.Plan.{Outside, Ending, Plan, load_of, told_ending}
use Rattle.commands.specs.Promise.{IsDue, EachName, NoneAskedRose, Promise}
use Rattle.commands.specs.Texts.{Program, WroteAmong, CutAmong, Answer}
use Rattle.commands.proofs.Plans.{AllAsk, all_asked, told_comes}
use Rattle.commands.proofs.Promises.{each_last}

-- no count rose of this name
abbrev pub Quiet : Outside → Outside → List ℕ → Type 0
Quiet before now name = ¬ HasRisen (before.files.faults name) (now.files.faults name)

module _ (p : Program) (plan : Plan p.Sets) (before now : Outside) (answer : Answer p.Kept) (ending : Ending p.Sets)
    (call : Promise p plan before now answer) (told : told_ending before.files.held plan ≡ Some ending)
    (quiet : AllAsk (Quiet before now) plan) where
  none_rose : NoneAskedRose before now call.loads
  none_rose = all_asked (Quiet before now) before.files.held plan call.loads quiet call.in_order

  -- nothing else is due
  due_told : (other : Ending p.Sets) → IsDue plan before now call.loads other → other ≡ ending
  due_told other (inl reached) = told_comes before.files.held plan call.loads other ending reached.comes told
  due_told other (inr u) =
      absurd (each_last (Quiet before now) u.earlier (load_of u.file)
      (subst (EachName (Quiet before now)) u.last none_rose) u.risen)

  -- it is shown, or memory was refused
  pub told_shows : ¬ HasRisen before.output.faults now.output.faults
      → Showed p ending before.output now.output answer ⊎ (answer.status ≡ 7)
  told_shows sink = call.told ending told none_rose sink

  -- one of its texts is cut short
  pub told_cut : answer.status ≡ 6 → CutAmong p ending.texts before.output now.output
  told_cut six =
      let stopped = call.stopped six in
      subst (λ (e : Ending p.Sets). CutAmong p e.texts before.output now.output) (due_told stopped.0 stopped.1)
      stopped.2

  -- nothing stands, or what it lets stand
  pub told_leaves : answer.status ≡ 7
      → Wrote before.output now.output [] ⊎ WroteAmong p ending.unfinished before.output now.output
  told_leaves seven =
      elim (call.refused seven).1 [
        | inl none ↦ inl none
        | inr some ↦
            inr (subst (λ (e : Ending p.Sets). WroteAmong p e.unfinished before.output now.output)
            (due_told some.0 (inl some.1)) some.2)
      ]
