-- The entry that a node makes by what it does may follow its diary: only an active node sends its frame or judges.
use Rattle.ttp_world.proofs.Words.{◌≡◌, ℕ, ℤ, Bool, true, false, not, ◌||◌, Option, Some, None, IfSome, refl, or-true}
use Rattle.ttp_world.proofs.Words.{cond_both, Medl, Chosen, CState, Entry, Off, Gone, Listen, Start, listening_entry}
use Rattle.ttp_world.proofs.Words.{new_entry, Diary, Surroundings, may_follow, joinable, NodePast, past_of, Hearing}
use Rattle.ttp_world.specs.declared.node.Entry.TheVariants as entry
use Rattle.ttp_world.specs.declared.node.Phase.{Phase}
use Rattle.ttp_world.specs.declared.node.Phase.TheVariants as phase
use Rattle.ttp_world.specs.Act.{act, phase_act, is_start_due}
use Rattle.ttp_world.specs.Diary.{phase_of, is_active_phase, continues_stint}
use Rattle.ttp_world.proofs.EntriesMade.{listening_entry-holds}

-- an entry may follow where the node was active, or not
abbrev Follows : Bool → Entry → Type 0
Follows active e = (not (continues_stint e) || active) ≡ true

join-follows : (active : Bool) (c : Option CState)
    → IfSome c (λ c. (d : ℤ) → Follows active (entry.Joined c.slot c d))
join-follows active None = tt
join-follows active (Some c) = λ d. refl

listening_entry-follows : (list : Medl) (active : Bool) (h : Hearing) → Follows active (listening_entry list h)
listening_entry-follows list active h =
    listening_entry-holds (Follows active) list h refl (λ bytes. join-follows active (joinable list bytes))

-- by the phase of the node
phase_act-follows : (p : Phase) (list : Medl) (k : ℕ) (on armed : Bool) (past : NodePast) (chosen : Chosen)
    (h : Hearing)
    → Follows (is_active_phase p) (new_entry list k past chosen h (phase_act p list k on armed past))
phase_act-follows phase.Active list k on armed past chosen h =
    or-true (not (continues_stint (new_entry list k past chosen h (phase_act phase.Active list k on armed past))))
phase_act-follows phase.Left list k on armed past chosen h =
    cond_both armed Listen Gone (λ a. Follows false (new_entry list k past chosen h a))
    (λ is. listening_entry-follows list false h) (λ is. refl)
phase_act-follows phase.Off list k on armed past chosen h =
    cond_both on Listen Off (λ a. Follows false (new_entry list k past chosen h a))
    (λ is. listening_entry-follows list false h) (λ is. refl)
phase_act-follows phase.Listening list k on armed past chosen h =
    cond_both (is_start_due list k past) Start Listen (λ a. Follows false (new_entry list k past chosen h a))
    (λ due. refl) (λ early. listening_entry-follows list false h)

pub new_entry-follows : (list : Medl) (k : ℕ) (on armed : Bool) (diary : Diary) (surroundings : Surroundings)
    (chosen : Chosen) (h : Hearing)
    → may_follow diary (new_entry list k (past_of list k diary surroundings) chosen h
    (act list k on armed (past_of list k diary surroundings))) ≡ true
new_entry-follows list k on armed diary surroundings chosen h =
    phase_act-follows (phase_of diary) list k on armed (past_of list k diary surroundings) chosen h
