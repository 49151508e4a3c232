-- The jumps that a node's clock bears, back from a slot one step at a time.
use Rattle.std.proofs.Common.{◌≡◌, ℕ, ◌-◌, ◌<◌, Bool, true, false, ◌&&◌, ◌||◌, List, [], ◌++◌, ap, sym, ◌∙◌}
use Rattle.causes.specs.Clocks.{clock_taken, comes_on, jumps_borne_since, jumps_clock, was_averaged}
use Rattle.causes.specs.LinesOf.{lines_where}
use Rattle.causes.specs.declared.cause.ScriptLine.{ScriptLine}
use Rattle.entry_causes.proofs.FromBelow.{past_slots_in-down, past_slots_in-zero, slot_in-number, slot_in-script}
use Rattle.run_rows.specs.Rows.{past_slots_in, slot_in}
use Rattle.ttp_world.specs.declared.medl.Medl.{Medl}
use Rattle.ttp_world.specs.declared.script.Script.{Script}

abbrev jumps_here : List ScriptLine → Bool → List ScriptLine → List ScriptLine
jumps_here here begins rest = here ++ elim begins [ true ↦ [] | false ↦ rest ]

abbrev jumps_step : Medl → Script → ℕ → Bool → ℕ → List ScriptLine
jumps_step list script at averaged y =
    jumps_here (lines_where (jumps_clock y (slot_in list script at).begun.number) (slot_in list script at).begun.script)
    (comes_on y (slot_in list script at) || (averaged && was_averaged y (slot_in list script at)))
    (jumps_borne_since y (averaged || was_averaged y (slot_in list script at)) (past_slots_in list script at))

jumps-down : (list : Medl) (script : Script) (slot x : ℕ) (averaged : Bool) → 0 < slot
    → jumps_borne_since x averaged (past_slots_in list script slot)
    ≡ jumps_step list script (slot - 1) averaged (clock_taken x (slot_in list script (slot - 1)))
jumps-down list script slot x averaged some =
    ap (jumps_borne_since x averaged) (past_slots_in-down list script slot some)

jumps-by : (list : Medl) (script : Script) (slot x y : ℕ) (averaged begins was : Bool) → 0 < slot
    → y ≡ clock_taken x (slot_in list script (slot - 1))
    → was ≡ was_averaged y (slot_in list script (slot - 1))
    → begins ≡ (comes_on y (slot_in list script (slot - 1)) || (averaged && was))
    → jumps_borne_since x averaged (past_slots_in list script slot)
    ≡ jumps_here (lines_where (jumps_clock y (slot - 1)) script) begins
    (jumps_borne_since y (averaged || was) (past_slots_in list script (slot - 1)))
jumps-by list script slot x y averaged begins was some taken averages is =
    let s = slot_in list script (slot - 1) in
    jumps-down list script slot x averaged some
    ∙ ap (jumps_step list script (slot - 1) averaged) (sym taken)
    ∙ (λ i. jumps_here
    (lines_where (jumps_clock y (slot_in-number list script (slot - 1) i)) (slot_in-script list script (slot - 1) i))
    (comes_on y s || (averaged && sym averages i))
    (jumps_borne_since y (averaged || sym averages i) (past_slots_in list script (slot - 1))))
    ∙ ap (λ (b : Bool). jumps_here (lines_where (jumps_clock y (slot - 1)) script) b
    (jumps_borne_since y (averaged || was) (past_slots_in list script (slot - 1)))) (sym is)

pub jumps-end : (list : Medl) (script : Script) (slot x y : ℕ) (averaged begins was : Bool) → 0 < slot
    → y ≡ clock_taken x (slot_in list script (slot - 1))
    → was ≡ was_averaged y (slot_in list script (slot - 1))
    → begins ≡ (comes_on y (slot_in list script (slot - 1)) || (averaged && was))
    → begins ≡ true
    → jumps_borne_since x averaged (past_slots_in list script slot)
    ≡ lines_where (jumps_clock y (slot - 1)) script ++ []
jumps-end list script slot x y averaged begins was some taken averages is here =
    jumps-by list script slot x y averaged begins was some taken averages is
    ∙ ap (λ (b : Bool). jumps_here (lines_where (jumps_clock y (slot - 1)) script) b
    (jumps_borne_since y (averaged || was) (past_slots_in list script (slot - 1)))) here

pub jumps-on : (list : Medl) (script : Script) (slot x y : ℕ) (averaged begins was : Bool) → 0 < slot
    → y ≡ clock_taken x (slot_in list script (slot - 1))
    → was ≡ was_averaged y (slot_in list script (slot - 1))
    → begins ≡ (comes_on y (slot_in list script (slot - 1)) || (averaged && was))
    → begins ≡ false
    → jumps_borne_since x averaged (past_slots_in list script slot)
    ≡ lines_where (jumps_clock y (slot - 1)) script
    ++ jumps_borne_since y (averaged || was) (past_slots_in list script (slot - 1))
jumps-on list script slot x y averaged begins was some taken averages is other =
    jumps-by list script slot x y averaged begins was some taken averages is
    ∙ ap (λ (b : Bool). jumps_here (lines_where (jumps_clock y (slot - 1)) script) b
    (jumps_borne_since y (averaged || was) (past_slots_in list script (slot - 1)))) other

pub jumps-none : (list : Medl) (script : Script) (slot x : ℕ) (averaged : Bool) → slot ≡ 0
    → jumps_borne_since x averaged (past_slots_in list script slot) ≡ []
jumps-none list script slot x averaged none =
    ap (jumps_borne_since x averaged) (ap (past_slots_in list script) none ∙ past_slots_in-zero list script)
