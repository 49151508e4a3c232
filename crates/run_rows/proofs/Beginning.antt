-- What a node is as a slot begins.
use Rattle.std.proofs.Common.{◌≡◌, ℕ, ℤ, pos, ◌+ℤ◌, Bool, true, false, cond}
use Rattle.std.proofs.Common.{◌&&◌, not, ◌==◌, nat_le, refl, ap, sym, ◌∙◌}
use Rattle.std.proofs.Common.{arith}
use Rattle.std.proofs.lemmas.Int.{ints}
use Rattle.std.proofs.lemmas.Bool.{cond_both}
use Rattle.run_rows.specs.Begun.{is_off_phase}
use Rattle.ttp_world.specs.Act.{act, is_start_due, own_act, phase_act, unacknowledged_act}
use Rattle.ttp_world.specs.Acknowledgement.{is_open}
use Rattle.ttp_world.specs.Past.{NodePast}
use Rattle.ttp_world.specs.Act.{coming_place}
use Rattle.ttp_world.specs.World.{jump_taken}
use Rattle.ttp_world.specs.declared.medl.Medl.{Medl}
use Rattle.ttp_world.specs.declared.node.Act.TheVariants as act
use Rattle.ttp_world.specs.declared.node.Phase.{Phase}
use Rattle.ttp_world.specs.declared.node.Phase.TheVariants as phase
use Rattle.ttp_world.specs.declared.node.Reason.TheVariants as reason

-- The jumps of a slot move the clock of each node but one that is off and stays so.

unacknowledged-jumps : (past : NodePast) (jump : ℤ) → jump_taken (unacknowledged_act past) jump ≡ jump
unacknowledged-jumps past jump =
    cond_both past.cold_start act.Retry (act.Leave reason.Unacknowledged) (λ a. jump_taken a jump ≡ jump) (λ b. refl)
    (λ b. refl)

own-jumps : (past : NodePast) (jump : ℤ) → jump_taken (own_act past) jump ≡ jump
own-jumps past jump =
    cond_both (is_open past.ack) (unacknowledged_act past)
    (cond (nat_le past.accepted past.rejected) (act.Leave reason.Clique) act.Send) (λ a. jump_taken a jump ≡ jump)
    (λ b. unacknowledged-jumps past jump)
    (λ b. cond_both (nat_le past.accepted past.rejected) (act.Leave reason.Clique) act.Send
    (λ a. jump_taken a jump ≡ jump) (λ d. refl) (λ d. refl))

pub jump_taken-phase : (p : Phase) (list : Medl) (k : ℕ) (on armed : Bool) (past : NodePast) (jump : ℤ)
    → jump_taken (phase_act p list k on armed past) jump ≡ cond (is_off_phase p && not on) (pos 0) jump
jump_taken-phase phase.Off list k true armed past jump = refl
jump_taken-phase phase.Off list k false armed past jump = refl
jump_taken-phase phase.Left list k on true past jump = refl
jump_taken-phase phase.Left list k on false past jump = refl
jump_taken-phase phase.Listening list k on armed past jump =
    cond_both (is_start_due list k past) act.Start act.Listen (λ a. jump_taken a jump ≡ jump) (λ b. refl) (λ b. refl)
jump_taken-phase phase.Active list k on armed past jump =
    cond_both ((coming_place list past).slot == k) (own_act past) act.Judge (λ a. jump_taken a jump ≡ jump)
    (λ b. own-jumps past jump) (λ b. refl)

-- Where the clock of a node stands as a slot begins, by its phase: a jump is taken, unless the node is off and stays
-- off.
pub clock-begun : (list : Medl) (k : ℕ) (on armed : Bool) (past : NodePast) (jump : ℤ)
    → past.offset +ℤ jump_taken (act list k on armed past) jump
    ≡ past.offset +ℤ cond (is_off_phase past.phase && not on) (pos 0) jump
clock-begun list k on armed past jump =
    ap (λ (z : ℤ). past.offset +ℤ z) (jump_taken-phase past.phase list k on armed past jump)

pub clock-stays : (list : Medl) (k : ℕ) (on armed : Bool) (past : NodePast) (jump offset : ℤ) → past.offset ≡ offset
    → (is_off_phase past.phase && not on) ≡ true
    → offset ≡ past.offset +ℤ jump_taken (act list k on armed past) jump
clock-stays list k on armed past jump offset same stays =
    let none : past.offset +ℤ pos 0 ≡ past.offset = omega (arith, ints) in
    sym (clock-begun list k on armed past jump
    ∙ ap (λ (b : Bool). past.offset +ℤ cond b (pos 0) jump) stays
    ∙ none
    ∙ same)

pub clock-moves : (list : Medl) (k : ℕ) (on armed : Bool) (past : NodePast) (jump offset : ℤ) → past.offset ≡ offset
    → (is_off_phase past.phase && not on) ≡ false
    → offset +ℤ jump ≡ past.offset +ℤ jump_taken (act list k on armed past) jump
clock-moves list k on armed past jump offset same moves =
    sym (clock-begun list k on armed past jump
    ∙ ap (λ (b : Bool). past.offset +ℤ cond b (pos 0) jump) moves
    ∙ ap (λ (z : ℤ). z +ℤ jump) same)
