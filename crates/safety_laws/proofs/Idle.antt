-- Nodes that send nothing: one that judges, one that is off, and one that has left.
use Rattle.safety_laws.proofs.Words.{◌≡◌, false, cond, [], ap, ◌∙◌, Act, Off, Gone, Listen, Phase, phase_act}
use Rattle.safety_laws.proofs.Words.{node_frames, new_entry, phase_after, NodeSlot, act_made, frames_made, next_past}
use Rattle.safety_laws.proofs.Words.{IsJudging}
use Rattle.ttp_world.specs.declared.node.Phase.TheVariants as phase
use Rattle.safety_laws.proofs.Verdicts.{act-judging}

pub frames_made-judging : (x : NodeSlot) → IsJudging x → frames_made x ≡ []
frames_made-judging x is = ap (node_frames x.list x.node x.past x.chosen) (act-judging x is)

pub act-off : (x : NodeSlot) → x.past.phase ≡ phase.Off → x.on ≡ false → act_made x ≡ Off
act-off x off never =
    ap (λ (p : Phase). phase_act p x.list x.node x.on x.armed x.past) off ∙ ap (λ b. cond b Listen Off) never

act-left : (x : NodeSlot) → x.past.phase ≡ phase.Left → x.armed ≡ false → act_made x ≡ Gone
act-left x left unarmed =
    ap (λ (p : Phase). phase_act p x.list x.node x.on x.armed x.past) left ∙ ap (λ b. cond b Listen Gone) unarmed

pub idle-off : (x : NodeSlot) → x.past.phase ≡ phase.Off → x.on ≡ false
    → ((next_past x).phase ≡ phase.Off) × (frames_made x ≡ [])
idle-off x off never = (
  ap (λ (a : Act). phase_after (new_entry x.list x.node x.past x.chosen x.hearing a)) (act-off x off never),
  ap (node_frames x.list x.node x.past x.chosen) (act-off x off never),
)

pub idle-left : (x : NodeSlot) → x.past.phase ≡ phase.Left → x.armed ≡ false
    → ((next_past x).phase ≡ phase.Left) × (frames_made x ≡ [])
idle-left x left unarmed = (
  ap (λ (a : Act). phase_after (new_entry x.list x.node x.past x.chosen x.hearing a)) (act-left x left unarmed),
  ap (node_frames x.list x.node x.past x.chosen) (act-left x left unarmed),
)
